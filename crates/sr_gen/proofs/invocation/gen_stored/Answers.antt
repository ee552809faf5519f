use Rattle.std.proofs.Common.{ap}
use Rattle.sr_code.specs.declared.instruction.Instruction.TheVariants.{GiveBack, StoreResults}
use Rattle.sr_gen_expr.proofs.Stretching.{emits_as}
use Rattle.sr_gen.proofs.Together.{stores_all}
use Rattle.sr_gen.proofs.invocation.gen_stored.Goals as goal

pub returns : goal.returns
returns c core =
    stores_all core c.in_ok-emit.ensures (emits_as c.in_ok-default.ensures c.in_ok-emit-2.ensures) (emits_as (ap StoreResults c.len-to.ensures) c.in_ok-emit-3.ensures)
    (emits_as (ap GiveBack c.len-none.ensures) c.in_ok-emit-4.ensures)
