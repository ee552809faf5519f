use Rattle.std.proofs.Common.{ap, sym, ◌∙◌}
use Rattle.sr_in_place.specs.Puts.{outcome}
use Rattle.sr_store.proofs.BlockLemmas.{checked-here, stored-early}
use Rattle.sr_store.proofs.block.Block.check_store.Goals as goal

pub returns-in-Some : goal.returns-in-Some
returns-in-Some c =
    c.check_put.ensures
    ∙ sym (checked-here c.self.inside.variables.entries c.args.self.now.variables (ap (λ k. k.variables) c.self.view_is) c.args.var c.args.path.now c.args.value.now c.in-Some.variable.now c.in-Some.ensures.value)

pub returns-in-None : goal.returns-in-None
returns-in-None c =
    sym (ap outcome (stored-early c.self.inside.variables.entries c.args.self.now.variables (ap (λ k. k.variables) c.self.view_is) c.args.var c.args.path.now c.args.value.now c.in-None.ensures.value))
