use Rattle.sr_gen.proofs.Loops.{drops_to}
use Rattle.sr_gen.proofs.quantifiers.gen_drop.Goals as goal

pub returns : goal.returns
returns c = drops_to c.in_ok-emit.ensures c.in_ok-emit-2.ensures
