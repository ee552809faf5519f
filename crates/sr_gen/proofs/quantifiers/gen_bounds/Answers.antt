use Rattle.sr_gen.proofs.Loops.{gives_bounds}
use Rattle.sr_gen.proofs.quantifiers.gen_bounds.Goals as goal

pub returns : goal.returns
returns c = gives_bounds c.args.quantifier.now c.in_ok-emit.ensures c.in_ok-gen_number.ensures c.in_ok-gen_number-2.ensures c.in_ok-gen_number-3.ensures
