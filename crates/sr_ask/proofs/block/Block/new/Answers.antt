use Rattle.std.proofs.Common.{sym, subst, ◌∙◌}
use Rattle.sr_ask.specs.Numbers.{AreBetween}
use Rattle.sr_ask.proofs.NumberLemmas.{between}
use Rattle.sr_ask.proofs.block.Block.new.Goals as goal

pub invariant_of-result : goal.invariant_of-result
invariant_of-result c =
    subst (AreBetween c.least_of.result c.greatest_of.result) (sym (c.in_ok-new.ensures ∙ c.in_ok-copy.ensures))
    (between c.args.numbers.now c.least_of.result c.greatest_of.result c.least_of.ensures c.greatest_of.ensures)
