use Rattle.std.proofs.Common.{ap, sym, ◌∙◌}
use Rattle.std.specs.List.{list_any, remove}
use Rattle.sr_ask.specs.Numbers.{is_number}
use Rattle.sr_ask.proofs.NumberLemmas.{lacks_still}
use Rattle.sr_ask.proofs.block.Block.without.Goals as goal

pub invariant_of-result : goal.invariant_of-result
invariant_of-result c = λ number out.
    let kept = c.in_ok-others.ensures ∙ c.as_slice.ensures ∙ sym c.self.view_is in
    ap (list_any (is_number number)) (c.in_ok-new.ensures ∙ c.remove.ensures.others ∙ ap (λ xs. remove xs c.args.at) kept)
    ∙ lacks_still (is_number number) c.self.inside.numbers c.args.at (c.self.invariant number out)
