use Rattle.std.proofs.Common.{◌||◌, ap, sym, ◌∙◌}
use Rattle.std.specs.List.{list_any}
use Rattle.sr_ask.specs.Numbers.{is_number}
use Rattle.sr_ask.proofs.NumberLemmas.{any_in_two}
use Rattle.sr_ask.proofs.numbers.SharedNumbers.contains.Goals as goal

pub returns-then-is_in_any : goal.returns-then-is_in_any
returns-then-is_in_any c =
    let test = is_number c.args.number in
    let blocks = ap (list_any (list_any test)) (sym c.as_slice.ensures) ∙ sym c.is_in_any.ensures in
    c.if-is_in_any.true
    ∙ sym (ap (λ b. b || list_any test c.self.inside.last) (blocks ∙ c.if-is_in_any.true))
    ∙ any_in_two test c.self.inside.blocks c.self.inside.last
    ∙ ap (list_any test) c.self.view_is

pub returns-else-is_in_any : goal.returns-else-is_in_any
returns-else-is_in_any c =
    let test = is_number c.args.number in
    let blocks = ap (list_any (list_any test)) (sym c.as_slice.ensures) ∙ sym c.is_in_any.ensures in
    c.contains.ensures.value
    ∙ ap (list_any test) c.as_slice-else-is_in_any.ensures
    ∙ sym (ap (λ b. b || list_any test c.self.inside.last) (blocks ∙ c.if-is_in_any.false))
    ∙ any_in_two test c.self.inside.blocks c.self.inside.last
    ∙ ap (list_any test) c.self.view_is
