-- An item leaves a list that was turned round before.
use Rattle.std.proofs.Common.{◌≡◌, ℕ, ◌+◌, List, [], ◌∷◌, ◌++◌, Option, Some, None, MatchOption, length, reverse, ap, sym, ◌∙◌, subst}
use Rattle.std.specs.Option.{option_to_list}
use Rattle.std.proofs.lemmas.List.{nil_from_length, reverse-append, reverse-reverse}

left_turned : {A : Type 0} (old new : List A) (item : Option A) (before after : ℕ) → before ≡ length old → after ≡ length new → old ≡ new ++ option_to_list item
    → MatchOption item ((before ≡ 0) × (after ≡ 0)) (λ _. after + 1 ≡ before) → MatchOption item ((reverse old ≡ []) × (reverse new ≡ [])) (λ x. reverse old ≡ x ∷ reverse new)
left_turned old new None before after long longer is cases = (ap reverse (nil_from_length old (sym long ∙ cases.0)), ap reverse (nil_from_length new (sym longer ∙ cases.1)))
left_turned old new (Some x) before after long longer is cases = ap reverse is ∙ reverse-append new (x ∷ [])

pub left_once_turned : {A : Type 0} (old new : List A) (item : Option A) (before after : ℕ) → before ≡ length (reverse old) → after ≡ length new → reverse old ≡ new ++ option_to_list item
    → MatchOption item ((before ≡ 0) × (after ≡ 0)) (λ _. after + 1 ≡ before) → MatchOption item ((old ≡ []) × (reverse new ≡ [])) (λ x. old ≡ x ∷ reverse new)
left_once_turned {A} old new item before after long longer is cases =
    let P : List A → Type 0 = λ xs. MatchOption item ((xs ≡ []) × (reverse new ≡ [])) (λ x. xs ≡ x ∷ reverse new) in
    subst P (reverse-reverse old) (left_turned (reverse old) new item before after long longer is cases)
