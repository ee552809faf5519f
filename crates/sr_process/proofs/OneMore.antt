-- Copies that are made one by one.
use Rattle.std.proofs.Common.{◌≡◌, ℕ, ◌+◌, add-one, List, [], ◌∷◌, ◌++◌, Some, take, slice_get, ap, sym, ◌∙◌}
use Rattle.std.proofs.Math.Seq.{take-suc}
use Rattle.std.proofs.lemmas.Option.{get_or_from_slice_get, slice_get_within}

pub one_more : {A : Type 0} (items copies more : List A) (at : ℕ) (item copy : A) → copies ≡ take at items → slice_get items at ≡ Some item → copy ≡ item → more ≡ copies ++ copy ∷ []
    → more ≡ take (at + 1) items
one_more {A} items copies more at item copy so_far there same made =
    made ∙ ap (λ (xs : List A). xs ++ copy ∷ []) so_far ∙ ap (λ (x : A). take at items ++ x ∷ []) (same ∙ sym (get_or_from_slice_get items at item item there))
    ∙ sym (take-suc items at item (slice_get_within items at item there)) ∙ ap (λ (n : ℕ). take n items) (sym (add-one at))
