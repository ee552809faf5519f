-- A turn of a loop that makes a thing of each.
use Rattle.std.proofs.Common.{◌≡◌, ℕ, suc, ◌+◌, ◌<◌, List, [], ◌∷◌, ◌++◌, map, length, drop, get_or, arith, append_assoc, sym, ap, ◌∙◌}
use Rattle.std.proofs.Math.Seq.{drop-cons}

-- what a thing more makes is appended, and then what those after it make
pub map_next : {X Z : Type 0} (make : X → Z) (there : List Z) (made : Z) (xs : List X) (i : ℕ) (otherwise : X)
    → i < length xs → made ≡ make (get_or xs i otherwise)
    → (there ++ made ∷ []) ++ map make (drop (i + 1) xs) ≡ there ++ map make (drop i xs)
map_next make there made xs i otherwise within is =
    let next : i + 1 ≡ suc i = omega arith in
    append_assoc there (made ∷ []) (map make (drop (i + 1) xs))
    ∙ ap (λ first. there ++ first ∷ map make (drop (i + 1) xs)) is
    ∙ ap (λ (n : ℕ). there ++ make (get_or xs i otherwise) ∷ map make (drop n xs)) next
    ∙ ap (λ rest. there ++ map make rest) (sym (drop-cons xs i otherwise within))
