-- A turn of the search for the globals that are needed.
use Rattle.std.proofs.Common.{◌≡◌, ℕ, zero, suc, ◌+◌, ◌-◌, ◌<◌, Bool, true, false, List, [], ◌∷◌, ◌++◌, refl, sym, ap, ◌∙◌, if◌then◌else◌, arith, length, drop, get_or}
use Rattle.std.proofs.Math.Seq.{drop-cons}
use Rattle.std.proofs.lemmas.List.Sums.{fold-append}
use Rattle.sr_outline.specs.Outline.{imports_at, member, with_needed, with_number}

-- at the end of the depth nothing is put
pub needed_zero : (depth : ℕ) (imports : List (List ℕ)) (there wanted : List ℕ) → depth ≡ 0 → with_needed depth imports there wanted ≡ there
needed_zero depth imports there wanted e = ap (λ (d : ℕ). with_needed d imports there wanted) e

-- a global that is there is left
pub needed_left : (depth : ℕ) (imports : List (List ℕ)) (there : List ℕ) (global : ℕ)
    → member global there ≡ true
    → with_needed depth imports there (global ∷ []) ≡ there
needed_left zero imports there global h = refl
needed_left (suc depth) imports there global h =
    ap (λ (found : Bool). if found then there else with_number (with_needed depth imports there (imports_at imports global)) global) h

needed_at_suc : (depth : ℕ) (imports : List (List ℕ)) (there : List ℕ) (global : ℕ)
    → member global there ≡ false
    → with_needed (suc depth) imports there (global ∷ []) ≡ with_number (with_needed depth imports there (imports_at imports global)) global
needed_at_suc depth imports there global h =
    ap (λ (found : Bool). if found then there else with_number (with_needed depth imports there (imports_at imports global)) global) h

-- another is put after those that it imports
pub needed_put : (depth : ℕ) (imports : List (List ℕ)) (there : List ℕ) (global : ℕ)
    → 0 < depth
    → member global there ≡ false
    → with_needed depth imports there (global ∷ []) ≡ with_number (with_needed (depth - 1) imports there (imports_at imports global)) global
needed_put depth imports there global p h =
    let e : depth ≡ suc (depth - 1) = omega arith in
    ap (λ (d : ℕ). with_needed d imports there (global ∷ [])) e ∙ needed_at_suc (depth - 1) imports there global h

pub needed_append : (depth : ℕ) (imports : List (List ℕ)) (there xs ys : List ℕ)
    → with_needed depth imports (with_needed depth imports there xs) ys ≡ with_needed depth imports there (xs ++ ys)
needed_append zero imports there xs ys = refl
needed_append (suc depth) imports there xs ys =
    sym (fold-append (λ made global. if member global made then made else with_number (with_needed depth imports made (imports_at imports global)) global) there xs ys)

-- one that is wanted, and then those after it
pub needed_next : (depth : ℕ) (imports : List (List ℕ)) (there wanted : List ℕ) (i otherwise : ℕ) → i < length wanted
    → with_needed depth imports (with_needed depth imports there (get_or wanted i otherwise ∷ [])) (drop (i + 1) wanted)
    ≡ with_needed depth imports there (drop i wanted)
needed_next depth imports there wanted i otherwise within =
    let next : i + 1 ≡ suc i = omega arith in
    needed_append depth imports there (get_or wanted i otherwise ∷ []) (drop (i + 1) wanted)
    ∙ ap (λ (n : ℕ). with_needed depth imports there (get_or wanted i otherwise ∷ drop n wanted)) next
    ∙ ap (λ (rest : List ℕ). with_needed depth imports there rest) (sym (drop-cons wanted i otherwise within))

-- where nothing is wanted nothing is put
pub needed_none : (depth : ℕ) (imports : List (List ℕ)) (there : List ℕ) → with_needed depth imports there [] ≡ there
needed_none zero imports there = refl
needed_none (suc depth) imports there = refl
