-- The values of a quantifier, one after the other.
use Rattle.std.proofs.Common.{◌≡◌, ◌<◌, ◌≤◌, ◌+◌, ◌-◌, ◌*◌, ℕ, zero, suc, ℤ, IsTrue, ◌∷◌, map, refl, sym, ap, subst, ◌∙◌, arith}
use Rattle.std.proofs.Math.Nat.{add-mul, one-mul}
use Rattle.std.proofs.lemmas.Int.{ints}
use Rattle.std.specs.List.{range_with_len}
use Rattle.sr_value.specs.Operators.{is_int}
use Rattle.sr_core.specs.declared.statement.Direction.{Direction}
use Rattle.sr_core.specs.declared.statement.Direction.TheVariants.{Up, Down}
use Rattle.sr_code.specs.Numbers.{AllFit, number_from, numbers_from}

later : {A : Type 0} (f g : ℕ → A) → ((k : ℕ) → f (k + 1) ≡ g k) → (at count : ℕ) → map f (range_with_len (at + 1) count) ≡ map g (range_with_len at count)
later f g same at zero = refl
later f g same at (suc count) = ap (λ x. x ∷ map f (range_with_len (at + 1 + 1) count)) (same at) ∙ ap (λ xs. g at ∷ xs) (later f g same (at + 1) count)

one_more : (k by : ℕ) → (k + 1) * by ≡ by + k * by
one_more k by = omega (arith, add-mul k 1 by, one-mul by)

-- the value one step further on
further_by : (direction : Direction) (next : ℤ) (by k : ℕ) → number_from direction next ((k + 1) * by) ≡ number_from direction (number_from direction next by) (k * by)
further_by Up next by k = let more = one_more k by in omega (arith, ints)
further_by Down next by k = let more = one_more k by in omega (arith, ints)

first_is : (direction : Direction) (next : ℤ) (by : ℕ) → number_from direction next (0 * by) ≡ next
first_is Up next by = omega (arith, ints)
first_is Down next by = omega (arith, ints)

as_map : (direction : Direction) (next : ℤ) (by count : ℕ) → numbers_from direction next by count ≡ map (λ k. number_from direction next (k * by)) (range_with_len 0 count)
as_map Up next by count = refl
as_map Down next by count = refl

-- a list of at least one value is the first one, and the others from the next one on
pub first_and_rest : (direction : Direction) (next : ℤ) (by count : ℕ) → (count ≡ 0 → ⊥)
    → numbers_from direction next by count ≡ next ∷ numbers_from direction (number_from direction next by) by (count - 1)
first_and_rest direction next by zero some = absurd (some refl)
first_and_rest direction next by (suc count) some =
    as_map direction next by (suc count)
    ∙ ap (λ n. n ∷ map (λ k. number_from direction next (k * by)) (range_with_len 1 count)) (first_is direction next by)
    ∙ ap (λ ns. next ∷ ns) (later (λ k. number_from direction next (k * by)) (λ k. number_from direction (number_from direction next by) (k * by)) (further_by direction next by) 0 count
    ∙ sym (as_map direction (number_from direction next by) by count))
    ∙ ap (λ n. next ∷ numbers_from direction (number_from direction next by) by n) less where
      less : count ≡ suc count - 1
      less = omega arith

-- no values are the same from everywhere
pub none_left : (direction other : Direction) (next next' : ℤ) (by by' count : ℕ) → count ≤ 0 → numbers_from direction next by count ≡ numbers_from other next' by' count
none_left direction other next next' by by' zero none = as_map direction next by 0 ∙ sym (as_map other next' by' 0)
none_left direction other next next' by by' (suc count) none = absurd (omega arith)

pub fit_further : (direction : Direction) (next : ℤ) (by count : ℕ) → AllFit direction next by count → AllFit direction (number_from direction next by) by (count - 1)
fit_further direction next by count fit = λ k below.
    let P : ℤ → Type 0 = λ n. IsTrue (is_int n) in
    subst P (further_by direction next by k) (fit (k + 1) (omega arith))

pub further_fits : (direction : Direction) (next : ℤ) (by count : ℕ) → 1 < count → AllFit direction next by count → IsTrue (is_int (number_from direction next by))
further_fits direction next by count more fit =
    let P : ℕ → Type 0 = λ far. IsTrue (is_int (number_from direction next far)) in
    subst P (omega arith) (fit 1 more)
