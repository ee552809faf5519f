-- Searches by halves in what ascends.
use Rattle.std.proofs.Common.{◌≡◌, ℕ, ◌<◌, ◌≤◌, List, length, get_or, Option, None, Some, OnSome, Result, Ok, Err, ap, sym, ◌∙◌, ⊎_elim, arith}
use Rattle.std.specs.List.{AllPairs, slice_get}
use Rattle.std.specs.Option.{IfSome}
use Rattle.std.specs.Result.{result_ok}
use Rattle.std.specs.List.Sorted.{IsBinarySearchResult, IsNonDecreasingBy, IsSearchInRange}
use Rattle.std.specs.Ordering.{nat_cmp, ordering_index}
use Rattle.std.proofs.lemmas.Bool.{cases_lt, cases_order}
use Rattle.std.proofs.lemmas.Bool.Decides.{nat_tests}
use Rattle.std.proofs.lemmas.Cmp.{ranked}
use Rattle.std.proofs.lemmas.Option.{get_or_from_slice_get, none-some, slice_get_within}
use Rattle.sr_line.specs.Lines.{IsNumbered}

module _ {X : Type 0} (n : X → ℕ) (xs : List X) (up : AllPairs (λ a b. n a < n b) xs) where
  pub non_decreasing : IsNonDecreasingBy n xs
  non_decreasing i j d le low = grind (arith, up i j d, λ (same : i ≡ j). ap (λ k. n (get_or xs k d)) same)

  comparisons_rise : (x : ℕ) → IsNonDecreasingBy (λ y. ordering_index (nat_cmp (n y) x)) xs
  comparisons_rise x i j d le low =
      let rise : n (get_or xs i d) ≤ n (get_or xs j d) = non_decreasing i j d le low in
      grind (arith, nat_tests)

  -- what stands at a place is found there, since it stands nowhere else
  pub searched_at : (x : ℕ) (r : Result ℕ ℕ) → IsSearchInRange r (length xs) → IsBinarySearchResult (λ y. nat_cmp (n y) x) xs r → (place : ℕ) (e : X) → slice_get xs place ≡ Some e → n e ≡ x → r ≡ Ok place
  searched_at x (Ok i) in_range equal place e at is =
      let low : place < length xs = slice_get_within xs place e at in
      let here : n (get_or xs place e) ≡ x = ap n (get_or_from_slice_get xs place e e at) ∙ is in
      let there : n (get_or xs i e) ≡ x = ranked _ x _ (sym (equal e)) in
      ap Ok (⊎_elim (λ same. same) (λ apart. absurd (⊎_elim (λ before. omega (arith, up i place e before low)) (λ after. omega (arith, up place i e after in_range)) apart)) (cases_order i place))
  searched_at x (Err i) in_range parted place e at is =
      let low : place < length xs = slice_get_within xs place e at in
      let here : n (get_or xs place e) ≡ x = ap n (get_or_from_slice_get xs place e e at) ∙ is in
      let both = parted (comparisons_rise x) in
      let less : place < i → n (get_or xs place e) < x = λ before. ranked _ x _ (sym (both.0 place e (omega arith) before)) in
      let greater : i ≤ place → x < n (get_or xs place e) = λ after. ranked _ x _ (sym (both.1 place e after low)) in
      absurd (⊎_elim (λ before. omega (arith, less before)) (λ after. omega (arith, greater after)) (cases_lt place i))

  -- what is found has the number
  pub searched-there : (x : ℕ) (r : Result ℕ ℕ) → IsSearchInRange r (length xs) → IsBinarySearchResult (λ y. nat_cmp (n y) x) xs r → IfSome (result_ok r) (IsNumbered n xs x)
  searched-there x (Ok i) in_range equal = (in_range, λ e. ranked _ x _ (sym (equal e)))
  searched-there x (Err i) in_range parted = tt

  -- two places that hold the same are one
  pub one_place : (i j : ℕ) (e d : X) → slice_get xs i ≡ Some e → slice_get xs j ≡ Some d → n e ≡ n d → i ≡ j
  one_place i j e d at there same =
      let low : i < length xs = slice_get_within xs i e at in
      let high : j < length xs = slice_get_within xs j d there in
      let here : n (get_or xs i e) ≡ n e = ap n (get_or_from_slice_get xs i e e at) in
      let other : n (get_or xs j e) ≡ n d = ap n (get_or_from_slice_get xs j d e there) in
      ⊎_elim (λ is. is) (λ apart. absurd (⊎_elim (λ before. omega (arith, up i j e before high)) (λ after. omega (arith, up j i e after low)) apart)) (cases_order i j)

pub on_some : {X P : Type 0} (r : Option X) {x : X} → r ≡ Some x → OnSome r P → P
on_some None {x} is p = absurd (none-some x is)
on_some (Some y) is p = p
