-- Steps that make processes ready, and have them wait.
use Rattle.std.proofs.Common.{◌≡◌, ◌⊎◌, inl, inr, get_or, ◌+◌, ◌≤◌, ◌<◌, ◌==◌, ℕ, zero, suc, Bool, true, false, cond, List, [], ◌∷◌, length, map, option_map, Some, ap, sym, ◌∙◌, subst, arith}
use Rattle.std.proofs.lemmas.Bool.{cases_eq}
use Rattle.std.proofs.lemmas.Option.{slice_get-get_or, slice_get-map}
use Rattle.std.specs.Prelude.{find, slice_get}
use Rattle.sr_ask.specs.declared.start.Start.{Start}
use Rattle.sr_processes.specs.Living.{is_process}
use Rattle.sr_plain.specs.Waiting.{is_ready}
use Rattle.sr_plain.specs.declared.waiters.Waiters.{Waiters}
use Rattle.sr_plain.proofs.AsideLemmas.{find-number}

-- who is found stands somewhere
pub find-place : (live : List Start) (q : ℕ) (s : Start) → find (is_process q) live ≡ Some s → (k : ℕ) × (slice_get live k ≡ Some s) × (k < length live)
find-place [] q s is = absurd (cc)
find-place (x ∷ xs) q s is = by (q == x.process) is (find-place xs q s)
  where
    by : (b : Bool) → cond b (Some x) (find (is_process q) xs) ≡ Some s → (find (is_process q) xs ≡ Some s → (k : ℕ) × (slice_get xs k ≡ Some s) × (k < length xs)) → (k : ℕ) × (slice_get (x ∷ xs) k ≡ Some s) × (k < length (x ∷ xs))
    by true h more = (0, h, omega arith)
    by false h more = let found = more h in let within = found.2 in (suc found.0, found.1, omega arith)

-- ---- one more that waits, and one more that is ready

pub one-more : {X : Type 0} (old new : X → Bool) (xs : List X) (i : ℕ) (x : X) → slice_get xs i ≡ Some x → ((y : X) → old y ≡ true → new y ≡ true) → new x ≡ true
    → ((number : ℕ) (y : X) → slice_get xs number ≡ Some y → number < i → old y ≡ true)
    → (number : ℕ) (y : X) → slice_get xs number ≡ Some y → number < i + 1 → new y ≡ true
one-more old new xs i x here stay itself before number y is below = by (cases_eq number i)
  where
    by : (number ≡ i) ⊎ (number ≡ i → ⊥) → new y ≡ true
    by (inl same) =
        let found : slice_get xs i ≡ Some y = subst (λ n. slice_get xs n ≡ Some y) same is in
        let one : x ≡ y = cc in
        subst (λ z. new z ≡ true) one itself
    by (inr apart) = stay y (before number y is (omega arith))

-- where all numbers of those who live are ready, all who live are
pub ready-all : (live : List Start) (numbers : List ℕ) (new : Waiters) → numbers ≡ map (λ (s : Start). s.process) live
    → ((place process : ℕ) → slice_get numbers place ≡ Some process → is_ready new process ≡ false → ⊥)
    → (q : ℕ) (s : Start) → find (is_process q) live ≡ Some s → is_ready new q ≡ false → ⊥
ready-all live numbers new same each q s is off =
    let found = find-place live q s is in
    let here = ap (λ ns. slice_get ns found.0) same ∙ slice_get-map (λ (s : Start). s.process) live found.0 ∙ ap (option_map (λ (s : Start). s.process)) found.1 in
    each found.0 s.process here (subst (λ n. is_ready new n ≡ false) (find-number live q s is) off)

-- ---- over rows

pub item-at : {A : Type 0} (xs : List A) (k : ℕ) (x : A) → k < length xs → x ≡ get_or xs k x → slice_get xs k ≡ Some x
item-at xs k x within is = slice_get-get_or xs k x within ∙ ap (λ y. Some y) (sym is)

within-row : {A : Type 0} (xs : List A) (k : ℕ) (x : A) → slice_get xs k ≡ Some x → k < length xs
within-row [] zero x is = absurd (cc)
within-row [] (suc k) x is = absurd (cc)
within-row (y ∷ ys) zero x is = omega arith
within-row (y ∷ ys) (suc k) x is = let more = within-row ys k x is in omega arith

pub each-passed : {X : Type 0} (test : X → Bool) (xs ys : List X) (count : ℕ) → xs ≡ ys → length xs ≤ count → count ≤ length xs
    → ((number : ℕ) (y : X) → slice_get ys number ≡ Some y → number < count → test y ≡ true)
    → (number : ℕ) (y : X) → slice_get ys number ≡ Some y → test y ≡ true
each-passed test xs ys count same low high each number y is = let within = within-row ys number y is in each number y is (omega (arith, ap (λ zs. length zs) same))
