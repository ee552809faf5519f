-- The invocation with a number is found among those of its operation.
use Rattle.std.proofs.Common.{◌≡◌, ℕ, zero, suc, ◌+◌, ◌<◌, ◌≤◌, ◌==◌, ◌&&◌, ◌⊎◌, inl, inr, Bool, true, false, List, [], ◌∷◌, ◌++◌, length, get_or, take, drop, Some, None, refl, ap, sym, ◌∙◌, subst, cond, arith}
use Rattle.std.proofs.lemmas.Option.{get_or_from_slice_get, slice_get_within}
use Rattle.std.specs.Prelude.{remove, slice_get}
use Rattle.sr_calls.specs.Calls.{without_first}
use Rattle.sr_queue.specs.Classes.{next_waiting}
use Rattle.sr_queue.specs.Queues.{is_of}
use Rattle.sr_queue.specs.declared.pending.Pending.{Pending}
use Rattle.sr_queue.proofs.QueueLemmas.{next-here, next-later, next-past}
use Rattle.sr_value.specs.declared.capability.Owner.{Owner}
use Rattle.sr_shard.specs.Changes.{is_numbered}
use Rattle.sr_shard.proofs.SplitLemmas.{at_place}

module _ {A : Type 0} where
  drop_at : (xs : List A) (i : ℕ) (d : A) → i < length xs → drop i xs ≡ get_or xs i d ∷ drop (suc i) xs
  drop_at [] i d less = absurd (omega arith)
  drop_at (x ∷ xs) zero d less = refl
  drop_at (x ∷ xs) (suc i) d less = drop_at xs i d (omega arith)

  kept_more : (xs : List A) (i : ℕ) (d : A) (rest : List A) → i < length xs → take (suc i) xs ++ rest ≡ take i xs ++ get_or xs i d ∷ rest
  kept_more [] i d rest less = absurd (omega arith)
  kept_more (x ∷ xs) zero d rest less = refl
  kept_more (x ∷ xs) (suc i) d rest less = ap (λ (l : List A). x ∷ l) (kept_more xs i d rest (omega arith))

  removed_at : (xs : List A) (i : ℕ) → i < length xs → take i xs ++ drop (suc i) xs ≡ remove xs i
  removed_at [] i less = absurd (omega arith)
  removed_at (x ∷ xs) zero less = refl
  removed_at (x ∷ xs) (suc i) less = ap (λ (l : List A). x ∷ l) (removed_at xs i (omega arith))

  kept_all : (xs : List A) (i : ℕ) → length xs ≤ i → take i xs ++ [] ≡ xs
  kept_all [] zero long = refl
  kept_all [] (suc i) long = refl
  kept_all (x ∷ xs) zero long = absurd (omega arith)
  kept_all (x ∷ xs) (suc i) long = ap (λ (l : List A). x ∷ l) (kept_all xs i (omega arith))

  inside_or : (xs : List A) (i : ℕ) → (i < length xs) ⊎ (length xs ≤ i)
  inside_or [] i = inr (omega arith)
  inside_or (x ∷ xs) zero = inl (omega arith)
  inside_or (x ∷ xs) (suc i) = by (inside_or xs i)
    where
      by : (i < length xs) ⊎ (length xs ≤ i) → (suc i < length (x ∷ xs)) ⊎ (length (x ∷ xs) ≤ suc i)
      by (inl less) = inl (omega arith)
      by (inr past) = inr (omega arith)

  dropped_all : (xs : List A) (i : ℕ) → length xs ≤ i → drop i xs ≡ []
  dropped_all [] zero long = refl
  dropped_all [] (suc i) long = refl
  dropped_all (x ∷ xs) zero long = absurd (omega arith)
  dropped_all (x ∷ xs) (suc i) long = dropped_all xs i (omega arith)

-- it isn't among the first
abbrev pub IsAfter : Owner → ℕ → ℕ → List Pending → ℕ → Type 0
IsAfter owner op id items i = without_first (is_numbered owner op id) items ≡ take i items ++ without_first (is_numbered owner op id) (drop i items)

module _ (owner : Owner) (op id : ℕ) (items : List Pending) where
  abbrev it : Pending → Bool
  it p = is_numbered owner op id p

  abbrev After : ℕ → Type 0
  After i = IsAfter owner op id items i

  pub after_more : (i : ℕ) (d : Pending) → i < length items → is_numbered owner op id (get_or items i d) ≡ false → After i → After (i + 1)
  after_more i d less other was =
      let next : suc i ≡ i + 1 = omega arith in
      subst After next
      (was
      ∙ ap (λ (l : List Pending). take i items ++ without_first it l) (drop_at items i d less)
      ∙ ap (λ b. take i items ++ cond b (drop (suc i) items) (get_or items i d ∷ without_first it (drop (suc i) items))) other
      ∙ sym (kept_more items i d (without_first it (drop (suc i) items)) less))

  pub found_here : (i : ℕ) (d : Pending) → i < length items → is_numbered owner op id (get_or items i d) ≡ true → After i → without_first it items ≡ remove items i
  found_here i d less is was =
      was
      ∙ ap (λ (l : List Pending). take i items ++ without_first it l) (drop_at items i d less)
      ∙ ap (λ b. take i items ++ cond b (drop (suc i) items) (get_or items i d ∷ without_first it (drop (suc i) items))) is
      ∙ removed_at items i less

  not_of : (p : Pending) → is_of owner op p ≡ false → is_numbered owner op id p ≡ false
  not_of p off = by (p.id == id)
    where
      by : (b : Bool) → (b && is_of owner op p) ≡ false
      by true = off
      by false = refl

  pub past_all : (i : ℕ) → length items ≤ i → After i → without_first it items ≡ items
  past_all i long was = was ∙ ap (λ (l : List Pending). take i items ++ without_first it l) (dropped_all items i long) ∙ kept_all items i long

  -- the next of the operation is the next that it may be
  pub to_next : (n i place : ℕ) (d : Pending) → length items ≤ i + n → After i → next_waiting owner op i items ≡ Some place → After place
  to_next zero i place d long was is = absurd (let none = next-past owner op i items (omega arith) in cc)
  to_next (suc n) i place d long was is = by (to_next n (i + 1) place d (omega arith)) (inside_or items i)
    where
      inside : (After (i + 1) → next_waiting owner op (i + 1) items ≡ Some place → After place) → (b : Bool) → is_of owner op (get_or items i d) ≡ b → i < length items → After place
      inside later true of less = let found = next-here owner op i items d less of in let same : i ≡ place = cc in subst After same was
      inside later false of less = later (after_more i d less (not_of (get_or items i d) of) was) (sym (next-later owner op i items d less of) ∙ is)

      by : (After (i + 1) → next_waiting owner op (i + 1) items ≡ Some place → After place) → (i < length items) ⊎ (length items ≤ i) → After place
      by later (inl less) = inside later (is_of owner op (get_or items i d)) refl less
      by later (inr past) = absurd (let none = next-past owner op i items past in cc)

  pub none_next : (n i : ℕ) → length items ≤ i + n → After i → next_waiting owner op i items ≡ None → without_first it items ≡ items
  none_next zero i long was is = past_all i (omega arith) was
  none_next (suc n) i long was is = by (none_next n (i + 1) (omega arith)) (inside_or items i)
    where
      inside : (After (i + 1) → next_waiting owner op (i + 1) items ≡ None → without_first it items ≡ items) → (d : Pending) (b : Bool) → is_of owner op (get_or items i d) ≡ b → i < length items
          → without_first it items ≡ items
      inside later d true of less = absurd (let found = next-here owner op i items d less of in cc)
      inside later d false of less = later (after_more i d less (not_of (get_or items i d) of) was) (sym (next-later owner op i items d less of) ∙ is)

      by : (After (i + 1) → next_waiting owner op (i + 1) items ≡ None → without_first it items ≡ items) → (i < length items) ⊎ (length items ≤ i) → without_first it items ≡ items
      by later (inl less) = let d = (at_place items i less).0 in inside later d (is_of owner op (get_or items i d)) refl less
      by later (inr past) = past_all i past was

  -- it is one of the operation
  pub next_is : (n i place : ℕ) (d : Pending) → length items ≤ i + n → next_waiting owner op i items ≡ Some place → is_of owner op (get_or items place d) ≡ true
  next_is zero i place d long is = absurd (let none = next-past owner op i items (omega arith) in cc)
  next_is (suc n) i place d long is = by (next_is n (i + 1) place d (omega arith)) (inside_or items i)
    where
      inside : (next_waiting owner op (i + 1) items ≡ Some place → is_of owner op (get_or items place d) ≡ true) → (b : Bool) → is_of owner op (get_or items i d) ≡ b → i < length items → is_of owner op (get_or items place d) ≡ true
      inside later true of less = let found = next-here owner op i items d less of in let same : i ≡ place = cc in subst (λ k. is_of owner op (get_or items k d) ≡ true) same of
      inside later false of less = later (sym (next-later owner op i items d less of) ∙ is)

      by : (next_waiting owner op (i + 1) items ≡ Some place → is_of owner op (get_or items place d) ≡ true) → (i < length items) ⊎ (length items ≤ i) → is_of owner op (get_or items place d) ≡ true
      by later (inl less) = inside later (is_of owner op (get_or items i d)) refl less
      by later (inr past) = absurd (let none = next-past owner op i items past in cc)

  -- at first, and after each that has another number

  pub after_none : IsAfter owner op id items 0
  after_none = first items
    where
      first : (all : List Pending) → IsAfter owner op id all 0
      first [] = refl
      first (x ∷ xs) = refl

  pub at_next : (from place : ℕ) (d : Pending) → After from → next_waiting owner op from items ≡ Some place → After place
  at_next from place d was is = to_next (length items) from place d (omega arith) was is

  pub past_it : (from place : ℕ) (d : Pending) → After from → next_waiting owner op from items ≡ Some place → slice_get items place ≡ Some d → (d.id == id) ≡ false → After (place + 1)
  past_it from place d was is at other =
      let less : place < length items = slice_get_within items place d at in
      after_more place d less (subst (λ p. is_numbered owner op id p ≡ false) (sym (get_or_from_slice_get items place d d at)) (ap (λ b. b && is_of owner op d) other)) (at_next from place d was is)

  pub it_is_here : (from place : ℕ) (d : Pending) → After from → next_waiting owner op from items ≡ Some place → slice_get items place ≡ Some d → (d.id == id) ≡ true → without_first it items ≡ remove items place
  it_is_here from place d was is at same =
      let less : place < length items = slice_get_within items place d at in
      let of : is_of owner op d ≡ true = ap (is_of owner op) (sym (get_or_from_slice_get items place d d at)) ∙ next_is (length items) from place d (omega arith) is in
      found_here place d less (subst (λ p. is_numbered owner op id p ≡ true) (sym (get_or_from_slice_get items place d d at)) (ap (λ b. b && is_of owner op d) same ∙ of)) (at_next from place d was is)

  pub nowhere : (from : ℕ) → After from → next_waiting owner op from items ≡ None → without_first it items ≡ items
  nowhere from was is = none_next (length items) from (omega arith) was is
