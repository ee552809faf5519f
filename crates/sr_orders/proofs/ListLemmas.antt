-- Lists that are in an order, and what stands in each place.
use Rattle.std.proofs.Common.{◌≡◌, ◌==◌, ◌||◌, ℕ, suc, ◌<◌, ◌⊎◌, inl, inr, ⊎_elim, Bool, true, false, List, [], ◌∷◌, refl, ap, sym, ◌∙◌, subst, cond, arith, length, get_or}
use Rattle.std.proofs.lemmas.Bool.{eq-eqb}
use Rattle.std.specs.Prelude.{filter, AllPairs}
use Rattle.std.specs.List.{list_any}
use Rattle.sr_orders.specs.Ascending.{PlacesGiveAll}
use Rattle.sr_orders.specs.Merged.{ComesBefore, MergeIsOne, SameParts, is_by}

module _ {E : Type 0} where
  -- the relation holds of an entry and each of a list
  abbrev pub AllAfter : (E → E → Type 0) → E → List E → Type 0
  AllAfter R x [] = Unit {0}
  AllAfter R x (y ∷ ys) = R x y × AllAfter R x ys

  abbrev pub Sorted : (E → E → Type 0) → List E → Type 0
  Sorted R [] = Unit {0}
  Sorted R (x ∷ xs) = AllAfter R x xs × Sorted R xs

  after_of : (R : E → E → Type 0) (x : E) (xs : List E) → ((j : ℕ) (d : E) → j < length xs → R x (get_or xs j d)) → AllAfter R x xs
  after_of R x [] all = tt
  after_of R x (y ∷ ys) all = (all 0 x (omega arith), after_of R x ys (λ j d lt. all (suc j) d (omega arith)))

  pub sorted_of : (R : E → E → Type 0) (xs : List E) → AllPairs R xs → Sorted R xs
  sorted_of R [] all = tt
  sorted_of R (x ∷ xs) all = (after_of R x xs (λ j d lt. all 0 (suc j) d (omega arith) (omega arith)), sorted_of R xs (λ i j d lt len. all (suc i) (suc j) d (omega arith) (omega arith)))

  after_filter : (R : E → E → Type 0) (t : E → Bool) (x : E) (xs : List E) → AllAfter R x xs → AllAfter R x (filter t xs)
  after_filter R t x [] all = tt
  after_filter R t x (y ∷ ys) all = one (t y) (after_filter R t x ys all.1)
    where
      one : (b : Bool) → AllAfter R x (filter t ys) → AllAfter R x (cond b (y ∷ filter t ys) (filter t ys))
      one true more = (all.0, more)
      one false more = more

  pub sorted_filter : (R : E → E → Type 0) (t : E → Bool) (xs : List E) → Sorted R xs → Sorted R (filter t xs)
  sorted_filter R t [] all = tt
  sorted_filter R t (x ∷ xs) all = one (t x) (sorted_filter R t xs all.1)
    where
      one : (b : Bool) → Sorted R (filter t xs) → Sorted R (cond b (x ∷ filter t xs) (filter t xs))
      one true more = (after_filter R t x xs all.0, more)
      one false more = more

  -- two tests may be turned
  pub filters_turned : (f g : E → Bool) (xs : List E) → filter f (filter g xs) ≡ filter g (filter f xs)
  filters_turned f g [] = refl
  filters_turned f g (x ∷ xs) = one (f x) (g x) refl refl (filters_turned f g xs)
    where
      one : (b c : Bool) → f x ≡ b → g x ≡ c → filter f (filter g xs) ≡ filter g (filter f xs) → filter f (cond c (x ∷ filter g xs) (filter g xs)) ≡ filter g (cond b (x ∷ filter f xs) (filter f xs))
      one true true fx gx more = ap (λ b. cond b (x ∷ filter f (filter g xs)) (filter f (filter g xs))) fx ∙ (ap (λ l. x ∷ l) more ∙ sym (ap (λ b. cond b (x ∷ filter g (filter f xs)) (filter g (filter f xs))) gx))
      one true false fx gx more = more ∙ sym (ap (λ b. cond b (x ∷ filter g (filter f xs)) (filter g (filter f xs))) gx)
      one false true fx gx more = ap (λ b. cond b (x ∷ filter f (filter g xs)) (filter f (filter g xs))) fx ∙ more
      one false false fx gx more = more

  -- a test that was made changes nothing
  pub filter_twice : (f : E → Bool) (xs : List E) → filter f (filter f xs) ≡ filter f xs
  filter_twice f [] = refl
  filter_twice f (x ∷ xs) = one (f x) refl (filter_twice f xs)
    where
      one : (b : Bool) → f x ≡ b → filter f (filter f xs) ≡ filter f xs → filter f (cond b (x ∷ filter f xs) (filter f xs)) ≡ cond b (x ∷ filter f xs) (filter f xs)
      one true fx more = ap (λ b. cond b (x ∷ filter f (filter f xs)) (filter f (filter f xs))) fx ∙ ap (λ l. x ∷ l) more
      one false fx more = more

  -- nothing is left of a list in which nothing passes
  pub filter_none : (f : E → Bool) (xs : List E) → list_any f xs ≡ false → filter f xs ≡ []
  filter_none f [] none = refl
  filter_none f (x ∷ xs) none = one (f x) none (filter_none f xs)
    where
      one : (b : Bool) → (b || list_any f xs) ≡ false → (list_any f xs ≡ false → filter f xs ≡ []) → cond b (x ∷ filter f xs) (filter f xs) ≡ []
      one true nothing more = absurd (cc nothing)
      one false nothing more = more nothing

  -- what a test picks first comes after whatever all come after
  picked : (R : E → E → Type 0) (t : E → Bool) (z : E) (ys : List E) (x : E) (rest : List E) → AllAfter R z ys → filter t ys ≡ x ∷ rest → R z x
  picked R t z [] x rest all e = absurd (cc e)
  picked R t z (y ∷ ys) x rest all e = one (t y) (picked R t z ys x rest all.1) e
    where
      one : (b : Bool) → (filter t ys ≡ x ∷ rest → R z x) → cond b (y ∷ filter t ys) (filter t ys) ≡ x ∷ rest → R z x
      one true more is = let first : y ≡ x = cc is in subst (R z) first all.0
      one false more is = more is

  first_or_later : (t : E → Bool) (y : E) (ys : List E) (x : E) (rest : List E) → filter t (y ∷ ys) ≡ x ∷ rest → (x ≡ y) ⊎ (filter t ys ≡ x ∷ rest)
  first_or_later t y ys x rest e = one (t y) e
    where
      one : (b : Bool) → cond b (y ∷ filter t ys) (filter t ys) ≡ x ∷ rest → (x ≡ y) ⊎ (filter t ys ≡ x ∷ rest)
      one true is = inl (let first : x ≡ y = cc is in first)
      one false is = inr is

  tail_by : (b : Bool) (x : E) (xs ys : List E) → cond b (x ∷ xs) xs ≡ cond b (x ∷ ys) ys → xs ≡ ys
  tail_by true x xs ys e = cc e
  tail_by false x xs ys e = e

-- ---- lists with the same in each place

module _ {E : Type 0} (place : E → ℕ) where
  abbrev pub stands : ℕ → E → Bool
  stands s x = place x == s

  own_first : (x : E) (xs : List E) → filter (stands (place x)) (x ∷ xs) ≡ x ∷ filter (stands (place x)) xs
  own_first x xs = ap (λ b. cond b (x ∷ filter (stands (place x)) xs) (filter (stands (place x)) xs)) (eq-eqb (place x) (place x) refl)

  -- two lists in an order that goes one way are the same where they have the same in each place
  pub lists_give_all : (R : E → E → Type 0) → ((x y : E) → R x y → R y x → x ≡ y) → (xs ys : List E) → Sorted R xs → Sorted R ys
      → ((s : ℕ) → filter (stands s) xs ≡ filter (stands s) ys) → xs ≡ ys
  lists_give_all R not_both [] [] ax ay same = refl
  lists_give_all R not_both [] (y ∷ ys) ax ay same = absurd (cc (same (place y) ∙ own_first y ys))
  lists_give_all R not_both (x ∷ xs) [] ax ay same = absurd (cc (sym (same (place x)) ∙ own_first x xs))
  lists_give_all R not_both (x ∷ xs) (y ∷ ys) ax ay same =
      let one : filter (stands (place x)) (y ∷ ys) ≡ x ∷ filter (stands (place x)) xs = sym (same (place x)) ∙ own_first x xs in
      let other : filter (stands (place y)) (x ∷ xs) ≡ y ∷ filter (stands (place y)) ys = same (place y) ∙ own_first y ys in
      let first : x ≡ y = ⊎_elim (λ e. e) (λ late. ⊎_elim (λ e. sym e)
      (λ late'. not_both x y (picked R (stands (place y)) x xs y _ ax.0 late') (picked R (stands (place x)) y ys x _ ay.0 late))
      (first_or_later (stands (place y)) x xs y _ other)) (first_or_later (stands (place x)) y ys x _ one) in
      let tails = lists_give_all R not_both xs ys ax.1 ay.1
      (λ s. tail_by (stands s x) x (filter (stands s) xs) (filter (stands s) ys)
      (same s ∙ ap (λ z. cond (stands s z) (z ∷ filter (stands s) ys) (filter (stands s) ys)) (sym first))) in
      ap (λ l. x ∷ l) tails ∙ ap (λ z. z ∷ ys) first

-- ---- lists that ascend

pub places_give_all : {E : Type 0} (key place : E → ℕ) → PlacesGiveAll key place
places_give_all {E} key place xs ys ax ay same =
    let Below : E → E → Type 0 = λ a b. key a < key b in
    lists_give_all place Below (λ x y a b. absurd (omega arith)) xs ys (sorted_of Below xs ax) (sorted_of Below ys ay) same

-- ---- merged lists

module _ {E : Type 0} (by stamp : E → ℕ) where
  not_both : (x y : E) → ComesBefore by stamp x y → ComesBefore by stamp y x → x ≡ y
  not_both x y a b = ⊎_elim (λ less. ⊎_elim (λ more. absurd (omega arith)) (λ t. let s = t.0 in absurd (omega arith)) b)
      (λ t. let s = t.0 in let w = t.1 in ⊎_elim (λ more. absurd (omega arith)) (λ u. let v = u.1 in absurd (omega arith)) b) a

  pub merge_is_one : MergeIsOne by stamp
  merge_is_one lists es fs one other =
      lists_give_all by (ComesBefore by stamp) not_both es fs (sorted_of (ComesBefore by stamp) es one.sorted) (sorted_of (ComesBefore by stamp) fs other.sorted)
      (λ who. one.same who ∙ sym (other.same who))

  pub parts_are_same : (touches : ℕ → E → Bool) → SameParts by stamp touches
  parts_are_same touches lists log es merged made s rise =
      lists_give_all by (ComesBefore by stamp) not_both (filter (touches s) es) (filter (touches s) log)
      (sorted_filter (ComesBefore by stamp) (touches s) es (sorted_of (ComesBefore by stamp) es merged.sorted))
      (sorted_of (ComesBefore by stamp) (filter (touches s) log) (λ i j d lt len. inl (rise i j d lt len)))
      (λ who. filters_turned (is_by by stamp who) (touches s) es ∙ (ap (filter (touches s)) (merged.same who ∙ sym (made who)) ∙ filters_turned (touches s) (is_by by stamp who) log))
