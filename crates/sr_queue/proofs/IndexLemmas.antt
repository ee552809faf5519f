-- The numbers of an operation among all that are pending.
use Rattle.std.proofs.Common.{◌≡◌, ℕ, zero, suc, ◌+◌, ◌<◌, ◌≤◌, Bool, true, false, cond, List, [], ◌∷◌, ◌++◌, Option, None, Some, length, get_or, take, drop, map, refl, ap, sym, ◌∙◌, leb, zero-add, arith}
use Rattle.std.specs.List.{All, count_by, find, position_from, remove, slice_get}
use Rattle.std.specs.declared.collections.VecDeque.{VecDeque}
use Rattle.std.specs.declared.alloc.Global.{Global}
use Rattle.std.proofs.lemmas.Bool.{le-leb, lt-leb}
use Rattle.std.proofs.lemmas.List.{drop-map, map-append, take-map}
use Rattle.std.proofs.lemmas.List.Elements.{All-append, All-cons, All-drop, All-head, All-nil, All-push, All-tail, All-take, All-weaker}
use Rattle.std.proofs.lemmas.List.Kept.{AllPairs-cons}
use Rattle.std.proofs.lemmas.List.Quantifiers.{all_pairs_push, all_pairs_remove}
use Rattle.std.proofs.lemmas.List.Sums.{sum_by-cons}
use Rattle.std.proofs.lemmas.Option.{get_or_from_slice_get, none-some, same_Some, slice_get_within}
use Rattle.sr_queue.specs.Classes.{next_among, same_class}
use Rattle.sr_queue.specs.Indexes.{IsAscending, IsIndex, numbers_in}
use Rattle.sr_queue.specs.Lines.{ChangesLine, IsRising, line_in}
use Rattle.sr_queue.specs.declared.class.Class.{Class}
use Rattle.sr_queue.specs.declared.index.Numbered.{Numbered}
use Rattle.sr_queue.proofs.ClassLemmas.{same_class-itself, same_class-turned, same_parts}

abbrev number_of : Numbered → ℕ
number_of e = e.number

later : (x : Numbered) (xs : List Numbered) → IsAscending (x ∷ xs) → All (λ y. x.number < y.number) xs
later x xs up k d low = up zero (suc k) d (omega arith) (omega arith)

others : (x : Numbered) (xs : List Numbered) → IsAscending (x ∷ xs) → IsAscending xs
others x xs up i j d before low = up (suc i) (suc j) d (omega arith) (omega arith)

module _ (class : Class) where
  -- ---- what ascends

  all-numbers : (P : ℕ → Type 0) (es : List Numbered) → All (λ e. P e.number) es → All P (numbers_in class es)
  all-numbers P [] all = All-nil P
  all-numbers P (e ∷ es) all = by (same_class class e.class) (all-numbers P es (All-tail (λ x. P x.number) e es all))
    where
      by : (b : Bool) → All P (numbers_in class es) → All P (cond b (e.number ∷ numbers_in class es) (numbers_in class es))
      by true more = All-cons P e.number (numbers_in class es) (All-head (λ x. P x.number) e es all) more
      by false more = more

  pub rising : (es : List Numbered) → IsAscending es → IsRising (numbers_in class es)
  rising [] up = λ i j d before low. absurd (omega arith)
  rising (e ∷ es) up = by (same_class class e.class) (rising es (others e es up))
    where
      by : (b : Bool) → IsRising (numbers_in class es) → IsRising (cond b (e.number ∷ numbers_in class es) (numbers_in class es))
      by true more = AllPairs-cons (λ a b. a < b) e.number (numbers_in class es) (all-numbers (λ n. e.number < n) es (later e es up)) more
      by false more = more

  -- ---- how many there are

  pub length-numbers_in : (es : List Numbered) → length (numbers_in class es) ≡ count_by (same_class class) (map (λ e. e.class) es)
  length-numbers_in [] = refl
  length-numbers_in (e ∷ es) = by (same_class class e.class) (length-numbers_in es) ∙ sym (sum_by-cons (λ c. cond (same_class class c) 1 0) e.class (map (λ x. x.class) es))
    where
      by : (b : Bool) → length (numbers_in class es) ≡ count_by (same_class class) (map (λ x. x.class) es) → length (cond b (e.number ∷ numbers_in class es) (numbers_in class es)) ≡ cond b 1 0 + count_by (same_class class) (map (λ x. x.class) es)
      by true more = omega (arith, more)
      by false more = omega (arith, more)

  -- ---- the next of a class

  -- the number of the first of the class
  abbrev first_number : List Numbered → Option ℕ
  first_number [] = None
  first_number (e ∷ es) = cond (same_class class e.class) (Some e.number) (first_number es)

  abbrev among : ℕ → List Numbered → Option ℕ
  among start es = position_from (same_class class) start (map (λ e. e.class) es)

  all-later : (least : ℕ) (es : List Numbered) → All (λ e. least ≤ e.number) es → find (λ number. leb least number) (numbers_in class es) ≡ first_number es
  all-later least [] up = refl
  all-later least (e ∷ es) up = by (same_class class e.class) (all-later least es (All-tail (λ x. least ≤ x.number) e es up))
    where
      by : (b : Bool) → find (λ number. leb least number) (numbers_in class es) ≡ first_number es → find (λ number. leb least number) (cond b (e.number ∷ numbers_in class es) (numbers_in class es)) ≡ cond b (Some e.number) (first_number es)
      by true more = ap (λ t. cond t (Some e.number) (find (λ number. leb least number) (numbers_in class es))) (le-leb least e.number (All-head (λ x. least ≤ x.number) e es up))
      by false more = more

  -- the first number of the class that isn't below that at a place is that of the first of the class from there on
  next_number : (es : List Numbered) (from : ℕ) (e : Numbered) → IsAscending es → slice_get es from ≡ Some e → find (λ number. leb e.number number) (numbers_in class es) ≡ first_number (drop from es)
  next_number [] from e up at = absurd (none-some e at)
  next_number (x ∷ xs) zero e up at =
      let same : x.number ≡ e.number = ap number_of (same_Some x e at) in
      all-later e.number (x ∷ xs) (All-cons (λ y. e.number ≤ y.number) x xs (omega arith) (All-weaker (λ y. x.number < y.number) (λ y. e.number ≤ y.number) (λ y more. omega arith) xs (later x xs up)))
  next_number (x ∷ xs) (suc from) e up at = by (same_class class x.class) (next_number xs from e (others x xs up) at)
    where
      before : x.number < e.number
      before =
          let there = later x xs up from e (slice_get_within xs from e at) in
          let here : number_of (get_or xs from e) ≡ e.number = ap number_of (get_or_from_slice_get xs from e e at) in
          omega (arith, there, here)

      by : (b : Bool) → find (λ number. leb e.number number) (numbers_in class xs) ≡ first_number (drop from xs) → find (λ number. leb e.number number) (cond b (x.number ∷ numbers_in class xs) (numbers_in class xs)) ≡ first_number (drop from xs)
      by true more = ap (λ t. cond t (Some x.number) (find (λ number. leb e.number number) (numbers_in class xs))) (lt-leb e.number x.number before) ∙ more
      by false more = more

  none_later : (start : ℕ) (es : List Numbered) → first_number es ≡ None → among start es ≡ None
  none_later start [] none = refl
  none_later start (e ∷ es) none = by (same_class class e.class) (none_later (start + 1) es) none
    where
      by : (b : Bool) → (first_number es ≡ None → among (start + 1) es ≡ None) → cond b (Some e.number) (first_number es) ≡ None → cond b (Some start) (among (start + 1) es) ≡ None
      by true more none = absurd (none-some e.number (sym none))
      by false more none = more none

  -- where the first of the class stands
  abbrev Stands : ℕ → ℕ → List Numbered → Type 0
  Stands start number es = (k : ℕ) × (e : Numbered) × (slice_get es k ≡ Some e) × (e.number ≡ number) × (among start es ≡ Some (start + k))

  stands : (start number : ℕ) (es : List Numbered) → first_number es ≡ Some number → Stands start number es
  stands start number [] found = absurd (none-some number found)
  stands start number (e ∷ es) found = by (same_class class e.class) refl (stands (start + 1) number es) found
    where
      by : (b : Bool) → same_class class e.class ≡ b → (first_number es ≡ Some number → Stands (start + 1) number es) → cond b (Some e.number) (first_number es) ≡ Some number → Stands start number (e ∷ es)
      by true is more found =
          let place : start ≡ start + 0 = omega arith in
          (0, e, refl, same_Some e.number number found, ap (λ b. cond b (Some start) (among (start + 1) es)) is ∙ ap Some place)
      by false is more found =
          let there = more found in
          let place : start + 1 + there.0 ≡ start + suc there.0 = omega arith in
          (suc there.0, there.1, there.2, there.3, ap (λ b. cond b (Some start) (among (start + 1) es)) is ∙ there.4 ∙ ap Some place)

  among-drop : (from : ℕ) (es : List Numbered) → next_among class from (map (λ e. e.class) es) ≡ among from (drop from es)
  among-drop from es = ap (position_from (same_class class) from) (drop-map (λ (e : Numbered). e.class) from es)

  pub no-next : (es : List Numbered) (from : ℕ) (e : Numbered) → IsAscending es → slice_get es from ≡ Some e → find (λ number. leb e.number number) (numbers_in class es) ≡ None → next_among class from (map (λ e. e.class) es) ≡ None
  no-next es from e up at none = among-drop from es ∙ none_later from (drop from es) (sym (next_number es from e up at) ∙ none)

  slice_get-drop : (n : ℕ) (xs : List Numbered) (k : ℕ) (x : Numbered) → slice_get (drop n xs) k ≡ Some x → slice_get xs (n + k) ≡ Some x
  slice_get-drop zero xs k x at = ap (slice_get xs) (zero-add k) ∙ at
  slice_get-drop (suc n) [] k x at = absurd (none-some x at)
  slice_get-drop (suc n) (y ∷ ys) k x at =
      let next : suc n + k ≡ suc (n + k) = omega arith in
      ap (slice_get (y ∷ ys)) next ∙ slice_get-drop n ys k x at

  pub next-place : (es : List Numbered) (from number : ℕ) (e : Numbered) (r : Option ℕ) → IsAscending es → slice_get es from ≡ Some e → find (λ number. leb e.number number) (numbers_in class es) ≡ Some number
      → ((place : ℕ) (x : Numbered) → slice_get es place ≡ Some x → x.number ≡ number → r ≡ Some place) → r ≡ next_among class from (map (λ e. e.class) es)
  next-place es from number e r up at found place =
      let there = stands from number (drop from es) (sym (next_number es from e up at) ∙ found) in
      place (from + there.0) there.1 (slice_get-drop from es there.0 there.1 there.2) there.3 ∙ sym there.4 ∙ sym (among-drop from es)

  nothing-first : (es : List Numbered) → numbers_in class es ≡ [] → first_number es ≡ None
  nothing-first [] none = refl
  nothing-first (x ∷ xs) none = by (same_class class x.class) (nothing-first xs) none
    where
      by : (b : Bool) → (numbers_in class xs ≡ [] → first_number xs ≡ None) → cond b (x.number ∷ numbers_in class xs) (numbers_in class xs) ≡ [] → cond b (Some x.number) (first_number xs) ≡ None
      by true more none = absurd (omega (arith, ap length none))
      by false more none = more none

  nothing-more : (x : Numbered) (xs : List Numbered) → numbers_in class (x ∷ xs) ≡ [] → numbers_in class xs ≡ []
  nothing-more x xs = by (same_class class x.class)
    where
      by : (b : Bool) → cond b (x.number ∷ numbers_in class xs) (numbers_in class xs) ≡ [] → numbers_in class xs ≡ []
      by true none = absurd (omega (arith, ap length none))
      by false none = none

  nothing-after : (es : List Numbered) (n : ℕ) → numbers_in class es ≡ [] → first_number (drop n es) ≡ None
  nothing-after es zero none = nothing-first es none
  nothing-after [] (suc n) none = refl
  nothing-after (x ∷ xs) (suc n) none = nothing-after xs n (nothing-more x xs none)

  -- where no number is of the class, none of it comes after any place
  pub no-line : (es : List Numbered) (from : ℕ) → numbers_in class es ≡ [] → next_among class from (map (λ e. e.class) es) ≡ None
  no-line es from none = among-drop from es ∙ none_later from (drop from es) (nothing-after es from none)

  -- ---- one more, and one less

  added : (es : List Numbered) (e : Numbered) → numbers_in class (es ++ e ∷ []) ≡ cond (same_class class e.class) (numbers_in class es ++ e.number ∷ []) (numbers_in class es)
  added [] e = refl
  added (x ∷ xs) e = by (same_class class x.class) (same_class class e.class) (added xs e)
    where
      by : (b t : Bool) → numbers_in class (xs ++ e ∷ []) ≡ cond t (numbers_in class xs ++ e.number ∷ []) (numbers_in class xs)
          → cond b (x.number ∷ numbers_in class (xs ++ e ∷ [])) (numbers_in class (xs ++ e ∷ [])) ≡ cond t (cond b (x.number ∷ numbers_in class xs) (numbers_in class xs) ++ e.number ∷ []) (cond b (x.number ∷ numbers_in class xs) (numbers_in class xs))
      by true true more = ap (λ ns. x.number ∷ ns) more
      by true false more = ap (λ ns. x.number ∷ ns) more
      by false t more = more

  removed-other : (es : List Numbered) (i : ℕ) (e : Numbered) → slice_get es i ≡ Some e → same_class class e.class ≡ false → numbers_in class (remove es i) ≡ numbers_in class es
  removed-other [] i e at apart = absurd (none-some e at)
  removed-other (x ∷ xs) zero e at apart = sym (ap (λ b. cond b (x.number ∷ numbers_in class xs) (numbers_in class xs)) (ap (λ y. same_class class y.class) (same_Some x e at) ∙ apart))
  removed-other (x ∷ xs) (suc i) e at apart = by (same_class class x.class) (removed-other xs i e at apart)
    where
      by : (b : Bool) → numbers_in class (remove xs i) ≡ numbers_in class xs → cond b (x.number ∷ numbers_in class (remove xs i)) (numbers_in class (remove xs i)) ≡ cond b (x.number ∷ numbers_in class xs) (numbers_in class xs)
      by true more = ap (λ ns. x.number ∷ ns) more
      by false more = more

  -- its number stands in the line of its class, and goes out there
  abbrev Removed : List Numbered → ℕ → ℕ → List ℕ → List ℕ → Type 0
  Removed es i number line left = (k : ℕ) × (slice_get line k ≡ Some number) × (left ≡ remove line k)

  removed-here : (es : List Numbered) (i : ℕ) (e : Numbered) → slice_get es i ≡ Some e → same_class class e.class ≡ true → Removed es i e.number (numbers_in class es) (numbers_in class (remove es i))
  removed-here [] i e at is = absurd (none-some e at)
  removed-here (x ∷ xs) zero e at is =
      let same = same_Some x e at in
      let front : numbers_in class (x ∷ xs) ≡ x.number ∷ numbers_in class xs = ap (λ b. cond b (x.number ∷ numbers_in class xs) (numbers_in class xs)) (ap (λ y. same_class class y.class) same ∙ is) in
      (0, ap (λ ns. slice_get ns 0) front ∙ ap (λ y. Some (number_of y)) same, sym (ap (λ ns. remove ns 0) front))
  removed-here (x ∷ xs) (suc i) e at is = by (same_class class x.class) (removed-here xs i e at is)
    where
      by : (b : Bool) → Removed xs i e.number (numbers_in class xs) (numbers_in class (remove xs i))
          → Removed (x ∷ xs) (suc i) e.number (cond b (x.number ∷ numbers_in class xs) (numbers_in class xs)) (cond b (x.number ∷ numbers_in class (remove xs i)) (numbers_in class (remove xs i)))
      by true more = (suc more.0, more.1, ap (λ ns. x.number ∷ ns) more.2)
      by false more = more

pub map-remove : {X Y : Type 0} (f : X → Y) (xs : List X) (i : ℕ) → map f (remove xs i) ≡ remove (map f xs) i
map-remove f xs i =
    map-append f (take i xs) (drop (suc i) xs) ∙ ap (λ ys. ys ++ map f (drop (suc i) xs)) (sym (take-map f i xs)) ∙ ap (λ ys. take i (map f xs) ++ ys) (sym (drop-map f (suc i) xs))

-- ---- the tables after a change

module _ (es : List Numbered) (next : ℕ) (lines lines' : List (Class × VecDeque ℕ Global)) (is : IsIndex es next (line_in lines)) where
  pub index-pushed : (class : Class) (next' : ℕ) → next < next' → ChangesLine lines lines' class (line_in lines class ++ next ∷ []) → IsIndex (es ++ record { number = next; class = class } ∷ []) next' (line_in lines')
  index-pushed class next' more changes = record {
    ascending = all_pairs_push (λ a b. a.number < b.number) es e is.ascending (λ k d low. is.below k d low);
    below = All-push (λ x. x.number < next') es e (All-weaker (λ x. x.number < next) (λ x. x.number < next') (λ x low. omega arith) es is.below) more;
    lines = λ q. changes q ∙ by q (same_class class q) refl;
  }
    where
      e : Numbered
      e = record { number = next; class = class }

      by : (q : Class) (b : Bool) → same_class class q ≡ b → cond b (line_in lines class ++ next ∷ []) (line_in lines q) ≡ numbers_in q (es ++ record { number = next; class = class } ∷ [])
      by q true same =
          ap (λ ns. ns ++ next ∷ []) (is.lines class)
          ∙ sym (added class es (record { number = next; class = class }) ∙ ap (λ b. cond b (numbers_in class es ++ next ∷ []) (numbers_in class es)) (same_class-itself class))
          ∙ ap (λ c. numbers_in c (es ++ record { number = next; class = class } ∷ [])) (same_parts class q same)
      by q false apart =
          is.lines q
          ∙ sym (added q es (record { number = next; class = class }) ∙ ap (λ b. cond b (numbers_in q es ++ next ∷ []) (numbers_in q es)) (same_class-turned q class ∙ apart))

  pub index-removed : (place : ℕ) (e : Numbered) → slice_get es place ≡ Some e → ((at : ℕ) → slice_get (line_in lines e.class) at ≡ Some e.number → ChangesLine lines lines' e.class (remove (line_in lines e.class) at))
      → IsIndex (remove es place) next (line_in lines')
  index-removed place e at changes = record {
    ascending = all_pairs_remove (λ a b. a.number < b.number) es place (slice_get_within es place e at) is.ascending;
    below = All-append (λ x. x.number < next) (take place es) (drop (suc place) es) (All-take (λ x. x.number < next) place es is.below) (All-drop (λ x. x.number < next) (suc place) es is.below);
    lines = λ q. changes here.0 (ap (λ ns. slice_get ns here.0) (is.lines e.class) ∙ here.1) q ∙ by q (same_class e.class q) refl;
  }
    where
      here : Removed e.class es place e.number (numbers_in e.class es) (numbers_in e.class (remove es place))
      here = removed-here e.class es place e at (same_class-itself e.class)

      by : (q : Class) (b : Bool) → same_class e.class q ≡ b → cond b (remove (line_in lines e.class) here.0) (line_in lines q) ≡ numbers_in q (remove es place)
      by q true same = ap (λ ns. remove ns here.0) (is.lines e.class) ∙ sym here.2 ∙ ap (λ c. numbers_in c (remove es place)) (same_parts e.class q same)
      by q false apart = is.lines q ∙ sym (removed-other q es place e at (same_class-turned q e.class ∙ apart))
