-- One row more.
use Rattle.std.proofs.Common.{◌≡◌, ◌==◌, ◌<◌, ◌≤◌, ◌+◌, ◌⊎◌, inl, inr, ⊎_elim, ℕ, zero, suc, Bool, cond, replicate, List, [], ◌∷◌, ◌++◌, map, max, take, Option, Some, None, IsSome, length, get_or, set, refl, ap, sym, ◌∙◌, subst, arith, add-one, eq-eqb, length-append, length-set}
use Rattle.std.proofs.lemmas.Bool.{cases_eq, cases_lt, cases_order, ne_eqb}
use Rattle.std.proofs.lemmas.List.{get_or-set_same, get_or-set_other, get_or_past, take_more}
use Rattle.std.specs.Prelude.{OnOk, Result, Ok, Err, slice_get, slice_index, unwrap_or}
use Rattle.sr_clocks.specs.Clocks.{greatest}
use Rattle.sr_clock_rows.specs.Columns.{AreApart, column_in}
use Rattle.sr_clock_rows.specs.Rows.{AddsRow, IsGreatestRow, IsSound, IsWholeRow, count_at, count_in, count_of, item_count, made_by, made_in, own_of, with_one}
use Rattle.sr_clock_rows.specs.declared.clocks.Clocks.{Clocks}

-- ---- lists

pub greatest-push : (f : ℕ → ℕ) (xs : List ℕ) (y : ℕ) → greatest (map f (xs ++ y ∷ [])) ≡ max (greatest (map f xs)) (f y)
greatest-push f [] y = omega arith
greatest-push f (x ∷ xs) y = omega (arith, greatest-push f xs y)

pub greatest-most : (f : ℕ → ℕ) (xs : List ℕ) (most : ℕ) → ((x : ℕ) → f x ≤ most) → greatest (map f xs) ≤ most
greatest-most f [] most each = omega arith
greatest-most f (x ∷ xs) most each = omega (arith, each x, greatest-most f xs most each)

greatest-none : (f : ℕ → ℕ) (xs : List ℕ) → ((x : ℕ) → f x ≡ 0) → greatest (map f xs) ≡ 0
greatest-none f [] each = refl
greatest-none f (x ∷ xs) each = omega (arith, each x, greatest-none f xs each)

-- one origin more
pub greatest-more : (rows : List (List ℕ)) (origins : List ℕ) (index column old value : ℕ) → index < length origins
    → old ≡ greatest (map (λ i. count_at rows i column) (take index origins)) → value ≡ max old (count_at rows (get_or origins index 0) column)
    → value ≡ greatest (map (λ i. count_at rows i column) (take (index + 1) origins))
greatest-more rows origins index column old value within before is =
    is ∙ ap (λ n. max n (count_at rows (get_or origins index 0) column)) before ∙ sym (greatest-push (λ i. count_at rows i column) (take index origins) (get_or origins index 0))
    ∙ ap (λ xs. greatest (map (λ i. count_at rows i column) xs)) (sym (take_more origins index 0 within))

got-before : {A : Type 0} (xs : List A) (y : A) (i : ℕ) → i < length xs → slice_get (xs ++ y ∷ []) i ≡ slice_get xs i
got-before [] y i less = absurd (omega arith)
got-before (x ∷ xs) y zero less = refl
got-before (x ∷ xs) y (suc i) less = got-before xs y i (omega arith)

got-last : {A : Type 0} (xs : List A) (y : A) → slice_get (xs ++ y ∷ []) (length xs) ≡ Some y
got-last [] y = refl
got-last (x ∷ xs) y = got-last xs y

got-after : {A : Type 0} (xs : List A) (y : A) (i : ℕ) → length xs < i → slice_get (xs ++ y ∷ []) i ≡ None
got-after [] y zero more = absurd (omega arith)
got-after [] y (suc i) more = refl
got-after (x ∷ xs) y zero more = absurd (omega arith)
got-after (x ∷ xs) y (suc i) more = got-after xs y i (omega arith)

zero-row : (n k : ℕ) → slice_index (replicate n 0) k ≡ 0
zero-row zero k = refl
zero-row (suc n) zero = refl
zero-row (suc n) (suc k) = zero-row n k

abbrev zeros_of : ℕ → List ℕ
zeros_of n = replicate n 0

pub zeros-more : (n : ℕ) (row more : List ℕ) → row ≡ replicate n 0 → more ≡ row ++ 0 ∷ [] → more ≡ replicate (n + 1) 0
zeros-more n row more is next = next ∙ ap (λ r. r ++ 0 ∷ []) is ∙ by n ∙ ap zeros_of (sym (add-one n))
  where
    by : (n : ℕ) → zeros_of n ++ 0 ∷ [] ≡ zeros_of (suc n)
    by zero = refl
    by (suc n) = ap (λ zs. 0 ∷ zs) (by n)

pub zeros-length : (n : ℕ) (row : List ℕ) → row ≡ replicate n 0 → length row ≡ n
zeros-length n row is = ap length is ∙ by n
  where
    by : (n : ℕ) → length (zeros_of n) ≡ n
    by zero = refl
    by (suc n) = ap suc (by n)

pub zeros-none : (n : ℕ) (row : List ℕ) → row ≡ replicate n 0 → (k : ℕ) → slice_index row k ≡ 0
zeros-none n row is k = ap (λ r. slice_index r k) is ∙ zero-row n k

-- ---- one more in a column

abbrev bit : Bool → ℕ
bit b = cond b 1 0

abbrev pub one_at : Option ℕ → ℕ → ℕ
one_at None column = 0
one_at (Some place) column = cond (place == column) 1 0

with_one-length : (o : Option ℕ) (row : List ℕ) → length (with_one o row) ≡ length row
with_one-length None row = refl
with_one-length (Some place) row = length-set row place (slice_index row place + 1)

-- a place within the row
abbrev Fits : Option ℕ → List ℕ → Type 0
Fits None row = Unit {0}
Fits (Some place) row = place < length row

with_one-at : (o : Option ℕ) (row : List ℕ) → Fits o row → (column : ℕ) → slice_index (with_one o row) column ≡ slice_index row column + one_at o column
with_one-at None row fits column = omega arith
with_one-at (Some place) row fits column = ⊎_elim
    (λ e. let here : slice_index (set row place (slice_index row place + 1)) place ≡ slice_index row place + 1 = get_or-set_same row place (slice_index row place + 1) 0 fits in
    subst (λ c. slice_index (set row place (slice_index row place + 1)) c ≡ slice_index row c + cond (place == c) 1 0) e (here ∙ ap (λ b. slice_index row place + bit b) (sym (eq-eqb place place refl))))
    (λ ne. let there : slice_index (set row place (slice_index row place + 1)) column ≡ slice_index row column = get_or-set_other row place column (slice_index row place + 1) 0 (λ e. ne (sym e)) in
    let none = ap bit (ne_eqb place column ne) in omega (arith, there, none))
    (cases_eq place column)

one_at-most : (o : Option ℕ) (column : ℕ) → one_at o column ≤ 1
one_at-most None column = omega arith
one_at-most (Some place) column = ⊎_elim (λ e. let one = ap bit (eq-eqb place column e) in omega (arith, one)) (λ ne. let none = ap bit (ne_eqb place column ne) in omega (arith, none)) (cases_eq place column)

-- ---- a row is added

module _ (owner : ℕ) (old new : Clocks) (sound : IsSound old) (row : List ℕ) (same : new.columns ≡ old.columns) (made : new.made ≡ with_one (column_in old.columns owner) old.made)
    (rows : new.rows ≡ old.rows ++ row ∷ []) (known : 0 < owner → IsSome (column_in old.columns owner)) where
  pub fits-in : (o : Option ℕ) (xs : List ℕ) → column_in old.columns owner ≡ o → length xs ≡ old.columns.width → Fits o xs
  fits-in None xs is wide = tt
  fits-in (Some place) xs is wide = let within = sound.places.within owner place is in omega arith

  items-more : item_count new ≡ item_count old + 1
  items-more = ap length rows ∙ length-append old.rows (row ∷ [])

  at-before : (i column : ℕ) → i < item_count old → count_at new.rows i column ≡ count_at old.rows i column
  at-before i column less = ap (λ all. count_at all i column) rows ∙ ap (λ o. slice_index (unwrap_or o []) column) (got-before old.rows row i less)

  at-last : (column : ℕ) → count_at new.rows (item_count old) column ≡ slice_index row column
  at-last column = ap (λ all. count_at all (item_count old) column) rows ∙ ap (λ o. slice_index (unwrap_or o []) column) (got-last old.rows row)

  made-at : (column : ℕ) → slice_index new.made column ≡ slice_index old.made column + one_at (column_in old.columns owner) column
  made-at column = ap (λ m. slice_index m column) made ∙ with_one-at (column_in old.columns owner) old.made (fits-in (column_in old.columns owner) old.made refl sound.made_wide) column

  -- the owner's column is its own
  own-at : (o : Option ℕ) → column_in old.columns owner ≡ o → (p column : ℕ) → 0 < p → column_in old.columns p ≡ Some column → one_at o column ≡ own_of owner p
  own-at None is p column some here = ap bit (sym (ne_eqb owner p (λ e. absurd (let no : None ≡ Some column = sym is ∙ ap (column_in old.columns) e ∙ here in cc))))
  own-at (Some place) is p column some here = ⊎_elim
      (λ e. let p-is : owner ≡ p = sound.places.apart owner p column (is ∙ ap Some e) here in ap bit (eq-eqb place column e) ∙ ap bit (sym (eq-eqb owner p p-is)))
      (λ ne. ap bit (ne_eqb place column ne)
      ∙ ap bit (sym (ne_eqb owner p (λ e. ne (let same-column : Some place ≡ Some column = sym is ∙ ap (column_in old.columns) e ∙ here in cc)))))
      (cases_eq place column)

  -- one without a column isn't the owner
  own-none : (p : ℕ) → 0 < p → column_in old.columns p ≡ None → own_of owner p ≡ 0
  own-none p some none = ap bit (ne_eqb owner p (λ e. absurd (is-none (column_in old.columns owner) (ap (column_in old.columns) e ∙ none) (known (omega arith)))))
    where
      is-none : (o : Option ℕ) → o ≡ None → IsSome o → ⊥
      is-none None e is = absurd (cc)
      is-none (Some x) e is = absurd (cc)

  count-same : (i p : ℕ) → i < item_count old → count_of new i p ≡ count_of old i p
  count-same i p less = ap (λ columns. count_in new.rows i (column_in columns p)) same ∙ by (column_in old.columns p)
    where
      by : (o : Option ℕ) → count_in new.rows i o ≡ count_in old.rows i o
      by None = refl
      by (Some column) = at-before i column less

  made-more : (p : ℕ) → 0 < p → made_by new p ≡ made_by old p + own_of owner p
  made-more p some = ap (λ columns. made_in new.made (column_in columns p)) same ∙ by (column_in old.columns p) refl
    where
      by : (o : Option ℕ) → column_in old.columns p ≡ o → made_in new.made o ≡ made_in old.made o + own_of owner p
      by None is = let none = own-none p some is in omega (arith, none)
      by (Some column) is = made-at column ∙ ap (λ n. slice_index old.made column + n) (own-at (column_in old.columns owner) refl p column some is)

  pub adds-row : AddsRow owner old new
  adds-row = record { items = items-more; columns = same; rows = count-same; made = made-more }

  -- its row is as long as there are columns, and has no more than there are items
  pub still-sound : length row ≡ old.columns.width → ((column : ℕ) → slice_index row column ≤ item_count old + 1) → IsSound new
  still-sound wide small = record {
    places = subst (λ columns. AreApart columns) (sym same) sound.places;
    wide = λ i xs is. wide-at i xs (sym (ap (λ all. slice_get all i) rows) ∙ is) ∙ sym (ap (λ columns. columns.width) same);
    small = λ i column. small-at i column (cases_order i (item_count old));
    made_wide = ap length made ∙ with_one-length (column_in old.columns owner) old.made ∙ sound.made_wide ∙ sym (ap (λ columns. columns.width) same);
    made_small = λ column. omega (arith, made-at column, sound.made_small column, one_at-most (column_in old.columns owner) column, items-more);
  }
    where
      small-at : (i column : ℕ) → (i ≡ item_count old) ⊎ ((i < item_count old) ⊎ (item_count old < i)) → count_at new.rows i column ≤ item_count new
      small-at i column (inl e) = subst (λ k. count_at new.rows k column ≤ item_count new) (sym e) (omega (arith, at-last column, small column, items-more))
      small-at i column (inr (inl less)) = omega (arith, at-before i column less, sound.small i column, items-more)
      small-at i column (inr (inr more)) =
          let none : count_at new.rows i column ≡ 0 = ap (λ all. count_at all i column) rows ∙ ap (λ o. slice_index (unwrap_or o []) column) (got-after old.rows row i more) in omega (arith, none)

      wide-at : (i : ℕ) (xs : List ℕ) → slice_get (old.rows ++ row ∷ []) i ≡ Some xs → length xs ≡ old.columns.width
      wide-at i xs is = by (cases_order i (item_count old))
        where
          by : (i ≡ item_count old) ⊎ ((i < item_count old) ⊎ (item_count old < i)) → length xs ≡ old.columns.width
          by (inl e) = let last : Some row ≡ Some xs = sym (got-last old.rows row) ∙ subst (λ k. slice_get (old.rows ++ row ∷ []) k ≡ Some xs) e is in let row-is : row ≡ xs = cc in sym (ap length row-is) ∙ wide
          by (inr (inl less)) = sound.wide i xs (sym (got-before old.rows row i less) ∙ is)
          by (inr (inr more)) = absurd (let no : None ≡ Some xs = sym (got-after old.rows row i more) ∙ is in cc)

  -- its row has how many items each process made
  pub whole-row : row ≡ new.made → IsWholeRow old new
  whole-row is p some = by (column_in new.columns p)
    where
      by : (o : Option ℕ) → count_in new.rows (item_count old) o ≡ made_in new.made o
      by None = refl
      by (Some column) = at-last column ∙ ap (λ m. slice_index m column) is

  -- its row has the greatest of some rows, and one more for its own process
  pub greatest-row : (origins : List ℕ) → ((column : ℕ) → slice_index row column ≡ greatest (map (λ i. count_at old.rows i column) origins) + one_at (column_in old.columns owner) column)
      → IsGreatestRow origins owner old new
  greatest-row origins is p some = ap (λ columns. count_in new.rows (item_count old) (column_in columns p)) same ∙ by (column_in old.columns p) refl
    where
      by : (o : Option ℕ) → column_in old.columns p ≡ o → count_in new.rows (item_count old) o ≡ greatest (map (λ i. count_in old.rows i o) origins) + own_of owner p
      by None absent =
          let none = own-none p some absent in
          let nothing : greatest (map (λ i. count_in old.rows i None) origins) ≡ 0 = greatest-none (λ i. 0) origins (λ x. refl) in
          omega (arith, none, nothing)
      by (Some column) here = at-last column ∙ is column ∙ ap (λ n. greatest (map (λ i. count_at old.rows i column) origins) + n) (own-at (column_in old.columns owner) refl p column some here)

-- a row with one more in its owner's column
pub one-more-at : (owner : ℕ) (old : Clocks) → IsSound old → (row : List ℕ) → length row ≡ old.columns.width → (column : ℕ)
    → slice_index (with_one (column_in old.columns owner) row) column ≡ slice_index row column + one_at (column_in old.columns owner) column
one-more-at owner old sound row wide column = with_one-at (column_in old.columns owner) row (fits (column_in old.columns owner) refl) column
  where
    fits : (o : Option ℕ) → column_in old.columns owner ≡ o → Fits o row
    fits None is = tt
    fits (Some place) is = let within = sound.places.within owner place is in omega arith

pub one-more-length : (owner : ℕ) (old : Clocks) (row : List ℕ) → length (with_one (column_in old.columns owner) row) ≡ length row
one-more-length owner old row = with_one-length (column_in old.columns owner) row

pub one-more-small : (owner : ℕ) (old : Clocks) → IsSound old → (row : List ℕ) → length row ≡ old.columns.width → (most : ℕ) → ((column : ℕ) → slice_index row column ≤ most) → (column : ℕ)
    → slice_index (with_one (column_in old.columns owner) row) column ≤ most + 1
one-more-small owner old sound row wide most small column = omega (arith, one-more-at owner old sound row wide column, small column, one_at-most (column_in old.columns owner) column)

-- ---- one row raised to another

-- the first places, so many, have the greater of both
pub record IsRaised (old other : List ℕ) (place : ℕ) (row : List ℕ) : Type 0 where
  pub length : length row ≡ length old
  pub done : (k : ℕ) → k < place → slice_index row k ≡ max (slice_index old k) (slice_index other k)
  pub rest : (k : ℕ) → place ≤ k → slice_index row k ≡ slice_index old k

pub raised-none : (old other : List ℕ) → IsRaised old other 0 old
raised-none old other = record { length = refl; done = λ k less. absurd (omega arith); rest = λ k more. refl }

pub raised-set : (old other row : List ℕ) (place count : ℕ) → IsRaised old other place row → place < length row → count ≡ slice_index other place → slice_index row place < count
    → IsRaised old other (place + 1) (set row place count)
raised-set old other row place count raised within is more = record {
  length = length-set row place count ∙ raised.length;
  done = λ k less. ⊎_elim
      (λ e. subst (λ n. slice_index (set row place count) n ≡ max (slice_index old n) (slice_index other n)) (sym e)
      (let here : slice_index (set row place count) place ≡ count = get_or-set_same row place count 0 within in omega (arith, here, raised.rest place (omega arith))))
      (λ ne. let there : slice_index (set row place count) k ≡ slice_index row k = get_or-set_other row place k count 0 ne in omega (arith, there, raised.done k (omega arith)))
      (cases_eq k place);
  rest = λ k more. let there : slice_index (set row place count) k ≡ slice_index row k = get_or-set_other row place k count 0 (λ e. omega arith) in omega (arith, there, raised.rest k (omega arith));
}

pub raised-kept : (old other row : List ℕ) (place count : ℕ) → IsRaised old other place row → count ≡ slice_index other place → count ≤ slice_index row place → IsRaised old other (place + 1) row
raised-kept old other row place count raised is less = record {
  length = raised.length;
  done = λ k short. ⊎_elim
      (λ e. subst (λ n. slice_index row n ≡ max (slice_index old n) (slice_index other n)) (sym e) (omega (arith, raised.rest place (omega arith))))
      (λ ne. raised.done k (omega arith)) (cases_eq k place);
  rest = λ k more. raised.rest k (omega arith);
}

-- all places were raised
pub raised-all : (old other row : List ℕ) (place : ℕ) → IsRaised old other place row → length old ≡ length other → place ≡ length other → (k : ℕ) → slice_index row k ≡ max (slice_index old k) (slice_index other k)
raised-all old other row place raised wide is k = ⊎_elim (λ less. raised.done k less)
    (λ more. let none : slice_index old k ≡ 0 = get_or_past old k 0 (omega arith) in let none' : slice_index other k ≡ 0 = get_or_past other k 0 (omega arith) in omega (arith, raised.rest k more, none, none'))
    (cases_lt k place)

-- ---- what a call that may fail leaves

pub on_ok : {B E : Type 0} {P Q : Type 0} (r : Result B E) → (P → Q) → OnOk r P → OnOk r Q
on_ok (Ok b) f h = f h
on_ok (Err e) f h = h

pub on_both : {B E : Type 0} {P Q R : Type 0} (r : Result B E) → (P → Q → R) → OnOk r P → OnOk r Q → OnOk r R
on_both (Ok b) f h k = f h k
on_both (Err e) f h k = h
