-- One owner more.
use Rattle.std.proofs.Common.{◌≡◌, ◌≢◌, ◌==◌, ◌||◌, ◌<◌, ◌+◌, ◌⊎◌, inl, inr, ⊎_elim, ℕ, Bool, true, false, not, cond, List, [], ◌∷◌, ◌++◌, Some, is_some, length, refl, ap, sym, ◌∙◌, subst, arith, eq-eqb, true≢false, length-append}
use Rattle.std.proofs.lemmas.Bool.{cases_eq, lt-ltb, ne_eqb}
use Rattle.std.specs.HashMap.{Updates}
use Rattle.std.specs.List.{list_any}
use Rattle.std.specs.Prelude.{filter, nat_eq, nat_lt}
use Rattle.sr_clock_rows.specs.Columns.{AreColumns, column_in, different, each_once}
use Rattle.sr_clock_rows.specs.declared.columns.Columns.{Columns}

-- ---- lists

filter-join : (t : ℕ → Bool) (xs ys : List ℕ) → filter t (xs ++ ys) ≡ filter t xs ++ filter t ys
filter-join t [] ys = refl
filter-join t (x ∷ xs) ys = by (filter-join t xs ys) (t x)
  where
    by : filter t (xs ++ ys) ≡ filter t xs ++ filter t ys → (b : Bool) → cond b (x ∷ filter t (xs ++ ys)) (filter t (xs ++ ys)) ≡ cond b (x ∷ filter t xs) (filter t xs) ++ filter t ys
    by more true = ap (λ zs. x ∷ zs) more
    by more false = more

any-join : (t : ℕ → Bool) (xs : List ℕ) (y : ℕ) → list_any t (xs ++ y ∷ []) ≡ (list_any t xs || t y)
any-join t [] y = by (t y)
  where
    by : (b : Bool) → (b || false) ≡ b
    by true = refl
    by false = refl
any-join t (x ∷ xs) y = by (any-join t xs y) (t x)
  where
    by : list_any t (xs ++ y ∷ []) ≡ (list_any t xs || t y) → (b : Bool) → (b || list_any t (xs ++ y ∷ [])) ≡ ((b || list_any t xs) || t y)
    by more true = refl
    by more false = more

abbrev among : ℕ → List ℕ → Bool
among y xs = list_any (λ x. x == y) xs

abbrev fresh : Bool → ℕ → List ℕ
fresh known y = cond known [] (y ∷ [])

-- a number is added once
once-more : (xs : List ℕ) (y : ℕ) → each_once (xs ++ y ∷ []) ≡ each_once xs ++ fresh (among y xs) y
once-more [] y = refl
once-more (x ∷ xs) y =
    ap (λ zs. x ∷ filter (λ z. not (z == x)) zs) (once-more xs y)
    ∙ ap (λ zs. x ∷ zs) (filter-join (λ z. not (z == x)) (each_once xs) (fresh (among y xs) y))
    ∙ ap (λ zs. x ∷ (filter (λ z. not (z == x)) (each_once xs) ++ zs)) (⊎_elim same other (cases_eq x y))
  where
    same : x ≡ y → filter (λ z. not (z == x)) (fresh (among y xs) y) ≡ fresh ((x == y) || among y xs) y
    same e = by (among y xs) ∙ ap (λ b. fresh (b || among y xs) y) (sym (eq-eqb x y e))
      where
        by : (b : Bool) → filter (λ z. not (z == x)) (fresh b y) ≡ []
        by true = refl
        by false = ap (λ b. cond (not b) (y ∷ []) []) (eq-eqb y x (sym e))

    other : x ≢ y → filter (λ z. not (z == x)) (fresh (among y xs) y) ≡ fresh ((x == y) || among y xs) y
    other ne = by (among y xs) ∙ ap (λ b. fresh (b || among y xs) y) (sym (ne_eqb x y ne))
      where
        by : (b : Bool) → filter (λ z. not (z == x)) (fresh b y) ≡ fresh b y
        by true = refl
        by false = ap (λ b. cond (not b) (y ∷ []) []) (ne_eqb y x (λ e. ne (sym e)))

abbrev counted : List ℕ → ℕ
counted xs = length (filter (nat_lt 0) xs)

different-more : (xs : List ℕ) (y : ℕ) → different (xs ++ y ∷ []) ≡ different xs + counted (fresh (among y xs) y)
different-more xs y =
    ap counted (once-more xs y) ∙ ap length (filter-join (nat_lt 0) (each_once xs) (fresh (among y xs) y)) ∙ length-append (filter (nat_lt 0) (each_once xs)) (filter (nat_lt 0) (fresh (among y xs) y))

-- 0 and a known number count for nothing
pub different-same : (xs : List ℕ) (y : ℕ) → (y ≡ 0) ⊎ (among y xs ≡ true) → different (xs ++ y ∷ []) ≡ different xs
different-same xs y why = different-more xs y ∙ ap (λ n. different xs + n) (⊎_elim nothing known why) ∙ omega arith
  where
    by : (b : Bool) → counted (fresh b 0) ≡ 0
    by true = refl
    by false = refl

    nothing : y ≡ 0 → counted (fresh (among y xs) y) ≡ 0
    nothing e = ap (λ n. counted (fresh (among y xs) n)) e ∙ by (among y xs)

    known : among y xs ≡ true → counted (fresh (among y xs) y) ≡ 0
    known is = ap (λ b. counted (fresh b y)) is

different-new : (xs : List ℕ) (y : ℕ) → 0 < y → among y xs ≡ false → different (xs ++ y ∷ []) ≡ different xs + 1
different-new xs y some new =
    different-more xs y ∙ ap (λ b. different xs + counted (fresh b y)) new ∙ ap (λ b. different xs + length (cond b (y ∷ []) [])) (lt-ltb 0 y some)

-- ---- columns

module _ (owners : List ℕ) (owner : ℕ) (old : Columns) (columns : AreColumns owners old) where
  among-more : (p : ℕ) → list_any (λ o. o == p) (owners ++ owner ∷ []) ≡ (list_any (λ o. o == p) owners || (owner == p))
  among-more p = any-join (λ o. o == p) owners owner

  -- 0, or one that has a column
  pub none-added : (owner ≡ 0) ⊎ (is_some (column_in old owner) ≡ true) → AreColumns (owners ++ owner ∷ []) old
  none-added why = record {
    places = columns.places;
    none = columns.none;
    among = λ p some. columns.among p some ∙ same p some ∙ sym (among-more p);
    width = columns.width ∙ sym (different-same owners owner (⊎_elim (λ e. inl e) known why));
  }
    where
      positive : is_some (column_in old owner) ≡ true → (owner ≡ 0) ⊎ (0 < owner)
      positive has = ⊎_elim (λ e. inl e) (λ ne. inr (omega arith)) (cases_eq owner 0)

      known : is_some (column_in old owner) ≡ true → (owner ≡ 0) ⊎ (among owner owners ≡ true)
      known has = ⊎_elim (λ e. inl e) (λ some. inr (sym (columns.among owner some) ∙ has)) (positive has)

      or-true : (a b : Bool) → a ≡ true → a ≡ (a || b)
      or-true true b is = refl
      or-true false b is = absurd (true≢false (sym is))

      or-false : (a b : Bool) → b ≡ false → a ≡ (a || b)
      or-false true b is = refl
      or-false false b is = sym is

      same : (p : ℕ) → 0 < p → list_any (λ o. o == p) owners ≡ (list_any (λ o. o == p) owners || (owner == p))
      same p some = ⊎_elim here there (cases_eq owner p)
        where
          here : owner ≡ p → list_any (λ o. o == p) owners ≡ (list_any (λ o. o == p) owners || (owner == p))
          here e = or-true (list_any (λ o. o == p) owners) (owner == p)
              (⊎_elim (λ zero-is. absurd (omega arith)) (λ has. sym (columns.among p some) ∙ subst (λ n. is_some (column_in old n) ≡ true) e has) why)

          there : owner ≢ p → list_any (λ o. o == p) owners ≡ (list_any (λ o. o == p) owners || (owner == p))
          there ne = or-false (list_any (λ o. o == p) owners) (owner == p) (ne_eqb owner p ne)

  -- one that has none gets the next column
  pub one-added : (new : Columns) → 0 < owner → is_some (column_in old owner) ≡ false → Updates nat_eq old.places new.places owner (Some old.width) → new.width ≡ old.width + 1
      → AreColumns (owners ++ owner ∷ []) new
  one-added new some absent updates wider = record {
    places = record { within = within; apart = apart };
    none = elsewhere 0 (λ e. omega arith) ∙ columns.none;
    among = among-now;
    width = wider ∙ ap (λ n. n + 1) columns.width ∙ sym (different-new owners owner some (sym (columns.among owner some) ∙ absent));
  }
    where
      elsewhere : (p : ℕ) → owner ≢ p → column_in new p ≡ column_in old p
      elsewhere p ne = updates.2 p (ne_eqb owner p ne)

      here : (p : ℕ) → owner ≡ p → column_in new p ≡ Some old.width
      here p e = subst (λ n. column_in new n ≡ Some old.width) e updates.1

      within : (p c : ℕ) → column_in new p ≡ Some c → c < new.width
      within p c is = ⊎_elim
          (λ e. let same : Some old.width ≡ Some c = sym (here p e) ∙ is in let c-is : old.width ≡ c = cc in omega arith)
          (λ ne. let before = columns.places.within p c (sym (elsewhere p ne) ∙ is) in omega arith)
          (cases_eq owner p)

      apart : (p q c : ℕ) → column_in new p ≡ Some c → column_in new q ≡ Some c → p ≡ q
      apart p q c is is' = ⊎_elim
          (λ e. ⊎_elim (λ e'. sym e ∙ e')
          (λ ne. absurd (
          let same : Some old.width ≡ Some c = sym (here p e) ∙ is in
          let c-is : old.width ≡ c = cc in
          let less = columns.places.within q c (sym (elsewhere q ne) ∙ is') in omega arith))
          (cases_eq owner q))
          (λ ne. ⊎_elim (λ e. absurd (
          let same : Some old.width ≡ Some c = sym (here q e) ∙ is' in
          let c-is : old.width ≡ c = cc in
          let less = columns.places.within p c (sym (elsewhere p ne) ∙ is) in omega arith))
          (λ ne'. columns.places.apart p q c (sym (elsewhere p ne) ∙ is) (sym (elsewhere q ne') ∙ is'))
          (cases_eq owner q))
          (cases_eq owner p)

      or-right : (a b : Bool) → b ≡ true → true ≡ (a || b)
      or-right true b is = refl
      or-right false b is = sym is

      or-none : (a b : Bool) → b ≡ false → a ≡ (a || b)
      or-none true b is = refl
      or-none false b is = sym is

      among-now : (p : ℕ) → 0 < p → is_some (column_in new p) ≡ list_any (λ o. o == p) (owners ++ owner ∷ [])
      among-now p positive = ⊎_elim
          (λ e. ap is_some (here p e) ∙ or-right (list_any (λ o. o == p) owners) (owner == p) (eq-eqb owner p e) ∙ sym (among-more p))
          (λ ne. ap is_some (elsewhere p ne) ∙ columns.among p positive ∙ or-none (list_any (λ o. o == p) owners) (owner == p) (ne_eqb owner p ne) ∙ sym (among-more p))
          (cases_eq owner p)
