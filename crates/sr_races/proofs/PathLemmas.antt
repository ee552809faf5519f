-- Two ways of which one goes on from where the other ends.
use Rattle.std.proofs.Common.{◌≡◌, ◌≢◌, ◌<◌, ◌⊎◌, inl, inr, ⊎_elim, ℕ, zero, suc, ◌≤◌, ◌+◌, ◌∙◌, List, [], ◌∷◌, ◌++◌, get_or, refl, ap, sym, subst, arith, length}
use Rattle.std.proofs.lemmas.Bool.{cases_eq}
use Rattle.std.specs.List.{cons_option}
use Rattle.std.specs.Prelude.{Contains, Option, Some, None, filter_map, option_to_list, slice_get}
use Rattle.sr_ask.specs.declared.entry.Seen.{Seen}
use Rattle.sr_value.specs.declared.shape.Sel.{Sel}
use Rattle.sr_races.specs.Accesses.{LeadsOn, cell_in}
use Rattle.sr_races.specs.declared.access.Access.{Access}

-- both have the same steps as far as both go
pub record AgreeSoFar (path other : List Sel) : Type 0 where
  pub at : (k : ℕ) → k < length path → k < length other → slice_get path k ≡ slice_get other k

along : (path rest : List Sel) (k : ℕ) → k < length path → slice_get path k ≡ slice_get (path ++ rest) k
along [] rest k short = absurd (omega arith)
along (sel ∷ path) rest zero short = refl
along (sel ∷ path) rest (suc k) short = along path rest k (omega arith)

pub agree : (path other : List Sel) → LeadsOn path other → AgreeSoFar path other
agree path other leads = record { at = λ k short _. subst (λ longer. slice_get path k ≡ slice_get longer k) leads.is (along path leads.rest k short) }

rest_agrees : (sel other : Sel) (path more : List Sel) → AgreeSoFar (sel ∷ path) (other ∷ more) → AgreeSoFar path more
rest_agrees sel other path more same = record { at = λ k short short'. same.at (suc k) (omega arith) (omega arith) }

one_more : (sel other : Sel) (path longer : List Sel) → Some sel ≡ Some other → LeadsOn path longer → LeadsOn (sel ∷ path) (other ∷ longer)
one_more sel other path longer first leads = let same : path ++ leads.rest ≡ longer = leads.is in record { rest = leads.rest; is = cc }

pub within : (path other : List Sel) → AgreeSoFar path other → LeadsOn path other ⊎ LeadsOn other path
within [] other same = inl (record { rest = other; is = refl })
within (sel ∷ path) [] same = inr (record { rest = sel ∷ path; is = refl })
within (sel ∷ path) (other ∷ more) same =
    let first : Some sel ≡ Some other = same.at 0 (omega arith) (omega arith) in
    let turned : Some other ≡ Some sel = cc in
    ⊎_elim (λ leads. inl (one_more sel other path more first leads)) (λ leads. inr (one_more other sel more path turned leads))
    (within path more (rest_agrees sel other path more same))

-- ---- as far as they were compared

pub differ : (path other : List Sel) (k : ℕ) → k < length path → k < length other → slice_get path k ≢ slice_get other k → LeadsOn path other ⊎ LeadsOn other path → ⊥
differ path other k short short' not leads =
    ⊎_elim (λ l. not ((agree path other l).at k short short')) (λ l. not (sym ((agree other path l).at k short' short))) leads

-- what an access reads is one more
pub cells-more : (xs : List Seen) (x : Seen) → filter_map cell_in (xs ++ x ∷ []) ≡ filter_map cell_in xs ++ option_to_list (cell_in x)
cells-more [] x = by (cell_in x)
  where
    by : (o : Option Access) → cons_option o [] ≡ option_to_list o
    by None = refl
    by (Some a) = refl
cells-more (y ∷ ys) x = by (cells-more ys x) (cell_in y)
  where
    by : filter_map cell_in (ys ++ x ∷ []) ≡ filter_map cell_in ys ++ option_to_list (cell_in x) → (o : Option Access)
        → cons_option o (filter_map cell_in (ys ++ x ∷ [])) ≡ cons_option o (filter_map cell_in ys) ++ option_to_list (cell_in x)
    by more None = more
    by more (Some a) = ap (λ zs. a ∷ zs) more

-- ---- items of a slice

pub got-at : {A : Type 0} (xs : List A) (k : ℕ) (d : A) → k < length xs → slice_get xs k ≡ Some (get_or xs k d)
got-at [] k d less = absurd (omega arith)
got-at (x ∷ xs) zero d less = refl
got-at (x ∷ xs) (suc k) d less = got-at xs k d (omega arith)

pub agree-at : (path other : List Sel) (k : ℕ) (d e : Sel) → k < length path → k < length other → get_or path k d ≡ get_or other k e → slice_get path k ≡ slice_get other k
agree-at path other k d e short short' same = got-at path k d short ∙ ap Some same ∙ sym (got-at other k e short')

pub agreed-at : (path other : List Sel) (k : ℕ) (d e : Sel) → k < length path → k < length other → slice_get path k ≡ slice_get other k → get_or path k d ≡ get_or other k e
agreed-at path other k d e short short' same = let both : Some (get_or path k d) ≡ Some (get_or other k e) = sym (got-at path k d short) ∙ same ∙ got-at other k e short' in cc

-- what none of the items so far passes
unfoldable pub NoneOf : (Access → Type 0) → List Access → ℕ → Type 0
NoneOf P xs count = (k : ℕ) (x : Access) → k < count → slice_get xs k ≡ Some x → P x → ⊥

pub none-more : (P : Access → Type 0) (xs : List Access) (k : ℕ) (x : Access) → k < length xs → x ≡ get_or xs k x → NoneOf P xs k → (P x → ⊥) → NoneOf P xs (k + 1)
unfolding NoneOf
none-more P xs k x within is none not = λ m y less got passes. ⊎_elim (λ same. at m y same got passes) (λ other. none m y (omega arith) got passes) (cases_eq m k)
  where
    at : (m : ℕ) (y : Access) → m ≡ k → slice_get xs m ≡ Some y → P y → ⊥
    at m y same got passes =
        let both : Some y ≡ Some x = sym got ∙ ap (slice_get xs) same ∙ got-at xs k x within ∙ ap Some (sym is) in
        let one : y ≡ x = cc in
        not (subst P one passes)

pub none-yet : (P : Access → Type 0) (xs : List Access) → NoneOf P xs 0
unfolding NoneOf
none-yet P xs = λ k x less. absurd (omega arith)

pub none-at-all : (P : Access → Type 0) (xs : List Access) (count : ℕ) → NoneOf P xs count → length xs ≤ count → (x : Access) → Contains xs x → P x → ⊥
unfolding NoneOf
none-at-all P xs count none all x (k, less, is) passes = none k x (omega arith) (got-at xs k x less ∙ ap Some is) passes

pub among-at : (xs : List Access) (k : ℕ) (x : Access) → k < length xs → x ≡ get_or xs k x → Contains xs x
among-at xs k x less is = (k, less, sym is)
