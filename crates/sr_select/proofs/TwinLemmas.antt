-- The choices from two queues that have the same invocations of a statement's operations.
use Rattle.std.proofs.Common.{◌≡◌, ℕ, zero, suc, ◌+◌, Bool, true, false, List, [], ◌∷◌, ◌++◌, drop, map, refl, ap, sym, subst, ◌∙◌, arith, cond, true≢false, ℤ}
use Rattle.std.specs.Prelude.{Option, Some, None, Result, Ok, Err, slice_get, filter, filter_map, int_lt, ◌||◌}
use Rattle.std.specs.List.{cons_option, enumerate_from}
use Rattle.std.proofs.lemmas.Bool.{or_right as or-right, or_parts as or-none}
use Rattle.sr_value.specs.declared.capability.Owner.{Owner}
use Rattle.sr_value.specs.declared.fault.Fault.{Fault}
use Rattle.sr_value.specs.declared.value.Value.{Value}
use Rattle.sr_core.specs.Formals.{first_of}
use Rattle.sr_core.specs.declared.expression.Expr.{Expr}
use Rattle.sr_core.specs.declared.site.Arm.{Arm}
use Rattle.sr_queue.specs.declared.pending.Pending.{Pending}
use Rattle.sr_queue.specs.Queues.{is_of}
use Rattle.sr_select.specs.declared.choice.Choice.{Choice}
use Rattle.sr_select.specs.declared.choice.Choice.TheVariants.{Service, Else, Nothing, Bad}
use Rattle.sr_select.specs.declared.least.Keyed.{Keyed}
use Rattle.sr_select.specs.Choices.{Pair, Seeing, by_key, choice_among, fault_in, fixed, invocations_from, is_not_false, key_fault, key_with, keyed, keys_of, least, lesser, otherwise, pairs, pairs_of, passes_with, serviced}
use Rattle.sr_select.specs.Laws.{is_named}
use Rattle.sr_select.specs.Looks.{result_of}
use Rattle.sr_select.proofs.ChoiceLemmas.{choice-append-none, choice-append-some, choice-skip, choice-take}

-- ---- lists

head-same : {A : Type 0} (x y : A) (xs ys : List A) → x ∷ xs ≡ y ∷ ys → x ≡ y
head-same x y xs ys e = cc e

tail-same : {A : Type 0} (x y : A) (xs ys : List A) → x ∷ xs ≡ y ∷ ys → xs ≡ ys
tail-same x y xs ys e = cc e

get-at : {A : Type 0} (at : ℕ) (xs : List A) (x : A) (rest : List A) → drop at xs ≡ x ∷ rest → slice_get xs at ≡ Some x
get-at zero [] x rest e = absurd (cc e)
get-at zero (y ∷ ys) x rest e = ap Some (head-same y x ys rest e)
get-at (suc at) [] x rest e = absurd (cc e)
get-at (suc at) (y ∷ ys) x rest e = get-at at ys x rest e

drop-suc : {A : Type 0} (at : ℕ) (xs : List A) (x : A) (rest : List A) → drop at xs ≡ x ∷ rest → drop (suc at) xs ≡ rest
drop-suc zero [] x rest e = absurd (cc e)
drop-suc zero (y ∷ ys) x rest e = tail-same y x ys rest e
drop-suc (suc at) [] x rest e = absurd (cc e)
drop-suc (suc at) (y ∷ ys) x rest e = drop-suc at ys x rest e

drop-after : {A : Type 0} (at : ℕ) (xs : List A) (x : A) (rest : List A) → drop at xs ≡ x ∷ rest → drop (at + 1) xs ≡ rest
drop-after at xs x rest e = let next : at + 1 ≡ suc at = omega arith in ap (λ n. drop n xs) next ∙ drop-suc at xs x rest e

-- ---- invocations with their places

-- an invocation and its place in each of two queues
pub record Twin : Type 0 where
  pub here : ℕ
  pub there : ℕ
  pub invocation : Pending

abbrev pub left : Twin → ℕ × Pending
left t = (t.here, t.invocation)

abbrev pub right : Twin → ℕ × Pending
right t = (t.there, t.invocation)

abbrev pub twins : List (ℕ × Pending) → List (ℕ × Pending) → List Twin
twins [] ys = []
twins (x ∷ xs) [] = []
twins (x ∷ xs) (y ∷ ys) = record { here = x.0; there = y.0; invocation = x.1 } ∷ twins xs ys

abbrev pub alone : List (ℕ × Pending) → List Pending
alone xs = map (λ (x : ℕ × Pending). x.1) xs

pub twins-left : (xs ys : List (ℕ × Pending)) → alone xs ≡ alone ys → map left (twins xs ys) ≡ xs
twins-left [] ys e = refl
twins-left (x ∷ xs) [] e = absurd (cc e)
twins-left (x ∷ xs) (y ∷ ys) e = ap (λ (l : List (ℕ × Pending)). x ∷ l) (twins-left xs ys (tail-same x.1 y.1 (alone xs) (alone ys) e))

pub twins-right : (xs ys : List (ℕ × Pending)) → alone xs ≡ alone ys → map right (twins xs ys) ≡ ys
twins-right [] [] e = refl
twins-right [] (y ∷ ys) e = absurd (cc e)
twins-right (x ∷ xs) [] e = absurd (cc e)
twins-right (x ∷ xs) (y ∷ ys) e =
    ap (λ (l : List (ℕ × Pending)). (y.0, x.1) ∷ l) (twins-right xs ys (tail-same x.1 y.1 (alone xs) (alone ys) e))
    ∙ ap (λ (p : Pending). (y.0, p) ∷ ys) (head-same x.1 y.1 (alone xs) (alone ys) e)

module _ (owner : Owner) (arms : List Arm) where
  abbrev pub Of : Arm → (ℕ × Pending) → Bool
  Of arm x = is_of owner arm.op x.1

  abbrev pub Is_named : (ℕ × Pending) → Bool
  Is_named x = is_named owner arms x.1

  pub named-by : (some : List Arm) (number : ℕ) (arm : Arm) (p : Pending) → slice_get some number ≡ Some arm → is_of owner arm.op p ≡ true → is_named owner some p ≡ true
  named-by [] number arm p found one = absurd (cc found)
  named-by (first ∷ some) zero arm p found one =
      let same : arm ≡ first = cc found in
      ap (λ b. b || is_named owner some p) (subst (λ (a : Arm). is_of owner a.op p ≡ true) same one)
  named-by (first ∷ some) (suc number) arm p found one = or-right (is_of owner first.op p) (is_named owner some p) (named-by some number arm p found one)

  -- of an arm's operation there are as many among those that are named as among all
  named-step : (number : ℕ) (arm : Arm) (x : ℕ × Pending) (xs : List (ℕ × Pending)) (b c : Bool) → slice_get arms number ≡ Some arm → Is_named x ≡ b → Of arm x ≡ c
      → filter (Of arm) (filter Is_named xs) ≡ filter (Of arm) xs → filter (Of arm) (filter Is_named (x ∷ xs)) ≡ filter (Of arm) (x ∷ xs)
  named-step number arm x xs true c found is one later =
      ap (λ t. filter (Of arm) (cond t (x ∷ filter Is_named xs) (filter Is_named xs))) is
      ∙ ap (λ (l : List (ℕ × Pending)). cond (Of arm x) (x ∷ l) l) later
  named-step number arm x xs false true found is one later = absurd (true≢false (sym (named-by arms number arm x.1 found one) ∙ is))
  named-step number arm x xs false false found is one later =
      ap (λ t. filter (Of arm) (cond t (x ∷ filter Is_named xs) (filter Is_named xs))) is
      ∙ later ∙ sym (ap (λ t. cond t (x ∷ filter (Of arm) xs) (filter (Of arm) xs)) one)

  pub among-named : (number : ℕ) (arm : Arm) (xs : List (ℕ × Pending)) → slice_get arms number ≡ Some arm → filter (Of arm) (filter Is_named xs) ≡ filter (Of arm) xs
  among-named number arm [] found = refl
  among-named number arm (x ∷ xs) found = named-step number arm x xs (Is_named x) (Of arm x) found refl refl (among-named number arm xs found)

  alone-step : (b : Bool) (place : ℕ) (p : Pending) (xs : List (ℕ × Pending)) (ps : List Pending) → alone xs ≡ ps → alone (cond b ((place, p) ∷ xs) xs) ≡ cond b (p ∷ ps) ps
  alone-step true place p xs ps e = ap (λ (l : List Pending). p ∷ l) e
  alone-step false place p xs ps e = e

  pub alone-named : (place : ℕ) (items : List Pending) → alone (filter Is_named (enumerate_from place items)) ≡ filter (is_named owner arms) items
  alone-named place [] = refl
  alone-named place (p ∷ items) =
      alone-step (is_named owner arms p) place p (filter Is_named (enumerate_from (place + 1) items)) (filter (is_named owner arms) items) (alone-named (place + 1) items)

  -- an invocation that no arm names is in no pair
  unnamed-step : (place number : ℕ) (p : Pending) (arm : Arm) (some : List Arm) → is_of owner arm.op p ≡ false → pairs_of owner (enumerate_from (number + 1) some) (place, p) ≡ []
      → pairs_of owner (enumerate_from number (arm ∷ some)) (place, p) ≡ []
  unnamed-step place number p arm some other later =
      ap (λ t. cons_option (cond t (Some (record { place = place; invocation = p; number = number; arm = arm })) None) (pairs_of owner (enumerate_from (number + 1) some) (place, p))) other ∙ later

  pub unnamed-pairs : (place number : ℕ) (p : Pending) (some : List Arm) → is_named owner some p ≡ false → pairs_of owner (enumerate_from number some) (place, p) ≡ []
  unnamed-pairs place number p [] other = refl
  unnamed-pairs place number p (arm ∷ some) other =
      let parts = or-none (is_of owner arm.op p) (is_named owner some p) other in
      unnamed-step place number p arm some parts.0 (unnamed-pairs place (number + 1) p some parts.1)

  pairs-step : (b : Bool) (x : ℕ × Pending) (xs : List (ℕ × Pending)) → Is_named x ≡ b → pairs owner (enumerate_from 0 arms) xs ≡ pairs owner (enumerate_from 0 arms) (filter Is_named xs)
      → pairs owner (enumerate_from 0 arms) (x ∷ xs) ≡ pairs owner (enumerate_from 0 arms) (cond b (x ∷ filter Is_named xs) (filter Is_named xs))
  pairs-step true x xs is later = ap (λ (l : List Pair). pairs_of owner (enumerate_from 0 arms) x ++ l) later
  pairs-step false x xs is later = ap (λ (l : List Pair). l ++ pairs owner (enumerate_from 0 arms) xs) (unnamed-pairs x.0 0 x.1 arms is) ∙ later

  pub pairs-named : (xs : List (ℕ × Pending)) → pairs owner (enumerate_from 0 arms) xs ≡ pairs owner (enumerate_from 0 arms) (filter Is_named xs)
  pairs-named [] = refl
  pairs-named (x ∷ xs) = pairs-step (Is_named x) x xs refl (pairs-named xs)

-- each invocation stands at its place, and the list has those of an arm's operation from there on
abbrev pub Placed : Owner → List Arm → List Pending → List (ℕ × Pending) → Type 0
Placed owner arms items [] = Unit {0}
Placed owner arms items (x ∷ xs) =
    (slice_get items x.0 ≡ Some x.1)
    × ((number : ℕ) (arm : Arm) → slice_get arms number ≡ Some arm → invocations_from owner arm x.0 items ≡ filter (λ (y : ℕ × Pending). is_of owner arm.op y.1) (x ∷ xs))
    × Placed owner arms items xs

module _ (owner : Owner) (arms : List Arm) (items : List Pending) where
  abbrev Rest : ℕ → List Pending → List (ℕ × Pending)
  Rest place ps = filter (Is_named owner arms) (enumerate_from place ps)

  placed-by : (b : Bool) (place : ℕ) (p : Pending) (ps : List Pending) → drop place items ≡ p ∷ ps → Placed owner arms items (Rest (place + 1) ps)
      → Placed owner arms items (cond b ((place, p) ∷ Rest (place + 1) ps) (Rest (place + 1) ps))
  placed-by true place p ps e later = (
    get-at place items p ps e,
    λ number arm found.
        ap (λ (l : List Pending). filter (Of owner arms arm) (enumerate_from place l)) e
        ∙ ap (λ (l : List (ℕ × Pending)). cond (is_of owner arm.op p) ((place, p) ∷ l) l) (sym (among-named owner arms number arm (enumerate_from (place + 1) ps) found)),
    later,
  )
  placed-by false place p ps e later = later

  pub placed : (place : ℕ) (ps : List Pending) → drop place items ≡ ps → Placed owner arms items (Rest place ps)
  placed place [] e = tt
  placed place (p ∷ ps) e = placed-by (is_named owner arms p) place p ps e (placed (place + 1) ps (drop-after place items p ps e))

-- ---- the same choice

-- an arm services an invocation that stands at a place of each queue
pub record ServesBoth (owner : Owner) (arms : List Arm) (items items' : List Pending) (here there number : ℕ) : Type 0 where
  pub invocation : Pending
  pub arm : Arm
  pub is_here : slice_get items here ≡ Some invocation
  pub is_there : slice_get items' there ≡ Some invocation
  pub is_arm : slice_get arms number ≡ Some arm
  pub fits : is_of owner arm.op invocation ≡ true

abbrev pub SameChoice : Owner → List Arm → List Pending → List Pending → Choice → Choice → Type 0
SameChoice owner arms items items' (Service here number) (Service there number') = (number ≡ number') × ServesBoth owner arms items items' here there number
SameChoice owner arms items items' Else Else = Unit {0}
SameChoice owner arms items items' Nothing Nothing = Unit {0}
SameChoice owner arms items items' (Bad found number) (Bad found' number') = (found ≡ found') × (number ≡ number')
SameChoice owner arms items items' _ _ = ⊥

abbrev pub SameOption : Owner → List Arm → List Pending → List Pending → Option Choice → Option Choice → Type 0
SameOption owner arms items items' None None = Unit {0}
SameOption owner arms items items' (Some c) (Some c') = SameChoice owner arms items items' c c'
SameOption owner arms items items' _ _ = ⊥

abbrev pub SameKeyed : Owner → List Arm → List Pending → List Pending → ℕ → Option Keyed → Option Keyed → Type 0
SameKeyed owner arms items items' number None None = Unit {0}
SameKeyed owner arms items items' number (Some x) (Some x') = (x.key ≡ x'.key) × ServesBoth owner arms items items' x.place x'.place number
SameKeyed owner arms items items' number _ _ = ⊥

module _ (owner : Owner) (arms : List Arm) (items items' : List Pending) where
  abbrev Serves : ℕ → ℕ → ℕ → Type 0
  Serves here there number = ServesBoth owner arms items items' here there number

  abbrev Keys : ℕ → Option Keyed → Option Keyed → Type 0
  Keys number best best' = SameKeyed owner arms items items' number best best'

  abbrev Options : Option Choice → Option Choice → Type 0
  Options c c' = SameOption owner arms items items' c c'

  along : (c d c' d' : Option Choice) → c ≡ d → c' ≡ d' → Options d d' → Options c c'
  along c d c' d' e e' same = subst (λ (x : Option Choice). Options x c') (sym e) (subst (λ (x : Option Choice). Options d x) (sym e') same)

  keyed-choose : (b : Bool) (number : ℕ) (x y x' y' : Keyed) → Keys number (Some x) (Some x') → Keys number (Some y) (Some y') → Keys number (Some (cond b x y)) (Some (cond b x' y'))
  keyed-choose true number x y x' y' one other = one
  keyed-choose false number x y x' y' one other = other

  keyed-lesser : (number : ℕ) (x x' : Keyed) (best best' : Option Keyed) → Keys number (Some x) (Some x') → Keys number best best' → Keys number (Some (lesser x best)) (Some (lesser x' best'))
  keyed-lesser number x x' None None one best = one
  keyed-lesser number x x' (Some y) (Some y') one best =
      subst (λ (b : Bool). Keys number (Some (cond (int_lt y.key x.key) y x)) (Some (cond b y' x')))
      (ap (λ (k : ℤ). int_lt k x.key) best.0 ∙ ap (λ (k : ℤ). int_lt y'.key k) one.0)
      (keyed-choose (int_lt y.key x.key) number y x y' x' best one)
  keyed-lesser number x x' None (Some y') one best = absurd best
  keyed-lesser number x x' (Some y) None one best = absurd best

  keyed-more : (number here there : ℕ) (outcome : Result (Option ℤ) Fault) (ks ks' : List Keyed) → Serves here there number → Keys number (least ks) (least ks')
      → Keys number (least (cons_option (keyed here outcome) ks)) (least (cons_option (keyed there outcome) ks'))
  keyed-more number here there (Ok (Some key)) ks ks' serves later =
      keyed-lesser number (record { place = here; key = key }) (record { place = there; key = key }) (least ks) (least ks') (refl, serves) later
  keyed-more number here there (Ok None) ks ks' serves later = later
  keyed-more number here there (Err found) ks ks' serves later = later

  by-key : (here there number : ℕ) (fault fault' : Option Fault) (best best' : Option Keyed) → fault ≡ fault' → Keys number best best' → Serves here there number
      → SameChoice owner arms items items' (by_key here number fault best) (by_key there number fault' best')
  by-key here there number (Some found) (Some found') best best' e keys serves = let same : found ≡ found' = cc e in (same, refl)
  by-key here there number (Some found) None best best' e keys serves = absurd (cc e)
  by-key here there number None (Some found') best best' e keys serves = absurd (cc e)
  by-key here there number None None (Some x) (Some x') e keys serves = (refl, keys.1)
  by-key here there number None None None None e keys serves = (refl, serves)
  by-key here there number None None (Some x) None e keys serves = absurd keys
  by-key here there number None None None (Some x') e keys serves = absurd keys

  pub same-otherwise : (has_else : Bool) (c c' : Option Choice) → Options c c' → SameChoice owner arms items items' (otherwise has_else c) (otherwise has_else c')
  same-otherwise has_else (Some c) (Some c') same = same
  same-otherwise true None None same = tt
  same-otherwise false None None same = tt
  same-otherwise has_else None (Some c') same = absurd same
  same-otherwise has_else (Some c) None same = absurd same

module _ (owner : Owner) (arms : List Arm) (items items' : List Pending) (sees sees' : Seeing)
    (conditions : (number : ℕ) (arm : Arm) → slice_get arms number ≡ Some arm → (args : List Value) → result_of (passes_with sees arm args) ≡ result_of (passes_with sees' arm args))
    (keys : (number : ℕ) (arm : Arm) (by : Expr) → slice_get arms number ≡ Some arm → arm.by ≡ Some by → (args : List Value) → result_of (key_with sees arm by args) ≡ result_of (key_with sees' arm by args)) where
  abbrev Same : Option Choice → Option Choice → Type 0
  Same c c' = SameOption owner arms items items' c c'

  abbrev Here : List Twin → Type 0
  Here ts = Placed owner arms items (map left ts)

  abbrev There : List Twin → Type 0
  There ts = Placed owner arms items' (map right ts)

  -- ---- the least key

  abbrev Lefts : Arm → List Twin → List (ℕ × Pending)
  Lefts arm ts = filter (λ (x : ℕ × Pending). is_of owner arm.op x.1) (map left ts)

  abbrev Rights : Arm → List Twin → List (ℕ × Pending)
  Rights arm ts = filter (λ (x : ℕ × Pending). is_of owner arm.op x.1) (map right ts)

  abbrev Faults : Seeing → Arm → Expr → List (ℕ × Pending) → List Fault
  Faults by_sees arm by xs = filter_map (λ (x : ℕ × Pending). fault_in (result_of (key_with by_sees arm by x.1.args))) xs

  faults-step : (b : Bool) (number : ℕ) (arm : Arm) (by : Expr) (t : Twin) (ts : List Twin) → slice_get arms number ≡ Some arm → arm.by ≡ Some by
      → Faults sees arm by (Lefts arm ts) ≡ Faults sees' arm by (Rights arm ts)
      → Faults sees arm by (cond b (left t ∷ Lefts arm ts) (Lefts arm ts)) ≡ Faults sees' arm by (cond b (right t ∷ Rights arm ts) (Rights arm ts))
  faults-step true number arm by t ts found its later =
      ap (λ (r : Result (Option ℤ) Fault). cons_option (fault_in r) (Faults sees arm by (Lefts arm ts))) (keys number arm by found its t.invocation.args)
      ∙ ap (λ (l : List Fault). cons_option (fault_in (result_of (key_with sees' arm by t.invocation.args))) l) later
  faults-step false number arm by t ts found its later = later

  same-faults : (number : ℕ) (arm : Arm) (by : Expr) (ts : List Twin) → slice_get arms number ≡ Some arm → arm.by ≡ Some by → Faults sees arm by (Lefts arm ts) ≡ Faults sees' arm by (Rights arm ts)
  same-faults number arm by [] found its = refl
  same-faults number arm by (t ∷ ts) found its = faults-step (is_of owner arm.op t.invocation) number arm by t ts found its (same-faults number arm by ts found its)

  abbrev Least : Seeing → Arm → Expr → List (ℕ × Pending) → Option Keyed
  Least by_sees arm by xs = least (keys_of by_sees arm by xs)

  least-step : (b : Bool) (number : ℕ) (arm : Arm) (by : Expr) (t : Twin) (ts : List Twin) → slice_get arms number ≡ Some arm → arm.by ≡ Some by
      → is_of owner arm.op t.invocation ≡ b → slice_get items t.here ≡ Some t.invocation → slice_get items' t.there ≡ Some t.invocation
      → SameKeyed owner arms items items' number (Least sees arm by (Lefts arm ts)) (Least sees' arm by (Rights arm ts))
      → SameKeyed owner arms items items' number (Least sees arm by (cond b (left t ∷ Lefts arm ts) (Lefts arm ts))) (Least sees' arm by (cond b (right t ∷ Rights arm ts) (Rights arm ts)))
  least-step true number arm by t ts found its one here there later =
      subst (λ (r : Result (Option ℤ) Fault). SameKeyed owner arms items items' number
      (least (cons_option (keyed t.here (result_of (key_with sees arm by t.invocation.args))) (keys_of sees arm by (Lefts arm ts))))
      (least (cons_option (keyed t.there r) (keys_of sees' arm by (Rights arm ts)))))
      (keys number arm by found its t.invocation.args)
      (keyed-more owner arms items items' number t.here t.there (result_of (key_with sees arm by t.invocation.args)) (keys_of sees arm by (Lefts arm ts)) (keys_of sees' arm by (Rights arm ts))
      (record { invocation = t.invocation; arm = arm; is_here = here; is_there = there; is_arm = found; fits = one }) later)
  least-step false number arm by t ts found its one here there later = later

  same-least : (number : ℕ) (arm : Arm) (by : Expr) (ts : List Twin) → slice_get arms number ≡ Some arm → arm.by ≡ Some by → Here ts → There ts
      → SameKeyed owner arms items items' number (Least sees arm by (Lefts arm ts)) (Least sees' arm by (Rights arm ts))
  same-least number arm by [] found its here there = tt
  same-least number arm by (t ∷ ts) found its here there =
      least-step (is_of owner arm.op t.invocation) number arm by t ts found its refl here.0 there.0 (same-least number arm by ts found its here.2 there.2)

  -- ---- the arm that is fixed

  same-serviced : (number : ℕ) (arm : Arm) (t : Twin) (ts : List Twin) (by : Option Expr) → slice_get arms number ≡ Some arm → arm.by ≡ by → is_of owner arm.op t.invocation ≡ true
      → Here (t ∷ ts) → There (t ∷ ts) → SameChoice owner arms items items' (serviced sees owner items t.here number arm by) (serviced sees' owner items' t.there number arm by)
  same-serviced number arm t ts None found its one here there =
      (refl, record { invocation = t.invocation; arm = arm; is_here = here.0; is_there = there.0; is_arm = found; fits = one })
  same-serviced number arm t ts (Some by) found its one here there =
      let serves : ServesBoth owner arms items items' t.here t.there number =
      record { invocation = t.invocation; arm = arm; is_here = here.0; is_there = there.0; is_arm = found; fits = one } in
      let core : SameChoice owner arms items items'
      (by_key t.here number (key_fault sees arm by (Lefts arm (t ∷ ts))) (Least sees arm by (Lefts arm (t ∷ ts))))
      (by_key t.there number (key_fault sees' arm by (Rights arm (t ∷ ts))) (Least sees' arm by (Rights arm (t ∷ ts)))) =
      by-key owner arms items items' t.here t.there number
      (key_fault sees arm by (Lefts arm (t ∷ ts))) (key_fault sees' arm by (Rights arm (t ∷ ts)))
      (Least sees arm by (Lefts arm (t ∷ ts))) (Least sees' arm by (Rights arm (t ∷ ts)))
      (ap first_of (same-faults number arm by (t ∷ ts) found its)) (same-least number arm by (t ∷ ts) found its here there) serves in
      subst (λ (xs : List (ℕ × Pending)). SameChoice owner arms items items'
      (by_key t.here number (key_fault sees arm by xs) (Least sees arm by xs))
      (by_key t.there number (key_fault sees' arm by (invocations_from owner arm t.there items')) (Least sees' arm by (invocations_from owner arm t.there items'))))
      (sym (here.1 number arm found))
      (subst (λ (xs : List (ℕ × Pending)). SameChoice owner arms items items'
      (by_key t.here number (key_fault sees arm by (Lefts arm (t ∷ ts))) (Least sees arm by (Lefts arm (t ∷ ts))))
      (by_key t.there number (key_fault sees' arm by xs) (Least sees' arm by xs)))
      (sym (there.1 number arm found)) core)

  abbrev Pair_of : ℕ → Pending → ℕ → Arm → Pair
  Pair_of place p number arm = record { place = place; invocation = p; number = number; arm = arm }

  abbrev Among : Seeing → List Pending → List Pair → Option Choice
  Among by_sees queue tried = choice_among by_sees owner queue tried

  decided : (number : ℕ) (arm : Arm) (t : Twin) (ts : List Twin) (more more' : List Pair) (outcome : Result Bool Fault) → slice_get arms number ≡ Some arm → is_of owner arm.op t.invocation ≡ true
      → Here (t ∷ ts) → There (t ∷ ts) → result_of (passes_with sees arm t.invocation.args) ≡ outcome → result_of (passes_with sees' arm t.invocation.args) ≡ outcome
      → Same (Among sees items more) (Among sees' items' more')
      → Same (Among sees items (Pair_of t.here t.invocation number arm ∷ more)) (Among sees' items' (Pair_of t.there t.invocation number arm ∷ more'))
  decided number arm t ts more more' (Ok false) found one here there is is' later =
      along owner arms items items'
      (Among sees items (Pair_of t.here t.invocation number arm ∷ more)) (Among sees items more)
      (Among sees' items' (Pair_of t.there t.invocation number arm ∷ more')) (Among sees' items' more')
      (choice-skip sees owner items (Pair_of t.here t.invocation number arm) more (ap is_not_false is))
      (choice-skip sees' owner items' (Pair_of t.there t.invocation number arm) more' (ap is_not_false is'))
      later
  decided number arm t ts more more' (Ok true) found one here there is is' later =
      along owner arms items items'
      (Among sees items (Pair_of t.here t.invocation number arm ∷ more)) (Some (serviced sees owner items t.here number arm arm.by))
      (Among sees' items' (Pair_of t.there t.invocation number arm ∷ more')) (Some (serviced sees' owner items' t.there number arm arm.by))
      (choice-take sees owner items (Pair_of t.here t.invocation number arm) more (ap is_not_false is)
      ∙ ap (λ (r : Result Bool Fault). Some (fixed sees owner items (Pair_of t.here t.invocation number arm) r)) is)
      (choice-take sees' owner items' (Pair_of t.there t.invocation number arm) more' (ap is_not_false is')
      ∙ ap (λ (r : Result Bool Fault). Some (fixed sees' owner items' (Pair_of t.there t.invocation number arm) r)) is')
      (same-serviced number arm t ts arm.by found refl one here there)
  decided number arm t ts more more' (Err fault) found one here there is is' later =
      along owner arms items items'
      (Among sees items (Pair_of t.here t.invocation number arm ∷ more)) (Some (Bad fault number))
      (Among sees' items' (Pair_of t.there t.invocation number arm ∷ more')) (Some (Bad fault number))
      (choice-take sees owner items (Pair_of t.here t.invocation number arm) more (ap is_not_false is)
      ∙ ap (λ (r : Result Bool Fault). Some (fixed sees owner items (Pair_of t.here t.invocation number arm) r)) is)
      (choice-take sees' owner items' (Pair_of t.there t.invocation number arm) more' (ap is_not_false is')
      ∙ ap (λ (r : Result Bool Fault). Some (fixed sees' owner items' (Pair_of t.there t.invocation number arm) r)) is')
      (refl, refl)

  arm-step : (b : Bool) (number : ℕ) (arm : Arm) (t : Twin) (ts : List Twin) (more more' : List Pair) → slice_get arms number ≡ Some arm → is_of owner arm.op t.invocation ≡ b
      → Here (t ∷ ts) → There (t ∷ ts) → Same (Among sees items more) (Among sees' items' more')
      → Same (Among sees items (cons_option (cond b (Some (Pair_of t.here t.invocation number arm)) None) more))
      (Among sees' items' (cons_option (cond b (Some (Pair_of t.there t.invocation number arm)) None) more'))
  arm-step true number arm t ts more more' found one here there later =
      decided number arm t ts more more' (result_of (passes_with sees' arm t.invocation.args)) found one here there (conditions number arm found t.invocation.args) refl later
  arm-step false number arm t ts more more' found one here there later = later

  same-arms : (number : ℕ) (some : List Arm) (t : Twin) (ts : List Twin) → drop number arms ≡ some → Here (t ∷ ts) → There (t ∷ ts)
      → Same (Among sees items (pairs_of owner (enumerate_from number some) (left t))) (Among sees' items' (pairs_of owner (enumerate_from number some) (right t)))
  same-arms number [] t ts e here there = tt
  same-arms number (arm ∷ some) t ts e here there =
      arm-step (is_of owner arm.op t.invocation) number arm t ts
      (pairs_of owner (enumerate_from (number + 1) some) (left t)) (pairs_of owner (enumerate_from (number + 1) some) (right t))
      (get-at number arms arm some e) refl here there
      (same-arms (number + 1) some t ts (drop-after number arms arm some e) here there)

  -- ---- the invocations

  abbrev Pairs_of : ℕ × Pending → List Pair
  Pairs_of x = pairs_of owner (enumerate_from 0 arms) x

  abbrev All_pairs : List (ℕ × Pending) → List Pair
  All_pairs xs = pairs owner (enumerate_from 0 arms) xs

  first-step : (front front' more more' : List Pair) (c c' : Option Choice) → Among sees items front ≡ c → Among sees' items' front' ≡ c' → Same c c'
      → Same (Among sees items more) (Among sees' items' more') → Same (Among sees items (front ++ more)) (Among sees' items' (front' ++ more'))
  first-step front front' more more' None None is is' same later =
      along owner arms items items'
      (Among sees items (front ++ more)) (Among sees items more) (Among sees' items' (front' ++ more')) (Among sees' items' more')
      (choice-append-none sees owner items front more is) (choice-append-none sees' owner items' front' more' is') later
  first-step front front' more more' (Some c) (Some c') is is' same later =
      along owner arms items items'
      (Among sees items (front ++ more)) (Some c) (Among sees' items' (front' ++ more')) (Some c')
      (choice-append-some sees owner items front more c is) (choice-append-some sees' owner items' front' more' c' is') same
  first-step front front' more more' None (Some c') is is' same later = absurd same
  first-step front front' more more' (Some c) None is is' same later = absurd same

  pub same-all : (ts : List Twin) → Here ts → There ts → Same (Among sees items (All_pairs (map left ts))) (Among sees' items' (All_pairs (map right ts)))
  same-all [] here there = tt
  same-all (t ∷ ts) here there =
      first-step (Pairs_of (left t)) (Pairs_of (right t)) (All_pairs (map left ts)) (All_pairs (map right ts))
      (Among sees items (Pairs_of (left t))) (Among sees' items' (Pairs_of (right t))) refl refl
      (same-arms 0 arms t ts refl here there) (same-all ts here.2 there.2)

  pub same-queues : filter (is_named owner arms) items ≡ filter (is_named owner arms) items'
      → Same (Among sees items (All_pairs (enumerate_from 0 items))) (Among sees' items' (All_pairs (enumerate_from 0 items')))
  same-queues e =
      let xs : List (ℕ × Pending) = filter (Is_named owner arms) (enumerate_from 0 items) in
      let ys : List (ℕ × Pending) = filter (Is_named owner arms) (enumerate_from 0 items') in
      let both : alone xs ≡ alone ys = alone-named owner arms 0 items ∙ e ∙ sym (alone-named owner arms 0 items') in
      let here : map left (twins xs ys) ≡ xs = twins-left xs ys both in
      let there : map right (twins xs ys) ≡ ys = twins-right xs ys both in
      along owner arms items items'
      (Among sees items (All_pairs (enumerate_from 0 items))) (Among sees items (All_pairs (map left (twins xs ys))))
      (Among sees' items' (All_pairs (enumerate_from 0 items'))) (Among sees' items' (All_pairs (map right (twins xs ys))))
      (ap (λ (l : List Pair). Among sees items l) (pairs-named owner arms (enumerate_from 0 items)) ∙ ap (λ (l : List (ℕ × Pending)). Among sees items (All_pairs l)) (sym here))
      (ap (λ (l : List Pair). Among sees' items' l) (pairs-named owner arms (enumerate_from 0 items')) ∙ ap (λ (l : List (ℕ × Pending)). Among sees' items' (All_pairs l)) (sym there))
      (same-all (twins xs ys)
      (subst (λ (l : List (ℕ × Pending)). Placed owner arms items l) (sym here) (placed owner arms items 0 items refl))
      (subst (λ (l : List (ℕ × Pending)). Placed owner arms items' l) (sym there) (placed owner arms items' 0 items' refl)))
