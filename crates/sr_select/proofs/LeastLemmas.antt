-- The search for the least key, step by step.
use Rattle.std.proofs.Common.{◌≡◌, ℕ, ◌+◌, ◌≤◌, Bool, true, false, List, [], ◌∷◌, ◌++◌, length, drop, refl, ap, sym, subst, ◌∙◌, arith, cond, ℤ}
use Rattle.std.specs.Prelude.{Option, Some, None, is_some, Result, Ok, Err, slice_get, filter, filter_map, flat_map, int_lt}
use Rattle.std.specs.List.{cons_option, enumerate_from}
use Rattle.std.proofs.lemmas.Int.{ints}
use Rattle.std.proofs.lemmas.List.{append_assoc, append-nil}
use Rattle.sr_value.specs.declared.capability.Owner.{Owner}
use Rattle.sr_value.specs.declared.fault.Fault.{Fault}
use Rattle.sr_value.specs.declared.fault.ValueFail.{ValueFail}
use Rattle.sr_value.specs.declared.fault.ValueFail.TheVariants.{Fault as a_fault, NoMemory as out_of_memory}
use Rattle.sr_ask.specs.declared.entry.Seen.{Seen}
use Rattle.sr_core.specs.Formals.{first_of}
use Rattle.sr_core.specs.declared.expression.Expr.{Expr}
use Rattle.sr_core.specs.declared.site.Arm.{Arm}
use Rattle.sr_queue.specs.declared.pending.Pending.{Pending}
use Rattle.sr_queue.specs.Queues.{is_of}
use Rattle.sr_select.specs.declared.least.Keyed.{Keyed}
use Rattle.sr_select.specs.Choices.{Seeing, fault_in, invocations_from, key_fault, key_with, keyed, keys_of, least, lesser, seen_keys, through_first}
use Rattle.sr_select.specs.Leasts.{FindsLeast}
use Rattle.sr_select.specs.Looks.{Adds, Found, result_of, seen_of}
use Rattle.sr_select.specs.Steps.{improved, key_one, with_next}
use Rattle.sr_select.proofs.PlaceLemmas.{drop-at, drop-end}

-- the best so far and the least of the others
abbrev pub merged : Option Keyed → Option Keyed → Option Keyed
merged None others = others
merged (Some older) others = Some (lesser older others)

-- What the search has found among the invocations before a place, with what is left, is what there is.
pub record LeastSoFar (sees : Seeing) (owner : Owner) (arm : Arm) (by : Expr) (from : ℕ) (items : List Pending) (place : ℕ) (best : Option Keyed) (old new : List Seen) : Type 0 where
  pub fault : key_fault sees arm by (invocations_from owner arm place items) ≡ key_fault sees arm by (invocations_from owner arm from items)
  pub least : merged best (least (keys_of sees arm by (invocations_from owner arm place items))) ≡ least (keys_of sees arm by (invocations_from owner arm from items))
  pub seen : new ++ seen_keys sees arm by (invocations_from owner arm place items) ≡ old ++ seen_keys sees arm by (invocations_from owner arm from items)

module _ (owner : Owner) (arm : Arm) (items : List Pending) where
  pub left-skip : (place : ℕ) (p : Pending) → slice_get items place ≡ Some p → is_of owner arm.op p ≡ false → invocations_from owner arm place items ≡ invocations_from owner arm (place + 1) items
  left-skip place p found other =
      let test : (ℕ × Pending) → Bool = λ invocation. is_of owner arm.op invocation.1 in
      let rest : List (ℕ × Pending) = filter test (enumerate_from (place + 1) (drop (place + 1) items)) in
      ap (λ (left : List Pending). filter test (enumerate_from place left)) (drop-at place items p found) ∙ ap (λ b. cond b ((place, p) ∷ rest) rest) other

  pub left-take : (place : ℕ) (p : Pending) → slice_get items place ≡ Some p → is_of owner arm.op p ≡ true → invocations_from owner arm place items ≡ (place, p) ∷ invocations_from owner arm (place + 1) items
  left-take place p found one =
      let test : (ℕ × Pending) → Bool = λ invocation. is_of owner arm.op invocation.1 in
      let rest : List (ℕ × Pending) = filter test (enumerate_from (place + 1) (drop (place + 1) items)) in
      ap (λ (left : List Pending). filter test (enumerate_from place left)) (drop-at place items p found) ∙ ap (λ b. cond b ((place, p) ∷ rest) rest) one

  pub left-end : (place : ℕ) → length items ≤ place → invocations_from owner arm place items ≡ []
  left-end place end = ap (λ (left : List Pending). filter (λ invocation. is_of owner arm.op invocation.1) (enumerate_from place left)) (drop-end place items end)

-- orders of three numbers
above : (b x y : ℤ) → int_lt y x ≡ true → int_lt x b ≡ true → int_lt y b ≡ false → ⊥
above b x y yx xb yb = grind (arith, ints)

below : (b x y : ℤ) → int_lt y x ≡ false → int_lt x b ≡ false → int_lt y b ≡ true → ⊥
below b x y yx xb yb = grind (arith, ints)

-- the less of three
by_tests : (b x y : Keyed) (p q r : Bool) → int_lt y.key x.key ≡ p → int_lt x.key b.key ≡ q → int_lt y.key b.key ≡ r → lesser b (Some (lesser x (Some y))) ≡ lesser (lesser b (Some x)) (Some y)
by_tests b x y true true true yx xb yb = simp (yx, xb, yb)
by_tests b x y true true false yx xb yb = absurd (above b.key x.key y.key yx xb yb)
by_tests b x y true false r yx xb yb = simp (yx, xb)
by_tests b x y false true r yx xb yb = simp (yx, xb)
by_tests b x y false false true yx xb yb = absurd (below b.key x.key y.key yx xb yb)
by_tests b x y false false false yx xb yb = simp (yx, xb, yb)

pub lesser-lesser : (b x : Keyed) (others : Option Keyed) → lesser b (Some (lesser x others)) ≡ lesser (lesser b (Some x)) others
lesser-lesser b x None = refl
lesser-lesser b x (Some y) = by_tests b x y (int_lt y.key x.key) (int_lt x.key b.key) (int_lt y.key b.key) refl refl refl

pub merged-improved : (best : Option Keyed) (x : Keyed) (others : Option Keyed) → merged best (Some (lesser x others)) ≡ merged (Some (improved best x)) others
merged-improved None x others = refl
merged-improved (Some b) x others = ap Some (lesser-lesser b x others)

merged-none : (best : Option Keyed) → merged best None ≡ best
merged-none None = refl
merged-none (Some b) = refl

-- ---- steps

module _ (sees : Seeing) (owner : Owner) (arm : Arm) (by : Expr) (from : ℕ) (items : List Pending) where
  abbrev Left : ℕ → List (ℕ × Pending)
  Left place = invocations_from owner arm place items

  pub at-start : (old : List Seen) → LeastSoFar sees owner arm by from items from None old old
  at-start old = record { fault = refl; least = refl; seen = refl }

  pub step-skip : (place : ℕ) (p : Pending) (best : Option Keyed) (old new : List Seen) → LeastSoFar sees owner arm by from items place best old new
      → slice_get items place ≡ Some p → is_of owner arm.op p ≡ false → LeastSoFar sees owner arm by from items (place + 1) best old new
  step-skip place p best old new so_far found other =
      let left : Left place ≡ Left (place + 1) = left-skip owner arm items place p found other in
      record {
        fault = ap (λ (xs : List (ℕ × Pending)). key_fault sees arm by xs) (sym left) ∙ so_far.fault;
        least = ap (λ (xs : List (ℕ × Pending)). merged best (least (keys_of sees arm by xs))) (sym left) ∙ so_far.least;
        seen = ap (λ (xs : List (ℕ × Pending)). new ++ seen_keys sees arm by xs) (sym left) ∙ so_far.seen;
      }

  -- what one invocation of the operation adds
  fault-step : (place : ℕ) (p : Pending) (outcome : Result (Option ℤ) Fault) → slice_get items place ≡ Some p → is_of owner arm.op p ≡ true → result_of (key_with sees arm by p.args) ≡ outcome
      → key_fault sees arm by (Left place) ≡ first_of (cons_option (fault_in outcome) (filter_map (λ (q : ℕ × Pending). fault_in (result_of (key_with sees arm by q.1.args))) (Left (place + 1))))
  fault-step place p outcome found one is =
      ap (λ (xs : List (ℕ × Pending)). key_fault sees arm by xs) (left-take owner arm items place p found one)
      ∙ ap (λ (r : Result (Option ℤ) Fault). first_of (cons_option (fault_in r) (filter_map (λ (q : ℕ × Pending). fault_in (result_of (key_with sees arm by q.1.args))) (Left (place + 1))))) is

  keys-step : (place : ℕ) (p : Pending) (outcome : Result (Option ℤ) Fault) → slice_get items place ≡ Some p → is_of owner arm.op p ≡ true → result_of (key_with sees arm by p.args) ≡ outcome
      → keys_of sees arm by (Left place) ≡ cons_option (keyed place outcome) (keys_of sees arm by (Left (place + 1)))
  keys-step place p outcome found one is =
      ap (λ (xs : List (ℕ × Pending)). keys_of sees arm by xs) (left-take owner arm items place p found one)
      ∙ ap (λ (r : Result (Option ℤ) Fault). cons_option (keyed place r) (keys_of sees arm by (Left (place + 1)))) is

  seen-step : (place : ℕ) (p : Pending) (outcome : Result (Option ℤ) Fault) → slice_get items place ≡ Some p → is_of owner arm.op p ≡ true → result_of (key_with sees arm by p.args) ≡ outcome
      → seen_keys sees arm by (Left place) ≡ seen_of (key_with sees arm by p.args)
      ++ flat_map (λ (q : ℕ × Pending). seen_of (key_with sees arm by q.1.args)) (cond (is_some (fault_in outcome)) [] (through_first (λ (q : ℕ × Pending). is_some (fault_in (result_of (key_with sees arm by q.1.args)))) (Left (place + 1))))
  seen-step place p outcome found one is =
      ap (λ (xs : List (ℕ × Pending)). seen_keys sees arm by xs) (left-take owner arm items place p found one)
      ∙ ap (λ (r : Result (Option ℤ) Fault). seen_of (key_with sees arm by p.args) ++ flat_map (λ (q : ℕ × Pending). seen_of (key_with sees arm by q.1.args)) (cond (is_some (fault_in r)) [] (through_first (λ (q : ℕ × Pending). is_some (fault_in (result_of (key_with sees arm by q.1.args)))) (Left (place + 1))))) is

  least-step : (place : ℕ) (best : Option Keyed) (key : Option ℤ) (others : List Keyed) → merged (with_next place best key) (least others) ≡ merged best (least (cons_option (keyed place (Ok key)) others))
  least-step place best None others = refl
  least-step place best (Some key) others = sym (merged-improved best (record { place = place; key = key }) (least others))

  step-key : (place : ℕ) (p : Pending) (best : Option Keyed) (key : Option ℤ) (old new next : List Seen) → LeastSoFar sees owner arm by from items place best old new
      → slice_get items place ≡ Some p → is_of owner arm.op p ≡ true → result_of (key_with sees arm by p.args) ≡ Ok key → next ≡ new ++ seen_of (key_with sees arm by p.args)
      → LeastSoFar sees owner arm by from items (place + 1) (with_next place best key) old next
  step-key place p best key old new next so_far found one is read =
      let looked : List Seen = seen_of (key_with sees arm by p.args) in
      let later : List Seen = seen_keys sees arm by (Left (place + 1)) in
      record {
        fault = sym (fault-step place p (Ok key) found one is) ∙ so_far.fault;
        least = least-step place best key (keys_of sees arm by (Left (place + 1)))
            ∙ ap (λ (ks : List Keyed). merged best (least ks)) (sym (keys-step place p (Ok key) found one is)) ∙ so_far.least;
        seen = ap (λ (s : List Seen). s ++ later) read ∙ append_assoc new looked later
            ∙ ap (λ (s : List Seen). new ++ s) (sym (seen-step place p (Ok key) found one is)) ∙ so_far.seen;
      }

  at-fault : (place : ℕ) (p : Pending) (best : Option Keyed) (fault : Fault) (old new next : List Seen) → LeastSoFar sees owner arm by from items place best old new
      → slice_get items place ≡ Some p → is_of owner arm.op p ≡ true → result_of (key_with sees arm by p.args) ≡ Err fault → next ≡ new ++ seen_of (key_with sees arm by p.args)
      → (key_fault sees arm by (Left from) ≡ Some fault) × (next ≡ old ++ seen_keys sees arm by (Left from))
  at-fault place p best fault old new next so_far found one is read =
      let looked : List Seen = seen_of (key_with sees arm by p.args) in (
        sym so_far.fault ∙ fault-step place p (Err fault) found one is,
        read ∙ ap (λ (s : List Seen). new ++ s) (sym (append-nil looked)) ∙ ap (λ (s : List Seen). new ++ s) (sym (seen-step place p (Err fault) found one is)) ∙ so_far.seen,
      )

  -- an invocation, of whatever operation
  step-by : (b : Bool) (place : ℕ) (p : Pending) (best : Option Keyed) (key : Option ℤ) (old new next : List Seen) → LeastSoFar sees owner arm by from items place best old new
      → slice_get items place ≡ Some p → is_of owner arm.op p ≡ b → result_of (key_one sees owner arm by p) ≡ Ok key → next ≡ new ++ seen_of (key_one sees owner arm by p)
      → LeastSoFar sees owner arm by from items (place + 1) (with_next place best key) old next
  step-by true place p best key old new next so_far found one is read =
      step-key place p best key old new next so_far found one
      (sym (ap (λ (t : Bool). result_of (cond t (key_with sees arm by p.args) (Found None []))) one) ∙ is)
      (read ∙ ap (λ (t : Bool). new ++ seen_of (cond t (key_with sees arm by p.args) (Found None []))) one)
  step-by false place p best key old new next so_far found other is read =
      let none : Ok None ≡ Ok key = sym (ap (λ (t : Bool). result_of (cond t (key_with sees arm by p.args) (Found None []))) other) ∙ is in
      let same : None ≡ key = cc none in
      let unread : next ≡ new = read ∙ ap (λ (t : Bool). new ++ seen_of (cond t (key_with sees arm by p.args) (Found None []))) other ∙ append-nil new in
      subst (λ (s : List Seen). LeastSoFar sees owner arm by from items (place + 1) (with_next place best key) old s) (sym unread)
      (subst (λ (k : Option ℤ). LeastSoFar sees owner arm by from items (place + 1) (with_next place best k) old new) same
      (step-skip place p best old new so_far found other))

  step : (place : ℕ) (p : Pending) (best : Option Keyed) (key : Option ℤ) (old new next : List Seen) → LeastSoFar sees owner arm by from items place best old new
      → slice_get items place ≡ Some p → result_of (key_one sees owner arm by p) ≡ Ok key → next ≡ new ++ seen_of (key_one sees owner arm by p)
      → LeastSoFar sees owner arm by from items (place + 1) (with_next place best key) old next
  step place p best key old new next so_far found is read = step-by (is_of owner arm.op p) place p best key old new next so_far found refl is read

  fault-by : (b : Bool) (place : ℕ) (p : Pending) (best : Option Keyed) (fault : Fault) (old new next : List Seen) → LeastSoFar sees owner arm by from items place best old new
      → slice_get items place ≡ Some p → is_of owner arm.op p ≡ b → result_of (key_one sees owner arm by p) ≡ Err fault → next ≡ new ++ seen_of (key_one sees owner arm by p)
      → (key_fault sees arm by (Left from) ≡ Some fault) × (next ≡ old ++ seen_keys sees arm by (Left from))
  fault-by true place p best fault old new next so_far found one is read =
      at-fault place p best fault old new next so_far found one
      (sym (ap (λ (t : Bool). result_of (cond t (key_with sees arm by p.args) (Found None []))) one) ∙ is)
      (read ∙ ap (λ (t : Bool). new ++ seen_of (cond t (key_with sees arm by p.args) (Found None []))) one)
  fault-by false place p best fault old new next so_far found other is read =
      let none : Ok None ≡ Err fault = sym (ap (λ (t : Bool). result_of (cond t (key_with sees arm by p.args) (Found None []))) other) ∙ is in
      absurd (cc none)

  fault-met : (place : ℕ) (p : Pending) (best : Option Keyed) (fault : Fault) (old new next : List Seen) → LeastSoFar sees owner arm by from items place best old new
      → slice_get items place ≡ Some p → result_of (key_one sees owner arm by p) ≡ Err fault → next ≡ new ++ seen_of (key_one sees owner arm by p)
      → (key_fault sees arm by (Left from) ≡ Some fault) × (next ≡ old ++ seen_keys sees arm by (Left from))
  fault-met place p best fault old new next so_far found is read = fault-by (is_of owner arm.op p) place p best fault old new next so_far found refl is read

  at-end : (place : ℕ) (best : Option Keyed) (old new : List Seen) → LeastSoFar sees owner arm by from items place best old new → length items ≤ place
      → (key_fault sees arm by (Left from) ≡ None) × (least (keys_of sees arm by (Left from)) ≡ best) × (new ≡ old ++ seen_keys sees arm by (Left from))
  at-end place best old new so_far end =
      let left : Left place ≡ [] = left-end owner arm items place end in (
        sym so_far.fault ∙ ap (λ (xs : List (ℕ × Pending)). key_fault sees arm by xs) left,
        sym so_far.least ∙ ap (λ (xs : List (ℕ × Pending)). merged best (least (keys_of sees arm by xs))) left ∙ merged-none best,
        sym (append-nil new) ∙ ap (λ (xs : List (ℕ × Pending)). new ++ seen_keys sees arm by xs) (sym left) ∙ so_far.seen,
      )

  -- ---- what the calls of the search give

  pub ok-step : (place : ℕ) (p : Pending) (best after : Option Keyed) (key : Option ℤ) (old new next : List Seen) → LeastSoFar sees owner arm by from items place best old new
      → slice_get items place ≡ Some p → Adds (key_one sees owner arm by p) (Ok key) new next → after ≡ with_next place best key
      → LeastSoFar sees owner arm by from items (place + 1) after old next
  ok-step place p best after key old new next so_far found adds is =
      subst (λ (b : Option Keyed). LeastSoFar sees owner arm by from items (place + 1) b old next) (sym is) (step place p best key old new next so_far found adds.0 adds.1)

  pub err-found : (place : ℕ) (p : Pending) (best : Option Keyed) (fail : ValueFail) (old new next : List Seen) → LeastSoFar sees owner arm by from items place best old new
      → slice_get items place ≡ Some p → Adds (key_one sees owner arm by p) (Err fail) new next → FindsLeast sees owner arm by from items (Err fail) old next
  err-found place p best (a_fault fault) old new next so_far found adds = fault-met place p best fault old new next so_far found adds.0 adds.1
  err-found place p best out_of_memory old new next so_far found adds = tt

  pub end-found : (place : ℕ) (best : Option Keyed) (old new : List Seen) → LeastSoFar sees owner arm by from items place best old new → length items ≤ place
      → FindsLeast sees owner arm by from items (Ok best) old new
  end-found place best old new so_far end = at-end place best old new so_far end
