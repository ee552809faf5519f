-- From one invocation of a statement's operations to the next.
use Rattle.std.proofs.Common.{◌≡◌, ℕ, zero, suc, ◌+◌, ◌<◌, ◌≤◌, Bool, true, false, not, ◌&&◌, ◌||◌, cond, List, [], ◌∷◌, ◌++◌, Option, None, Some, length, get_or, take, drop, refl, ap, sym, subst, ◌∙◌, ◌⊎◌, inl, inr, true≢false, zero-add, add-zero, arith}
use Rattle.std.specs.Prelude.{Ok, slice_get}
use Rattle.std.specs.List.{cons_option, enumerate_from, position_from}
use Rattle.std.proofs.lemmas.Bool.{le-ltb, lt-ltb}
use Rattle.std.proofs.lemmas.List.{append-nil, drop_all, drop_more, length-drop}
use Rattle.std.proofs.lemmas.List.Folds.{list_any_more}
use Rattle.std.proofs.lemmas.List.FromFn.{get_or-enumerate_from, length-enumerate_from}
use Rattle.std.proofs.lemmas.Option.{none-some, same_Some, slice_get_cases}
use Rattle.sr_value.specs.declared.capability.Owner.{Owner}
use Rattle.sr_value.specs.declared.value.Value.{Value}
use Rattle.sr_ask.specs.declared.entry.Seen.{Seen}
use Rattle.sr_core.specs.declared.expression.Expr.{Expr}
use Rattle.sr_core.specs.declared.site.Arm.{Arm}
use Rattle.sr_queue.specs.Classes.{next_waiting}
use Rattle.sr_queue.specs.Queues.{is_of}
use Rattle.sr_queue.specs.declared.pending.Pending.{Pending}
use Rattle.sr_queue.proofs.QueueLemmas.{next-here, next-later, next-past, position-within}
use Rattle.sr_select.specs.Choices.{Pair, Seeing, choice_among, decides, is_not_false, pairs_of, passes_with, seen_among}
use Rattle.sr_select.specs.Closing.{AreClosed, closes, is_closed}
use Rattle.sr_select.specs.Leasts.{FindsLeast}
use Rattle.sr_select.specs.Looks.{result_of}
use Rattle.sr_select.specs.Named.{earlier, is_named_open, is_of_open, next_open}
use Rattle.sr_select.specs.declared.choice.Choice.{Choice}
use Rattle.sr_select.specs.declared.closed.Closed.{Closed}
use Rattle.sr_select.specs.declared.least.Keyed.{Keyed}
use Rattle.sr_select.proofs.ChoiceLemmas.{QueueSoFar, WholeChoice, choice-skip, queue-end, queue-none, queue-some}
use Rattle.sr_select.proofs.ClosingLemmas.{never-closed}
use Rattle.sr_select.proofs.LeastLemmas.{LeastSoFar, end-found, step-skip}

-- ---- the earlier of two places

first-stays : (s : ℕ) (o : Option ℕ) → ((i : ℕ) → o ≡ Some i → s ≤ i) → Some s ≡ earlier (Some s) o
first-stays s None later = refl
first-stays s (Some i) later = ap (λ b. Some (cond b i s)) (sym (le-ltb i s (later i refl)))

second-first : (s : ℕ) (o : Option ℕ) → ((i : ℕ) → o ≡ Some i → s < i) → Some s ≡ earlier o (Some s)
second-first s None later = refl
second-first s (Some i) later = ap (λ b. Some (cond b s i)) (sym (lt-ltb s i (later i refl)))

module _ {X : Type 0} (p q r : X → Bool) (is : (x : X) → r x ≡ (p x || q x)) where
  pub either : (start : ℕ) (xs : List X) → position_from r start xs ≡ earlier (position_from p start xs) (position_from q start xs)
  either start [] = refl
  either start (x ∷ xs) = ap (λ b. cond b (Some start) (position_from r (start + 1) xs)) (is x) ∙ by (p x) (q x) (either (start + 1) xs)
    where
      after : (t : X → Bool) (i : ℕ) → position_from t (start + 1) xs ≡ Some i → start < i
      after t i at = let there = position-within t (start + 1) xs i at in omega (arith, there.0)

      by : (a b : Bool) → position_from r (start + 1) xs ≡ earlier (position_from p (start + 1) xs) (position_from q (start + 1) xs)
          → cond (a || b) (Some start) (position_from r (start + 1) xs) ≡ earlier (cond a (Some start) (position_from p (start + 1) xs)) (cond b (Some start) (position_from q (start + 1) xs))
      by true true more = first-stays start (Some start) (λ i at. let same : start ≡ i = same_Some start i at in omega (arith, same))
      by true false more = first-stays start (position_from q (start + 1) xs) (λ i at. let less = after q i at in omega (arith, less))
      by false true more = second-first start (position_from p (start + 1) xs) (after p)
      by false false more = more

never : {X : Type 0} (t : X → Bool) → ((x : X) → t x ≡ false) → (start : ℕ) (xs : List X) → position_from t start xs ≡ None
never t other start [] = refl
never t other start (x ∷ xs) = ap (λ b. cond b (Some start) (position_from t (start + 1) xs)) (other x) ∙ never t other (start + 1) xs

without-none : (o : Option ℕ) → earlier o None ≡ o
without-none None = refl
without-none (Some one) = refl

-- ---- the next of an operation that an open arm names

pub open-none : (owner : Owner) (closed : Closed) (from : ℕ) (items : List Pending) → next_open owner closed [] from items ≡ None
open-none owner closed from items = never (is_named_open owner closed []) (λ p. refl) from (drop from items)

module _ (owner : Owner) (closed : Closed) (arms : List Arm) (i : ℕ) (arm : Arm) (low : i < length arms) (is : arm ≡ get_or arms i arm) where
  abbrev First : List (ℕ × Arm)
  First = take i (enumerate_from 0 arms)

  abbrev One_more : List (ℕ × Arm)
  One_more = take (i + 1) (enumerate_from 0 arms)

  numbered : get_or (enumerate_from 0 arms) i (i, arm) ≡ (i, arm)
  numbered = get_or-enumerate_from 0 arms i (i, arm) low ∙ ap (λ (n : ℕ). (n, get_or arms i arm)) (zero-add i) ∙ ap (λ (a : Arm). (i, a)) (sym is)

  named-more : (p : Pending) → is_named_open owner closed One_more p ≡ (is_named_open owner closed First p || is_of_open owner closed p (i, arm))
  named-more p =
      let within : i < length (enumerate_from 0 arms) = subst (λ (n : ℕ). i < n) (sym (length-enumerate_from 0 arms)) low in
      list_any_more (is_of_open owner closed p) (enumerate_from 0 arms) i (i, arm) within ∙ ap (λ (x : ℕ × Arm). is_named_open owner closed First p || is_of_open owner closed p x) numbered

  pub open-more : (from : ℕ) (items : List Pending) → is_closed closed i ≡ false
      → next_open owner closed One_more from items ≡ earlier (next_open owner closed First from items) (next_waiting owner arm.op from items)
  open-more from items is =
      either (is_named_open owner closed First) (is_of owner arm.op) (is_named_open owner closed One_more)
      (λ p. named-more p ∙ ap (λ (b : Bool). is_named_open owner closed First p || (not b && is_of owner arm.op p)) is) from (drop from items)

  pub closed-more : (from : ℕ) (items : List Pending) → is_closed closed i ≡ true → next_open owner closed One_more from items ≡ next_open owner closed First from items
  closed-more from items is =
      either (is_named_open owner closed First) (λ p. false) (is_named_open owner closed One_more)
      (λ p. named-more p ∙ ap (λ (b : Bool). is_named_open owner closed First p || (not b && is_of owner arm.op p)) is) from (drop from items)
      ∙ ap (earlier (next_open owner closed First from items)) (never (λ p. false) (λ p. refl) from (drop from items))
      ∙ without-none (next_open owner closed First from items)

-- what stands at a place, or that the list ends before it
abbrev Standing : List Pending → ℕ → Type 0
Standing items i = ((x : Pending) × (i < length items) × (slice_get items i ≡ Some x) × (get_or items i x ≡ x)) ⊎ ((length items ≤ i) × (slice_get items i ≡ None))

abbrev pair_with : ℕ → Pending → ℕ → Arm → Pair
pair_with place p number arm = record { place = place; invocation = p; number = number; arm = arm }

-- ---- an invocation that no open arm names

-- no invocation passes a closed one of the arms that are left
abbrev Shut : Seeing → Closed → ℕ → List Arm → Type 0
Shut sees closed k arms = (j : ℕ) (arm : Arm) (args : List Value) → is_closed closed (k + j) ≡ true → slice_get arms j ≡ Some arm → result_of (passes_with sees arm args) ≡ Ok false

shut-rest : (sees : Seeing) (closed : Closed) (k : ℕ) (first : Arm) (arms : List Arm) → Shut sees closed k (first ∷ arms) → Shut sees closed (k + 1) arms
shut-rest sees closed k first arms shut = λ j arm args is at. let same : (k + 1) + j ≡ k + suc j = omega arith in shut (suc j) arm args (sym (ap (is_closed closed) same) ∙ is) at

module _ (sees : Seeing) (owner : Owner) (items : List Pending) (closed : Closed) (place : ℕ) (p : Pending) where
  abbrev Pairs : ℕ → List Arm → List Pair
  Pairs k arms = pairs_of owner (enumerate_from k arms) (place, p)

  pairs-by : (k : ℕ) (arm : Arm) (arms : List Arm) (b : Bool) → is_of owner arm.op p ≡ b → Pairs k (arm ∷ arms) ≡ cons_option (cond b (Some (pair_with place p k arm)) None) (Pairs (k + 1) arms)
  pairs-by k arm arms b is = ap (λ (t : Bool). cons_option (cond t (Some (pair_with place p k arm)) None) (Pairs (k + 1) arms)) is

  -- no arm is fixed by it
  unpassed : (k : ℕ) (arms : List Arm) → Shut sees closed k arms → is_named_open owner closed (enumerate_from k arms) p ≡ false → choice_among sees owner items (Pairs k arms) ≡ None
  unpassed k [] shut other = refl
  unpassed k (arm ∷ arms) shut other = by (is_of owner arm.op p) (is_closed closed k) refl refl (unpassed (k + 1) arms (shut-rest sees closed k arm arms shut)) other
    where
      by : (b c : Bool) → is_of owner arm.op p ≡ b → is_closed closed k ≡ c
          → (is_named_open owner closed (enumerate_from (k + 1) arms) p ≡ false → choice_among sees owner items (Pairs (k + 1) arms) ≡ None)
          → ((not c && b) || is_named_open owner closed (enumerate_from (k + 1) arms) p) ≡ false → choice_among sees owner items (Pairs k (arm ∷ arms)) ≡ None
      by true true one is more other =
          let decided : decides sees (pair_with place p k arm) ≡ false = ap is_not_false (shut 0 arm p.args (ap (is_closed closed) (add-zero k) ∙ is) refl) in
          ap (λ (ps : List Pair). choice_among sees owner items ps) (pairs-by k arm arms true one)
          ∙ choice-skip sees owner items (pair_with place p k arm) (Pairs (k + 1) arms) decided ∙ more other
      by true false one is more other = absurd (true≢false other)
      by false true one is more other = ap (λ (ps : List Pair). choice_among sees owner items ps) (pairs-by k arm arms false one) ∙ more other
      by false false one is more other = ap (λ (ps : List Pair). choice_among sees owner items ps) (pairs-by k arm arms false one) ∙ more other

  -- where arms are never closed, it is in no pair
  unnamed : (k : ℕ) (arms : List Arm) → closes closed ≡ false → is_named_open owner closed (enumerate_from k arms) p ≡ false → Pairs k arms ≡ []
  unnamed k [] never other = refl
  unnamed k (arm ∷ arms) never other = by (is_of owner arm.op p) (is_closed closed k) refl (never-closed closed k never) (unnamed (k + 1) arms never) other
    where
      by : (b c : Bool) → is_of owner arm.op p ≡ b → c ≡ false → (is_named_open owner closed (enumerate_from (k + 1) arms) p ≡ false → Pairs (k + 1) arms ≡ [])
          → ((not c && b) || is_named_open owner closed (enumerate_from (k + 1) arms) p) ≡ false → Pairs k (arm ∷ arms) ≡ []
      by true true one not_closed more other = absurd (true≢false not_closed)
      by true false one not_closed more other = absurd (true≢false other)
      by false c one not_closed more other = pairs-by k arm arms false one ∙ more (not-named c other)
        where
          not-named : (c : Bool) → ((not c && false) || is_named_open owner closed (enumerate_from (k + 1) arms) p) ≡ false → is_named_open owner closed (enumerate_from (k + 1) arms) p ≡ false
          not-named true other = other
          not-named false other = other

module _ (owner : Owner) (closed : Closed) (arms : List Arm) (items : List Pending) where
  abbrev Named : Pending → Bool
  Named p = is_named_open owner closed (enumerate_from 0 arms) p

  abbrev Next : ℕ → Option ℕ
  Next i = next_open owner closed (enumerate_from 0 arms) i items

  named-here : (i : ℕ) (x : Pending) → i < length items → Named (get_or items i x) ≡ true → Next i ≡ Some i
  named-here i x low is = ap (position_from Named i) (drop_more items i x low) ∙ ap (λ b. cond b (Some i) (position_from Named (i + 1) (drop (i + 1) items))) is

  named-later : (i : ℕ) (x : Pending) → i < length items → Named (get_or items i x) ≡ false → Next i ≡ Next (i + 1)
  named-later i x low other = ap (position_from Named i) (drop_more items i x low) ∙ ap (λ b. cond b (Some i) (position_from Named (i + 1) (drop (i + 1) items))) other

  named-past : (i : ℕ) → length items ≤ i → Next i ≡ None
  named-past i past = ap (position_from Named i) (drop_all i items past)

  pub named-within : (i place : ℕ) → Next i ≡ Some place → (i ≤ place) × (place < length items)
  named-within i place at =
      let there = position-within Named i (drop i items) place at in
      let left = length-drop i items in
      (omega (arith, there.0), omega (arith, there.0, there.1, left))

  module _ (sees : Seeing) (old new : List Seen) (are : AreClosed sees arms closed) (closing : Bool) (same : closes closed ≡ closing) where
    abbrev So_far : ℕ → Type 0
    So_far i = QueueSoFar sees owner (enumerate_from 0 arms) items closing i old new

    abbrev Whole : Type 0
    Whole = WholeChoice sees owner (enumerate_from 0 arms) items closing None old new

    passed : (i : ℕ) (x : Pending) → slice_get items i ≡ Some x → Named x ≡ false → So_far i → So_far (i + 1)
    passed i x at other so_far =
        let shut : Shut sees closed 0 arms = λ j arm args is found. are.never j arm args (sym (ap (is_closed closed) (zero-add j)) ∙ is) found in
        queue-none sees owner (enumerate_from 0 arms) items closing i x old new new so_far at
        (sym (unpassed sees owner items closed i x 0 arms shut other))
        (λ never. sym (append-nil new) ∙ ap (λ ps. new ++ seen_among sees owner items ps) (sym (unnamed sees owner items closed i x 0 arms (same ∙ never) other)))

    -- what was found before a place is what was found before the next that is named
    to-named : (n i place : ℕ) → length items ≤ i + n → So_far i → Next i ≡ Some place → So_far place
    to-named zero i place most so_far at = absurd (none-some place (sym (named-past i (omega arith)) ∙ at))
    to-named (suc n) i place most so_far at = split (to-named n (i + 1) place (omega arith)) (slice_get_cases items i).1
      where
        by : (x : Pending) → i < length items → slice_get items i ≡ Some x → get_or items i x ≡ x → (b : Bool) → Named x ≡ b
            → (So_far (i + 1) → Next (i + 1) ≡ Some place → So_far place) → So_far place
        by x low found there true is more = let here : i ≡ place = same_Some i place (sym (named-here i x low (ap Named there ∙ is)) ∙ at) in subst So_far here so_far
        by x low found there false is more = more (passed i x found is so_far) (sym (named-later i x low (ap Named there ∙ is)) ∙ at)

        split : (So_far (i + 1) → Next (i + 1) ≡ Some place → So_far place) → Standing items i → So_far place
        split more (inl here) = by here.0 here.1 here.2 here.3 (Named here.0) refl more
        split more (inr past) = absurd (none-some place (sym (named-past i past.0) ∙ at))

    none-named : (n i : ℕ) → length items ≤ i + n → So_far i → Next i ≡ None → Whole
    none-named zero i most so_far at = queue-end sees owner (enumerate_from 0 arms) items closing i old new so_far (omega arith)
    none-named (suc n) i most so_far at = split (none-named n (i + 1) (omega arith)) (slice_get_cases items i).1
      where
        by : (x : Pending) → i < length items → slice_get items i ≡ Some x → get_or items i x ≡ x → (b : Bool) → Named x ≡ b → (So_far (i + 1) → Next (i + 1) ≡ None → Whole) → Whole
        by x low found there true is more = absurd (none-some i (sym at ∙ named-here i x low (ap Named there ∙ is)))
        by x low found there false is more = more (passed i x found is so_far) (sym (named-later i x low (ap Named there ∙ is)) ∙ at)

        split : (So_far (i + 1) → Next (i + 1) ≡ None → Whole) → Standing items i → Whole
        split more (inl here) = by here.0 here.1 here.2 here.3 (Named here.0) refl more
        split more (inr past) = queue-end sees owner (enumerate_from 0 arms) items closing i old new so_far past.0

-- what was found before a place, where some arms are closed
pub record OpenSoFar (sees : Seeing) (owner : Owner) (arms : List Arm) (items : List Pending) (closing : Bool) (closed : Closed) (place : ℕ) (old new : List Seen) : Type 0 where
  pub so_far : QueueSoFar sees owner (enumerate_from 0 arms) items closing place old new
  pub are : AreClosed sees arms closed
  pub same : closes closed ≡ closing

module _ {sees : Seeing} {owner : Owner} {arms : List Arm} {items : List Pending} {closing : Bool} {closed : Closed} {from : ℕ} {old new : List Seen} (open_so_far : OpenSoFar sees owner arms items closing closed from old new) where
  at-next : (place : ℕ) → next_open owner closed (enumerate_from 0 arms) from items ≡ Some place → QueueSoFar sees owner (enumerate_from 0 arms) items closing place old new
  at-next place at = to-named owner closed arms items sees old new open_so_far.are closing open_so_far.same (length items) from place (omega arith) open_so_far.so_far at

  -- the next that is named fixes no arm
  pub next-none : (place : ℕ) (p : Pending) (closed' : Closed) (next : List Seen) → next_open owner closed (enumerate_from 0 arms) from items ≡ Some place → slice_get items place ≡ Some p
      → None ≡ choice_among sees owner items (pairs_of owner (enumerate_from 0 arms) (place, p))
      → (closes closed ≡ false → next ≡ new ++ seen_among sees owner items (pairs_of owner (enumerate_from 0 arms) (place, p)))
      → AreClosed sees arms closed' → closes closed' ≡ closes closed → OpenSoFar sees owner arms items closing closed' (place + 1) old next
  next-none place p closed' next at found none read are same = record {
    so_far = queue-none sees owner (enumerate_from 0 arms) items closing place p old new next (at-next place at) found none (λ never. read (open_so_far.same ∙ never));
    are = are;
    same = same ∙ open_so_far.same;
  }

  -- it fixes one
  pub next-some : (place : ℕ) (p : Pending) (chosen : Choice) (next : List Seen) → next_open owner closed (enumerate_from 0 arms) from items ≡ Some place → slice_get items place ≡ Some p
      → Some chosen ≡ choice_among sees owner items (pairs_of owner (enumerate_from 0 arms) (place, p))
      → (closes closed ≡ false → next ≡ new ++ seen_among sees owner items (pairs_of owner (enumerate_from 0 arms) (place, p)))
      → WholeChoice sees owner (enumerate_from 0 arms) items closing (Some chosen) old next
  next-some place p chosen next at found some read =
      queue-some sees owner (enumerate_from 0 arms) items closing place p chosen old new next (at-next place at) found some (λ never. read (open_so_far.same ∙ never))

  -- none is left that is named
  pub next-end : next_open owner closed (enumerate_from 0 arms) from items ≡ None → WholeChoice sees owner (enumerate_from 0 arms) items closing None old new
  next-end at = none-named owner closed arms items sees old new open_so_far.are closing open_so_far.same (length items) from (omega arith) open_so_far.so_far at

-- ---- the search for the least

pub next-after : (owner : Owner) (op i : ℕ) (items : List Pending) (place : ℕ) → next_waiting owner op i items ≡ Some place → i ≤ place
next-after owner op i items place at = (position-within (is_of owner op) i (drop i items) place at).0

module _ (sees : Seeing) (owner : Owner) (arm : Arm) (by : Expr) (from : ℕ) (items : List Pending) (best : Option Keyed) (old new : List Seen) where
  abbrev Least_so_far : ℕ → Type 0
  Least_so_far i = LeastSoFar sees owner arm by from items i best old new

  pub to-next : (n i place : ℕ) → length items ≤ i + n → Least_so_far i → next_waiting owner arm.op i items ≡ Some place → Least_so_far place
  to-next zero i place most so_far at = absurd (none-some place (sym (next-past owner arm.op i items (omega arith)) ∙ at))
  to-next (suc n) i place most so_far at = split (to-next n (i + 1) place (omega arith)) (slice_get_cases items i).1
    where
      step : (x : Pending) → i < length items → slice_get items i ≡ Some x → get_or items i x ≡ x → (b : Bool) → is_of owner arm.op x ≡ b
          → (Least_so_far (i + 1) → next_waiting owner arm.op (i + 1) items ≡ Some place → Least_so_far place) → Least_so_far place
      step x low found same true is more = let here : i ≡ place = same_Some i place (sym (next-here owner arm.op i items x low (ap (is_of owner arm.op) same ∙ is)) ∙ at) in subst Least_so_far here so_far
      step x low found same false is more = more (step-skip sees owner arm by from items i x best old new so_far found is) (sym (next-later owner arm.op i items x low (ap (is_of owner arm.op) same ∙ is)) ∙ at)

      split : (Least_so_far (i + 1) → next_waiting owner arm.op (i + 1) items ≡ Some place → Least_so_far place) → Standing items i → Least_so_far place
      split more (inl here) = step here.0 here.1 here.2 here.3 (is_of owner arm.op here.0) refl more
      split more (inr past) = absurd (none-some place (sym (next-past owner arm.op i items past.0) ∙ at))

  pub none-next : (n i : ℕ) → length items ≤ i + n → Least_so_far i → next_waiting owner arm.op i items ≡ None → FindsLeast sees owner arm by from items (Ok best) old new
  none-next zero i most so_far at = end-found sees owner arm by from items i best old new so_far (omega arith)
  none-next (suc n) i most so_far at = split (none-next n (i + 1) (omega arith)) (slice_get_cases items i).1
    where
      step : (x : Pending) → i < length items → slice_get items i ≡ Some x → get_or items i x ≡ x → (b : Bool) → is_of owner arm.op x ≡ b
          → (Least_so_far (i + 1) → next_waiting owner arm.op (i + 1) items ≡ None → FindsLeast sees owner arm by from items (Ok best) old new) → FindsLeast sees owner arm by from items (Ok best) old new
      step x low found same true is more = absurd (none-some i (sym at ∙ next-here owner arm.op i items x low (ap (is_of owner arm.op) same ∙ is)))
      step x low found same false is more = more (step-skip sees owner arm by from items i x best old new so_far found is) (sym (next-later owner arm.op i items x low (ap (is_of owner arm.op) same ∙ is)) ∙ at)

      split : (Least_so_far (i + 1) → next_waiting owner arm.op (i + 1) items ≡ None → FindsLeast sees owner arm by from items (Ok best) old new) → Standing items i → FindsLeast sees owner arm by from items (Ok best) old new
      split more (inl here) = step here.0 here.1 here.2 here.3 (is_of owner arm.op here.0) refl more
      split more (inr past) = end-found sees owner arm by from items i best old new so_far past.0
