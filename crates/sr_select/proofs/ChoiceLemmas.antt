-- The choice among pairs, pair by pair.
use Rattle.std.proofs.Common.{◌≡◌, ℕ, ◌+◌, ◌≤◌, length, Bool, true, false, List, [], ◌∷◌, ◌++◌, drop, refl, ap, sym, ◌∙◌, cond}
use Rattle.std.specs.Prelude.{Option, Some, None, Result, Ok, Err, slice_get, find, flat_map}
use Rattle.std.specs.List.{cons_option, enumerate_from}
use Rattle.std.proofs.lemmas.List.{append_assoc, append-nil}
use Rattle.sr_value.specs.declared.capability.Owner.{Owner}
use Rattle.sr_value.specs.declared.fault.Fault.{Fault}
use Rattle.sr_ask.specs.declared.entry.Seen.{Seen}
use Rattle.sr_core.specs.declared.site.Arm.{Arm}
use Rattle.sr_queue.specs.declared.pending.Pending.{Pending}
use Rattle.sr_queue.specs.Queues.{is_of}
use Rattle.sr_select.specs.declared.choice.Choice.{Choice}
use Rattle.sr_select.specs.declared.choice.Choice.TheVariants.{Bad}
use Rattle.sr_select.specs.Choices.{Pair, Seeing, choice_among, decides, fixed, fixed_by, is_not_false, pairs, pairs_of, passes, passes_with, seen_among, seen_deciding, seen_fixed, seen_fixed_by, seen_serviced, serviced, through_first}
use Rattle.sr_select.specs.Looks.{Found, result_of, seen_of}
use Rattle.sr_select.specs.Steps.{passes_one}
use Rattle.sr_select.proofs.PlaceLemmas.{drop-at, drop-end}

module _ (sees : Seeing) (owner : Owner) (items : List Pending) where
  -- a pair whose `and` is false changes nothing but what was read
  pub choice-skip : (pair : Pair) (rest : List Pair) → decides sees pair ≡ false → choice_among sees owner items (pair ∷ rest) ≡ choice_among sees owner items rest
  choice-skip pair rest other = ap (λ b. fixed_by sees owner items (cond b (Some pair) (find (decides sees) rest))) other

  pub seen-skip : (pair : Pair) (rest : List Pair) → decides sees pair ≡ false → seen_among sees owner items (pair ∷ rest) ≡ seen_of (passes sees pair) ++ seen_among sees owner items rest
  seen-skip pair rest other =
      let read : Pair → List Seen = λ p. seen_of (passes sees p) in
      ap (λ b. flat_map read (pair ∷ cond b [] (through_first (decides sees) rest)) ++ seen_fixed_by sees owner items (cond b (Some pair) (find (decides sees) rest))) other
      ∙ append_assoc (read pair) (seen_deciding sees rest) (seen_fixed_by sees owner items (find (decides sees) rest))

  -- a pair that decides fixes the arm
  pub choice-take : (pair : Pair) (rest : List Pair) → decides sees pair ≡ true → choice_among sees owner items (pair ∷ rest) ≡ Some (fixed sees owner items pair (result_of (passes sees pair)))
  choice-take pair rest decided = ap (λ b. fixed_by sees owner items (cond b (Some pair) (find (decides sees) rest))) decided

  pub seen-take : (pair : Pair) (rest : List Pair) → decides sees pair ≡ true → seen_among sees owner items (pair ∷ rest) ≡ seen_of (passes sees pair) ++ seen_fixed sees owner items pair (result_of (passes sees pair))
  seen-take pair rest decided =
      let read : Pair → List Seen = λ p. seen_of (passes sees p) in
      ap (λ b. flat_map read (pair ∷ cond b [] (through_first (decides sees) rest)) ++ seen_fixed_by sees owner items (cond b (Some pair) (find (decides sees) rest))) decided
      ∙ ap (λ (front : List Seen). front ++ seen_fixed sees owner items pair (result_of (passes sees pair))) (append-nil (read pair))

  -- pairs before others
  choice-more : (pair : Pair) (rest more : List Pair) (b : Bool) → decides sees pair ≡ b
      → (choice_among sees owner items rest ≡ None → choice_among sees owner items (rest ++ more) ≡ choice_among sees owner items more)
      → choice_among sees owner items (pair ∷ rest) ≡ None → choice_among sees owner items (pair ∷ (rest ++ more)) ≡ choice_among sees owner items more
  choice-more pair rest more true decided later none = let some = choice-take pair rest decided in absurd (cc (some, none))
  choice-more pair rest more false other later none = choice-skip pair (rest ++ more) other ∙ later (sym (choice-skip pair rest other) ∙ none)

  pub choice-append-none : (front more : List Pair) → choice_among sees owner items front ≡ None → choice_among sees owner items (front ++ more) ≡ choice_among sees owner items more
  choice-append-none [] more none = refl
  choice-append-none (pair ∷ rest) more none = choice-more pair rest more (decides sees pair) refl (choice-append-none rest more) none

  seen-more : (pair : Pair) (rest more : List Pair) (b : Bool) → decides sees pair ≡ b
      → (choice_among sees owner items rest ≡ None → seen_among sees owner items (rest ++ more) ≡ seen_among sees owner items rest ++ seen_among sees owner items more)
      → choice_among sees owner items (pair ∷ rest) ≡ None → seen_among sees owner items (pair ∷ (rest ++ more)) ≡ seen_among sees owner items (pair ∷ rest) ++ seen_among sees owner items more
  seen-more pair rest more true decided later none = let some = choice-take pair rest decided in absurd (cc (some, none))
  seen-more pair rest more false other later none =
      let read : List Seen = seen_of (passes sees pair) in
      seen-skip pair (rest ++ more) other
      ∙ ap (λ (t : List Seen). read ++ t) (later (sym (choice-skip pair rest other) ∙ none))
      ∙ sym (append_assoc read (seen_among sees owner items rest) (seen_among sees owner items more))
      ∙ ap (λ (t : List Seen). t ++ seen_among sees owner items more) (sym (seen-skip pair rest other))

  pub seen-append-none : (front more : List Pair) → choice_among sees owner items front ≡ None → seen_among sees owner items (front ++ more) ≡ seen_among sees owner items front ++ seen_among sees owner items more
  seen-append-none [] more none = refl
  seen-append-none (pair ∷ rest) more none = seen-more pair rest more (decides sees pair) refl (seen-append-none rest more) none

  choice-enough : (pair : Pair) (rest more : List Pair) (chosen : Choice) (b : Bool) → decides sees pair ≡ b
      → (choice_among sees owner items rest ≡ Some chosen → choice_among sees owner items (rest ++ more) ≡ Some chosen)
      → choice_among sees owner items (pair ∷ rest) ≡ Some chosen → choice_among sees owner items (pair ∷ (rest ++ more)) ≡ Some chosen
  choice-enough pair rest more chosen true decided later some = choice-take pair (rest ++ more) decided ∙ sym (choice-take pair rest decided) ∙ some
  choice-enough pair rest more chosen false other later some = choice-skip pair (rest ++ more) other ∙ later (sym (choice-skip pair rest other) ∙ some)

  pub choice-append-some : (front more : List Pair) (chosen : Choice) → choice_among sees owner items front ≡ Some chosen → choice_among sees owner items (front ++ more) ≡ Some chosen
  choice-append-some [] more chosen some = absurd (cc some)
  choice-append-some (pair ∷ rest) more chosen some = choice-enough pair rest more chosen (decides sees pair) refl (choice-append-some rest more chosen) some

  seen-enough : (pair : Pair) (rest more : List Pair) (chosen : Choice) (b : Bool) → decides sees pair ≡ b
      → (choice_among sees owner items rest ≡ Some chosen → seen_among sees owner items (rest ++ more) ≡ seen_among sees owner items rest)
      → choice_among sees owner items (pair ∷ rest) ≡ Some chosen → seen_among sees owner items (pair ∷ (rest ++ more)) ≡ seen_among sees owner items (pair ∷ rest)
  seen-enough pair rest more chosen true decided later some = seen-take pair (rest ++ more) decided ∙ sym (seen-take pair rest decided)
  seen-enough pair rest more chosen false other later some =
      seen-skip pair (rest ++ more) other
      ∙ ap (λ (t : List Seen). seen_of (passes sees pair) ++ t) (later (sym (choice-skip pair rest other) ∙ some))
      ∙ sym (seen-skip pair rest other)

  pub seen-append-some : (front more : List Pair) (chosen : Choice) → choice_among sees owner items front ≡ Some chosen → seen_among sees owner items (front ++ more) ≡ seen_among sees owner items front
  seen-append-some [] more chosen some = absurd (cc some)
  seen-append-some (pair ∷ rest) more chosen some = seen-enough pair rest more chosen (decides sees pair) refl (seen-append-some rest more chosen) some

-- ---- the arms of one invocation

-- the pairs of an invocation with the arms from one on
abbrev pub arms_left : Owner → ℕ → Pending → List Arm → ℕ → List Pair
arms_left owner place p arms i = pairs_of owner (enumerate_from i (drop i arms)) (place, p)

-- What was found among the arms before one, with what is left, is what there is; so is what was read, unless arms are
-- closed.
pub record ArmsSoFar (sees : Seeing) (owner : Owner) (items : List Pending) (place : ℕ) (p : Pending) (arms : List Arm) (closed : Bool) (i : ℕ) (old new : List Seen) : Type 0 where
  pub choice : choice_among sees owner items (arms_left owner place p arms i) ≡ choice_among sees owner items (arms_left owner place p arms 0)
  pub seen : closed ≡ false → new ++ seen_among sees owner items (arms_left owner place p arms i) ≡ old ++ seen_among sees owner items (arms_left owner place p arms 0)

module _ (sees : Seeing) (owner : Owner) (items : List Pending) (place : ℕ) (p : Pending) (arms : List Arm) (closed : Bool) where
  abbrev Arms_left : ℕ → List Pair
  Arms_left i = arms_left owner place p arms i

  abbrev Pair_with : ℕ → Arm → Pair
  Pair_with i arm = record { place = place; invocation = p; number = i; arm = arm }

  abbrev Choice_of : List Pair → Option Choice
  Choice_of tried = choice_among sees owner items tried

  abbrev Seen_of : List Pair → List Seen
  Seen_of tried = seen_among sees owner items tried

  abbrev So_far : ℕ → List Seen → List Seen → Type 0
  So_far i old new = ArmsSoFar sees owner items place p arms closed i old new

  arm-left : (i : ℕ) (arm : Arm) (b : Bool) → slice_get arms i ≡ Some arm → is_of owner arm.op p ≡ b
      → Arms_left i ≡ cons_option (cond b (Some (Pair_with i arm)) None) (Arms_left (i + 1))
  arm-left i arm b found is =
      ap (λ (left : List Arm). pairs_of owner (enumerate_from i left) (place, p)) (drop-at i arms arm found)
      ∙ ap (λ (t : Bool). cons_option (cond t (Some (Pair_with i arm)) None) (Arms_left (i + 1))) is

  arms-other : (i : ℕ) (arm : Arm) (old new : List Seen) → So_far i old new → slice_get arms i ≡ Some arm → is_of owner arm.op p ≡ false → So_far (i + 1) old new
  arms-other i arm old new so_far found other =
      let left : Arms_left i ≡ Arms_left (i + 1) = arm-left i arm false found other in
      record {
        choice = ap (λ (ps : List Pair). Choice_of ps) (sym left) ∙ so_far.choice;
        seen = λ never. ap (λ (ps : List Pair). new ++ Seen_of ps) (sym left) ∙ so_far.seen never;
      }

  arms-false : (i : ℕ) (arm : Arm) (old new next : List Seen) → So_far i old new → slice_get arms i ≡ Some arm → is_of owner arm.op p ≡ true
      → result_of (passes_with sees arm p.args) ≡ Ok false → (closed ≡ false → next ≡ new ++ seen_of (passes_with sees arm p.args)) → So_far (i + 1) old next
  arms-false i arm old new next so_far found one is read =
      let left : Arms_left i ≡ Pair_with i arm ∷ Arms_left (i + 1) = arm-left i arm true found one in
      let other : decides sees (Pair_with i arm) ≡ false = ap is_not_false is in
      let looked : List Seen = seen_of (passes_with sees arm p.args) in
      record {
        choice = sym (choice-skip sees owner items (Pair_with i arm) (Arms_left (i + 1)) other) ∙ ap (λ (ps : List Pair). Choice_of ps) (sym left) ∙ so_far.choice;
        seen = λ never.
            ap (λ (s : List Seen). s ++ Seen_of (Arms_left (i + 1))) (read never) ∙ append_assoc new looked (Seen_of (Arms_left (i + 1)))
            ∙ ap (λ (s : List Seen). new ++ s) (sym (seen-skip sees owner items (Pair_with i arm) (Arms_left (i + 1)) other))
            ∙ ap (λ (ps : List Pair). new ++ Seen_of ps) (sym left) ∙ so_far.seen never;
      }

  arms-decided : (i : ℕ) (arm : Arm) (outcome : Result Bool Fault) (old new next : List Seen) → So_far i old new → slice_get arms i ≡ Some arm → is_of owner arm.op p ≡ true
      → result_of (passes_with sees arm p.args) ≡ outcome → is_not_false outcome ≡ true
      → (closed ≡ false → next ≡ (new ++ seen_of (passes_with sees arm p.args)) ++ seen_fixed sees owner items (Pair_with i arm) outcome)
      → (Some (fixed sees owner items (Pair_with i arm) outcome) ≡ Choice_of (Arms_left 0)) × (closed ≡ false → next ≡ old ++ Seen_of (Arms_left 0))
  arms-decided i arm outcome old new next so_far found one is decided read =
      let left : Arms_left i ≡ Pair_with i arm ∷ Arms_left (i + 1) = arm-left i arm true found one in
      let decided : decides sees (Pair_with i arm) ≡ true = ap is_not_false is ∙ decided in
      let looked : List Seen = seen_of (passes_with sees arm p.args) in (
        ap (λ (r : Result Bool Fault). Some (fixed sees owner items (Pair_with i arm) r)) (sym is)
            ∙ sym (choice-take sees owner items (Pair_with i arm) (Arms_left (i + 1)) decided)
            ∙ ap (λ (ps : List Pair). Choice_of ps) (sym left) ∙ so_far.choice,
        λ never.
            read never ∙ append_assoc new looked (seen_fixed sees owner items (Pair_with i arm) outcome)
            ∙ ap (λ (r : Result Bool Fault). new ++ (looked ++ seen_fixed sees owner items (Pair_with i arm) r)) (sym is)
            ∙ ap (λ (s : List Seen). new ++ s) (sym (seen-take sees owner items (Pair_with i arm) (Arms_left (i + 1)) decided))
            ∙ ap (λ (ps : List Pair). new ++ Seen_of ps) (sym left) ∙ so_far.seen never,
      )

  arms-fault : (i : ℕ) (arm : Arm) (found : Fault) (old new next : List Seen) → So_far i old new → slice_get arms i ≡ Some arm → is_of owner arm.op p ≡ true
      → result_of (passes_with sees arm p.args) ≡ Err found → (closed ≡ false → next ≡ new ++ seen_of (passes_with sees arm p.args))
      → (Some (Bad found i) ≡ Choice_of (Arms_left 0)) × (closed ≡ false → next ≡ old ++ Seen_of (Arms_left 0))
  arms-fault i arm found old new next so_far at one is read =
      arms-decided i arm (Err found) old new next so_far at one is refl (λ never. read never ∙ sym (append-nil (new ++ seen_of (passes_with sees arm p.args))))

  -- an arm, of whatever operation; where it is of another, nothing is read
  unread : (arm : Arm) → is_of owner arm.op p ≡ false → (new next : List Seen) → next ≡ new ++ seen_of (passes_one sees owner arm p) → next ≡ new
  unread arm other new next read = read ∙ ap (λ (t : Bool). new ++ seen_of (cond t (passes_with sees arm p.args) (Found false []))) other ∙ append-nil new

  other-seen : (i : ℕ) (arm : Arm) (old new next : List Seen) → is_of owner arm.op p ≡ false → So_far (i + 1) old new
      → (closed ≡ false → next ≡ new ++ seen_of (passes_one sees owner arm p)) → So_far (i + 1) old next
  other-seen i arm old new next other so_far read = record {
    choice = so_far.choice;
    seen = λ never. ap (λ (s : List Seen). s ++ Seen_of (Arms_left (i + 1))) (unread arm other new next (read never)) ∙ so_far.seen never;
  }

  arm-other : (b : Bool) (i : ℕ) (arm : Arm) (old new next : List Seen) → So_far i old new → slice_get arms i ≡ Some arm → is_of owner arm.op p ≡ b
      → result_of (passes_one sees owner arm p) ≡ Ok false → (closed ≡ false → next ≡ new ++ seen_of (passes_one sees owner arm p)) → So_far (i + 1) old next
  arm-other true i arm old new next so_far found one is read =
      arms-false i arm old new next so_far found one
      (sym (ap (λ (t : Bool). result_of (cond t (passes_with sees arm p.args) (Found false []))) one) ∙ is)
      (λ never. read never ∙ ap (λ (t : Bool). new ++ seen_of (cond t (passes_with sees arm p.args) (Found false []))) one)
  arm-other false i arm old new next so_far found other is read = other-seen i arm old new next other (arms-other i arm old new so_far found other) read

  pub arm-passed-over : (i : ℕ) (arm : Arm) (old new next : List Seen) → So_far i old new → slice_get arms i ≡ Some arm
      → result_of (passes_one sees owner arm p) ≡ Ok false → (closed ≡ false → next ≡ new ++ seen_of (passes_one sees owner arm p)) → So_far (i + 1) old next
  arm-passed-over i arm old new next so_far found is read = arm-other (is_of owner arm.op p) i arm old new next so_far found refl is read

  arm-decided : (b : Bool) (i : ℕ) (arm : Arm) (old new next : List Seen) → So_far i old new → slice_get arms i ≡ Some arm → is_of owner arm.op p ≡ b
      → result_of (passes_one sees owner arm p) ≡ Ok true
      → (closed ≡ false → next ≡ (new ++ seen_of (passes_one sees owner arm p)) ++ seen_serviced sees owner items place arm arm.by)
      → (Some (serviced sees owner items place i arm arm.by) ≡ Choice_of (Arms_left 0)) × (closed ≡ false → next ≡ old ++ Seen_of (Arms_left 0))
  arm-decided true i arm old new next so_far found one is read =
      arms-decided i arm (Ok true) old new next so_far found one
      (sym (ap (λ (t : Bool). result_of (cond t (passes_with sees arm p.args) (Found false []))) one) ∙ is) refl
      (λ never. read never ∙ ap (λ (t : Bool). (new ++ seen_of (cond t (passes_with sees arm p.args) (Found false []))) ++ seen_serviced sees owner items place arm arm.by) one)
  arm-decided false i arm old new next so_far found other is read =
      let other : Ok false ≡ Ok true = sym (ap (λ (t : Bool). result_of (cond t (passes_with sees arm p.args) (Found false []))) other) ∙ is in
      absurd (cc other)

  pub arm-fixed : (i : ℕ) (arm : Arm) (old new next : List Seen) → So_far i old new → slice_get arms i ≡ Some arm
      → result_of (passes_one sees owner arm p) ≡ Ok true
      → (closed ≡ false → next ≡ (new ++ seen_of (passes_one sees owner arm p)) ++ seen_serviced sees owner items place arm arm.by)
      → (Some (serviced sees owner items place i arm arm.by) ≡ Choice_of (Arms_left 0)) × (closed ≡ false → next ≡ old ++ Seen_of (Arms_left 0))
  arm-fixed i arm old new next so_far found is read = arm-decided (is_of owner arm.op p) i arm old new next so_far found refl is read

  arm-bad : (b : Bool) (i : ℕ) (arm : Arm) (fault : Fault) (old new next : List Seen) → So_far i old new → slice_get arms i ≡ Some arm → is_of owner arm.op p ≡ b
      → result_of (passes_one sees owner arm p) ≡ Err fault → (closed ≡ false → next ≡ new ++ seen_of (passes_one sees owner arm p))
      → (Some (Bad fault i) ≡ Choice_of (Arms_left 0)) × (closed ≡ false → next ≡ old ++ Seen_of (Arms_left 0))
  arm-bad true i arm fault old new next so_far found one is read =
      arms-fault i arm fault old new next so_far found one
      (sym (ap (λ (t : Bool). result_of (cond t (passes_with sees arm p.args) (Found false []))) one) ∙ is)
      (λ never. read never ∙ ap (λ (t : Bool). new ++ seen_of (cond t (passes_with sees arm p.args) (Found false []))) one)
  arm-bad false i arm fault old new next so_far found other is read =
      let other : Ok false ≡ Err fault = sym (ap (λ (t : Bool). result_of (cond t (passes_with sees arm p.args) (Found false []))) other) ∙ is in
      absurd (cc other)

  pub arm-faulted : (i : ℕ) (arm : Arm) (fault : Fault) (old new next : List Seen) → So_far i old new → slice_get arms i ≡ Some arm
      → result_of (passes_one sees owner arm p) ≡ Err fault → (closed ≡ false → next ≡ new ++ seen_of (passes_one sees owner arm p))
      → (Some (Bad fault i) ≡ Choice_of (Arms_left 0)) × (closed ≡ false → next ≡ old ++ Seen_of (Arms_left 0))
  arm-faulted i arm fault old new next so_far found is read = arm-bad (is_of owner arm.op p) i arm fault old new next so_far found refl is read

  pub arms-end : (i : ℕ) (old new : List Seen) → So_far i old new → length arms ≤ i → (None ≡ Choice_of (Arms_left 0)) × (closed ≡ false → new ≡ old ++ Seen_of (Arms_left 0))
  arms-end i old new so_far end =
      let left : Arms_left i ≡ [] = ap (λ (rest : List Arm). pairs_of owner (enumerate_from i rest) (place, p)) (drop-end i arms end) in (
        ap (λ (ps : List Pair). Choice_of ps) (sym left) ∙ so_far.choice,
        λ never. sym (append-nil new) ∙ ap (λ (ps : List Pair). new ++ Seen_of ps) (sym left) ∙ so_far.seen never,
      )

-- ---- the invocations of a queue

-- the pairs of the invocations from a place on
abbrev pub queue_left : Owner → List (ℕ × Arm) → List Pending → ℕ → List Pair
queue_left owner arms items place = pairs owner arms (enumerate_from place (drop place items))

-- What was found among the invocations before a place, with what is left, is what there is; so is what was read, unless
-- arms are closed.
pub record QueueSoFar (sees : Seeing) (owner : Owner) (arms : List (ℕ × Arm)) (items : List Pending) (closed : Bool) (place : ℕ) (old new : List Seen) : Type 0 where
  pub choice : choice_among sees owner items (queue_left owner arms items place) ≡ choice_among sees owner items (queue_left owner arms items 0)
  pub seen : closed ≡ false → new ++ seen_among sees owner items (queue_left owner arms items place) ≡ old ++ seen_among sees owner items (queue_left owner arms items 0)

-- the choice among all pairs, and what it reads, unless arms are closed
abbrev pub WholeChoice : Seeing → Owner → List (ℕ × Arm) → List Pending → Bool → Option Choice → List Seen → List Seen → Type 0
WholeChoice sees owner arms items closed chosen old new =
    (chosen ≡ choice_among sees owner items (queue_left owner arms items 0)) × (closed ≡ false → new ≡ old ++ seen_among sees owner items (queue_left owner arms items 0))

module _ (sees : Seeing) (owner : Owner) (arms : List (ℕ × Arm)) (items : List Pending) (closed : Bool) where
  abbrev Left : ℕ → List Pair
  Left place = queue_left owner arms items place

  abbrev Queue_so_far : ℕ → List Seen → List Seen → Type 0
  Queue_so_far place old new = QueueSoFar sees owner arms items closed place old new

  left-at : (place : ℕ) (p : Pending) → slice_get items place ≡ Some p → Left place ≡ pairs_of owner arms (place, p) ++ Left (place + 1)
  left-at place p found = ap (λ (left : List Pending). pairs owner arms (enumerate_from place left)) (drop-at place items p found)

  pub queue-none : (place : ℕ) (p : Pending) (old new next : List Seen) → Queue_so_far place old new → slice_get items place ≡ Some p
      → None ≡ choice_among sees owner items (pairs_of owner arms (place, p)) → (closed ≡ false → next ≡ new ++ seen_among sees owner items (pairs_of owner arms (place, p)))
      → Queue_so_far (place + 1) old next
  queue-none place p old new next so_far found none read =
      let here : List Pair = pairs_of owner arms (place, p) in
      let looked : List Seen = seen_among sees owner items here in
      let later : List Seen = seen_among sees owner items (Left (place + 1)) in
      record {
        choice = sym (choice-append-none sees owner items here (Left (place + 1)) (sym none)) ∙ ap (λ (ps : List Pair). choice_among sees owner items ps) (sym (left-at place p found)) ∙ so_far.choice;
        seen = λ never.
            ap (λ (s : List Seen). s ++ later) (read never) ∙ append_assoc new looked later
            ∙ ap (λ (s : List Seen). new ++ s) (sym (seen-append-none sees owner items here (Left (place + 1)) (sym none)))
            ∙ ap (λ (ps : List Pair). new ++ seen_among sees owner items ps) (sym (left-at place p found)) ∙ so_far.seen never;
      }

  pub queue-some : (place : ℕ) (p : Pending) (chosen : Choice) (old new next : List Seen) → Queue_so_far place old new → slice_get items place ≡ Some p
      → Some chosen ≡ choice_among sees owner items (pairs_of owner arms (place, p)) → (closed ≡ false → next ≡ new ++ seen_among sees owner items (pairs_of owner arms (place, p)))
      → WholeChoice sees owner arms items closed (Some chosen) old next
  queue-some place p chosen old new next so_far found some read =
      let here : List Pair = pairs_of owner arms (place, p) in (
        sym (choice-append-some sees owner items here (Left (place + 1)) chosen (sym some)) ∙ ap (λ (ps : List Pair). choice_among sees owner items ps) (sym (left-at place p found)) ∙ so_far.choice,
        λ never.
            read never ∙ ap (λ (s : List Seen). new ++ s) (sym (seen-append-some sees owner items here (Left (place + 1)) chosen (sym some)))
            ∙ ap (λ (ps : List Pair). new ++ seen_among sees owner items ps) (sym (left-at place p found)) ∙ so_far.seen never,
      )

  pub queue-end : (place : ℕ) (old new : List Seen) → Queue_so_far place old new → length items ≤ place → WholeChoice sees owner arms items closed None old new
  queue-end place old new so_far end =
      let left : Left place ≡ [] = ap (λ (rest : List Pending). pairs owner arms (enumerate_from place rest)) (drop-end place items end) in (
        ap (λ (ps : List Pair). choice_among sees owner items ps) (sym left) ∙ so_far.choice,
        λ never. sym (append-nil new) ∙ ap (λ (ps : List Pair). new ++ seen_among sees owner items ps) (sym left) ∙ so_far.seen never,
      )
