-- The causes of a run exclude each other.
use Rattle.std.proofs.Common.{◌≡◌, ◌≢◌, ℕ, ◌-◌, ◌^◌, ◌<◌, Bool, true, false, not, cond, List, [], ◌∷◌, ◌++◌, Option, None, Some, refl, ap, sym, ◌∙◌, subst, arith}
use Rattle.std.proofs.lemmas.List.{append_cancel_right}
use Rattle.std.specs.Prelude.{IfSome, find, fold}
use Rattle.std.specs.Io.KnownBytes.{prepend_known}
use Rattle.sr_ask.specs.declared.ask.Asks.TheVariants.{OverTicks}
use Rattle.sr_ask.specs.declared.start.Start.{Start}
use Rattle.sr_core.specs.declared.component.Core.{Core}
use Rattle.sr_plain.specs.Engine.{IsOver, WaitsForInput}
use Rattle.sr_plain.specs.Turns.{last_after, takes_turn, turn, walk}
use Rattle.sr_ports.specs.Faults.{Rose}
use Rattle.sr_run.specs.Arranged.{InTurn}
use Rattle.sr_run.specs.Causes.{HasCause, LimitCause}
use Rattle.sr_run.specs.OneCause.{IsTold, OneCause}
use Rattle.sr_run.specs.Runs.{Call, GoesOn, IsRun, Runs, turn_after}
use Rattle.sr_run.specs.declared.end.LimitKind.{LimitKind}
use Rattle.sr_run.specs.declared.end.LimitKind.TheVariants.{Steps, Ticks, Input}
use Rattle.sr_run.specs.declared.end.RunEnd.{RunEnd}
use Rattle.sr_run.specs.declared.end.RunEnd.TheVariants.{Ended, Limit, ReadFault, WriteFault, NoMemory}
use Rattle.sr_world.specs.Does.{Outcome, IsNot, IsOpen, comes_to}
use Rattle.sr_world.specs.Laws.{closes, next_with_all, with_all_in}
use Rattle.sr_world.specs.Runs.{Next, Goes, State, asks_for, asks_next, bytes_in, is_legal, led, run}
use Rattle.sr_world.specs.declared.ends.End.{End}
use Rattle.sr_world.proofs.PieceLemmas.{items_give_the_run, same-blocked}

-- ---- counts

same_or_rose : (before now : ℕ) → before < 2 ^ 64 - 1 → now ≡ before → Rose before now → ⊥
same_or_rose before now less same rose = omega (arith, less, same, rose.later, rose.rose)

-- ---- the bytes that are left

left_over : (input taken : List ℕ) (now : Option (List ℕ)) → Some input ≡ prepend_known taken now → (rest : List ℕ) × (now ≡ Some rest) × (input ≡ taken ++ rest)
left_over input taken None passed = absurd (cc)
left_over input taken (Some rest) passed = (rest, refl, cc)

same_left : (a b : List ℕ) → ◌≡◌ {A = Option (List ℕ)} (Some a) (Some b) → a ≡ b
same_left a b is = cc

same_next : (a b : State) → Goes a ≡ Goes b → a ≡ b
same_next a b is = cc

legal-goes : (now : Next) (state : State) → now ≡ Goes state → is_legal now ≡ true
legal-goes now state is = ap is_legal is

module _ (call : Call) (told : IsTold call) where
  -- where the items lead with all of the input
  leads_to : (taken : List ℕ) (ended : Bool) (state : State) (goes : GoesOn InTurn call false taken ended state) (rest : List ℕ) → call.now.left ≡ Some rest → told.input ≡ taken ++ rest
      → run call.core call.ticks told.input call.items ≡ Goes (with_all_in rest state)
  leads_to taken ended state goes rest left is =
      let reaches = goes.reaches in
      let none : closes reaches.events ≡ true → rest ≡ [] = λ closed.
      subst (λ o. IfSome o (λ bytes. bytes ≡ [])) left (goes.runs.took.at_end (sym reaches.closed ∙ closed)) in
      ap (λ bytes. run call.core call.ticks bytes call.items) (is ∙ ap (λ bytes. bytes ++ rest) (sym reaches.gives))
      ∙ ap (run call.core call.ticks (bytes_in reaches.events ++ rest)) (sym reaches.makes)
      ∙ items_give_the_run call.core call.ticks reaches.events rest (legal-goes (led call.core call.ticks reaches.events) state reaches.leads) none
      ∙ ap (next_with_all rest) reaches.leads

-- ---- turns

module _ (core : Core) (limit : ℕ) where
  same-find : (state : State) (starts : List Start) → find (takes_turn core limit (with_all_in [] state)) starts ≡ find (takes_turn core limit state) starts
  same-find state [] = refl
  same-find state (s ∷ ss) =
      ap (λ b. cond (not b) (Some s) (find (takes_turn core limit (with_all_in [] state)) ss)) (same-blocked core limit [] state (λ ended. refl) s.process (asks_next core limit state s))
      ∙ ap (cond (takes_turn core limit state s) (Some s)) (same-find state ss)

  same-turn : (a b : State) (last : ℕ) → with_all_in [] a ≡ with_all_in [] b → turn core limit a last ≡ turn core limit b last
  same-turn a b last same = sym (same-find a (walk a.world last)) ∙ ap (λ state. turn core limit state last) same ∙ same-find b (walk b.world last)

  same-asks : (a b : State) (start : Start) → with_all_in [] a ≡ with_all_in [] b → asks_next core limit a start ≡ asks_next core limit b start
  same-asks a b start same = ap (λ state. asks_next core limit state start) same

  -- of one turn
  one_over : (a b : State) (p q : ℕ) (t u : Option Start) → t ≡ u → IsOver core limit a p t → IsOver core limit b q u → p ≡ q
  one_over a b p q t u same over other = by u (subst (IsOver core limit a p) same over) other
    where
      by : (o : Option Start) → IsOver core limit a p o → IsOver core limit b q o → p ≡ q
      by None over other = absurd over
      by (Some start) over other = over.0 ∙ sym other.0

  over_or_waits : (a b : State) (p : ℕ) (t u : Option Start) → with_all_in [] a ≡ with_all_in [] b → t ≡ u → IsOver core limit a p t → WaitsForInput core limit b u → ⊥
  over_or_waits a b p t u states same over waits = by u (subst (IsOver core limit a p) same over) waits
    where
      differ : ◌≡◌ {A = Outcome} IsNot IsOpen → ⊥
      differ is = cc

      by : (o : Option Start) → IsOver core limit a p o → WaitsForInput core limit b o → ⊥
      by None over waits = over
      by (Some start) over waits =
          let asks : asks_next core limit b start ≡ OverTicks = sym (same-asks a b start states) ∙ over.1 in
          differ (sym (ap (λ asks. comes_to (asks_for core b.world start.process 0 asks)) asks) ∙ waits)

-- with the rest, two states are the same without it
same_rest : (rest : List ℕ) (a b : State) → with_all_in rest a ≡ with_all_in rest b → with_all_in [] a ≡ with_all_in [] b
same_rest rest a b same =
    let left : a.world.rest ≡ b.world.rest = append_cancel_right a.world.rest b.world.rest rest (ap (λ (s : State). s.world.rest) same) in
    ap (λ (s : State). record s { world = record s.world { rest = a.world.rest ++ [] } }) same
    ∙ ap (λ bytes. record b { world = record b.world { rest = bytes ++ []; ended = true } }) left

-- ---- the causes

module _ (call : Call) (told : IsTold call) where
  -- the run with all of the input, where it is told
  told_run : (taken : List ℕ) (ended : Bool) (ending : Option End) (output : List ℕ) → Runs InTurn call false taken ended ending output → IsRun InTurn call false told.input ending output
  told_run taken ended ending output runs = subst (λ o. IfSome o (λ input. IsRun InTurn call false input ending output)) told.told runs.told

  one_ending : (taken taken' : List ℕ) (ended ended' : Bool) (a b : Option End) (output output' : List ℕ) → Runs InTurn call false taken ended a output → Runs InTurn call false taken' ended' b output' → a ≡ b
  one_ending taken taken' ended ended' a b output output' runs other = sym (told_run taken ended a output runs).ends ∙ (told_run taken' ended' b output' other).ends

  -- the states that its items lead to
  one_state : (taken taken' : List ℕ) (ended ended' : Bool) (a b : State) → GoesOn InTurn call false taken ended a → GoesOn InTurn call false taken' ended' b → with_all_in [] a ≡ with_all_in [] b
  one_state taken taken' ended ended' a b goes other =
      let over = left_over told.input taken call.now.left (sym told.told ∙ goes.runs.took.passed) in
      let over' = left_over told.input taken' call.now.left (sym told.told ∙ other.runs.took.passed) in
      let rests : over'.0 ≡ over.0 = same_left over'.0 over.0 (sym over'.1 ∙ over.1) in
      same_rest over.0 a b
      (same_next (with_all_in over.0 a) (with_all_in over.0 b)
      (sym (leads_to call told taken ended a goes over.0 over.1 over.2)
      ∙ leads_to call told taken' ended' b other over'.0 over'.1 over'.2
      ∙ ap (λ rest. Goes (with_all_in rest b)) rests))

  one_turn : (a b : State) → with_all_in [] a ≡ with_all_in [] b → turn_after call a ≡ turn_after call b
  one_turn a b same = same-turn call.core call.ticks a b (fold last_after 0 call.items) same

  goes-on : (kind : LimitKind) → LimitCause InTurn call kind → (taken : List ℕ) × (ended : Bool) × (output : List ℕ) × Runs InTurn call false taken ended None output
  goes-on Steps cause = (cause.taken, cause.ended, cause.state.world.output, cause.goes_on.runs)
  goes-on (Ticks process) cause = (cause.taken, cause.ended, cause.state.world.output, cause.goes_on.runs)
  goes-on Input cause = (cause.taken, _, cause.state.world.output, cause.goes_on.runs)

  ended-or-not : (ending : End) → ◌≡◌ {A = Option End} (Some ending) None → ⊥
  ended-or-not ending is = cc

  itself_or_limit : (ending : End) (kind : LimitKind) → HasCause call (Ended ending) → LimitCause InTurn call kind → ⊥
  itself_or_limit ending kind itself limit =
      let on = goes-on kind limit in
      ended-or-not ending (one_ending itself.taken on.0 itself.ended on.1 (Some ending) None itself.output on.2 itself.runs on.3)

  one_limit : (kind other : LimitKind) → LimitCause InTurn call kind → LimitCause InTurn call other → kind ≡ other
  one_limit Steps Steps cause again = refl
  one_limit Steps (Ticks process) cause again = absurd (omega (arith, cause.all, again.fewer))
  one_limit Steps Input cause again = absurd (omega (arith, cause.all, again.fewer))
  one_limit (Ticks process) Steps cause again = absurd (omega (arith, cause.fewer, again.all))
  one_limit (Ticks p) (Ticks q) cause again =
      let states = one_state cause.taken again.taken cause.ended again.ended cause.state again.state cause.goes_on again.goes_on in
      ap Ticks (one_over call.core call.ticks cause.state again.state p q (turn_after call cause.state) (turn_after call again.state) (one_turn cause.state again.state states) cause.over again.over)
  one_limit (Ticks p) Input cause again =
      let states = one_state cause.taken again.taken cause.ended _ cause.state again.state cause.goes_on again.goes_on in
      absurd (over_or_waits call.core call.ticks cause.state again.state p (turn_after call cause.state) (turn_after call again.state) states (one_turn cause.state again.state states) cause.over again.waits)
  one_limit Input Steps cause again = absurd (omega (arith, cause.fewer, again.all))
  one_limit Input (Ticks p) cause again =
      let states = one_state again.taken cause.taken again.ended _ again.state cause.state again.goes_on cause.goes_on in
      absurd (over_or_waits call.core call.ticks again.state cause.state p (turn_after call again.state) (turn_after call cause.state) states (one_turn again.state cause.state states) again.over cause.waits)
  one_limit Input Input cause again = refl

  -- no count of faults rose
  limit-reads : (kind : LimitKind) → LimitCause InTurn call kind → call.now.read_faults ≡ call.before.read_faults
  limit-reads Steps cause = cause.no_faults.read
  limit-reads (Ticks process) cause = cause.no_faults.read
  limit-reads Input cause = cause.no_faults.read

  limit-writes : (kind : LimitKind) → LimitCause InTurn call kind → call.now.write_faults ≡ call.before.write_faults
  limit-writes Steps cause = cause.no_faults.write
  limit-writes (Ticks process) cause = cause.no_faults.write
  limit-writes Input cause = cause.no_faults.write

  read_failed : call.now.read_faults ≡ call.before.read_faults → Rose call.before.read_faults call.now.read_faults → ⊥
  read_failed same rose = same_or_rose call.before.read_faults call.now.read_faults told.reads same rose

  write_failed : call.now.write_faults ≡ call.before.write_faults → Rose call.before.write_faults call.now.write_faults → ⊥
  write_failed same rose = same_or_rose call.before.write_faults call.now.write_faults told.writes same rose

  one : (a b : RunEnd) → a ≢ NoMemory → b ≢ NoMemory → HasCause call a → HasCause call b → a ≡ b
  one (Ended e) (Ended f) some other cause again =
      ap Ended (same e f (one_ending cause.taken again.taken cause.ended again.ended (Some e) (Some f) cause.output again.output cause.runs again.runs))
    where
      same : (e f : End) → ◌≡◌ {A = Option End} (Some e) (Some f) → e ≡ f
      same e f is = cc
  one (Ended e) (Limit kind) some other cause again = absurd (itself_or_limit e kind cause again)
  one (Ended e) ReadFault some other cause again = absurd (read_failed cause.no_faults.read again.failed)
  one (Ended e) WriteFault some other cause again = absurd (write_failed cause.no_faults.write again.failed)
  one (Ended e) NoMemory some other cause again = absurd (other refl)
  one (Limit kind) (Ended e) some other cause again = absurd (itself_or_limit e kind again cause)
  one (Limit kind) (Limit same) some other cause again = ap Limit (one_limit kind same cause again)
  one (Limit kind) ReadFault some other cause again = absurd (read_failed (limit-reads kind cause) again.failed)
  one (Limit kind) WriteFault some other cause again = absurd (write_failed (limit-writes kind cause) again.failed)
  one (Limit kind) NoMemory some other cause again = absurd (other refl)
  one ReadFault (Ended e) some other cause again = absurd (read_failed again.no_faults.read cause.failed)
  one ReadFault (Limit kind) some other cause again = absurd (read_failed (limit-reads kind again) cause.failed)
  one ReadFault ReadFault some other cause again = refl
  one ReadFault WriteFault some other cause again = absurd (read_failed again.no_read_fault cause.failed)
  one ReadFault NoMemory some other cause again = absurd (other refl)
  one WriteFault (Ended e) some other cause again = absurd (write_failed again.no_faults.write cause.failed)
  one WriteFault (Limit kind) some other cause again = absurd (write_failed (limit-writes kind again) cause.failed)
  one WriteFault ReadFault some other cause again = absurd (write_failed again.no_write_fault cause.failed)
  one WriteFault WriteFault some other cause again = refl
  one WriteFault NoMemory some other cause again = absurd (other refl)
  one NoMemory b some other cause again = absurd (some refl)

pub one_cause : OneCause
one_cause call end other told some memory cause again = one call told end other some memory cause again
