-- Proofs of the laws.
use Rattle.std.proofs.Common.{◌≡◌, ℕ, zero, suc, ◌<◌, Bool, true, false, List, Option, Some, None, Ok, refl, sym, ap, ◌∙◌, subst, arith}
use Rattle.sr_value.specs.declared.capability.Cap.{Cap}
use Rattle.sr_value.specs.declared.fault.Fault.TheVariants.{Range}
use Rattle.sr_value.specs.declared.value.Value.{Value, out-Value, out-roll-Value}
use Rattle.sr_value.specs.declared.value.Value.TheOpen.{Value-F}
use Rattle.sr_value.specs.declared.value.Value.TheVariants.{Bool as truth_value, rolls-Bool}
use Rattle.sr_value.specs.Operands.{layer_bool}
use Rattle.sr_value.specs.Parts.{or_fault}
use Rattle.sr_ask.specs.Asking.{made}
use Rattle.sr_ask.specs.declared.request.Request.TheVariants.{Forward as forward_request}
use Rattle.sr_core.specs.Values.{truth_of}
use Rattle.sr_ask.specs.Behaviors.{Stage, Outcome, Came, Stops, Doing, and_then, ticked, looped, turned, turns, room}
use Rattle.sr_meaning.specs.declared.ending.Ending.{Ending}
use Rattle.sr_meaning.specs.Here.{Here, request}
use Rattle.sr_meaning.specs.Laws.{AsksForGood, LeftDecides, CallsInOrder, RepliesOnce, GainsNothing, OneTurnThenTheLoop}
use Rattle.sr_meaning.specs.Statements.{forward_unless, reply_unless}
use Rattle.sr_meaning.proofs.Forever.{forever}
use Rattle.sr_ask.specs.Replies.{mark_answered}

pub asks_for_good : AsksForGood
asks_for_good = record {
  finish_again = λ here stage. forever _ here.limit stage;
  stop_again = λ status here stage. forever _ here.limit stage;
  fail_again = λ fault here stage. forever _ here.limit stage;
}

-- a `bool` is its own truth
truth-of-bool : (b : Bool) → truth_of (truth_value b) ≡ Ok b
truth-of-bool b = ap (λ layer. or_fault Range (layer_bool layer)) (ap out-Value (sym (rolls-Bool b)) ∙ out-roll-Value (Value-F.Bool b))

pub left_decides : LeftDecides
left_decides = record {
  and_false = λ left right here stage after e. rw e (rw (truth-of-bool false));
  or_true = λ left right here stage after e. rw e (rw (truth-of-bool true));
}

pub calls_in_order : CallsInOrder
calls_in_order = record {
  first_first = λ first rest here stage next a e. rw e;
  then_invoke = λ target args returns here stage next last value cap sent e1 e2 e3. rw e1 (rw e2 (rw e3));
  then_store = λ place places value values here stage next e. rw e;
}

-- ---- services

-- whether a stage after a reply is marked
marked : Outcome (Unit {0}) → Bool
marked (Came u stage) = stage.service.answered
marked (Stops asks) = true

mark_is_there : {A : Type 0} (o : Outcome A) → marked (and_then o (λ _. mark_answered)) ≡ true
unfolding marked
mark_is_there (Came u stage) = refl
mark_is_there (Stops asks) = refl

came_marked : (o : Outcome (Unit {0})) (after : Stage) → marked o ≡ true → o ≡ Came tt after → after.service.answered ≡ true
unfolding marked
came_marked o after m e = sym (ap marked e) ∙ m

reply_marks : (b : Bool) (here : Here) (stage : Stage) → stage.service.answered ≡ b → marked (reply_unless b here stage) ≡ true
unfolding marked
reply_marks true here stage is = is
reply_marks false here stage is = mark_is_there _

forward_marks : (target : Cap) (args : List Value) (here : Here) (stage : Stage) → marked (forward_unless false target args here stage) ≡ true
unfolding marked
forward_marks target args here stage = mark_is_there (request made (forward_request stage.service.held stage.service.back target args) here stage)

forward_marks_at : (target : Cap) (args : List Value) (here : Here) (stage : Stage) → stage.service.answered ≡ false
    → marked (forward_unless stage.service.answered target args here stage) ≡ true
forward_marks_at target args here stage is =
    let P : Bool → Type 0 = λ b. marked (forward_unless b target args here stage) ≡ true in
    subst P (sym is) (forward_marks target args here stage)

pub replies_once : RepliesOnce
replies_once = record {
  at_the_end = λ pick arm block here stage made begun left ending e1 e2 e3. rw e1 (rw e2 (rw e3));
  after_reply = λ here stage after e. came_marked _ after (reply_marks _ here stage refl) e;
  no_second = λ here stage e. rw e;
  after_forward = λ target args here stage after is e. came_marked _ after (forward_marks_at target args here stage is) e;
}

-- ---- loops

same_after_tick : (F G : Unit {0} → Doing Ending) (ticks : ℕ) (stage : Stage)
    → ((left : ℕ) → ticks ≡ suc left → F tt (record stage { ticks = left }) ≡ G tt (record stage { ticks = left }))
    → and_then (ticked ticks stage) F ≡ and_then (ticked ticks stage) G
same_after_tick F G zero stage same = refl
same_after_tick F G (suc left) stage same = same left refl

same_after_turn : (F G : Doing Ending) (o : Outcome (Option Ending)) → ((after : Stage) → o ≡ Came None after → F after ≡ G after)
    → and_then o (λ end. turned end F) ≡ and_then o (λ end. turned end G)
same_after_turn F G (Came (Some ending) after) same = refl
same_after_turn F G (Came None after) same = same after refl
same_after_turn F G (Stops asks) same = refl

-- two bounds of a loop that are both above its room give the same
same_turns : (limit : ℕ) (turn : Doing (Option Ending)) → GainsNothing limit turn → (n m : ℕ) (stage : Stage)
    → room limit stage < n → room limit stage < m → turns n turn stage ≡ turns m turn stage
same_turns limit turn steady zero m stage below below' = absurd (omega arith)
same_turns limit turn steady (suc n) zero stage below below' = absurd (omega arith)
same_turns limit turn steady (suc n) (suc m) stage below below' =
    same_after_tick _ _ stage.ticks stage (λ left is.
    same_after_turn (turns n turn) (turns m turn) (turn (record stage { ticks = left })) (λ after e.
    let kept = steady.gains (record stage { ticks = left }) after None e in
    same_turns limit turn steady n m after (omega arith) (omega arith)))

pub one_turn_then_the_loop : OneTurnThenTheLoop
one_turn_then_the_loop limit turn stage steady =
    same_after_tick _ _ stage.ticks stage (λ left is.
    same_after_turn (turns (room limit stage) turn) (looped limit turn) (turn (record stage { ticks = left })) (λ after e.
    let kept = steady.gains (record stage { ticks = left }) after None e in
    same_turns limit turn steady (room limit stage) (suc (room limit after)) after (omega arith) (omega arith)))
