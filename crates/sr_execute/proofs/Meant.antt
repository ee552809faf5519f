-- An instruction does what it is to do: up to a request, and after answers.
use Rattle.std.proofs.Common.{◌≡◌, ℕ, zero, suc, ℤ, pos, Bool, true, false, List, [], ◌∷◌, map, ◌+ℤ◌, Option, Some, None, Result, Ok, Err, refl, sym, ap, ◌∙◌, slice_get, slice_set}
use Rattle.sr_value.specs.declared.capability.Cap.TheVariants.{Vm}
use Rattle.sr_value.specs.declared.fault.Fault.{Fault}
use Rattle.sr_value.specs.declared.shape.Sel.{Sel}
use Rattle.sr_value.specs.declared.shape.Shape.{Shape}
use Rattle.sr_value.specs.declared.value.Value.{Value}
use Rattle.sr_value.specs.declared.value.Value.TheVariants.{Int, Capa}
use Rattle.sr_value.specs.declared.shape.Sel.TheVariants.{At as at_one, At2 as at_two, Field as at_field}
use Rattle.sr_value.specs.Operators.{int_result, value_of, value_of_one}
use Rattle.sr_value.specs.Parts.{part_of, with_ok}
use Rattle.sr_value.specs.Shapes.{default_value}
use Rattle.sr_ask.specs.Asking.{done, got, made, moment, none_takes, number, read_item, ready, selected, took, until_moment}
use Rattle.sr_ask.specs.Behaviors.{◌>>=◌, Stage, Outcome, Came, Stops, Doing, and_then, give, hear, heard, ticked}
use Rattle.sr_ask.specs.Here.{Here, ask_of, request, fail, settle}
use Rattle.sr_ask.specs.Invocations.{default_given, taken, at_end, instance_in}
use Rattle.sr_ask.specs.Places.{declare_own, load_at, make, own_after, own_at, store_at, string_of_length}
use Rattle.sr_ask.specs.Replies.{Completion, gives_now, mark_answered, reply_unless, forward_unless, push_out, took_one}
use Rattle.sr_ask.specs.declared.answer.Answer.{Answer}
use Rattle.sr_ask.specs.declared.ask.Asks.{Asks}
use Rattle.sr_ask.specs.declared.environment.Located.{Located}
use Rattle.sr_ask.specs.declared.environment.Own.{Own}
use Rattle.sr_ask.specs.declared.environment.ReadTarget.{ReadTarget}
use Rattle.sr_ask.specs.declared.environment.Spot.{Spot}
use Rattle.sr_ask.specs.declared.environment.Spot.TheVariants.{Own as an_own, Shared as a_shared}
use Rattle.sr_ask.specs.declared.request.Request.{Request}
use Rattle.sr_ask.specs.declared.request.Request.TheVariants.{Declare, Load as load_request, Store as store_request, Take as take_request, Read as read_request, Reply as reply_request, Forward as forward_request, Invoke as invoke_request, Stop as stop_request, Write as write_request, Wake as wake_request, Fail}
use Rattle.sr_core.specs.declared.site.Named.{Named}
use Rattle.sr_core.specs.declared.site.Named.TheVariants.{Own as named_own, Home as named_home, Machine as named_machine}
use Rattle.sr_code.specs.Acts.{Point, point, goes, act, after_item, ask_item, store_one, store_some, store_item, store_argument, store_if, number_own, each_of, repeat_of, named_held, place_if, drop_place_if, after_completion, reply_of, set_vars, turn_held, after_choice, after_reply, second_place, and_skip, or_skip, time_to_wait, unless}
use Rattle.sr_core.specs.Applied.{applied}
use Rattle.sr_core.specs.Formals.{sent_to, sent_after}
use Rattle.sr_core.specs.Values.{truth_of, number_of, cap_of, member_of, count_of, array_of, values_of, written, texts_of, bounded_by, formal_shape}
use Rattle.sr_core.specs.declared.component.Core.{Core}
use Rattle.sr_code.specs.Operands.{value_on, drop_value, number_on, drop_number, name_on, drop_name, put_name, put_number, cap_on, drop_cap, put_cap, pieces_on, drop_pieces, join_piece, put_call, call_of, put_shape, place_on, drop_place, put_place, shape_on, drop_shape, list_on, drop_list, join_argument, join_place, targets_on, drop_targets, reading_on, drop_reading, one_read, numbers_on, drop_numbers, count_on, completed_on, drop_completed, call_on, drop_call, drop_count, join_value, put_count, put_list, put_numbers, put_targets, put_value}
use Rattle.sr_code.specs.Owners.{variable_in}
use Rattle.sr_code.specs.Stacks.{first}
use Rattle.sr_code.specs.declared.instruction.Instruction.{Instruction}
use Rattle.sr_code.specs.declared.instruction.Instruction.TheVariants.{Constant, Operation, MyResource, MyMachine, Count, MakeMachine, Moment, ToNumber, ToCap, OperateOne, Operate, AndSkip, OrSkip, NoValues, Collect, Apply, NoPieces, AddPiece, AddRepeated, MakeArray, PartAt, PartAt2, PartField, Member, Spot as spot_instruction, At, At2, Field, Load, ToCall, PassValue, PassVar, PassRes, Invoke, Take, StoreResults, Default, EnsureGlobal, Create, TakeInstance, NoReadings, AddReading, ReadNext, StoreRead, NumberRead, EndRead, Jump, FixedShape, StringShape, OneDimension, TwoDimensions, Make, MakeLike, StoreIn, Arguments, MakeFormal, StoreFormal, DropList, DropValue, Send, Forward, Store, LoadAgain, LoadSecond, StoreSecond, Write, Number, Stop, Destroy, TakeDone, ToWait, Age, Wake, Reply, Tick, JumpUnless, Again, Quantify, Each, DropNumbers, ToCount, Repeat, AddNamed, Select, OpenService, EndService, OpenCo, StartCall, CountOuts, TakeReply, SetTurn, GiveBack, StoreValue, CloseCo}
use Rattle.sr_code.specs.declared.operands.Call.{Call}
use Rattle.sr_code.specs.declared.operands.Operands.{Operands}
use Rattle.sr_frame.specs.Variables.{own_value, vars_set}
use Rattle.sr_execute.specs.Executes.{begun, Began, Waits, Moved, completing, declared, default_found, each_begun, end_found, forwards, holding, led, loads, makes, marked, moved, moved_to, named_found, puts, reads, repeat_begun, replies, settled, started, stores, stores_if, stores_item, stores_some, storing, storing_one, takes_reply, ticking, waits, went, went_to, with_own}
use Rattle.sr_execute.specs.Meant.{InstructionsAreCarriedOut, stage_of, heard_by, waiting, from_begun, resumes}
use Rattle.sr_execute.specs.declared.frame.Frame.{Frame}

-- ---- pieces of work

-- a request that takes no answer stops there
pub never : {A : Type 0} (asks : Asks) (limit : ℕ) (answers : List Answer) (stage : Stage) → heard {A = A} none_takes asks limit answers stage ≡ Stops asks
never asks limit [] stage = refl
never asks limit (answer ∷ answers) stage = never asks limit answers (record stage { answers = answers })

fails : {A : Type 0} (fault : Fault) (here : Here) (stage : Stage) → fail {A = A} fault here stage ≡ Stops (ask_of (Fail fault) here)
fails fault here stage = never (ask_of (Fail fault) here) here.limit stage.answers stage

-- what follows after a piece of work that stops
stopped : {A B : Type 0} {o : Outcome A} {asks : Asks} (next : A → Doing B) → o ≡ Stops asks → and_then o next ≡ Stops asks
stopped {A = A} {B = B} {o = o} next e = ap (λ (x : Outcome A). and_then x next) e

pub regroup : {A B C : Type 0} (o : Outcome A) (f : A → Doing B) (g : B → Doing C) → and_then (and_then o f) g ≡ and_then o (λ a s. and_then (f a s) g)
regroup (Came a s) f g = refl
regroup (Stops asks) f g = refl

-- what is settled, and then what comes
settle_meant : {A : Type 0} (found : Result A Fault) (next : A → Doing Point) (began : A → Began) (resume : Frame → Answer → Option Moved) (here : Here) (stage : Stage) (answers : List Answer)
    → ((a : A) → next a stage ≡ from_begun (began a) resume here answers)
    → and_then (settle found here stage) next ≡ from_begun (settled found began) resume here answers
settle_meant (Ok a) next began resume here stage answers h = h a
settle_meant (Err fault) next began resume here stage answers h = stopped next (fails fault here stage)

settle_point : {A : Type 0} (found : Result A Fault) (at : A → Point) (frame : Frame) (here : Here) (resume : Frame → Answer → Option Moved) (answers : List Answer)
    → and_then (settle found here (stage_of frame answers)) (λ a. give (at a)) ≡ from_begun (settled found (λ a. went_to (at a) frame)) resume here answers
settle_point found at frame here resume answers = settle_meant found (λ a. give (at a)) (λ a. went_to (at a) frame) resume here (stage_of frame answers) answers (λ a. refl)

-- an answer that is taken, or not
hear_meant : {A : Type 0} (found : Option A) (f : A → Moved) (limit : ℕ) (answers : List Answer) (stage : Stage) (later : Outcome A) (others : Outcome Point) (next : A → Doing Point)
    → ((a : A) → next a stage ≡ Came (point (f a).address (f a).frame.operands) (stage_of (record (f a).frame { ticks = limit }) answers))
    → and_then later next ≡ others
    → and_then (hear found stage later) next ≡ heard_by (led found f) limit answers others
hear_meant None f limit answers stage later others next h k = k
hear_meant (Some a) f limit answers stage later others next h k = h a

-- a request, and then what comes
heard_meant : {A : Type 0} (takes : Answer → Option A) (asks : Asks) (limit : ℕ) (f : A → Moved) (frame : Frame) (next : A → Doing Point)
    → ((a : A) (answers : List Answer) → next a (stage_of (record frame { ticks = limit }) answers) ≡ Came (point (f a).address (f a).frame.operands) (stage_of (record (f a).frame { ticks = limit }) answers))
    → (answers before : List Answer)
    → and_then (heard takes asks limit answers (stage_of frame before)) next ≡ waiting (λ answer. led (takes answer) f) asks limit answers
heard_meant takes asks limit f frame next h [] before = refl
heard_meant takes asks limit f frame next h (answer ∷ answers) before =
    hear_meant (takes answer) f limit answers (stage_of (record frame { ticks = limit }) answers) (heard takes asks limit answers (stage_of frame answers))
    (waiting (λ answer. led (takes answer) f) asks limit answers) next (λ a. h a answers) (heard_meant takes asks limit f frame next h answers answers)

same_waiting : (leads leads' : Answer → Option Moved) (asks : Asks) (limit : ℕ) (answers : List Answer) → ((answer : Answer) → leads answer ≡ leads' answer)
    → waiting leads asks limit answers ≡ waiting leads' asks limit answers
same_waiting leads leads' asks limit [] e = refl
same_waiting leads leads' asks limit (answer ∷ answers) e =
    let first = ap (λ (to : Option Moved). heard_by to limit answers (waiting leads asks limit answers)) (e answer) in
    let others = ap (λ (o : Outcome Point). heard_by (leads' answer) limit answers o) (same_waiting leads leads' asks limit answers e) in
    first ∙ others

request_meant : {A : Type 0} (takes : Answer → Option A) (asked : Request) (here : Here) (f : A → Moved) (frame left : Frame) (next : A → Doing Point) (resume : Frame → Answer → Option Moved) (answers : List Answer)
    → ((a : A) (later : List Answer) → next a (stage_of (record frame { ticks = here.limit }) later) ≡ Came (point (f a).address (f a).frame.operands) (stage_of (record (f a).frame { ticks = here.limit }) later))
    → ((answer : Answer) → resume left answer ≡ led (takes answer) f)
    → and_then (request takes asked here (stage_of frame answers)) next ≡ from_begun (Waits asked left) resume here answers
request_meant takes asked here f frame left next resume answers h e =
    heard_meant takes (ask_of asked here) here.limit f frame next h answers answers
    ∙ sym (same_waiting (resume left) (λ answer. led (takes answer) f) (ask_of asked here) here.limit answers e)

-- ---- variables

loads_meant : (spot : Spot) (path : List Sel) (then : Value → Operands) (next : ℕ) (left : Operands) (frame : Frame) (here : Here) (resume : Frame → Answer → Option Moved) (answers : List Answer)
    → ((answer : Answer) → resume (holding left frame) answer ≡ led (got answer) (λ v. moved next (then v) frame))
    → and_then (load_at spot path here (stage_of frame answers)) (λ v. goes next (then v)) ≡ from_begun (loads spot path then next left frame) resume here answers
loads_meant (an_own var) path then next left frame here resume answers e =
    settle_meant (own_value frame.own var path) (λ v. goes next (then v)) (λ v. went next (then v) frame) resume here (stage_of frame answers) answers (λ v. refl)
loads_meant (a_shared block var) path then next left frame here resume answers e =
    request_meant got (load_request block var path) here (λ v. moved next (then v) frame) frame (holding left frame) (λ v. goes next (then v)) resume answers (λ v later. refl) e

-- an own variable after a store, and then what comes
own_meant : (found : Result Own Fault) (var : ℕ) (next : Doing Point) (began : List (Option Own) → Began) (frame : Frame) (here : Here) (resume : Frame → Answer → Option Moved) (answers : List Answer)
    → ((own : List (Option Own)) → next (stage_of (with_own own frame) answers) ≡ from_begun (began own) resume here answers)
    → and_then (and_then (settle found here (stage_of frame answers)) (declare_own var)) (λ _. next)
    ≡ from_begun (settled (with_ok found (λ held. Ok (slice_set frame.own var (Some held)))) began) resume here answers
own_meant (Ok held) var next began frame here resume answers h = h (slice_set frame.own var (Some held))
own_meant (Err fault) var next began frame here resume answers h =
    stopped (λ _. next) (stopped (declare_own var) (fails fault here (stage_of frame answers)))

stores_meant : (spot : Spot) (path : List Sel) (value : Value) (next : ℕ) (on : Operands) (frame : Frame) (here : Here) (resume : Frame → Answer → Option Moved) (answers : List Answer)
    → ((answer : Answer) → resume (holding on frame) answer ≡ led (done answer) (λ _. moved next on frame))
    → and_then (store_at spot path value here (stage_of frame answers)) (λ _. goes next on) ≡ from_begun (stores spot path value next on frame) resume here answers
stores_meant (an_own var) path value next on frame here resume answers e =
    own_meant (with_ok (own_at frame.own var) (λ held. own_after held path value)) var (goes next on) (λ own. went next on (with_own own frame)) frame here resume answers (λ own. refl)
stores_meant (a_shared block var) path value next on frame here resume answers e =
    request_meant done (store_request block var path value) here (λ _. moved next on frame) frame (holding on frame) (λ _. goes next on) resume answers (λ _ later. refl) e

some_meant : (found : Option Value) (spot : Spot) (next : ℕ) (on : Operands) (frame : Frame) (here : Here) (resume : Frame → Answer → Option Moved) (answers : List Answer)
    → ((answer : Answer) → resume (holding on frame) answer ≡ led (done answer) (λ _. moved next on frame))
    → and_then (store_argument found spot here (stage_of frame answers)) (λ _. goes next on) ≡ from_begun (stores_some found spot next on frame) resume here answers
some_meant None spot next on frame here resume answers e = refl
some_meant (Some value) spot next on frame here resume answers e = stores_meant spot [] value next on frame here resume answers e

if_meant : (place : Option Located) (value : Value) (next : ℕ) (on : Operands) (frame : Frame) (here : Here) (resume : Frame → Answer → Option Moved) (answers : List Answer)
    → ((answer : Answer) → resume (holding on frame) answer ≡ led (done answer) (λ _. moved next on frame))
    → and_then (store_if place value here (stage_of frame answers)) (λ _. goes next on) ≡ from_begun (stores_if place value next on frame) resume here answers
if_meant None value next on frame here resume answers e = refl
if_meant (Some place) value next on frame here resume answers e = stores_meant place.spot place.path value next on frame here resume answers e

item_meant : (targets : List ReadTarget) (value : Value) (next : ℕ) (on : Operands) (frame : Frame) (here : Here) (resume : Frame → Answer → Option Moved) (answers : List Answer)
    → ((answer : Answer) → resume (holding on frame) answer ≡ led (done answer) (λ _. moved next on frame))
    → and_then (store_item targets value here (stage_of frame answers)) (λ _. goes next on) ≡ from_begun (stores_item (first targets) value next on frame) resume here answers
item_meant [] value next on frame here resume answers e = refl
item_meant (target ∷ targets) value next on frame here resume answers e = stores_meant target.place.spot target.place.path value next on frame here resume answers e

makes_meant : (spot : Spot) (shape : Shape) (next : ℕ) (on : Operands) (frame : Frame) (here : Here) (resume : Frame → Answer → Option Moved) (answers : List Answer)
    → ((answer : Answer) → resume (holding on frame) answer ≡ led (done answer) (λ _. moved next on frame))
    → and_then (make spot shape here (stage_of frame answers)) (λ _. goes next on) ≡ from_begun (makes spot shape next on frame) resume here answers
makes_meant (an_own var) shape next on frame here resume answers e =
    regroup (settle (default_value shape) here (stage_of frame answers)) (λ value. declare_own var (record { shape = shape; value = value })) (λ _. goes next on)
    ∙ settle_meant (default_value shape) (λ value. λ stage. and_then (declare_own var (record { shape = shape; value = value }) stage) (λ _. goes next on))
    (λ value. went next on (with_own (slice_set frame.own var (Some (record { shape = shape; value = value }))) frame)) resume here (stage_of frame answers) answers (λ value. refl)
makes_meant (a_shared block var) shape next on frame here resume answers e =
    request_meant done (Declare block var shape) here (λ _. moved next on frame) frame (holding on frame) (λ _. goes next on) resume answers (λ _ later. refl) e

-- ---- replies

taken_meant : (id next : ℕ) (then : Option (List Value) → Point) (frame left : Frame) (here : Here) (resume : Frame → Answer → Option Moved) (answers : List Answer)
    → ((answer : Answer) → resume left answer ≡ led (took (id ∷ []) answer) (λ reply. moved_to (then reply.results) frame))
    → and_then (taken id here (stage_of frame answers)) (λ reply. give (then reply)) ≡ from_begun (Waits (take_request (id ∷ [])) left) resume here answers
taken_meant id next then frame left here resume answers e =
    regroup (request (took (id ∷ [])) (take_request (id ∷ [])) here (stage_of frame answers)) (λ reply. give reply.results) (λ reply. give (then reply))
    ∙ request_meant (took (id ∷ [])) (take_request (id ∷ [])) here (λ reply. moved_to (then reply.results) frame) frame left (λ reply. λ stage. and_then (give reply.results stage) (λ reply. give (then reply)))
    resume answers (λ reply later. refl) e

one_meant : (spot : Spot) (place : Located) (value : Value) (next : ℕ) (left : Operands) (later : Doing Point) (others : Frame → Began) (frame : Frame) (here : Here) (resume : Frame → Answer → Option Moved) (answers : List Answer)
    → ((own : List (Option Own)) → later (stage_of (with_own own frame) answers) ≡ from_begun (others (with_own own frame)) resume here answers)
    → ((answer : Answer) → resume (holding left frame) answer ≡ led (done answer) (λ _. moved next left frame))
    → store_one spot place value here (point next left) later (stage_of frame answers) ≡ from_begun (storing_one spot place.path value others left frame) resume here answers
one_meant (an_own var) place value next left later others frame here resume answers h e =
    own_meant (with_ok (own_at frame.own var) (λ held. own_after held place.path value)) var later (λ own. others (with_own own frame)) frame here resume answers h
one_meant (a_shared block var) place value next left later others frame here resume answers h e =
    request_meant done (store_request block var place.path value) here (λ _. moved next left frame) frame (holding left frame) (λ _. give (point next left)) resume answers (λ _ later. refl) e

storing_meant : (places : List Located) (values : List Value) (to next : ℕ) (on : Operands) (frame : Frame) (here : Here) (resume : Frame → Answer → Option Moved) (answers : List Answer)
    → ((left : Operands) (f : Frame) (answer : Answer) → resume (holding left f) answer ≡ led (done answer) (λ _. moved (suc next) left f))
    → store_some places values to here next on (stage_of frame answers) ≡ from_begun (storing places values to next on frame) resume here answers
storing_meant [] values to next on frame here resume answers e = refl
storing_meant (place ∷ places) [] to next on frame here resume answers e = refl
storing_meant (place ∷ places) (value ∷ values) to next on frame here resume answers e =
    one_meant place.spot place value (suc next) (put_targets places (put_list values on)) (store_some places values to here next on) (storing places values to next on) frame here resume answers
    (λ own. storing_meant places values to next on (with_own own frame) here resume answers e) (e (put_targets places (put_list values on)) frame)

default_meant : (returns : Option Shape) (next : ℕ) (on : Operands) (frame : Frame) (here : Here) (resume : Frame → Answer → Option Moved) (answers : List Answer)
    → and_then (default_given returns here (stage_of frame answers)) (λ v. goes next (put_value v on)) ≡ from_begun (puts (default_found returns) next on frame) resume here answers
default_meant None next on frame here resume answers = refl
default_meant (Some shape) next on frame here resume answers =
    settle_meant (default_value shape) (λ v. goes next (put_value v on)) (λ v. went next (put_value v on) frame) resume here (stage_of frame answers) answers (λ v. refl)

-- ---- read

reads_meant : (targets : List ReadTarget) (store end next : ℕ) (on : Operands) (frame : Frame) (here : Here) (resume : Frame → Answer → Option Moved) (answers : List Answer)
    → ((answer : Answer) → resume (holding on frame) answer ≡ led (read_item answer) (λ item. moved_to (after_item item store end next on) frame))
    → ask_item targets store end here next on (stage_of frame answers) ≡ from_begun (reads targets next on frame) resume here answers
reads_meant [] store end next on frame here resume answers e = refl
reads_meant (target ∷ targets) store end next on frame here resume answers e =
    request_meant read_item (read_request target.kind) here (λ item. moved_to (after_item item store end next on) frame) frame (holding on frame)
    (λ item. give (after_item item store end next on)) resume answers (λ item later. refl) e

end_meant : (count next : ℕ) (on : Operands) (frame : Frame) (here : Here) (resume : Frame → Answer → Option Moved) (answers : List Answer)
    → and_then (at_end count here (stage_of frame answers)) (λ v. goes next (put_value v on)) ≡ from_begun (puts (end_found count) next on frame) resume here answers
end_meant zero next on frame here resume answers = refl
end_meant (suc n) next on frame here resume answers =
    settle_meant (int_result (pos (suc n))) (λ v. goes next (put_value v on)) (λ v. went next (put_value v on) frame) resume here (stage_of frame answers) answers (λ v. refl)

-- ---- ticks

ticking_meant : (ticks : ℕ) (next : Doing Point) (began : Frame → Began) (frame : Frame) (here : Here) (resume : Frame → Answer → Option Moved) (answers : List Answer)
    → ((left : ℕ) → next (stage_of (record frame { ticks = left }) answers) ≡ from_begun (began (record frame { ticks = left })) resume here answers)
    → and_then (ticked ticks (stage_of frame answers)) (λ _. next) ≡ from_begun (ticking ticks began frame) resume here answers
ticking_meant zero next began frame here resume answers h = refl
ticking_meant (suc left) next began frame here resume answers h = h left

each_meant : (numbers : List ℤ) (var head next : ℕ) (on : Operands) (frame : Frame) (here : Here) (resume : Frame → Answer → Option Moved) (answers : List Answer)
    → each_of numbers var head next on (stage_of frame answers) ≡ from_begun (each_begun numbers var head next on frame) resume here answers
each_meant [] var head next on frame here resume answers = refl
each_meant (n ∷ rest) var head next on frame here resume answers =
    ticking_meant frame.ticks (λ stage. and_then (declare_own var (number_own n) stage) (λ _. goes head (put_numbers rest on))) (λ f. went head (put_numbers rest on) (declared var (number_own n) f)) frame here resume answers (λ left. refl)

repeat_meant : (count head next : ℕ) (on : Operands) (frame : Frame) (here : Here) (resume : Frame → Answer → Option Moved) (answers : List Answer)
    → repeat_of count head next on (stage_of frame answers) ≡ from_begun (repeat_begun count head next on frame) resume here answers
repeat_meant zero head next on frame here resume answers = refl
repeat_meant (suc count) head next on frame here resume answers =
    ticking_meant frame.ticks (goes head (put_count count on)) (λ f. went head (put_count count on) f) frame here resume answers (λ left. refl)

-- ---- services

named_meant : (named : Named) (next : ℕ) (on : Operands) (frame : Frame) (here : Here) (resume : Frame → Answer → Option Moved) (answers : List Answer)
    → and_then (named_held named here (stage_of frame answers)) (λ v. goes next (join_value v on)) ≡ from_begun (settled (named_found named here frame.own) (λ v. went next (join_value v on) frame)) resume here answers
named_meant (named_own var) next on frame here resume answers =
    settle_meant (named_found (named_own var) here frame.own) (λ v. goes next (join_value v on)) (λ v. went next (join_value v on) frame) resume here (stage_of frame answers) answers (λ v. refl)
named_meant (named_home at) next on frame here resume answers = refl
named_meant named_machine next on frame here resume answers = refl

replies_meant : (answered : Bool) (next : ℕ) (on : Operands) (frame : Frame) (here : Here) (resume : Frame → Answer → Option Moved) (answers : List Answer)
    → ((answer : Answer) → resume (holding on frame) answer ≡ led (done answer) (λ _. moved next on (marked frame)))
    → and_then (reply_unless answered here (stage_of frame answers)) (λ _. goes next on) ≡ from_begun (replies answered here next on frame) resume here answers
replies_meant true next on frame here resume answers e = refl
replies_meant false next on frame here resume answers e =
    let asked : Request = reply_request frame.service.held frame.service.back (gives_now frame.service.gives frame.own here) in
    regroup (request done asked here (stage_of frame answers)) (λ _. mark_answered) (λ _. goes next on)
    ∙ request_meant done asked here (λ _. moved next on (marked frame)) frame (holding on frame) (λ _ stage. and_then (mark_answered stage) (λ _. goes next on)) resume answers (λ _ later. refl) e

-- a service that has answered stays as it is
marked_same : (frame : Frame) → frame.service.answered ≡ true → marked frame ≡ frame
marked_same frame e = ap (λ (b : Bool). record frame { service = record frame.service { answered = b } }) (sym e)

forwards_meant : (answered : Bool) (call : Call) (next : ℕ) (on : Operands) (frame : Frame) (here : Here) (resume : Frame → Answer → Option Moved) (answers : List Answer)
    → frame.service.answered ≡ answered
    → ((answer : Answer) → resume (holding on frame) answer ≡ led (made answer) (λ _. moved next on (marked frame)))
    → and_then (forward_unless answered call.target call.values here (stage_of frame answers)) (λ _. goes next on) ≡ from_begun (forwards answered call on frame) resume here answers
forwards_meant true call next on frame here resume answers is e =
    let asked : Request = invoke_request call.target call.values false in
    regroup (request made asked here (stage_of frame answers)) (λ _. give (tt {0})) (λ _. goes next on)
    ∙ request_meant made asked here (λ _. moved next on frame) frame (holding on frame) (λ _ stage. and_then (give (tt {0}) stage) (λ _. goes next on)) resume answers (λ _ later. refl)
    (λ answer. e answer ∙ ap (λ (f : Frame). led (made answer) (λ _. moved next on f)) (marked_same frame is))
forwards_meant false call next on frame here resume answers is e =
    let asked : Request = forward_request frame.service.held frame.service.back call.target call.values in
    regroup (request made asked here (stage_of frame answers)) (λ _. mark_answered) (λ _. goes next on)
    ∙ request_meant made asked here (λ _. moved next on (marked frame)) frame (holding on frame) (λ _ stage. and_then (mark_answered stage) (λ _. goes next on)) resume answers (λ _ later. refl) e

-- ---- co

limited : (arm : Option ℕ) (completion : Completion) (next limit : ℕ) (on : Operands) (frame : Frame) (answers : List Answer)
    → after_completion arm completion (suc next) on (stage_of (record frame { ticks = limit }) answers)
    ≡ Came (point (completing arm completion next on frame).address (completing arm completion next on frame).frame.operands) (stage_of (record (completing arm completion next on frame).frame { ticks = limit }) answers)
limited None completion next limit on frame answers = refl
limited (Some arm) completion next limit on frame answers = refl

reply_meant : (count : ℕ) (arms : List ℕ) (next : ℕ) (on : Operands) (frame : Frame) (here : Here) (resume : Frame → Answer → Option Moved) (answers : List Answer)
    → ((left : Operands) (answer : Answer) → resume (holding left frame) answer ≡ led (took_one frame.out answer) (λ completion. completing (slice_get arms completion.out.arm) completion next left (holding left frame)))
    → reply_of count arms here next on (stage_of frame answers) ≡ from_begun (takes_reply count next on frame) resume here answers
reply_meant zero arms next on frame here resume answers e = refl
reply_meant (suc count) arms next on frame here resume answers e =
    let left : Operands = put_count count (drop_count on) in
    request_meant (took_one frame.out) (take_request (map (λ out. out.id) frame.out)) here (λ completion. completing (slice_get arms completion.out.arm) completion next left (holding left frame))
    frame (holding left frame) (λ completion. after_completion (slice_get arms completion.out.arm) completion (suc next) left) resume answers
    (λ completion later. limited (slice_get arms completion.out.arm) completion next here.limit left (holding left frame) later) (e left)

vars_meant : (vars : List ℕ) (turn : List ℤ) (next : ℕ) (on : Operands) (frame : Frame) (here : Here) (resume : Frame → Answer → Option Moved) (answers : List Answer)
    → and_then (set_vars vars turn (stage_of frame answers)) (λ _. goes next on) ≡ from_begun (went next on (with_own (vars_set vars turn frame.own) frame)) resume here answers
vars_meant [] turn next on frame here resume answers = refl
vars_meant (var ∷ vars) [] next on frame here resume answers = refl
vars_meant (var ∷ vars) (n ∷ turn) next on frame here resume answers =
    vars_meant vars turn next on (with_own (slice_set frame.own var (Some (number_own n))) frame) here resume answers

start_meant : (arm : ℕ) (vars : List ℕ) (has : Bool) (next : ℕ) (on : Operands) (frame : Frame) (here : Here) (resume : Frame → Answer → Option Moved) (answers : List Answer)
    → ((answer : Answer) → resume (holding (put_targets (call_on on).places (drop_call on)) frame) answer
    ≡ led (made answer) (λ id. started id arm vars has next (put_targets (call_on on).places (drop_call on)) frame))
    → and_then (request made (invoke_request (call_on on).target (call_on on).values true) here (stage_of frame answers)) (λ id.
    turn_held vars >>= λ turn.
    push_out (record { id = id; arm = arm; place = place_if has on; backs = (call_on on).places; turn = turn }) >>= λ _.
    goes next (drop_place_if has (drop_call on)))
    ≡ from_begun (waits (invoke_request (call_on on).target (call_on on).values true) (put_targets (call_on on).places (drop_call on)) frame) resume here answers
start_meant arm vars true next on frame here resume answers e =
    let left : Operands = put_targets (call_on on).places (drop_call on) in
    request_meant made (invoke_request (call_on on).target (call_on on).values true) here (λ id. started id arm vars true next left frame) frame (holding left frame) _ resume answers (λ id later. refl) e
start_meant arm vars false next on frame here resume answers e =
    let left : Operands = put_targets (call_on on).places (drop_call on) in
    request_meant made (invoke_request (call_on on).target (call_on on).values true) here (λ id. started id arm vars false next left frame) frame (holding left frame) _ resume answers (λ id later. refl) e

-- ---- instructions

-- no answer follows a stop
stop_meant : (status : ℤ) (next : ℕ) (on : Operands) (frame : Frame) (here : Here) (answers : List Answer)
    → request {A = Point} none_takes (stop_request status) here (stage_of frame answers) ≡ from_begun (waits (stop_request status) on frame) (resumes Stop next) here answers
stop_meant status next on frame here answers = never (ask_of (stop_request status) here) here.limit answers (stage_of frame answers) ∙ sym (silent (ask_of (stop_request status) here) here.limit answers) where
  silent : (asks : Asks) (limit : ℕ) (answers : List Answer) → waiting (λ answer. None) asks limit answers ≡ Stops asks
  silent asks limit [] = refl
  silent asks limit (answer ∷ answers) = silent asks limit answers

-- a piece that is settled
abbrev Settles : Core → Instruction → Here → ℕ → Operands → Frame → List Answer → Type 0
Settles core i here next on frame answers = act core i here next on (stage_of frame answers) ≡ from_begun (begun core.names i here next on frame) (resumes i next) here answers

meant : (core : Core) (i : Instruction) (here : Here) (next : ℕ) (on : Operands) (frame : Frame) (answers : List Answer) → Settles core i here next on frame answers
meant core (Constant value) here next on frame answers = refl
meant core (Operation whose op) here next on frame answers = refl
meant core MyResource here next on frame answers = refl
meant core MyMachine here next on frame answers = refl
meant core (Count op) here next on frame answers = request_meant number _ here (λ n. moved next (put_value (Int n) on) frame) frame (holding on frame) _ (resumes (Count op) next) answers (λ a later. refl) (λ answer. refl)
meant core MakeMachine here next on frame answers = request_meant made _ here (λ name. moved next (put_value (Capa (Vm name)) on) frame) frame (holding on frame) _ (resumes MakeMachine next) answers (λ a later. refl) (λ answer. refl)
meant core Moment here next on frame answers = request_meant moment _ here (λ now. moved next (put_value (Int now) on) frame) frame (holding on frame) _ (resumes Moment next) answers (λ a later. refl) (λ answer. refl)
meant core ToNumber here next on frame answers = settle_point (number_of (value_on on)) (λ n. point next (put_number n (drop_value on))) frame here (resumes ToNumber next) answers
meant core ToCap here next on frame answers = settle_point (cap_of (value_on on)) (λ cap. point next (put_cap cap (drop_value on))) frame here (resumes ToCap next) answers
meant core (OperateOne op) here next on frame answers = settle_point (value_of_one op (value_on on)) (λ v. point next (put_value v (drop_value on))) frame here (resumes (OperateOne op) next) answers
meant core (Operate op) here next on frame answers = settle_point (value_of op (value_on (drop_value on)) (value_on on)) (λ v. point next (put_value v (drop_value (drop_value on)))) frame here (resumes (Operate op) next) answers
meant core (AndSkip to) here next on frame answers = settle_point (truth_of (value_on on)) (λ truth. and_skip truth to next on) frame here (resumes (AndSkip to) next) answers
meant core (OrSkip to) here next on frame answers = settle_point (truth_of (value_on on)) (λ truth. or_skip truth to next on) frame here (resumes (OrSkip to) next) answers
meant core NoValues here next on frame answers = refl
meant core Collect here next on frame answers = refl
meant core (Apply function) here next on frame answers = settle_point (applied core.names function (list_on on)) (λ v. point next (put_value v (drop_list on))) frame here (resumes (Apply function) next) answers
meant core NoPieces here next on frame answers = refl
meant core AddPiece here next on frame answers = refl
meant core AddRepeated here next on frame answers = settle_point (count_of (number_on on)) (λ times. point next (join_piece (record { count = times; value = value_on on }) (drop_number (drop_value on)))) frame here (resumes AddRepeated next) answers
meant core MakeArray here next on frame answers = settle_point (array_of (pieces_on on)) (λ v. point next (put_value v (drop_pieces on))) frame here (resumes MakeArray next) answers
meant core PartAt here next on frame answers = settle_point (part_of (value_on on) (at_one (number_on on))) (λ v. point next (put_value v (drop_number (drop_value on)))) frame here (resumes PartAt next) answers
meant core PartAt2 here next on frame answers = settle_point (part_of (value_on on) (at_two (number_on (drop_number on)) (number_on on))) (λ v. point next (put_value v (drop_number (drop_number (drop_value on))))) frame here (resumes PartAt2 next) answers
meant core (PartField field) here next on frame answers = settle_point (part_of (value_on on) (at_field field)) (λ v. point next (put_value v (drop_value on))) frame here (resumes (PartField field) next) answers
meant core (Member op) here next on frame answers = settle_point (member_of op (cap_on on)) (λ v. point next (put_value v (drop_cap on))) frame here (resumes (Member op) next) answers
meant core (spot_instruction root) here next on frame answers = refl
meant core At here next on frame answers = refl
meant core At2 here next on frame answers = refl
meant core (Field field) here next on frame answers = refl
meant core Load here next on frame answers = loads_meant (place_on on).spot (place_on on).path (λ v. put_value v (drop_place on)) next (drop_place on) frame here (resumes Load next) answers (λ answer. refl)
meant core ToCall here next on frame answers = settle_point (cap_of (value_on on)) (λ cap. point next (put_call (call_of cap) (drop_value on))) frame here (resumes ToCall next) answers
meant core PassValue here next on frame answers = refl
meant core PassVar here next on frame answers = loads_meant (place_on on).spot (place_on on).path (λ v. join_place (place_on on) (join_argument v (drop_place on))) next on frame here (resumes PassVar next) answers (λ answer. refl)
meant core PassRes here next on frame answers = refl
meant core Invoke here next on frame answers = request_meant made _ here (λ name. moved next (put_name name (put_targets (call_on on).places (drop_call on))) frame) frame (holding (put_targets (call_on on).places (drop_call on)) frame) _ (resumes Invoke next) answers (λ a later. refl) (λ answer. refl)
meant core (Take none) here next on frame answers = taken_meant (name_on on) next (λ reply. after_reply reply none next (drop_name on)) frame (holding on frame) here (resumes (Take none) next) answers (λ answer. refl)
meant core (StoreResults to) here next on frame answers = storing_meant (targets_on on) (list_on on) to next (drop_list (drop_targets on)) frame here (resumes (StoreResults to) next) answers (λ left f answer. refl)
meant core (Default returns) here next on frame answers = default_meant returns next on frame here (resumes (Default returns) next) answers
meant core (EnsureGlobal global) here next on frame answers = request_meant ready _ here (λ _. moved next on frame) frame (holding on frame) _ (resumes (EnsureGlobal global) next) answers (λ a later. refl) (λ answer. refl)
meant core (Create resource) here next on frame answers = request_meant made _ here (λ name. moved next (put_name name (drop_list (drop_cap on))) frame) frame (holding (drop_list (drop_cap on)) frame) _ (resumes (Create resource) next) answers (λ a later. refl) (λ answer. refl)
meant core TakeInstance here next on frame answers = taken_meant (name_on on) next (λ reply. point next (put_value (instance_in reply) (drop_name on))) frame (holding on frame) here (resumes TakeInstance next) answers (λ answer. refl)
meant core NoReadings here next on frame answers = refl
meant core (AddReading kind) here next on frame answers = refl
meant core (ReadNext store end) here next on frame answers = reads_meant (reading_on on).targets store end next on frame here (resumes (ReadNext store end) next) answers (λ answer. refl)
meant core StoreRead here next on frame answers = item_meant (reading_on on).targets (value_on on) next (one_read (drop_value on)) frame here (resumes StoreRead next) answers (λ answer. refl)
meant core NumberRead here next on frame answers = settle_point (int_result (pos (reading_on on).count)) (λ v. point next (put_value v (drop_reading on))) frame here (resumes NumberRead next) answers
meant core EndRead here next on frame answers = end_meant (reading_on on).count next (drop_reading on) frame here (resumes EndRead next) answers
meant core (Jump to) here next on frame answers = refl
meant core (FixedShape shape) here next on frame answers = refl
meant core StringShape here next on frame answers = settle_point (string_of_length (number_on on)) (λ shape. point next (put_shape shape (drop_number on))) frame here (resumes StringShape next) answers
meant core OneDimension here next on frame answers = refl
meant core TwoDimensions here next on frame answers = refl
meant core (Make scope var) here next on frame answers = makes_meant (variable_in scope var here) (shape_on on) next (drop_shape on) frame here (resumes (Make scope var) next) answers (λ answer. refl)
meant core (MakeLike scope var shape) here next on frame answers = makes_meant (variable_in scope var here) (bounded_by shape (value_on on)) next on frame here (resumes (MakeLike scope var shape) next) answers (λ answer. refl)
meant core (StoreIn scope var) here next on frame answers = stores_meant (variable_in scope var here) [] (value_on on) next (drop_value on) frame here (resumes (StoreIn scope var) next) answers (λ answer. refl)
meant core Arguments here next on frame answers = refl
meant core (MakeFormal scope var mode shape) here next on frame answers =
    settle_meant (formal_shape shape (sent_to mode (list_on on))) (λ found stage. and_then (make (variable_in scope var here) found here stage) (λ _. goes next on))
    (λ found. makes (variable_in scope var here) found next on frame) (resumes (MakeFormal scope var mode shape) next) here (stage_of frame answers) answers
    (λ found. makes_meant (variable_in scope var here) found next on frame here (resumes (MakeFormal scope var mode shape) next) answers (λ answer. refl))
meant core (StoreFormal scope var mode) here next on frame answers = some_meant (sent_to mode (list_on on)) (variable_in scope var here) next (put_list (sent_after mode (list_on on)) (drop_list on)) frame here (resumes (StoreFormal scope var mode) next) answers (λ answer. refl)
meant core DropList here next on frame answers = refl
meant core DropValue here next on frame answers = refl
meant core Send here next on frame answers = request_meant made _ here (λ _. moved next (drop_call on) frame) frame (holding (drop_call on) frame) _ (resumes Send next) answers (λ a later. refl) (λ answer. refl)
meant core Forward here next on frame answers = forwards_meant frame.service.answered (call_on on) next (drop_call on) frame here (resumes Forward next) answers refl (λ answer. refl)
meant core Store here next on frame answers = stores_meant (place_on on).spot (place_on on).path (value_on on) next (drop_place (drop_value on)) frame here (resumes Store next) answers (λ answer. refl)
meant core LoadAgain here next on frame answers = loads_meant (place_on on).spot (place_on on).path (λ v. put_value v on) next on frame here (resumes LoadAgain next) answers (λ answer. refl)
meant core LoadSecond here next on frame answers = loads_meant (second_place on).spot (second_place on).path (λ v. put_value v on) next on frame here (resumes LoadSecond next) answers (λ answer. refl)
meant core StoreSecond here next on frame answers = stores_meant (second_place on).spot (second_place on).path (value_on on) next (put_place (place_on on) (drop_place (drop_place (drop_value on)))) frame here (resumes StoreSecond next) answers (λ answer. refl)
meant core (Write line) here next on frame answers =
    settle_meant (texts_of core.names (list_on on)) (λ texts stage. and_then (request done (write_request (written line texts)) here stage) (λ _. goes next (drop_list on)))
    (λ texts. waits (write_request (written line texts)) (drop_list on) frame) (resumes (Write line) next) here (stage_of frame answers) answers
    (λ texts. request_meant done (write_request (written line texts)) here (λ _. moved next (drop_list on) frame) frame (holding (drop_list on) frame) (λ _. goes next (drop_list on)) (resumes (Write line) next) answers
    (λ a later. refl) (λ answer. refl))
meant core (Number n) here next on frame answers = refl
meant core Stop here next on frame answers = stop_meant (number_on on) next on frame here answers
meant core Destroy here next on frame answers = request_meant made _ here (λ name. moved next (put_name name (drop_cap on)) frame) frame (holding (drop_cap on) frame) _ (resumes Destroy next) answers (λ a later. refl) (λ answer. refl)
meant core TakeDone here next on frame answers = taken_meant (name_on on) next (λ _. point next (drop_name on)) frame (holding on frame) here (resumes TakeDone next) answers (λ answer. refl)
meant core ToWait here next on frame answers = settle_point (time_to_wait (number_on on)) (λ wait. point next (put_number wait (drop_number on))) frame here (resumes ToWait next) answers
meant core Age here next on frame answers = request_meant moment _ here (λ now. moved next (put_number now on) frame) frame (holding on frame) _ (resumes Age next) answers (λ a later. refl) (λ answer. refl)
meant core Wake here next on frame answers =
    let left : Operands = drop_number (drop_number on) in
    settle_meant (until_moment (number_on on +ℤ number_on (drop_number on))) (λ until stage. and_then (request done (wake_request until) here stage) (λ _. goes next left))
    (λ until. waits (wake_request until) left frame) (resumes Wake next) here (stage_of frame answers) answers
    (λ until. request_meant done (wake_request until) here (λ _. moved next left frame) frame (holding left frame) (λ _. goes next left) (resumes Wake next) answers
    (λ a later. refl) (λ answer. refl))
meant core Reply here next on frame answers = replies_meant frame.service.answered next on frame here (resumes Reply next) answers (λ answer. refl)
meant core Tick here next on frame answers = ticking_meant frame.ticks (goes next on) (λ f. went next on f) frame here (resumes Tick next) answers (λ left. refl)
meant core (JumpUnless to) here next on frame answers = settle_point (truth_of (value_on on)) (λ truth. unless truth to next (drop_value on)) frame here (resumes (JumpUnless to) next) answers
meant core (Again to) here next on frame answers = ticking_meant frame.ticks (goes to on) (λ f. went to on f) frame here (resumes (Again to) next) answers (λ left. refl)
meant core (Quantify direction) here next on frame answers = settle_point (values_of direction (number_on (drop_number (drop_number on))) (number_on (drop_number on)) (number_on on)) (λ values. point next (put_numbers values (drop_number (drop_number (drop_number on))))) frame here (resumes (Quantify direction) next) answers
meant core (Each var head) here next on frame answers = each_meant (numbers_on on) var head next (drop_numbers on) frame here (resumes (Each var head) next) answers
meant core DropNumbers here next on frame answers = refl
meant core ToCount here next on frame answers = settle_point (count_of (number_on on)) (λ count. point next (put_count count (drop_number on))) frame here (resumes ToCount next) answers
meant core (Repeat head) here next on frame answers = repeat_meant (count_on on) head next (drop_count on) frame here (resumes (Repeat head) next) answers
meant core (AddNamed named) here next on frame answers = named_meant named next on frame here (resumes (AddNamed named) next) answers
meant core (Select site count has_else arms otherwise end) here next on frame answers = request_meant (selected count has_else) _ here (λ selection. moved_to (after_choice selection arms otherwise end (drop_list on)) frame) frame (holding (drop_list on) frame) _ (resumes (Select site count has_else arms otherwise end) next) answers (λ a later. refl) (λ answer. refl)
meant core (OpenService gives) here next on frame answers = refl
meant core EndService here next on frame answers = refl
meant core OpenCo here next on frame answers = refl
meant core (StartCall arm vars has_place) here next on frame answers = start_meant arm vars has_place next on frame here (resumes (StartCall arm vars has_place) next) answers (λ answer. refl)
meant core CountOuts here next on frame answers = refl
meant core (TakeReply arms) here next on frame answers = reply_meant (count_on on) arms next on frame here (resumes (TakeReply arms) next) answers (λ left answer. refl)
meant core (SetTurn vars) here next on frame answers = vars_meant vars (completed_on on).out.turn next on frame here (resumes (SetTurn vars) next) answers
meant core (GiveBack none) here next on frame answers = refl
meant core StoreValue here next on frame answers = if_meant (completed_on on).out.place (value_on on) next (drop_value (drop_completed on)) frame here (resumes StoreValue next) answers (λ answer. refl)
meant core CloseCo here next on frame answers = refl

pub carried_out : InstructionsAreCarriedOut
carried_out core i here next frame answers = meant core i here next frame.operands frame answers
