-- Each instruction goes to a lower address, or takes a tick or an answer.
use Rattle.std.proofs.Common.{◌≡◌, ℕ, ℤ, ◌+ℤ◌, zero, suc, ◌*◌, ◌<◌, ◌≤◌, min, Bool, true, false, List, [], ◌∷◌, length, map, slice_get, Option, Some, None, Result, Ok, Err, inl, inr, refl, arith}
use Rattle.sr_value.specs.declared.capability.Cap.{Cap}
use Rattle.sr_value.specs.declared.fault.Fault.{Fault}
use Rattle.sr_value.specs.declared.shape.Sel.{Sel}
use Rattle.sr_value.specs.declared.shape.Shape.{Shape}
use Rattle.sr_value.specs.declared.value.Value.{Value}
use Rattle.sr_value.specs.Parts.{with_ok, loaded_at}
use Rattle.sr_value.specs.Shapes.{default_value}
use Rattle.sr_ask.specs.Asking.{done, got, made, none_takes, read_item, selected, took, until_moment}
use Rattle.sr_ask.specs.Behaviors.{Stage, Outcome, Came, Stops, Doing, and_then, give, ◌>>=◌, hear, heard, asking, room, tick, ticked}
use Rattle.sr_ask.specs.Here.{Here, ask_of, request, settle}
use Rattle.sr_ask.specs.Invocations.{default_given, taken, at_end}
use Rattle.sr_ask.specs.Places.{own_at, own_after, own_store, load_at, load_place, store_at, store_place, declare_own, make, whole}
use Rattle.sr_ask.specs.Replies.{Completion, forward_meaning, forward_unless, mark_answered, push_out, reply_meaning, reply_unless, results_now, take_one, took_one}
use Rattle.sr_ask.specs.declared.answer.Answer.{Answer}
use Rattle.sr_ask.specs.declared.ask.Asks.{Asks}
use Rattle.sr_ask.specs.declared.environment.Located.{Located}
use Rattle.sr_ask.specs.declared.environment.Out.{Out}
use Rattle.sr_ask.specs.declared.environment.Own.{Own}
use Rattle.sr_ask.specs.declared.environment.ReadTarget.{ReadTarget}
use Rattle.sr_ask.specs.declared.environment.Spot.{Spot}
use Rattle.sr_ask.specs.declared.environment.Spot.TheVariants.{Own as an_own, Shared as a_shared}
use Rattle.sr_ask.specs.declared.request.Request.{Request}
use Rattle.sr_ask.specs.declared.request.Request.TheVariants.{Declare, Load as load_request, Store as store_request, Take as take_request, Read as read_request, Fail, Invoke as invoke_request, Reply as reply_request, Forward as forward_request, Select as select_request, Write as write_request, Stop as stop_request, Wake as wake_request}
use Rattle.sr_core.specs.Formals.{sent_to}
use Rattle.sr_core.specs.Values.{formal_shape, texts_of, written}
use Rattle.sr_core.specs.declared.component.Core.{Core}
use Rattle.sr_core.specs.declared.site.Named.{Named}
use Rattle.sr_core.specs.declared.site.Named.TheVariants.{Own as named_own, Home as named_home, Machine as named_machine}
use Rattle.sr_code.specs.Acts.{Point, point, goes, act, and_skip, or_skip, store_one, store_some, after_item, ask_item, store_item, store_argument, number_own, each_of, repeat_of, unless, named_held, after_choice, turn_held, place_if, drop_place_if, after_completion, reply_of, set_vars, given_back, store_if}
use Rattle.sr_code.specs.Laws.{Falls, InstructionsFall}
use Rattle.sr_code.specs.Operands.{call_on, completed_on, count_on, drop_call, drop_completed, drop_count, drop_list, drop_number, drop_numbers, drop_reading, drop_value, join_value, list_on, number_on, numbers_on, put_count, put_numbers, put_list, put_targets, put_value, reading_on, value_on}
use Rattle.sr_code.specs.Owners.{variable_in}
use Rattle.sr_code.specs.declared.instruction.Instruction.{Instruction}
use Rattle.sr_code.specs.declared.instruction.Instruction.TheVariants.{Constant, Operation, MyResource, MyMachine, Count, MakeMachine, Moment, ToNumber, ToCap, OperateOne, Operate, AndSkip, OrSkip, NoValues, Collect, Apply, NoPieces, AddPiece, AddRepeated, MakeArray, PartAt, PartAt2, PartField, Member, Spot as spot_instruction, At, At2, Field, Load, ToCall, PassValue, PassVar, PassRes, Invoke, Take, StoreResults, Default, EnsureGlobal, Create, TakeInstance, NoReadings, AddReading, ReadNext, StoreRead, NumberRead, EndRead, Jump, FixedShape, StringShape, OneDimension, TwoDimensions, Make, MakeLike, StoreIn, Arguments, MakeFormal, StoreFormal, DropList, DropValue, Send, Forward, Store, LoadAgain, LoadSecond, StoreSecond, Write, Number, Stop, Destroy, TakeDone, ToWait, Age, Wake, Reply, Tick, JumpUnless, Again, Quantify, Each, DropNumbers, ToCount, Repeat, AddNamed, Select, OpenService, EndService, OpenCo, StartCall, CountOuts, TakeReply, SetTurn, GiveBack, StoreValue, CloseCo}
use Rattle.sr_code.specs.declared.operands.Operands.{Operands}

-- ---- room for ticks

-- no more room than so much
abbrev pub Leaves : {A : Type 0} → ℕ → Outcome A → ℕ → Type 0
Leaves limit (Came a stage) most = room limit stage ≤ most
Leaves limit (Stops asks) most = Unit {0}

-- less room than so much
abbrev pub Lessens : {A : Type 0} → ℕ → Outcome A → ℕ → Type 0
Lessens limit (Came a stage) most = room limit stage < most
Lessens limit (Stops asks) most = Unit {0}

-- work that leaves no more room for ticks than there was
pub record Keeps {A : Type 0} (limit : ℕ) (doing : Doing A) : Type 0 where
  pub leaves : (stage : Stage) → Leaves limit (doing stage) (room limit stage)

-- work that goes no higher than an address, or leaves less room than there was
pub record Lowers (limit next : ℕ) (doing : Doing Point) : Type 0 where
  pub falls : (stage : Stage) → Falls limit next (doing stage) (room limit stage)

-- ---- one piece after the other

fewer : {A : Type 0} (limit : ℕ) (o : Outcome A) (n m : ℕ) → n ≤ m → Leaves limit o n → Leaves limit o m
fewer limit (Came a stage) n m less h = omega arith
fewer limit (Stops asks) n m less h = tt

leaves_then : {A B : Type 0} (limit : ℕ) (o : Outcome A) (next : A → Doing B) (most : ℕ) → Leaves limit o most
    → ((a : A) (after : Stage) → Leaves limit (next a after) (room limit after)) → Leaves limit (and_then o next) most
leaves_then limit (Came a after) next most h k = fewer limit (next a after) (room limit after) most h (k a after)
leaves_then limit (Stops asks) next most h k = tt

falls_as : (limit next : ℕ) (o : Outcome Point) (n m : ℕ) → n ≤ m → Falls limit next o n → Falls limit next o m
falls_as limit next (Came at stage) n m less (inl h) = inl (omega arith)
falls_as limit next (Came at stage) n m less (inr h) = let l = h.0 in inr (omega arith, h.1)
falls_as limit next (Stops asks) n m less h = tt

falls_then : {A : Type 0} (limit next : ℕ) (o : Outcome A) (then : A → Doing Point) (most : ℕ) → Leaves limit o most
    → ((a : A) (after : Stage) → Falls limit next (then a after) (room limit after)) → Falls limit next (and_then o then) most
falls_then limit next (Came a after) then most h k = falls_as limit next (then a after) (room limit after) most h (k a after)
falls_then limit next (Stops asks) then most h k = tt

-- after less room, anything that leaves no more
falls_less : {A : Type 0} (limit next : ℕ) (o : Outcome A) (then : A → Doing Point) (most : ℕ) → Lessens limit o most
    → ((a : A) (after : Stage) → Leaves limit (then a after) (room limit after)) → Falls limit next (and_then o then) most
falls_less limit next (Came a after) then most h k = came limit next (then a after) (room limit after) most h (k a after) where
  came : (limit next : ℕ) (o : Outcome Point) (n m : ℕ) → n < m → Leaves limit o n → Falls limit next o m
  came limit next (Came at stage) n m less k = inl (omega arith)
  came limit next (Stops asks) n m less k = tt
falls_less limit next (Stops asks) then most h k = tt

pub keeps_give : {A : Type 0} (limit : ℕ) (a : A) → Keeps limit (give a)
keeps_give limit a = record { leaves = λ stage. omega arith }

pub keeps_then : {A B : Type 0} {limit : ℕ} {first : Doing A} {next : A → Doing B} → Keeps limit first → ((a : A) → Keeps limit (next a)) → Keeps limit (first >>= next)
keeps_then {limit = limit} {first = first} {next = next} f n =
    record { leaves = λ stage. leaves_then limit (first stage) next (room limit stage) (f.leaves stage) (λ a after. (n a).leaves after) }

pub lowers_goes : (limit next address : ℕ) (on : Operands) → address ≤ next → Lowers limit next (goes address on)
lowers_goes limit next address on h = record { falls = λ stage. inr (omega arith, h) }

pub lowers_then : {A : Type 0} {limit next : ℕ} {first : Doing A} {then : A → Doing Point} → Keeps limit first → ((a : A) → Lowers limit next (then a)) → Lowers limit next (first >>= then)
lowers_then {limit = limit} {next = next} {first = first} {then = then} f n =
    record { falls = λ stage. falls_then limit next (first stage) then (room limit stage) (f.leaves stage) (λ a after. (n a).falls after) }

-- ---- requests

lessens_more : {A : Type 0} (limit : ℕ) (o : Outcome A) (n m : ℕ) → n ≤ m → Lessens limit o n → Lessens limit o m
lessens_more limit (Came a stage) n m less h = omega arith
lessens_more limit (Stops asks) n m less h = tt

lessens_hear : {A : Type 0} (found : Option A) (limit : ℕ) (stage : Stage) (later : Outcome A) (most : ℕ) → room limit stage < most → Lessens limit later most
    → Lessens limit (hear found stage later) most
lessens_hear (Some a) limit stage later most h k = h
lessens_hear None limit stage later most h k = k

lessens_heard : {A : Type 0} (takes : Answer → Option A) (asks : Asks) (limit : ℕ) (answers : List Answer) (stage : Stage)
    → Lessens limit (heard takes asks limit answers stage) (suc limit * length answers)
lessens_heard takes asks limit [] stage = tt
lessens_heard takes asks limit (answer ∷ answers) stage =
    let later = lessens_heard takes asks limit answers (record stage { answers = answers }) in
    lessens_hear (takes answer) limit (record stage { ticks = limit; answers = answers }) _ (suc limit * length (answer ∷ answers)) (omega arith)
    (lessens_more limit _ (suc limit * length answers) (suc limit * length (answer ∷ answers)) (omega arith) later)

lessens_asking : {A : Type 0} (takes : Answer → Option A) (asks : Asks) (limit : ℕ) (stage : Stage) → Lessens limit (asking takes asks limit stage) (room limit stage)
lessens_asking takes asks limit stage =
    lessens_more limit (asking takes asks limit stage) (suc limit * length stage.answers) (room limit stage) (omega arith) (lessens_heard takes asks limit stage.answers stage)

leaves_less : {A : Type 0} (limit : ℕ) (o : Outcome A) (n : ℕ) → Lessens limit o n → Leaves limit o n
leaves_less limit (Came a stage) n h = omega arith
leaves_less limit (Stops asks) n h = tt

-- work that leaves less room for ticks than there was: it takes an answer
pub record Uses {A : Type 0} (limit : ℕ) (doing : Doing A) : Type 0 where
  pub lessens : (stage : Stage) → Lessens limit (doing stage) (room limit stage)

uses_request : {A : Type 0} (here : Here) (takes : Answer → Option A) (asked : Request) → Uses here.limit (request takes asked here)
uses_request here takes asked = record { lessens = λ stage. lessens_asking takes (ask_of asked here) here.limit stage }

lessens_then : {A B : Type 0} (limit : ℕ) (o : Outcome A) (next : A → Doing B) (most : ℕ) → Lessens limit o most
    → ((a : A) (after : Stage) → Leaves limit (next a after) (room limit after)) → Lessens limit (and_then o next) most
lessens_then limit (Came a after) next most h k = came limit (next a after) (room limit after) most h (k a after) where
  came : {B : Type 0} (limit : ℕ) (o : Outcome B) (n m : ℕ) → n < m → Leaves limit o n → Lessens limit o m
  came limit (Came b stage) n m less k = omega arith
  came limit (Stops asks) n m less k = tt
lessens_then limit (Stops asks) next most h k = tt

uses_then : {A B : Type 0} {limit : ℕ} {first : Doing A} {next : A → Doing B} → Uses limit first → ((a : A) → Keeps limit (next a)) → Uses limit (first >>= next)
uses_then {limit = limit} {first = first} {next = next} f n =
    record { lessens = λ stage. lessens_then limit (first stage) next (room limit stage) (f.lessens stage) (λ a after. (n a).leaves after) }

keeps_used : {A : Type 0} {limit : ℕ} {doing : Doing A} → Uses limit doing → Keeps limit doing
keeps_used {limit = limit} {doing = doing} u = record { leaves = λ stage. leaves_less limit (doing stage) (room limit stage) (u.lessens stage) }

pub keeps_request : {A : Type 0} (here : Here) (takes : Answer → Option A) (asked : Request) → Keeps here.limit (request takes asked here)
keeps_request here takes asked = keeps_used (uses_request here takes asked)

-- after an answer, to any address
pub lowers_used : {A : Type 0} {limit : ℕ} (next : ℕ) {first : Doing A} (then : A → Point) → Uses limit first → Lowers limit next (first >>= λ a. give (then a))
lowers_used {limit = limit} next {first = first} then u =
    record { falls = λ stage. falls_less limit next (first stage) (λ a. give (then a)) (room limit stage) (u.lessens stage) (λ a after. omega arith) }

-- after an answer or a tick, to any address
pub lowers_after : {A : Type 0} {limit : ℕ} (next : ℕ) {first : Doing A} {then : A → Doing Point} → Uses limit first → ((a : A) → Keeps limit (then a)) → Lowers limit next (first >>= then)
lowers_after {limit = limit} next {first = first} {then = then} u k =
    record { falls = λ stage. falls_less limit next (first stage) then (room limit stage) (u.lessens stage) (λ a after. (k a).leaves after) }

lessens_ticked : (limit ticks : ℕ) (stage : Stage) → stage.ticks ≡ ticks → Lessens limit (ticked ticks stage) (room limit stage)
lessens_ticked limit zero stage is = tt
lessens_ticked limit (suc ticks) stage is = omega arith

uses_tick : (limit : ℕ) → Uses limit tick
uses_tick limit = record { lessens = λ stage. lessens_ticked limit stage.ticks stage refl }

-- a request that is asked for good
lowers_last : (here : Here) (next : ℕ) (asked : Request) → Lowers here.limit next (request none_takes asked here)
lowers_last here next asked = record { falls = λ stage. came here.limit next (request none_takes asked here stage) (room here.limit stage) ((uses_request here none_takes asked).lessens stage) } where
  came : (limit next : ℕ) (o : Outcome Point) (most : ℕ) → Lessens limit o most → Falls limit next o most
  came limit next (Came at stage) most h = inl h
  came limit next (Stops asks) most h = tt

pub keeps_settle : {A : Type 0} (here : Here) (found : Result A Fault) → Keeps here.limit (settle found here)
keeps_settle here (Ok a) = keeps_give here.limit a
keeps_settle here (Err fault) = keeps_request here none_takes (Fail fault)

-- ---- variables

keeps_declare : (limit var : ℕ) (own : Own) → Keeps limit (declare_own var own)
keeps_declare limit var own = record { leaves = λ stage. omega arith }

-- work that depends on the own variables
keeps_by : {A : Type 0} {limit : ℕ} {doing : List (Option Own) → Doing A} → ((own : List (Option Own)) → Keeps limit (doing own)) → Keeps limit (λ stage. doing stage.own stage)
keeps_by h = record { leaves = λ stage. (h stage.own).leaves stage }

keeps_load_at : (spot : Spot) (path : List Sel) (here : Here) → Keeps here.limit (load_at spot path here)
keeps_load_at (an_own var) path here =
    keeps_by {doing = λ own. settle (with_ok (own_at own var) (λ o. loaded_at o.value path)) here} (λ own. keeps_settle here _)
keeps_load_at (a_shared block var) path here = keeps_request here got (load_request block var path)

pub keeps_load : (place : Located) (here : Here) → Keeps here.limit (load_place place here)
keeps_load place here = keeps_load_at place.spot place.path here

keeps_own_store : (var : ℕ) (path : List Sel) (value : Value) (here : Here) → Keeps here.limit (own_store var path value here)
keeps_own_store var path value here =
    keeps_by {doing = λ own. settle (with_ok (own_at own var) (λ o. own_after o path value)) here >>= declare_own var}
    (λ own. keeps_then (keeps_settle here _) (λ held. keeps_declare here.limit var held))

keeps_store_at : (spot : Spot) (path : List Sel) (value : Value) (here : Here) → Keeps here.limit (store_at spot path value here)
keeps_store_at (an_own var) path value here = keeps_own_store var path value here
keeps_store_at (a_shared block var) path value here = keeps_request here done (store_request block var path value)

pub keeps_store : (place : Located) (value : Value) (here : Here) → Keeps here.limit (store_place place value here)
keeps_store place value here = keeps_store_at place.spot place.path value here

pub keeps_make : (spot : Spot) (shape : Shape) (here : Here) → Keeps here.limit (make spot shape here)
keeps_make (an_own var) shape here = keeps_then (keeps_settle here (default_value shape)) (λ value. keeps_declare here.limit var (record { shape = shape; value = value }))
keeps_make (a_shared block var) shape here = keeps_request here done (Declare block var shape)

-- ---- pieces of instructions

uses_taken : (id : ℕ) (here : Here) → Uses here.limit (taken id here)
uses_taken id here = uses_then (uses_request here (took (id ∷ [])) (take_request (id ∷ []))) (λ reply. keeps_give here.limit reply.results)

keeps_default : (returns : Option Shape) (here : Here) → Keeps here.limit (default_given returns here)
keeps_default None here = keeps_give here.limit _
keeps_default (Some shape) here = keeps_settle here _

keeps_end : (count : ℕ) (here : Here) → Keeps here.limit (at_end count here)
keeps_end zero here = keeps_give here.limit _
keeps_end (suc n) here = keeps_settle here _

keeps_item : (targets : List ReadTarget) (value : Value) (here : Here) → Keeps here.limit (store_item targets value here)
keeps_item [] value here = keeps_give here.limit tt
keeps_item (target ∷ targets) value here = keeps_store target.place value here

keeps_argument : (value : Option Value) (spot : Spot) (here : Here) → Keeps here.limit (store_argument value spot here)
keeps_argument None spot here = keeps_give here.limit tt
keeps_argument (Some value) spot here = keeps_store (whole spot) value here

lowers_store_one : (spot : Spot) (place : Located) (value : Value) (here : Here) (next : ℕ) (again : Point) (later : Doing Point) → Lowers here.limit next later
    → Lowers here.limit next (store_one spot place value here again later)
lowers_store_one (an_own var) place value here next again later h = lowers_then (keeps_own_store var place.path value here) (λ _. h)
lowers_store_one (a_shared block var) place value here next again later h =
    lowers_used next (λ _. again) (uses_request here done (store_request block var place.path value))

lowers_store_some : (places : List Located) (values : List Value) (to : ℕ) (here : Here) (next : ℕ) (on : Operands) → Lowers here.limit next (store_some places values to here next on)
lowers_store_some [] values to here next on = lowers_goes here.limit next (min to next) _ (omega arith)
lowers_store_some (place ∷ places) [] to here next on = lowers_goes here.limit next (min to next) _ (omega arith)
lowers_store_some (place ∷ places) (value ∷ values) to here next on =
    lowers_store_one place.spot place value here next (point (suc next) (put_targets places (put_list values on))) _ (lowers_store_some places values to here next on)

lowers_item : (targets : List ReadTarget) (store end : ℕ) (here : Here) (next : ℕ) (on : Operands) → Lowers here.limit next (ask_item targets store end here next on)
lowers_item [] store end here next on = lowers_goes here.limit next next on (omega arith)
lowers_item (target ∷ targets) store end here next on =
    lowers_used next (λ item. after_item item store end next on) (uses_request here read_item (read_request target.kind))

lowers_and : (truth : Bool) (limit to next : ℕ) (on : Operands) → Lowers limit next (give (and_skip truth to next on))
lowers_and true limit to next on = lowers_goes limit next next _ (omega arith)
lowers_and false limit to next on = lowers_goes limit next (min to next) _ (omega arith)

lowers_or : (truth : Bool) (limit to next : ℕ) (on : Operands) → Lowers limit next (give (or_skip truth to next on))
lowers_or true limit to next on = lowers_goes limit next (min to next) _ (omega arith)
lowers_or false limit to next on = lowers_goes limit next next _ (omega arith)

-- ---- services

keeps_reply : (here : Here) → Keeps here.limit (reply_meaning here)
keeps_reply here = record { leaves = λ stage. unless_answered stage.service.answered stage } where
  unless_answered : (answered : Bool) (stage : Stage) → Leaves here.limit (reply_unless answered here stage) (room here.limit stage)
  unless_answered true stage = omega arith
  unless_answered false stage =
      let asked = reply_request stage.service.held stage.service.back (results_now here stage) in
      leaves_then here.limit (request done asked here stage) (λ _. mark_answered) (room here.limit stage) ((keeps_request here done asked).leaves stage) (λ a after. omega arith)

keeps_forward : (target : Cap) (args : List Value) (here : Here) → Keeps here.limit (forward_meaning target args here)
keeps_forward target args here = record { leaves = λ stage. unless_answered stage.service.answered stage } where
  unless_answered : (answered : Bool) (stage : Stage) → Leaves here.limit (forward_unless answered target args here stage) (room here.limit stage)
  unless_answered true stage =
      leaves_then here.limit (request made (invoke_request target args false) here stage) (λ _. give tt) (room here.limit stage) ((keeps_request here made (invoke_request target args false)).leaves stage) (λ a after. omega arith)
  unless_answered false stage =
      let asked = forward_request stage.service.held stage.service.back target args in
      leaves_then here.limit (request made asked here stage) (λ _. mark_answered) (room here.limit stage) ((keeps_request here made asked).leaves stage) (λ a after. omega arith)

keeps_named : (named : Named) (here : Here) → Keeps here.limit (named_held named here)
keeps_named (named_own var) here = keeps_by {doing = λ own. settle (with_ok (own_at own var) (λ o. Ok o.value)) here} (λ own. keeps_settle here _)
keeps_named (named_home at) here = record { leaves = λ stage. omega arith }
keeps_named named_machine here = record { leaves = λ stage. omega arith }

lowers_each : (numbers : List ℤ) (limit var head next : ℕ) (on : Operands) → Lowers limit next (each_of numbers var head next on)
lowers_each [] limit var head next on = lowers_goes limit next next on (omega arith)
lowers_each (n ∷ rest) limit var head next on =
    lowers_after next (uses_tick limit) (λ _. keeps_then (keeps_declare limit var (number_own n)) (λ _. keeps_give limit (point head (put_numbers rest on))))

lowers_repeat : (count limit head next : ℕ) (on : Operands) → Lowers limit next (repeat_of count head next on)
lowers_repeat zero limit head next on = lowers_goes limit next next on (omega arith)
lowers_repeat (suc count) limit head next on = lowers_after next (uses_tick limit) (λ _. keeps_give limit _)

lowers_unless : (truth : Bool) (limit to next : ℕ) (on : Operands) → Lowers limit next (give (unless truth to next on))
lowers_unless true limit to next on = lowers_goes limit next next on (omega arith)
lowers_unless false limit to next on = lowers_goes limit next (min to next) on (omega arith)

-- ---- co

keeps_completion : (arm : Option ℕ) (completion : Completion) (limit again : ℕ) (on : Operands) → Keeps limit (after_completion arm completion again on)
keeps_completion None completion limit again on = keeps_give limit _
keeps_completion (Some arm) completion limit again on = record { leaves = λ stage. omega arith }

uses_take_one : (here : Here) → Uses here.limit (take_one here)
uses_take_one here = record { lessens = λ stage. (uses_request here (took_one stage.out) (take_request (map (λ out. out.id) stage.out))).lessens stage }

lowers_reply : (count : ℕ) (arms : List ℕ) (here : Here) (next : ℕ) (on : Operands) → Lowers here.limit next (reply_of count arms here next on)
lowers_reply zero arms here next on = lowers_goes here.limit next next on (omega arith)
lowers_reply (suc count) arms here next on =
    lowers_after next (uses_take_one here) (λ completion. keeps_completion (slice_get arms completion.out.arm) completion here.limit (suc next) (put_count count (drop_count on)))

keeps_set_vars : (vars : List ℕ) (turn : List ℤ) (limit : ℕ) → Keeps limit (set_vars vars turn)
keeps_set_vars [] turn limit = keeps_give limit tt
keeps_set_vars (var ∷ vars) [] limit = keeps_give limit tt
keeps_set_vars (var ∷ vars) (n ∷ turn) limit = keeps_then (keeps_declare limit var _) (λ _. keeps_set_vars vars turn limit)

lowers_given : (results : Option (List Value)) (places : List Located) (limit none next : ℕ) (on : Operands) → Lowers limit next (give (given_back results places none next on))
lowers_given None places limit none next on = lowers_goes limit next (min none next) on (omega arith)
lowers_given (Some results) places limit none next on = lowers_goes limit next next _ (omega arith)

keeps_store_if : (place : Option Located) (value : Value) (here : Here) → Keeps here.limit (store_if place value here)
keeps_store_if None value here = keeps_give here.limit tt
keeps_store_if (Some place) value here = keeps_store place value here

keeps_own_change : (limit : ℕ) (vars : List ℕ) → Keeps limit (turn_held vars)
keeps_own_change limit vars = record { leaves = λ stage. omega arith }

keeps_push : (limit : ℕ) (out : Out) → Keeps limit (push_out out)
keeps_push limit out = record { leaves = λ stage. omega arith }

-- a piece of work, and then the next address
lowers_past : {A : Type 0} (here : Here) (next : ℕ) {first : Doing A} (on : A → Operands) → Keeps here.limit first → Lowers here.limit next (first >>= λ a. goes next (on a))
lowers_past here next on f = lowers_then f (λ a. lowers_goes here.limit next next (on a) (omega arith))

lowers_next : (here : Here) (next : ℕ) (on : Operands) → Lowers here.limit next (goes next on)
lowers_next here next on = lowers_goes here.limit next next on (omega arith)

-- ---- instructions

pub act_lowers : (core : Core) (instruction : Instruction) (here : Here) (next : ℕ) (on : Operands) → Lowers here.limit next (act core instruction here next on)
act_lowers core (Constant value) here next on = lowers_next here next _
act_lowers core (Operation whose op) here next on = lowers_next here next _
act_lowers core MyResource here next on = lowers_next here next _
act_lowers core MyMachine here next on = lowers_next here next _
act_lowers core (Count op) here next on = lowers_past here next _ (keeps_request here _ _)
act_lowers core MakeMachine here next on = lowers_past here next _ (keeps_request here _ _)
act_lowers core Moment here next on = lowers_past here next _ (keeps_request here _ _)
act_lowers core ToNumber here next on = lowers_past here next _ (keeps_settle here _)
act_lowers core ToCap here next on = lowers_past here next _ (keeps_settle here _)
act_lowers core (OperateOne op) here next on = lowers_past here next _ (keeps_settle here _)
act_lowers core (Operate op) here next on = lowers_past here next _ (keeps_settle here _)
act_lowers core (AndSkip to) here next on = lowers_then (keeps_settle here _) (λ truth. lowers_and truth here.limit to next on)
act_lowers core (OrSkip to) here next on = lowers_then (keeps_settle here _) (λ truth. lowers_or truth here.limit to next on)
act_lowers core NoValues here next on = lowers_next here next _
act_lowers core Collect here next on = lowers_next here next _
act_lowers core (Apply function) here next on = lowers_past here next _ (keeps_settle here _)
act_lowers core NoPieces here next on = lowers_next here next _
act_lowers core AddPiece here next on = lowers_next here next _
act_lowers core AddRepeated here next on = lowers_past here next _ (keeps_settle here _)
act_lowers core MakeArray here next on = lowers_past here next _ (keeps_settle here _)
act_lowers core PartAt here next on = lowers_past here next _ (keeps_settle here _)
act_lowers core PartAt2 here next on = lowers_past here next _ (keeps_settle here _)
act_lowers core (PartField field) here next on = lowers_past here next _ (keeps_settle here _)
act_lowers core (Member op) here next on = lowers_past here next _ (keeps_settle here _)
act_lowers core (spot_instruction root) here next on = lowers_next here next _
act_lowers core At here next on = lowers_next here next _
act_lowers core At2 here next on = lowers_next here next _
act_lowers core (Field field) here next on = lowers_next here next _
act_lowers core Load here next on = lowers_past here next _ (keeps_load _ here)
act_lowers core ToCall here next on = lowers_past here next _ (keeps_settle here _)
act_lowers core PassValue here next on = lowers_next here next _
act_lowers core PassVar here next on = lowers_past here next _ (keeps_load _ here)
act_lowers core PassRes here next on = lowers_next here next _
act_lowers core Invoke here next on = lowers_past here next _ (keeps_request here _ _)
act_lowers core (Take none) here next on = lowers_used next _ (uses_taken _ here)
act_lowers core (StoreResults to) here next on = lowers_store_some _ _ to here next _
act_lowers core (Default returns) here next on = lowers_past here next _ (keeps_default returns here)
act_lowers core (EnsureGlobal global) here next on = lowers_past here next _ (keeps_request here _ _)
act_lowers core (Create resource) here next on = lowers_past here next _ (keeps_request here _ _)
act_lowers core TakeInstance here next on = lowers_past here next _ (keeps_used (uses_taken _ here))
act_lowers core NoReadings here next on = lowers_next here next _
act_lowers core (AddReading kind) here next on = lowers_next here next _
act_lowers core (ReadNext store end) here next on = lowers_item _ store end here next on
act_lowers core StoreRead here next on = lowers_past here next _ (keeps_item _ _ here)
act_lowers core NumberRead here next on = lowers_past here next _ (keeps_settle here _)
act_lowers core EndRead here next on = lowers_past here next (λ v. put_value v (drop_reading on)) (keeps_end (reading_on on).count here)
act_lowers core (Jump to) here next on = lowers_goes here.limit next (min to next) on (omega arith)
act_lowers core (FixedShape shape) here next on = lowers_next here next _
act_lowers core StringShape here next on = lowers_past here next _ (keeps_settle here _)
act_lowers core OneDimension here next on = lowers_next here next _
act_lowers core TwoDimensions here next on = lowers_next here next _
act_lowers core (Make scope var) here next on = lowers_past here next _ (keeps_make _ _ here)
act_lowers core (MakeLike scope var shape) here next on = lowers_past here next _ (keeps_make _ _ here)
act_lowers core (StoreIn scope var) here next on = lowers_past here next _ (keeps_store _ _ here)
act_lowers core Arguments here next on = lowers_next here next _
act_lowers core (MakeFormal scope var mode shape) here next on =
    lowers_then (keeps_settle here (formal_shape shape (sent_to mode (list_on on)))) (λ found. lowers_past here next (λ _. on) (keeps_make (variable_in scope var here) found here))
act_lowers core (StoreFormal scope var mode) here next on = lowers_past here next _ (keeps_argument _ _ here)
act_lowers core DropList here next on = lowers_next here next _
act_lowers core DropValue here next on = lowers_next here next _
act_lowers core Send here next on = lowers_past here next _ (keeps_request here _ _)
act_lowers core Forward here next on = lowers_past here next _ (keeps_forward _ _ here)
act_lowers core Store here next on = lowers_past here next _ (keeps_store _ _ here)
act_lowers core LoadAgain here next on = lowers_past here next _ (keeps_load _ here)
act_lowers core LoadSecond here next on = lowers_past here next _ (keeps_load _ here)
act_lowers core StoreSecond here next on = lowers_past here next _ (keeps_store _ _ here)
act_lowers core (Write line) here next on =
    lowers_then (keeps_settle here (texts_of core.names (list_on on))) (λ texts. lowers_past here next (λ _. drop_list on) (keeps_request here done (write_request (written line texts))))
act_lowers core (Number n) here next on = lowers_next here next _
act_lowers core Stop here next on = lowers_last here next (stop_request (number_on on))
act_lowers core Destroy here next on = lowers_past here next _ (keeps_request here _ _)
act_lowers core TakeDone here next on = lowers_past here next _ (keeps_used (uses_taken _ here))
act_lowers core ToWait here next on = lowers_past here next _ (keeps_settle here _)
act_lowers core Age here next on = lowers_past here next _ (keeps_request here _ _)
act_lowers core Wake here next on =
    lowers_then (keeps_settle here (until_moment (number_on on +ℤ number_on (drop_number on)))) (λ until. lowers_past here next (λ _. drop_number (drop_number on)) (keeps_request here done (wake_request until)))
act_lowers core Reply here next on = lowers_past here next (λ _. on) (keeps_reply here)
act_lowers core Tick here next on = lowers_past here next (λ _. on) (keeps_used (uses_tick here.limit))
act_lowers core (JumpUnless to) here next on = lowers_then (keeps_settle here _) (λ truth. lowers_unless truth here.limit to next _)
act_lowers core (Again to) here next on = lowers_used next (λ _. point to on) (uses_tick here.limit)
act_lowers core (Quantify direction) here next on = lowers_past here next _ (keeps_settle here _)
act_lowers core (Each var head) here next on = lowers_each (numbers_on on) here.limit var head next (drop_numbers on)
act_lowers core DropNumbers here next on = lowers_next here next _
act_lowers core ToCount here next on = lowers_past here next _ (keeps_settle here _)
act_lowers core (Repeat head) here next on = lowers_repeat (count_on on) here.limit head next (drop_count on)
act_lowers core (AddNamed named) here next on = lowers_past here next (λ v. join_value v on) (keeps_named named here)
act_lowers core (Select site count has_else arms otherwise end) here next on =
    lowers_used next (λ selection. after_choice selection arms otherwise end (drop_list on)) (uses_request here (selected count has_else) (select_request site (list_on on)))
act_lowers core (OpenService gives) here next on = record { falls = λ stage. inr (omega arith, omega arith) }
act_lowers core EndService here next on = record { falls = λ stage. inr (omega arith, omega arith) }
act_lowers core OpenCo here next on = record { falls = λ stage. inr (omega arith, omega arith) }
act_lowers core (StartCall arm vars has_place) here next on =
    lowers_then (keeps_request here made (invoke_request (call_on on).target (call_on on).values true)) (λ id.
    lowers_then (keeps_own_change here.limit vars) (λ turn.
    lowers_past here next (λ _. drop_place_if has_place (drop_call on))
    (keeps_push here.limit (record { id = id; arm = arm; place = place_if has_place on; backs = (call_on on).places; turn = turn }))))
act_lowers core CountOuts here next on = record { falls = λ stage. inr (omega arith, omega arith) }
act_lowers core (TakeReply arms) here next on = lowers_reply (count_on on) arms here next on
act_lowers core (SetTurn vars) here next on = lowers_past here next (λ _. on) (keeps_set_vars vars (completed_on on).out.turn here.limit)
act_lowers core (GiveBack none) here next on = lowers_given (completed_on on).results (completed_on on).out.backs here.limit none next on
act_lowers core StoreValue here next on = lowers_past here next (λ _. drop_value (drop_completed on)) (keeps_store_if (completed_on on).out.place (value_on on) here)
act_lowers core CloseCo here next on = record { falls = λ stage. inr (omega arith, omega arith) }

pub instructions_lower : InstructionsFall
instructions_lower core instruction here next on stage = (act_lowers core instruction here next on).falls stage
