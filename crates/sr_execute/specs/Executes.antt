-- What an instruction does up to a request, and what an answer leads to.
use Rattle.std.specs.Prelude.{◌≡◌, ◌++◌, ℕ, zero, suc, ℤ, pos, negsuc, ◌+ℤ◌, min, Bool, true, false, List, [], ◌∷◌, length, map, Option, Some, None, Result, Ok, Err, slice_get, slice_set}
use Rattle.sr_value.specs.declared.capability.Cap.TheVariants.{Op, Res as a_resource, Vm}
use Rattle.sr_value.specs.declared.fault.Fault.{Fault}
use Rattle.sr_value.specs.declared.shape.Dims.TheVariants.{One as one_dim, Two as two_dims}
use Rattle.sr_value.specs.declared.shape.Sel.{Sel}
use Rattle.sr_value.specs.declared.shape.Sel.TheVariants.{At as at_one, At2 as at_two, Field as at_field}
use Rattle.sr_value.specs.declared.shape.Shape.{Shape}
use Rattle.sr_value.specs.declared.shape.Shape.TheVariants.{Arr as an_array}
use Rattle.sr_value.specs.declared.value.Value.{Value}
use Rattle.sr_value.specs.declared.value.Value.TheVariants.{Int, Capa}
use Rattle.sr_value.specs.Operators.{int_result, value_of, value_of_one}
use Rattle.sr_value.specs.Shapes.{default_value}
use Rattle.sr_value.specs.Parts.{part_of, with_ok}
use Rattle.sr_ask.specs.Asking.{done, got, made, moment, number, read_item, ready, selected, took, until_moment}
use Rattle.sr_ask.specs.Here.{Here}
use Rattle.sr_ask.specs.Invocations.{value_after, instance_in}
use Rattle.sr_ask.specs.Places.{nothing, number_held, own_at, string_of_length, whole}
use Rattle.sr_ask.specs.Replies.{Completion, gives_now, took_one, without_out}
use Rattle.sr_ask.specs.declared.environment.Located.{Located}
use Rattle.sr_ask.specs.declared.environment.Out.{Out}
use Rattle.sr_ask.specs.declared.environment.Own.{Own}
use Rattle.sr_ask.specs.declared.environment.ReadTarget.{ReadTarget}
use Rattle.sr_ask.specs.declared.environment.Spot.{Spot}
use Rattle.sr_ask.specs.declared.environment.Spot.TheVariants.{Own as an_own, Shared as a_shared}
use Rattle.sr_ask.specs.declared.answer.Answer.{Answer}
use Rattle.sr_ask.specs.declared.request.Request.{Request}
use Rattle.sr_ask.specs.declared.request.Request.TheVariants.{Declare, Load as load_request, Take as take_request, Reply as reply_request, Forward as forward_request, Select as select_request, Write as write_request, Stop as stop_request, Destroy as destroy_request, Wake as wake_request, Store as store_request, Invoke as invoke_request, Count as count_request, Read as read_request, EnsureGlobal as ensure_request, Create as create_request, MakeVm, Age as age_request}
use Rattle.sr_core.specs.Applied.{applied}
use Rattle.sr_core.specs.Formals.{sent_to, sent_after}
use Rattle.sr_core.specs.Values.{truth_of, number_of, cap_of, member_of, count_of, array_of, values_of, texts_of, written, bounded_by, formal_shape}
use Rattle.sr_core.specs.declared.site.Named.{Named}
use Rattle.sr_core.specs.declared.site.Named.TheVariants.{Own as named_own, Home as named_home, Machine as named_machine}
use Rattle.sr_code.specs.Acts.{Point, and_skip, or_skip, after_reply, after_item, unless, time_to_wait, number_own, after_choice, service_of, place_if, drop_place_if, given_back, second_place}
use Rattle.sr_code.specs.Operands.{value_on, drop_value, put_value, number_on, drop_number, put_number, cap_on, drop_cap, put_cap, name_on, drop_name, put_name, place_on, drop_place, put_place, join_sel, shape_on, drop_shape, put_shape, list_on, drop_list, put_list, join_value, pieces_on, drop_pieces, put_pieces, join_piece, call_of, call_on, drop_call, put_call, join_argument, join_place, targets_on, drop_targets, put_targets, no_reading, reading_on, drop_reading, put_reading, join_target, one_read, numbers_on, drop_numbers, put_numbers, count_on, drop_count, put_count, pick_on, drop_pick, service_on, drop_service, put_service, outs_on, drop_outs, put_outs, completed_on, drop_completed, put_completed}
use Rattle.sr_code.specs.Stacks.{first}
use Rattle.sr_code.specs.Owners.{home_at, owner_in, root_in, variable_in, kind_asked}
use Rattle.sr_code.specs.declared.instruction.Instruction.{Instruction}
use Rattle.sr_code.specs.declared.instruction.Instruction.TheVariants.{Constant, Operation, MyResource, MyMachine, Count, MakeMachine, Moment, ToNumber, ToCap, OperateOne, Operate, AndSkip, OrSkip, NoValues, Collect, Apply, NoPieces, AddPiece, AddRepeated, MakeArray, PartAt, PartAt2, PartField, Member, Spot as spot_instruction, At, At2, Field, Load, ToCall, PassValue, PassVar, PassRes, Invoke, Take, StoreResults, Default, EnsureGlobal, Create, TakeInstance, NoReadings, AddReading, ReadNext, StoreRead, NumberRead, EndRead, Jump, FixedShape, StringShape, OneDimension, TwoDimensions, Make, MakeLike, StoreIn, Arguments, MakeFormal, StoreFormal, DropList, DropValue, Send, Forward, Store, LoadAgain, LoadSecond, StoreSecond, Write, Number, Stop, Destroy, TakeDone, ToWait, Age, Wake, Reply, Tick, JumpUnless, Again, Quantify, Each, DropNumbers, ToCount, Repeat, AddNamed, Select, OpenService, EndService, OpenCo, StartCall, CountOuts, TakeReply, SetTurn, GiveBack, StoreValue, CloseCo}
use Rattle.sr_code.specs.declared.operands.Call.{Call}
use Rattle.sr_code.specs.declared.operands.Operands.{Operands}
use Rattle.sr_frame.specs.Variables.{own_stored, own_value, vars_set}
use Rattle.sr_execute.specs.declared.frame.Frame.{Frame}
use Rattle.sr_execute.specs.declared.step.Step.{Step}
use Rattle.sr_execute.specs.declared.step.Step.TheVariants.{Goes, Asks, Faults, OverTicks}
use Rattle.sr_value.specs.declared.memory.NoMemory.{NoMemory}

-- What a process holds after an instruction up to a request, or why it goes no further.
pub data Began : Type 0 where
  Went : ℕ → Frame → Began
  Waits : Request → Frame → Began
  Fails : Fault → Began
  NoTicks : Began

abbrev pub holding : Operands → Frame → Frame
holding on frame = record frame { operands = on }

-- it goes on at an address, with operands
abbrev pub went : ℕ → Operands → Frame → Began
went address on frame = Went address (holding on frame)

abbrev pub went_to : Point → Frame → Began
went_to at frame = went at.address at.operands frame

-- it asks, and these operands stay
abbrev pub waits : Request → Operands → Frame → Began
waits request on frame = Waits request (holding on frame)

-- it goes on with what is found, or there is a fault
abbrev pub settled : {A : Type 0} → Result A Fault → (A → Began) → Began
settled (Ok a) next = next a
settled (Err fault) next = Fails fault

abbrev pub puts : Result Value Fault → ℕ → Operands → Frame → Began
puts found next on frame = settled found (λ value. went next (put_value value on) frame)

-- ---- variables

abbrev pub with_own : List (Option Own) → Frame → Frame
with_own own frame = record frame { own = own }

-- What a place holds becomes operands, those after the load; a shared place is asked for, and others stay.
abbrev pub loads : Spot → List Sel → (Value → Operands) → ℕ → Operands → Frame → Began
loads (an_own var) path then next on frame = settled (own_value frame.own var path) (λ value. went next (then value) frame)
loads (a_shared block var) path then next on frame = waits (load_request block var path) on frame

-- a value goes to a place
abbrev pub stores : Spot → List Sel → Value → ℕ → Operands → Frame → Began
stores (an_own var) path value next on frame = settled (own_stored frame.own var path value) (λ own. went next on (with_own own frame))
stores (a_shared block var) path value next on frame = waits (store_request block var path value) on frame

abbrev pub stores_some : Option Value → Spot → ℕ → Operands → Frame → Began
stores_some None spot next on frame = went next on frame
stores_some (Some value) spot next on frame = stores spot [] value next on frame

abbrev pub stores_if : Option Located → Value → ℕ → Operands → Frame → Began
stores_if None value next on frame = went next on frame
stores_if (Some place) value next on frame = stores place.spot place.path value next on frame

-- a variable is made
abbrev pub makes : Spot → Shape → ℕ → Operands → Frame → Began
makes (an_own var) shape next on frame =
    settled (default_value shape) (λ value. went next on (with_own (slice_set frame.own var (Some (record { shape = shape; value = value }))) frame))
makes (a_shared block var) shape next on frame = waits (Declare block var shape) on frame

-- ---- replies

-- a store, and then the others; one that is asked for is the last
abbrev pub storing_one : Spot → List Sel → Value → (Frame → Began) → Operands → Frame → Began
storing_one (an_own var) path value others left frame = settled (own_stored frame.own var path value) (λ own. others (with_own own frame))
storing_one (a_shared block var) path value others left frame = waits (store_request block var path value) left frame

-- The results go to their places in the order of the formals.
abbrev pub storing : List Located → List Value → ℕ → ℕ → Operands → Frame → Began
storing [] values to next on frame = went (min to next) (put_value (value_after values) on) frame
storing (place ∷ places) [] to next on frame = went (min to next) (put_value nothing on) frame
storing (place ∷ places) (value ∷ values) to next on frame =
    storing_one place.spot place.path value (storing places values to next on) (put_targets places (put_list values on)) frame

abbrev pub default_found : Option Shape → Result Value Fault
default_found None = Ok nothing
default_found (Some shape) = default_value shape

-- ---- read

abbrev pub reads : List ReadTarget → ℕ → Operands → Frame → Began
reads [] next on frame = went next on frame
reads (target ∷ targets) next on frame = waits (read_request target.kind) on frame

abbrev pub stores_item : Option ReadTarget → Value → ℕ → Operands → Frame → Began
stores_item None value next on frame = went next on frame
stores_item (Some target) value next on frame = stores target.place.spot target.place.path value next on frame

abbrev pub end_found : ℕ → Result Value Fault
end_found zero = Ok (Int (negsuc 0))
end_found (suc n) = int_result (pos (suc n))

-- ---- ticks

abbrev pub ticking : ℕ → (Frame → Began) → Frame → Began
ticking zero next frame = NoTicks
ticking (suc left) next frame = next (record frame { ticks = left })

abbrev pub declared : ℕ → Own → Frame → Frame
declared var own frame = with_own (slice_set frame.own var (Some own)) frame

abbrev pub each_begun : List ℤ → ℕ → ℕ → ℕ → Operands → Frame → Began
each_begun [] var head next on frame = went next on frame
each_begun (n ∷ rest) var head next on frame = ticking frame.ticks (λ f. went head (put_numbers rest on) (declared var (number_own n) f)) frame

abbrev pub repeat_begun : ℕ → ℕ → ℕ → Operands → Frame → Began
repeat_begun zero head next on frame = went next on frame
repeat_begun (suc count) head next on frame = ticking frame.ticks (λ f. went head (put_count count on) f) frame

-- ---- services

abbrev pub named_found : Named → Here → List (Option Own) → Result Value Fault
named_found (named_own var) here own = with_ok (own_at own var) (λ held. Ok held.value)
named_found (named_home at) here own = Ok (Capa (a_resource (home_at at here)))
named_found named_machine here own = Ok (Capa (Vm here.start.vm))

abbrev pub replies : Bool → Here → ℕ → Operands → Frame → Began
replies true here next on frame = went next on frame
replies false here next on frame =
    waits (reply_request frame.service.held frame.service.back (gives_now frame.service.gives frame.own here)) on frame

abbrev pub forwards : Bool → Call → Operands → Frame → Began
forwards true call on frame = waits (invoke_request call.target call.values false) on frame
forwards false call on frame = waits (forward_request frame.service.held frame.service.back call.target call.values) on frame

abbrev pub marked : Frame → Frame
marked frame = record frame { service = record frame.service { answered = true } }

-- ---- co

abbrev pub takes_reply : ℕ → ℕ → Operands → Frame → Began
takes_reply zero next on frame = went next on frame
takes_reply (suc count) next on frame = waits (take_request (map (λ out. out.id) frame.out)) (put_count count (drop_count on)) frame

-- ---- instructions

-- what an instruction does up to a request, in a process that holds this
abbrev pub begun : List (List (List ℕ)) → Instruction → Here → ℕ → Operands → Frame → Began
begun names (Constant value) here next on frame = went next (put_value value on) frame
begun names (Operation whose op) here next on frame = went next (put_value (Capa (Op (owner_in whose here) op)) on) frame
begun names MyResource here next on frame = went next (put_value (Capa (a_resource here.start.instance)) on) frame
begun names MyMachine here next on frame = went next (put_value (Capa (Vm here.start.vm)) on) frame
begun names (Count op) here next on frame = waits (count_request op) on frame
begun names MakeMachine here next on frame = waits MakeVm on frame
begun names Moment here next on frame = waits age_request on frame
begun names ToNumber here next on frame = settled (number_of (value_on on)) (λ n. went next (put_number n (drop_value on)) frame)
begun names ToCap here next on frame = settled (cap_of (value_on on)) (λ cap. went next (put_cap cap (drop_value on)) frame)
begun names (OperateOne op) here next on frame = puts (value_of_one op (value_on on)) next (drop_value on) frame
begun names (Operate op) here next on frame =
    puts (value_of op (value_on (drop_value on)) (value_on on)) next (drop_value (drop_value on)) frame
begun names (AndSkip to) here next on frame = settled (truth_of (value_on on)) (λ truth. went_to (and_skip truth to next on) frame)
begun names (OrSkip to) here next on frame = settled (truth_of (value_on on)) (λ truth. went_to (or_skip truth to next on) frame)
begun names NoValues here next on frame = went next (put_list [] on) frame
begun names Collect here next on frame = went next (join_value (value_on on) (drop_value on)) frame
begun names (Apply function) here next on frame = puts (applied names function (list_on on)) next (drop_list on) frame
begun names NoPieces here next on frame = went next (put_pieces [] on) frame
begun names AddPiece here next on frame = went next (join_piece (record { count = 1; value = value_on on }) (drop_value on)) frame
begun names AddRepeated here next on frame =
    settled (count_of (number_on on)) (λ times.
    went next (join_piece (record { count = times; value = value_on on }) (drop_number (drop_value on))) frame)
begun names MakeArray here next on frame = puts (array_of (pieces_on on)) next (drop_pieces on) frame
begun names PartAt here next on frame = puts (part_of (value_on on) (at_one (number_on on))) next (drop_number (drop_value on)) frame
begun names PartAt2 here next on frame =
    puts (part_of (value_on on) (at_two (number_on (drop_number on)) (number_on on))) next (drop_number (drop_number (drop_value on))) frame
begun names (PartField field) here next on frame = puts (part_of (value_on on) (at_field field)) next (drop_value on) frame
begun names (Member op) here next on frame = puts (member_of op (cap_on on)) next (drop_cap on) frame
begun names (spot_instruction root) here next on frame = went next (put_place (whole (root_in root here)) on) frame
begun names At here next on frame = went next (join_sel (at_one (number_on on)) (drop_number on)) frame
begun names At2 here next on frame =
    went next (join_sel (at_two (number_on (drop_number on)) (number_on on)) (drop_number (drop_number on))) frame
begun names (Field field) here next on frame = went next (join_sel (at_field field) on) frame
begun names Load here next on frame =
    loads (place_on on).spot (place_on on).path (λ v. put_value v (drop_place on)) next (drop_place on) frame
begun names ToCall here next on frame = settled (cap_of (value_on on)) (λ cap. went next (put_call (call_of cap) (drop_value on)) frame)
begun names PassValue here next on frame = went next (join_argument (value_on on) (drop_value on)) frame
begun names PassVar here next on frame =
    loads (place_on on).spot (place_on on).path (λ v. join_place (place_on on) (join_argument v (drop_place on))) next on frame
begun names PassRes here next on frame = went next (join_place (place_on on) (drop_place on)) frame
begun names Invoke here next on frame =
    waits (invoke_request (call_on on).target (call_on on).values true) (put_targets (call_on on).places (drop_call on)) frame
begun names (Take none) here next on frame = waits (take_request (name_on on ∷ [])) on frame
begun names (StoreResults to) here next on frame = storing (targets_on on) (list_on on) to next (drop_list (drop_targets on)) frame
begun names (Default returns) here next on frame = puts (default_found returns) next on frame
begun names (EnsureGlobal global) here next on frame = waits (ensure_request global (cap_on on)) on frame
begun names (Create resource) here next on frame =
    waits (create_request resource (list_on on) (cap_on on)) (drop_list (drop_cap on)) frame
begun names TakeInstance here next on frame = waits (take_request (name_on on ∷ [])) on frame
begun names NoReadings here next on frame = went next (put_reading no_reading on) frame
begun names (AddReading kind) here next on frame =
    went next (join_target (record { kind = kind_asked kind; place = place_on on }) (drop_place on)) frame
begun names (ReadNext store end) here next on frame = reads (reading_on on).targets next on frame
begun names StoreRead here next on frame = stores_item (first (reading_on on).targets) (value_on on) next (one_read (drop_value on)) frame
begun names NumberRead here next on frame = puts (int_result (pos (reading_on on).count)) next (drop_reading on) frame
begun names EndRead here next on frame = puts (end_found (reading_on on).count) next (drop_reading on) frame
begun names (Jump to) here next on frame = went (min to next) on frame
begun names (FixedShape shape) here next on frame = went next (put_shape shape on) frame
begun names StringShape here next on frame =
    settled (string_of_length (number_on on)) (λ shape. went next (put_shape shape (drop_number on)) frame)
begun names OneDimension here next on frame =
    went next (put_shape (an_array (one_dim (number_on (drop_number on)) (number_on on)) (shape_on on)) (drop_shape (drop_number (drop_number on)))) frame
begun names TwoDimensions here next on frame =
    went next (put_shape (an_array (two_dims (number_on (drop_number (drop_number (drop_number on)))) (number_on (drop_number (drop_number on)))
    (number_on (drop_number on)) (number_on on)) (shape_on on)) (drop_shape (drop_number (drop_number (drop_number (drop_number on)))))) frame
begun names (Make scope var) here next on frame = makes (variable_in scope var here) (shape_on on) next (drop_shape on) frame
begun names (MakeLike scope var shape) here next on frame = makes (variable_in scope var here) (bounded_by shape (value_on on)) next on frame
begun names (StoreIn scope var) here next on frame = stores (variable_in scope var here) [] (value_on on) next (drop_value on) frame
begun names Arguments here next on frame = went next (put_list here.start.args on) frame
begun names (MakeFormal scope var mode shape) here next on frame =
    settled (formal_shape shape (sent_to mode (list_on on))) (λ found. makes (variable_in scope var here) found next on frame)
begun names (StoreFormal scope var mode) here next on frame =
    stores_some (sent_to mode (list_on on)) (variable_in scope var here) next (put_list (sent_after mode (list_on on)) (drop_list on)) frame
begun names DropList here next on frame = went next (drop_list on) frame
begun names DropValue here next on frame = went next (drop_value on) frame
begun names Send here next on frame = waits (invoke_request (call_on on).target (call_on on).values false) (drop_call on) frame
begun names Forward here next on frame = forwards frame.service.answered (call_on on) (drop_call on) frame
begun names Store here next on frame =
    stores (place_on on).spot (place_on on).path (value_on on) next (drop_place (drop_value on)) frame
begun names LoadAgain here next on frame = loads (place_on on).spot (place_on on).path (λ v. put_value v on) next on frame
begun names LoadSecond here next on frame = loads (second_place on).spot (second_place on).path (λ v. put_value v on) next on frame
begun names StoreSecond here next on frame =
    stores (second_place on).spot (second_place on).path (value_on on) next (put_place (place_on on) (drop_place (drop_place (drop_value on)))) frame
begun names (Write line) here next on frame =
    settled (texts_of names (list_on on)) (λ texts. waits (write_request (written line texts)) (drop_list on) frame)
begun names (Number n) here next on frame = went next (put_number n on) frame
begun names Stop here next on frame = waits (stop_request (number_on on)) on frame
begun names Destroy here next on frame = waits (destroy_request (cap_on on)) (drop_cap on) frame
begun names TakeDone here next on frame = waits (take_request (name_on on ∷ [])) on frame
begun names ToWait here next on frame = settled (time_to_wait (number_on on)) (λ wait. went next (put_number wait (drop_number on)) frame)
begun names Age here next on frame = waits age_request on frame
begun names Wake here next on frame =
    settled (until_moment (number_on on +ℤ number_on (drop_number on))) (λ until. waits (wake_request until) (drop_number (drop_number on)) frame)
begun names Reply here next on frame = replies frame.service.answered here next on frame
begun names Tick here next on frame = ticking frame.ticks (λ f. went next on f) frame
begun names (JumpUnless to) here next on frame =
    settled (truth_of (value_on on)) (λ truth. went_to (unless truth to next (drop_value on)) frame)
begun names (Again to) here next on frame = ticking frame.ticks (λ f. went to on f) frame
begun names (Quantify direction) here next on frame =
    settled (values_of direction (number_on (drop_number (drop_number on))) (number_on (drop_number on)) (number_on on)) (λ values.
    went next (put_numbers values (drop_number (drop_number (drop_number on)))) frame)
begun names (Each var head) here next on frame = each_begun (numbers_on on) var head next (drop_numbers on) frame
begun names DropNumbers here next on frame = went next (drop_numbers on) frame
begun names ToCount here next on frame = settled (count_of (number_on on)) (λ count. went next (put_count count (drop_number on)) frame)
begun names (Repeat head) here next on frame = repeat_begun (count_on on) head next (drop_count on) frame
begun names (AddNamed named) here next on frame = settled (named_found named here frame.own) (λ v. went next (join_value v on) frame)
begun names (Select site count has_else arms otherwise end) here next on frame = waits (select_request site (list_on on)) (drop_list on) frame
begun names (OpenService gives) here next on frame =
    went next (put_service frame.service (put_list (pick_on on).args (drop_pick on))) (record frame { service = service_of (pick_on on) gives })
begun names EndService here next on frame = went next (drop_service on) (record frame { service = service_on on })
begun names OpenCo here next on frame = went next (put_outs frame.out on) (record frame { out = [] })
begun names (StartCall arm vars has_place) here next on frame =
    waits (invoke_request (call_on on).target (call_on on).values true) (put_targets (call_on on).places (drop_call on)) frame
begun names CountOuts here next on frame = went next (put_count (length frame.out) on) frame
begun names (TakeReply arms) here next on frame = takes_reply (count_on on) next on frame
begun names (SetTurn vars) here next on frame = went next on (with_own (vars_set vars (completed_on on).out.turn frame.own) frame)
begun names (GiveBack none) here next on frame =
    went_to (given_back (completed_on on).results (completed_on on).out.backs none next on) frame
begun names StoreValue here next on frame =
    stores_if (completed_on on).out.place (value_on on) next (drop_value (drop_completed on)) frame
begun names CloseCo here next on frame = went next (drop_count (drop_outs on)) (record frame { out = outs_on on })

-- ---- answers

-- where a process goes on after an answer, and what it holds
pub record Moved : Type 0 where
  pub address : ℕ
  pub frame : Frame

abbrev pub moved : ℕ → Operands → Frame → Moved
moved address on frame = record { address = address; frame = holding on frame }

abbrev pub moved_to : Point → Frame → Moved
moved_to at frame = moved at.address at.operands frame

-- an answer of another form leads nowhere
abbrev pub led : {A : Type 0} → Option A → (A → Moved) → Option Moved
led None next = None
led (Some a) next = Some (next a)

-- one invocation more is out
abbrev pub with_out : Out → Frame → Frame
with_out out frame = record frame { out = frame.out ++ out ∷ [] }

-- an invocation of a `co` was made
abbrev pub started : ℕ → ℕ → List ℕ → Bool → ℕ → Operands → Frame → Moved
started id arm vars has_place next on frame =
    moved next (drop_place_if has_place (drop_targets on)) (with_out (record {
      id = id;
      arm = arm;
      place = place_if has_place on;
      backs = targets_on on;
      turn = map (λ var. number_held frame.own var) vars;
    }) frame)

-- a reply of a `co` goes to its arm; where there is none, the next reply is taken
abbrev pub completing : Option ℕ → Completion → ℕ → Operands → Frame → Moved
completing None completion next on frame = moved (suc next) on frame
completing (Some arm) completion next on frame =
    moved arm (put_completed (record { out = completion.out; results = completion.results }) on) (record frame { out = without_out frame.out completion.out.id })

-- What an answer leads to in a process that holds this and waits at an instruction. An answer that the request
-- doesn't take leads nowhere.
abbrev pub resumed : Instruction → ℕ → Operands → Frame → Answer → Option Moved
resumed (Count op) next on frame answer = led (number answer) (λ n. moved next (put_value (Int n) on) frame)
resumed MakeMachine next on frame answer = led (made answer) (λ name. moved next (put_value (Capa (Vm name)) on) frame)
resumed Moment next on frame answer = led (moment answer) (λ now. moved next (put_value (Int now) on) frame)
resumed Load next on frame answer = led (got answer) (λ v. moved next (put_value v on) frame)
resumed PassVar next on frame answer = led (got answer) (λ v. moved next (join_place (place_on on) (join_argument v (drop_place on))) frame)
resumed Invoke next on frame answer = led (made answer) (λ name. moved next (put_name name on) frame)
resumed (Take none) next on frame answer =
    led (took (name_on on ∷ []) answer) (λ reply. moved_to (after_reply reply.results none next (drop_name on)) frame)
resumed (StoreResults to) next on frame answer = led (done answer) (λ _. moved (suc next) on frame)
resumed (EnsureGlobal global) next on frame answer = led (ready answer) (λ _. moved next on frame)
resumed (Create resource) next on frame answer = led (made answer) (λ name. moved next (put_name name on) frame)
resumed TakeInstance next on frame answer =
    led (took (name_on on ∷ []) answer) (λ reply. moved next (put_value (instance_in reply.results) (drop_name on)) frame)
resumed (ReadNext store end) next on frame answer = led (read_item answer) (λ item. moved_to (after_item item store end next on) frame)
resumed StoreRead next on frame answer = led (done answer) (λ _. moved next on frame)
resumed (Make scope var) next on frame answer = led (done answer) (λ _. moved next on frame)
resumed (MakeLike scope var shape) next on frame answer = led (done answer) (λ _. moved next on frame)
resumed (StoreIn scope var) next on frame answer = led (done answer) (λ _. moved next on frame)
resumed (MakeFormal scope var mode shape) next on frame answer = led (done answer) (λ _. moved next on frame)
resumed (StoreFormal scope var mode) next on frame answer = led (done answer) (λ _. moved next on frame)
resumed Send next on frame answer = led (made answer) (λ _. moved next on frame)
resumed Forward next on frame answer = led (made answer) (λ _. moved next on (marked frame))
resumed Store next on frame answer = led (done answer) (λ _. moved next on frame)
resumed LoadAgain next on frame answer = led (got answer) (λ v. moved next (put_value v on) frame)
resumed LoadSecond next on frame answer = led (got answer) (λ v. moved next (put_value v on) frame)
resumed StoreSecond next on frame answer = led (done answer) (λ _. moved next on frame)
resumed (Write line) next on frame answer = led (done answer) (λ _. moved next on frame)
resumed Destroy next on frame answer = led (made answer) (λ name. moved next (put_name name on) frame)
resumed TakeDone next on frame answer = led (took (name_on on ∷ []) answer) (λ _. moved next (drop_name on) frame)
resumed Age next on frame answer = led (moment answer) (λ now. moved next (put_number now on) frame)
resumed Wake next on frame answer = led (done answer) (λ _. moved next on frame)
resumed Reply next on frame answer = led (done answer) (λ _. moved next on (marked frame))
resumed (Select site count has_else arms otherwise end) next on frame answer =
    led (selected count has_else answer) (λ selection. moved_to (after_choice selection arms otherwise end on) frame)
resumed (StartCall arm vars has_place) next on frame answer = led (made answer) (λ id. started id arm vars has_place next on frame)
resumed (TakeReply arms) next on frame answer =
    led (took_one frame.out answer) (λ completion. completing (slice_get arms completion.out.arm) completion next on frame)
resumed StoreValue next on frame answer = led (done answer) (λ _. moved next on frame)
resumed _ next on frame answer = None

-- ---- what the code shows

-- what an instruction did
abbrev pub shown : Step → Frame → Began
shown (Goes to) frame = Went to frame
shown (Asks request) frame = Waits request frame
shown (Faults fault) frame = Fails fault
shown OverTicks frame = NoTicks

-- it did what was meant, unless memory ran out
abbrev pub Does : Result Step NoMemory → Frame → Began → Type 0
Does (Ok step) frame meant = meant ≡ shown step frame
Does (Err out) frame meant = Unit {0}

-- the answer led to what was meant, or nowhere; or memory ran out
abbrev pub Leads : Result (Option ℕ) NoMemory → Frame → Frame → Option Moved → Type 0
Leads (Ok None) old new meant = (meant ≡ None) × (new ≡ old)
Leads (Ok (Some to)) old new meant = meant ≡ Some (record { address = to; frame = new })
Leads (Err out) old new meant = Unit {0}
