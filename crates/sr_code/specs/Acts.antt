-- What each instruction does: what it asks, and to which address and operands it leads.
use Rattle.std.specs.Prelude.{ℕ, zero, suc, ℤ, pos, negsuc, ◌+ℤ◌, min, Bool, true, false, List, [], ◌∷◌, length, map, Option, Some, None, Result, Ok, Err, slice_get}
use Rattle.sr_value.specs.declared.capability.Cap.TheVariants.{Op, Res as a_resource, Vm}
use Rattle.sr_value.specs.declared.fault.Fault.{Fault}
use Rattle.sr_value.specs.declared.fault.Fault.TheVariants.{Range}
use Rattle.sr_value.specs.declared.shape.Dims.TheVariants.{One as one_dim, Two as two_dims}
use Rattle.sr_value.specs.declared.shape.Sel.TheVariants.{At as at_one, At2 as at_two, Field as at_field}
use Rattle.sr_value.specs.declared.shape.Shape.TheVariants.{Int as int_shape, Arr as an_array}
use Rattle.sr_value.specs.declared.value.Value.{Value}
use Rattle.sr_value.specs.declared.value.Value.TheVariants.{Int, Bool as truth_value, Capa}
use Rattle.sr_value.specs.Operators.{value_of, value_of_one}
use Rattle.sr_value.specs.Parts.{part_of, with_ok}
use Rattle.sr_ask.specs.Asking.{none_takes, done, made, number, moment, ready, read_item, selected, until_moment}
use Rattle.sr_ask.specs.Behaviors.{Doing, Came, give, ◌>>=◌, tick}
use Rattle.sr_ask.specs.Here.{Here, request, settle}
use Rattle.sr_ask.specs.Invocations.{value_after, default_given, taken, instance_in, number_read, at_end}
use Rattle.sr_ask.specs.Places.{nothing, own_at, declare_own, load_place, number_held, own_store, store_place, string_of_length, make, whole}
use Rattle.sr_ask.specs.Replies.{Completion, set_service, push_out, set_out, reply_meaning, forward_meaning, take_one, without_out}
use Rattle.sr_ask.specs.declared.environment.Gives.TheVariants.{Values}
use Rattle.sr_ask.specs.declared.environment.Located.{Located}
use Rattle.sr_ask.specs.declared.environment.Own.{Own}
use Rattle.sr_ask.specs.declared.environment.ReadTarget.{ReadTarget}
use Rattle.sr_ask.specs.declared.environment.Service.{Service}
use Rattle.sr_ask.specs.declared.environment.Spot.{Spot}
use Rattle.sr_ask.specs.declared.environment.Spot.TheVariants.{Own as an_own, Shared as a_shared}
use Rattle.sr_ask.specs.declared.forms.InputItem.{InputItem}
use Rattle.sr_ask.specs.declared.forms.InputItem.TheVariants.{Value as read_value, NotOfKind, NoMore}
use Rattle.sr_ask.specs.declared.forms.Pick.{Pick}
use Rattle.sr_ask.specs.declared.forms.Selection.{Selection}
use Rattle.sr_ask.specs.declared.forms.Selection.TheVariants.{Service as a_service, Otherwise}
use Rattle.sr_ask.specs.declared.request.Request.TheVariants.{Select as select_request, Write as write_request, Stop as stop_request, Destroy as destroy_request, Wake as wake_request, Store as store_request, Invoke as invoke_request, Count as count_request, Read as read_request, EnsureGlobal as ensure_request, Create as create_request, MakeVm, Age as age_request}
use Rattle.sr_core.specs.Applied.{applied}
use Rattle.sr_core.specs.Formals.{sent_to, sent_after}
use Rattle.sr_core.specs.Values.{truth_of, number_of, cap_of, member_of, count_of, array_of, values_of, texts_of, written, bounded_by, formal_shape}
use Rattle.sr_core.specs.declared.component.Core.{Core}
use Rattle.sr_core.specs.declared.site.Named.{Named}
use Rattle.sr_core.specs.declared.site.Named.TheVariants.{Own as named_own, Home as named_home, Machine as named_machine}
use Rattle.sr_code.specs.Operands.{value_on, drop_value, put_value, number_on, drop_number, put_number, cap_on, drop_cap, put_cap, name_on, drop_name, put_name, place_on, drop_place, put_place, join_sel, shape_on, drop_shape, put_shape, list_on, drop_list, put_list, join_value, pieces_on, drop_pieces, put_pieces, join_piece, call_of, call_on, drop_call, put_call, join_argument, join_place, targets_on, drop_targets, put_targets, no_reading, reading_on, drop_reading, put_reading, join_target, one_read, numbers_on, drop_numbers, put_numbers, count_on, drop_count, put_count, pick_on, drop_pick, put_pick, service_on, drop_service, put_service, outs_on, drop_outs, put_outs, completed_on, drop_completed, put_completed}
use Rattle.sr_code.specs.Owners.{home_at, owner_in, root_in, variable_in, kind_asked}
use Rattle.sr_code.specs.declared.instruction.Instruction.{Instruction}
use Rattle.sr_code.specs.declared.instruction.Instruction.TheVariants.{Constant, Operation, MyResource, MyMachine, Count, MakeMachine, Moment, ToNumber, ToCap, OperateOne, Operate, AndSkip, OrSkip, NoValues, Collect, Apply, NoPieces, AddPiece, AddRepeated, MakeArray, PartAt, PartAt2, PartField, Member, Spot as spot_instruction, At, At2, Field, Load, ToCall, PassValue, PassVar, PassRes, Invoke, Take, StoreResults, Default, EnsureGlobal, Create, TakeInstance, NoReadings, AddReading, ReadNext, StoreRead, NumberRead, EndRead, Jump, FixedShape, StringShape, OneDimension, TwoDimensions, Make, MakeLike, StoreIn, Arguments, MakeFormal, StoreFormal, DropList, DropValue, Send, Forward, Store, LoadAgain, LoadSecond, StoreSecond, Write, Number, Stop, Destroy, TakeDone, ToWait, Age, Wake, Reply, Tick, JumpUnless, Again, Quantify, Each, DropNumbers, ToCount, Repeat, AddNamed, Select, OpenService, EndService, OpenCo, StartCall, CountOuts, TakeReply, SetTurn, GiveBack, StoreValue, CloseCo}
use Rattle.sr_code.specs.declared.operands.Operands.{Operands}

-- Where a process stands: the address of its next instruction, and its operands.
pub record Point : Type 0 where
  pub address : ℕ
  pub operands : Operands

abbrev pub point : ℕ → Operands → Point
point address on = record { address = address; operands = on }

-- work that leads to an address, with operands
abbrev pub goes : ℕ → Operands → Doing Point
goes address on = give (point address on)

-- ---- what some instructions lead to

-- after `and`'s left side: true stays, and the right side comes; false is the value
abbrev pub and_skip : Bool → ℕ → ℕ → Operands → Point
and_skip true to next on = point next on
and_skip false to next on = point (min to next) (put_value (truth_value false) (drop_value on))

-- after `or`'s left side
abbrev pub or_skip : Bool → ℕ → ℕ → Operands → Point
or_skip true to next on = point (min to next) (put_value (truth_value true) (drop_value on))
or_skip false to next on = point next on

-- after a reply: its results are a list; where it has none, the places for results go
abbrev pub after_reply : Option (List Value) → ℕ → ℕ → Operands → Point
after_reply None none next on = point none (drop_targets on)
after_reply (Some results) none next on = point next (put_list results on)

-- A result goes to its place. A store that asks is the last of its instruction.
abbrev pub store_one : Spot → Located → Value → Here → Point → Doing Point → Doing Point
store_one (an_own var) place value here again later = own_store var place.path value here >>= λ _. later
store_one (a_shared block var) place value here again later = request done (store_request block var place.path value) here >>= λ _. give again

-- The results go to their places in the order of the formals, and what is left is the value.
abbrev pub store_some : List Located → List Value → ℕ → Here → ℕ → Operands → Doing Point
store_some [] values to here next on = goes (min to next) (put_value (value_after values) on)
store_some (place ∷ places) [] to here next on = goes (min to next) (put_value nothing on)
store_some (place ∷ places) (value ∷ values) to here next on =
    store_one place.spot place value here (point (suc next) (put_targets places (put_list values on))) (store_some places values to here next on)

-- after an item of a `read`
abbrev pub after_item : InputItem → ℕ → ℕ → ℕ → Operands → Point
after_item (read_value value) store end next on = point store (put_value value on)
after_item NotOfKind store end next on = point next on
after_item NoMore store end next on = point end on

-- an item is asked for where a place is left
abbrev pub ask_item : List ReadTarget → ℕ → ℕ → Here → ℕ → Operands → Doing Point
ask_item [] store end here next on = goes next on
ask_item (target ∷ targets) store end here next on =
    request read_item (read_request target.kind) here >>= λ item. give (after_item item store end next on)

-- an item goes to the next place that is read into
abbrev pub store_item : List ReadTarget → Value → Here → Doing (Unit {0})
store_item [] value here = give tt
store_item (target ∷ targets) value here = store_place target.place value here

-- an argument goes to its formal
abbrev pub store_argument : Option Value → Spot → Here → Doing (Unit {0})
store_argument None spot here = give tt
store_argument (Some value) spot here = store_place (whole spot) value here

-- after a condition
abbrev pub unless : Bool → ℕ → ℕ → Operands → Point
unless true to next on = point next on
unless false to next on = point (min to next) on

-- a time below 0 is E6
abbrev pub time_to_wait : ℤ → Result ℤ Fault
time_to_wait (pos n) = Ok (pos n)
time_to_wait (negsuc n) = Err Range

abbrev pub number_own : ℤ → Own
number_own n = record { shape = int_shape; value = Int n }

-- The next value of a quantifier takes a tick, and the variable gets it.
abbrev pub each_of : List ℤ → ℕ → ℕ → ℕ → Operands → Doing Point
each_of [] var head next on = goes next on
each_of (n ∷ rest) var head next on = tick >>= λ _. declare_own var (number_own n) >>= λ _. goes head (put_numbers rest on)

-- each turn takes a tick
abbrev pub repeat_of : ℕ → ℕ → ℕ → Operands → Doing Point
repeat_of zero head next on = goes next on
repeat_of (suc count) head next on = tick >>= λ _. goes head (put_count count on)

-- what goes with a `Select` of what the guards name
abbrev pub named_held : Named → Here → Doing Value
named_held (named_own var) here stage = settle (with_ok (own_at stage.own var) (λ own. Ok own.value)) here stage
named_held (named_home at) here stage = Came (Capa (a_resource (home_at at here))) stage
named_held named_machine here stage = Came (Capa (Vm here.start.vm)) stage

-- after a choice: the block of the arm, with the invocation
abbrev pub after_pick : Option ℕ → Pick → ℕ → Operands → Point
after_pick None pick end on = point end on
after_pick (Some arm) pick end on = point arm (put_pick pick on)

abbrev pub after_choice : Selection → List ℕ → ℕ → ℕ → Operands → Point
after_choice (a_service pick) arms otherwise end on = after_pick (slice_get arms pick.arm) pick end on
after_choice Otherwise arms otherwise end on = point otherwise on

abbrev pub service_of : Pick → List ℕ → Service
service_of pick vars = record { held = pick.id; back = pick.back; answered = false; gives = Values vars }

-- the service around waits, and the arguments become a list
abbrev pub opening : Pick → List ℕ → ℕ → Operands → Doing Point
opening pick vars next on stage = Came (point next (put_service stage.service (put_list pick.args on))) (record stage { service = service_of pick vars })

-- what is out of the `co` around waits
abbrev pub co_opening : ℕ → Operands → Doing Point
co_opening next on stage = Came (point next (put_outs stage.out on)) (record stage { out = [] })

abbrev pub counting : ℕ → Operands → Doing Point
counting next on stage = Came (point next (put_count (length stage.out) on)) stage

-- the present values of the quantifiers' variables
abbrev pub turn_held : List ℕ → Doing (List ℤ)
turn_held vars stage = Came (map (λ var. number_held stage.own var) vars) stage

abbrev pub place_if : Bool → Operands → Option Located
place_if true on = Some (place_on on)
place_if false on = None

abbrev pub drop_place_if : Bool → Operands → Operands
drop_place_if true on = drop_place on
drop_place_if false on = on

-- the invocation that a reply answers is out no more
abbrev pub no_longer_out : ℕ → Doing (Unit {0})
no_longer_out id stage = Came tt (record stage { out = without_out stage.out id })

-- after a reply of a `co`: its arm; where there is none, the next reply
abbrev pub after_completion : Option ℕ → Completion → ℕ → Operands → Doing Point
after_completion None completion again on = goes again on
after_completion (Some arm) completion again on =
    no_longer_out completion.out.id >>= λ _. goes arm (put_completed (record { out = completion.out; results = completion.results }) on)

-- A reply is taken where the count isn't 0.
abbrev pub reply_of : ℕ → List ℕ → Here → ℕ → Operands → Doing Point
reply_of zero arms here next on = goes next on
reply_of (suc count) arms here next on =
    take_one here >>= λ completion. after_completion (slice_get arms completion.out.arm) completion (suc next) (put_count count (drop_count on))

-- the quantifiers' variables get these values
abbrev pub set_vars : List ℕ → List ℤ → Doing (Unit {0})
set_vars (var ∷ vars) (n ∷ turn) = declare_own var (number_own n) >>= λ _. set_vars vars turn
set_vars vars turn = give tt

-- the results of a reply of a `co`
abbrev pub given_back : Option (List Value) → List Located → ℕ → ℕ → Operands → Point
given_back None places none next on = point (min none next) on
given_back (Some results) places none next on = point next (put_list results (put_targets places on))

abbrev pub store_if : Option Located → Value → Here → Doing (Unit {0})
store_if None value here = give tt
store_if (Some place) value here = store_place place value here

-- the second place
abbrev pub second_place : Operands → Located
second_place on = place_on (drop_place on)

-- ---- instructions

-- What an instruction does in a process that stands at it with these operands. `next` is the address of the
-- instruction after it.
abbrev pub act : Core → Instruction → Here → ℕ → Operands → Doing Point
act core (Constant value) here next on = goes next (put_value value on)
act core (Operation whose op) here next on = goes next (put_value (Capa (Op (owner_in whose here) op)) on)
act core MyResource here next on = goes next (put_value (Capa (a_resource here.start.instance)) on)
act core MyMachine here next on = goes next (put_value (Capa (Vm here.start.vm)) on)
act core (Count op) here next on = request number (count_request op) here >>= λ n. goes next (put_value (Int n) on)
act core MakeMachine here next on = request made MakeVm here >>= λ name. goes next (put_value (Capa (Vm name)) on)
act core Moment here next on = request moment age_request here >>= λ now. goes next (put_value (Int now) on)
act core ToNumber here next on = settle (number_of (value_on on)) here >>= λ n. goes next (put_number n (drop_value on))
act core ToCap here next on = settle (cap_of (value_on on)) here >>= λ cap. goes next (put_cap cap (drop_value on))
act core (OperateOne op) here next on = settle (value_of_one op (value_on on)) here >>= λ v. goes next (put_value v (drop_value on))
act core (Operate op) here next on =
    settle (value_of op (value_on (drop_value on)) (value_on on)) here >>= λ v. goes next (put_value v (drop_value (drop_value on)))
act core (AndSkip to) here next on = settle (truth_of (value_on on)) here >>= λ truth. give (and_skip truth to next on)
act core (OrSkip to) here next on = settle (truth_of (value_on on)) here >>= λ truth. give (or_skip truth to next on)
act core NoValues here next on = goes next (put_list [] on)
act core Collect here next on = goes next (join_value (value_on on) (drop_value on))
act core (Apply function) here next on =
    settle (applied core.names function (list_on on)) here >>= λ v. goes next (put_value v (drop_list on))
act core NoPieces here next on = goes next (put_pieces [] on)
act core AddPiece here next on = goes next (join_piece (record { count = 1; value = value_on on }) (drop_value on))
act core AddRepeated here next on =
    settle (count_of (number_on on)) here >>= λ times.
    goes next (join_piece (record { count = times; value = value_on on }) (drop_number (drop_value on)))
act core MakeArray here next on = settle (array_of (pieces_on on)) here >>= λ v. goes next (put_value v (drop_pieces on))
act core PartAt here next on =
    settle (part_of (value_on on) (at_one (number_on on))) here >>= λ v. goes next (put_value v (drop_number (drop_value on)))
act core PartAt2 here next on =
    settle (part_of (value_on on) (at_two (number_on (drop_number on)) (number_on on))) here >>= λ v.
    goes next (put_value v (drop_number (drop_number (drop_value on))))
act core (PartField field) here next on = settle (part_of (value_on on) (at_field field)) here >>= λ v. goes next (put_value v (drop_value on))
act core (Member op) here next on = settle (member_of op (cap_on on)) here >>= λ v. goes next (put_value v (drop_cap on))
act core (spot_instruction root) here next on = goes next (put_place (whole (root_in root here)) on)
act core At here next on = goes next (join_sel (at_one (number_on on)) (drop_number on))
act core At2 here next on = goes next (join_sel (at_two (number_on (drop_number on)) (number_on on)) (drop_number (drop_number on)))
act core (Field field) here next on = goes next (join_sel (at_field field) on)
act core Load here next on = load_place (place_on on) here >>= λ v. goes next (put_value v (drop_place on))
act core ToCall here next on = settle (cap_of (value_on on)) here >>= λ cap. goes next (put_call (call_of cap) (drop_value on))
act core PassValue here next on = goes next (join_argument (value_on on) (drop_value on))
act core PassVar here next on =
    load_place (place_on on) here >>= λ v. goes next (join_place (place_on on) (join_argument v (drop_place on)))
act core PassRes here next on = goes next (join_place (place_on on) (drop_place on))
act core Invoke here next on =
    request made (invoke_request (call_on on).target (call_on on).values true) here >>= λ name.
    goes next (put_name name (put_targets (call_on on).places (drop_call on)))
act core (Take none) here next on = taken (name_on on) here >>= λ reply. give (after_reply reply none next (drop_name on))
act core (StoreResults to) here next on = store_some (targets_on on) (list_on on) to here next (drop_list (drop_targets on))
act core (Default returns) here next on = default_given returns here >>= λ v. goes next (put_value v on)
act core (EnsureGlobal global) here next on = request ready (ensure_request global (cap_on on)) here >>= λ _. goes next on
act core (Create resource) here next on =
    request made (create_request resource (list_on on) (cap_on on)) here >>= λ name. goes next (put_name name (drop_list (drop_cap on)))
act core TakeInstance here next on = taken (name_on on) here >>= λ reply. goes next (put_value (instance_in reply) (drop_name on))
act core NoReadings here next on = goes next (put_reading no_reading on)
act core (AddReading kind) here next on = goes next (join_target (record { kind = kind_asked kind; place = place_on on }) (drop_place on))
act core (ReadNext store end) here next on = ask_item (reading_on on).targets store end here next on
act core StoreRead here next on = store_item (reading_on on).targets (value_on on) here >>= λ _. goes next (one_read (drop_value on))
act core NumberRead here next on = number_read (reading_on on).count here >>= λ v. goes next (put_value v (drop_reading on))
act core EndRead here next on = at_end (reading_on on).count here >>= λ v. goes next (put_value v (drop_reading on))
act core (Jump to) here next on = goes (min to next) on
act core (FixedShape shape) here next on = goes next (put_shape shape on)
act core StringShape here next on = settle (string_of_length (number_on on)) here >>= λ shape. goes next (put_shape shape (drop_number on))
act core OneDimension here next on =
    goes next (put_shape (an_array (one_dim (number_on (drop_number on)) (number_on on)) (shape_on on)) (drop_shape (drop_number (drop_number on))))
act core TwoDimensions here next on =
    goes next (put_shape (an_array (two_dims (number_on (drop_number (drop_number (drop_number on)))) (number_on (drop_number (drop_number on)))
    (number_on (drop_number on)) (number_on on)) (shape_on on)) (drop_shape (drop_number (drop_number (drop_number (drop_number on))))))
act core (Make scope var) here next on = make (variable_in scope var here) (shape_on on) here >>= λ _. goes next (drop_shape on)
act core (MakeLike scope var shape) here next on = make (variable_in scope var here) (bounded_by shape (value_on on)) here >>= λ _. goes next on
act core (StoreIn scope var) here next on =
    store_place (whole (variable_in scope var here)) (value_on on) here >>= λ _. goes next (drop_value on)
act core Arguments here next on = goes next (put_list here.start.args on)
act core (MakeFormal scope var mode shape) here next on =
    settle (formal_shape shape (sent_to mode (list_on on))) here >>= λ found.
    make (variable_in scope var here) found here >>= λ _. goes next on
act core (StoreFormal scope var mode) here next on =
    store_argument (sent_to mode (list_on on)) (variable_in scope var here) here >>= λ _.
    goes next (put_list (sent_after mode (list_on on)) (drop_list on))
act core DropList here next on = goes next (drop_list on)
act core DropValue here next on = goes next (drop_value on)
act core Send here next on =
    request made (invoke_request (call_on on).target (call_on on).values false) here >>= λ _. goes next (drop_call on)
act core Forward here next on = forward_meaning (call_on on).target (call_on on).values here >>= λ _. goes next (drop_call on)
act core Store here next on = store_place (place_on on) (value_on on) here >>= λ _. goes next (drop_place (drop_value on))
act core LoadAgain here next on = load_place (place_on on) here >>= λ v. goes next (put_value v on)
act core LoadSecond here next on = load_place (second_place on) here >>= λ v. goes next (put_value v on)
act core StoreSecond here next on =
    store_place (second_place on) (value_on on) here >>= λ _. goes next (put_place (place_on on) (drop_place (drop_place (drop_value on))))
act core (Write line) here next on =
    settle (texts_of core.names (list_on on)) here >>= λ texts.
    request done (write_request (written line texts)) here >>= λ _. goes next (drop_list on)
act core (Number n) here next on = goes next (put_number n on)
act core Stop here next on = request none_takes (stop_request (number_on on)) here
act core Destroy here next on = request made (destroy_request (cap_on on)) here >>= λ name. goes next (put_name name (drop_cap on))
act core TakeDone here next on = taken (name_on on) here >>= λ _. goes next (drop_name on)
act core ToWait here next on = settle (time_to_wait (number_on on)) here >>= λ wait. goes next (put_number wait (drop_number on))
act core Age here next on = request moment age_request here >>= λ now. goes next (put_number now on)
act core Wake here next on =
    settle (until_moment (number_on on +ℤ number_on (drop_number on))) here >>= λ until.
    request done (wake_request until) here >>= λ _. goes next (drop_number (drop_number on))
act core Reply here next on = reply_meaning here >>= λ _. goes next on
act core Tick here next on = tick >>= λ _. goes next on
act core (JumpUnless to) here next on = settle (truth_of (value_on on)) here >>= λ truth. give (unless truth to next (drop_value on))
act core (Again to) here next on = tick >>= λ _. goes to on
act core (Quantify direction) here next on =
    settle (values_of direction (number_on (drop_number (drop_number on))) (number_on (drop_number on)) (number_on on)) here >>= λ values.
    goes next (put_numbers values (drop_number (drop_number (drop_number on))))
act core (Each var head) here next on = each_of (numbers_on on) var head next (drop_numbers on)
act core DropNumbers here next on = goes next (drop_numbers on)
act core ToCount here next on = settle (count_of (number_on on)) here >>= λ count. goes next (put_count count (drop_number on))
act core (Repeat head) here next on = repeat_of (count_on on) head next (drop_count on)
act core (AddNamed named) here next on = named_held named here >>= λ v. goes next (join_value v on)
act core (Select site count has_else arms otherwise end) here next on =
    request (selected count has_else) (select_request site (list_on on)) here >>= λ selection.
    give (after_choice selection arms otherwise end (drop_list on))
act core (OpenService gives) here next on = opening (pick_on on) gives next (drop_pick on)
act core EndService here next on = set_service (service_on on) >>= λ _. goes next (drop_service on)
act core OpenCo here next on = co_opening next on
act core (StartCall arm vars has_place) here next on =
    request made (invoke_request (call_on on).target (call_on on).values true) here >>= λ id.
    turn_held vars >>= λ turn.
    push_out (record { id = id; arm = arm; place = place_if has_place on; backs = (call_on on).places; turn = turn }) >>= λ _.
    goes next (drop_place_if has_place (drop_call on))
act core CountOuts here next on = counting next on
act core (TakeReply arms) here next on = reply_of (count_on on) arms here next on
act core (SetTurn vars) here next on = set_vars vars (completed_on on).out.turn >>= λ _. goes next on
act core (GiveBack none) here next on = give (given_back (completed_on on).results (completed_on on).out.backs none next on)
act core StoreValue here next on = store_if (completed_on on).out.place (value_on on) here >>= λ _. goes next (drop_value (drop_completed on))
act core CloseCo here next on = set_out (outs_on on) >>= λ _. goes next (drop_count (drop_outs on))
