-- The operands of each kind: the last put, the others, and one more. A missing operand reads as a default.
use Rattle.std.specs.Prelude.{ℕ, suc, ℤ, pos, true, List, [], ◌∷◌, ◌++◌, None}
use Rattle.sr_value.specs.declared.capability.Cap.{Cap}
use Rattle.sr_value.specs.declared.capability.Cap.TheVariants.{Null}
use Rattle.sr_value.specs.declared.shape.Sel.{Sel}
use Rattle.sr_value.specs.declared.shape.Shape.{Shape}
use Rattle.sr_value.specs.declared.shape.Shape.TheVariants.{Int as an_int}
use Rattle.sr_value.specs.declared.value.Value.{Value}
use Rattle.sr_ask.specs.Places.{nothing, whole}
use Rattle.sr_ask.specs.declared.environment.Gives.TheVariants.{Values}
use Rattle.sr_ask.specs.declared.environment.Located.{Located}
use Rattle.sr_ask.specs.declared.environment.Out.{Out}
use Rattle.sr_ask.specs.declared.environment.ReadTarget.{ReadTarget}
use Rattle.sr_ask.specs.declared.environment.Service.{Service}
use Rattle.sr_ask.specs.declared.environment.Spot.TheVariants.{Own as an_own}
use Rattle.sr_ask.specs.declared.forms.Pick.{Pick}
use Rattle.sr_core.specs.Formals.{after_first}
use Rattle.sr_core.specs.declared.piece.Piece.{Piece}
use Rattle.sr_code.specs.Stacks.{below, first_or}
use Rattle.sr_code.specs.declared.operands.Call.{Call}
use Rattle.sr_code.specs.declared.operands.Completed.{Completed}
use Rattle.sr_code.specs.declared.operands.Operands.{Operands}
use Rattle.sr_code.specs.declared.operands.Reading.{Reading}

-- what a process begins with
abbrev pub no_operands : Operands
no_operands = record {
  values = [];
  numbers = [];
  caps = [];
  names = [];
  places = [];
  shapes = [];
  lists = [];
  pieces = [];
  calls = [];
  targets = [];
  readings = [];
  loops = [];
  counts = [];
  picks = [];
  services = [];
  outs = [];
  completed = [];
}

-- ---- values

abbrev pub value_on : Operands → Value
value_on on = first_or nothing on.values

abbrev pub drop_value : Operands → Operands
drop_value on = record on { values = below on.values }

abbrev pub put_value : Value → Operands → Operands
put_value value on = record on { values = value ∷ on.values }

-- ---- numbers

abbrev pub number_on : Operands → ℤ
number_on on = first_or (pos 0) on.numbers

abbrev pub drop_number : Operands → Operands
drop_number on = record on { numbers = below on.numbers }

abbrev pub put_number : ℤ → Operands → Operands
put_number number on = record on { numbers = number ∷ on.numbers }

-- ---- capabilities

abbrev pub cap_on : Operands → Cap
cap_on on = first_or Null on.caps

abbrev pub drop_cap : Operands → Operands
drop_cap on = record on { caps = below on.caps }

abbrev pub put_cap : Cap → Operands → Operands
put_cap cap on = record on { caps = cap ∷ on.caps }

-- ---- numbers of invocations

abbrev pub name_on : Operands → ℕ
name_on on = first_or 0 on.names

abbrev pub drop_name : Operands → Operands
drop_name on = record on { names = below on.names }

abbrev pub put_name : ℕ → Operands → Operands
put_name name on = record on { names = name ∷ on.names }

-- ---- places

abbrev pub place_on : Operands → Located
place_on on = first_or (whole (an_own 0)) on.places

abbrev pub drop_place : Operands → Operands
drop_place on = record on { places = below on.places }

abbrev pub put_place : Located → Operands → Operands
put_place place on = record on { places = place ∷ on.places }

-- a part of the place
abbrev pub join_sel : Sel → Operands → Operands
join_sel sel on = put_place (record { spot = (place_on on).spot; path = (place_on on).path ++ sel ∷ [] }) (drop_place on)

-- ---- shapes

abbrev pub shape_on : Operands → Shape
shape_on on = first_or an_int on.shapes

abbrev pub drop_shape : Operands → Operands
drop_shape on = record on { shapes = below on.shapes }

abbrev pub put_shape : Shape → Operands → Operands
put_shape shape on = record on { shapes = shape ∷ on.shapes }

-- ---- lists

abbrev pub list_on : Operands → List Value
list_on on = first_or [] on.lists

abbrev pub drop_list : Operands → Operands
drop_list on = record on { lists = below on.lists }

abbrev pub put_list : List Value → Operands → Operands
put_list list on = record on { lists = list ∷ on.lists }

-- one value more in the list
abbrev pub join_value : Value → Operands → Operands
join_value value on = put_list (list_on on ++ value ∷ []) (drop_list on)

-- ---- bracketed parts

abbrev pub pieces_on : Operands → List Piece
pieces_on on = first_or [] on.pieces

abbrev pub drop_pieces : Operands → Operands
drop_pieces on = record on { pieces = below on.pieces }

abbrev pub put_pieces : List Piece → Operands → Operands
put_pieces pieces on = record on { pieces = pieces ∷ on.pieces }

-- one part more in the bracketed list
abbrev pub join_piece : Piece → Operands → Operands
join_piece piece on = put_pieces (pieces_on on ++ piece ∷ []) (drop_pieces on)

-- ---- calls

-- a call without arguments
abbrev pub call_of : Cap → Call
call_of cap = record { target = cap; values = []; places = [] }

abbrev pub call_on : Operands → Call
call_on on = first_or (call_of Null) on.calls

abbrev pub drop_call : Operands → Operands
drop_call on = record on { calls = below on.calls }

abbrev pub put_call : Call → Operands → Operands
put_call call on = record on { calls = call ∷ on.calls }

-- one argument more
abbrev pub join_argument : Value → Operands → Operands
join_argument value on = put_call (record (call_on on) { values = (call_on on).values ++ value ∷ [] }) (drop_call on)

-- one place more for a result
abbrev pub join_place : Located → Operands → Operands
join_place place on = put_call (record (call_on on) { places = (call_on on).places ++ place ∷ [] }) (drop_call on)

-- ---- the places for results

abbrev pub targets_on : Operands → List Located
targets_on on = first_or [] on.targets

abbrev pub drop_targets : Operands → Operands
drop_targets on = record on { targets = below on.targets }

abbrev pub put_targets : List Located → Operands → Operands
put_targets places on = record on { targets = places ∷ on.targets }

-- ---- reading

abbrev pub no_reading : Reading
no_reading = record { targets = []; count = 0 }

abbrev pub reading_on : Operands → Reading
reading_on on = first_or no_reading on.readings

abbrev pub drop_reading : Operands → Operands
drop_reading on = record on { readings = below on.readings }

abbrev pub put_reading : Reading → Operands → Operands
put_reading reading on = record on { readings = reading ∷ on.readings }

-- one place more to read into
abbrev pub join_target : ReadTarget → Operands → Operands
join_target target on =
    put_reading (record (reading_on on) { targets = (reading_on on).targets ++ target ∷ [] }) (drop_reading on)

-- one item was read
abbrev pub one_read : Operands → Operands
one_read on =
    put_reading (record { targets = after_first (reading_on on).targets; count = suc (reading_on on).count }) (drop_reading on)

-- ---- quantifiers and counts

abbrev pub numbers_on : Operands → List ℤ
numbers_on on = first_or [] on.loops

abbrev pub drop_numbers : Operands → Operands
drop_numbers on = record on { loops = below on.loops }

abbrev pub put_numbers : List ℤ → Operands → Operands
put_numbers numbers on = record on { loops = numbers ∷ on.loops }

abbrev pub count_on : Operands → ℕ
count_on on = first_or 0 on.counts

abbrev pub drop_count : Operands → Operands
drop_count on = record on { counts = below on.counts }

abbrev pub put_count : ℕ → Operands → Operands
put_count count on = record on { counts = count ∷ on.counts }

-- ---- services

abbrev pub no_pick : Pick
no_pick = record { id = 0; arm = 0; args = []; back = 0 }

abbrev pub pick_on : Operands → Pick
pick_on on = first_or no_pick on.picks

abbrev pub drop_pick : Operands → Operands
drop_pick on = record on { picks = below on.picks }

abbrev pub put_pick : Pick → Operands → Operands
put_pick pick on = record on { picks = pick ∷ on.picks }

abbrev pub no_service : Service
no_service = record { held = 0; back = 0; answered = true; gives = Values [] }

abbrev pub service_on : Operands → Service
service_on on = first_or no_service on.services

abbrev pub drop_service : Operands → Operands
drop_service on = record on { services = below on.services }

abbrev pub put_service : Service → Operands → Operands
put_service service on = record on { services = service ∷ on.services }

-- ---- co

abbrev pub outs_on : Operands → List Out
outs_on on = first_or [] on.outs

abbrev pub drop_outs : Operands → Operands
drop_outs on = record on { outs = below on.outs }

abbrev pub put_outs : List Out → Operands → Operands
put_outs outs on = record on { outs = outs ∷ on.outs }

abbrev pub no_out : Out
no_out = record { id = 0; arm = 0; place = None; backs = []; turn = [] }

abbrev pub completed_on : Operands → Completed
completed_on on = first_or (record { out = no_out; results = None }) on.completed

abbrev pub drop_completed : Operands → Operands
drop_completed on = record on { completed = below on.completed }

abbrev pub put_completed : Completed → Operands → Operands
put_completed completed on = record on { completed = completed ∷ on.completed }
