-- What the guards of an `in` statement mean. A guard is evaluated by the machine and not by the process, on the
-- values that went with the `Select`, the arguments of an invocation and the shared variables.
use Rattle.std.specs.Prelude.{ℕ, ◌+◌, pos, ◌+ℤ◌, ◌-ℤ◌, Bool, true, false, List, [], ◌∷◌, ◌++◌, Option, Some, None, Result, Ok, Err, ◌==◌}
use Rattle.sr_value.specs.declared.capability.Cap.{Cap}
use Rattle.sr_value.specs.declared.capability.Cap.TheVariants.{Op, Res as a_resource, Vm}
use Rattle.sr_value.specs.declared.capability.Owner.{Owner}
use Rattle.sr_value.specs.declared.capability.Owner.TheVariants.{Inst, Proc as of_process}
use Rattle.sr_value.specs.declared.fault.Fault.{Fault}
use Rattle.sr_value.specs.declared.fault.Fault.TheVariants.{Range}
use Rattle.sr_value.specs.declared.operator.Operator.{Operator}
use Rattle.sr_value.specs.declared.operator.Operator.TheVariants.{And as both, Or as either}
use Rattle.sr_value.specs.declared.shape.Dims.{Dims}
use Rattle.sr_value.specs.declared.shape.Dims.TheVariants.{One, Two}
use Rattle.sr_value.specs.declared.shape.Sel.{Sel}
use Rattle.sr_value.specs.declared.shape.Sel.TheVariants.{At as at_one, At2 as at_two, Field as at_field}
use Rattle.sr_value.specs.declared.shape.Shape.{Shape}
use Rattle.sr_value.specs.declared.shape.Shape.TheFolds.{fold-Shape}
use Rattle.sr_value.specs.declared.shape.Shape.TheOpen.{Shape-F}
use Rattle.sr_value.specs.declared.value.Value.{Value, out-Value}
use Rattle.sr_value.specs.declared.value.Value.TheOpen.{Value-F}
use Rattle.sr_value.specs.declared.value.Value.TheVariants.{Bool as truth_value, Rec, Arr, Capa}
use Rattle.sr_value.specs.Operands.{cap_in}
use Rattle.sr_value.specs.Operators.{int_result, value_of, value_of_one}
use Rattle.sr_value.specs.Shapes.{extent, shape_fault, unless_fault, default_value}
use Rattle.sr_value.specs.Parts.{or_fault, with_ok, loaded_at, part_of, all_fit, each_fits}
use Rattle.sr_ask.specs.declared.entry.Seen.TheVariants.{Cell, Pending as pending_count}
use Rattle.sr_core.specs.declared.expression.Argument.TheFolds.{fold-Expr, fold-Part, fold-PlaceExpr, fold-Step}
use Rattle.sr_core.specs.declared.expression.Argument.TheOpen.{Argument-F, Expr-F, Part-F, Step-F, PlaceExpr-F, Reading-F}
use Rattle.sr_core.specs.declared.expression.Expr.{Expr}
use Rattle.sr_core.specs.declared.expression.Leaf.{Leaf}
use Rattle.sr_core.specs.declared.expression.Leaf.TheVariants.{Constant, Operation, MyResource, MyMachine, Count as count_of_op, MakeMachine, Moment}
use Rattle.sr_core.specs.declared.expression.Part.{Part}
use Rattle.sr_core.specs.declared.expression.PlaceExpr.{PlaceExpr}
use Rattle.sr_core.specs.declared.expression.Step.{Step}
use Rattle.sr_core.specs.declared.formal.Formal.{Formal}
use Rattle.sr_core.specs.declared.formal.Returned.{Returned}
use Rattle.sr_core.specs.declared.owner.Home.{Home}
use Rattle.sr_core.specs.declared.owner.Home.TheVariants.{Mine as my_home, Imported as imported_home}
use Rattle.sr_core.specs.declared.owner.Me.{Me}
use Rattle.sr_core.specs.declared.owner.OperationOwner.{OperationOwner}
use Rattle.sr_core.specs.declared.owner.OperationOwner.TheVariants.{Mine, Imported, Process}
use Rattle.sr_core.specs.declared.owner.Root.{Root}
use Rattle.sr_core.specs.declared.owner.Root.TheVariants.{Own as own_root, Shared as shared_root}
use Rattle.sr_core.specs.declared.piece.Piece.{Piece}
use Rattle.sr_core.specs.declared.site.Arm.{Arm}
use Rattle.sr_core.specs.declared.site.Named.{Named}
use Rattle.sr_core.specs.declared.site.Named.TheVariants.{Own as named_own, Home as named_home, Machine as named_machine}
use Rattle.sr_core.specs.Applied.{applied}
use Rattle.sr_core.specs.Formals.{sent_to, sent_after}
use Rattle.sr_core.specs.Values.{truth_of, number_of, cap_of, member_of, count_of, array_of, formal_shape, int_bound}
use Rattle.sr_select.specs.Looks.{Found, Faulted, Looking, give, fault, settle, ◌>>>◌}
use Rattle.sr_select.specs.Readings.{Reading}

-- What a guard sees: the world, the process, and the values of the names that it may use.
pub record Guarding : Type 0 where
  pub reading : Reading
  pub me : Me
  pub own : ℕ → Result Value Fault
  pub home : ℕ → Option ℕ
  pub machine : Option ℕ

-- what each kind of part of a guard means
abbrev pub Guard : Type 0 → Type 0
Guard A = Guarding → Looking A

-- parts are evaluated from left to right
abbrev pub in_order : {A : Type 0} → List (Guard A) → Guard (List A)
in_order [] at = give []
in_order (part ∷ parts) at = part at >>> λ first. in_order parts at >>> λ rest. give (first ∷ rest)

-- ---- leaves

-- the operations of an imported global belong to its instance
abbrev pub guard_owner : Me → (ℕ → Option ℕ) → OperationOwner → Result Owner Fault
guard_owner me home Mine = Ok (Inst me.instance)
guard_owner me home (Imported import) = with_ok (or_fault Range (home import)) (λ instance. Ok (Inst instance))
guard_owner me home Process = Ok (of_process me.process)

-- how many invocations of an operation are pending is read, and is an `int`
abbrev pub guard_count : Reading → ℕ → Looking Value
guard_count reading op seen = settle (int_result (pos (reading.count op))) (seen ++ pending_count op (reading.count op) ∷ [])

-- A guard that asks the machine for anything but loads and counts isn't accepted; it would be E6.
abbrev pub guard_leaf : Leaf → Guard Value
guard_leaf (Constant value) at = give value
guard_leaf (Operation whose op) at = settle (with_ok (guard_owner at.me at.home whose) (λ owner. Ok (Capa (Op owner op))))
guard_leaf MyResource at = give (Capa (a_resource at.me.instance))
guard_leaf MyMachine at = settle (with_ok (or_fault Range at.machine) (λ vm. Ok (Capa (Vm vm))))
guard_leaf (count_of_op op) at = guard_count at.reading op
guard_leaf MakeMachine at = fault Range
guard_leaf Moment at = fault Range

-- ---- places

-- the variables of an imported global are those of its instance
abbrev pub guard_block : Me → (ℕ → Option ℕ) → Home → Result ℕ Fault
guard_block me home my_home = Ok me.instance
guard_block me home (imported_home import) = or_fault Range (home import)

abbrev pub cell_read : ℕ → ℕ → List Sel → Result Value Fault → Looking Value
cell_read block var path (Ok value) seen = Found value (seen ++ Cell block var path value ∷ [])
cell_read block var path (Err found) seen = Faulted found seen

-- the value of a shared variable, or of a part of it, is read
abbrev pub guard_shared : Reading → ℕ → List Sel → ℕ → Looking Value
guard_shared reading var path block = cell_read block var path (reading.load block var path)

abbrev pub guard_load : Root → List Sel → Guard Value
guard_load (own_root var) path at = settle (with_ok (at.own var) (λ value. loaded_at value path))
guard_load (shared_root home var) path at = settle (guard_block at.me at.home home) >>> guard_shared at.reading var path

-- ---- nodes

abbrev pub choose_look : {A : Type 0} → Bool → Looking A → Looking A → Looking A
choose_look true one other = one
choose_look false one other = other

-- an operator whose left operand is there
abbrev pub after_operand : Operator → Value → Guard Value → Guard Value
after_operand op x right at = right at >>> λ y. settle (value_of op x y)

-- `and` doesn't evaluate the right side after false, nor `or` after true
abbrev pub after_and : Value → Guard Value → Guard Value
after_and x right at = settle (truth_of x) >>> λ truth. choose_look truth (after_operand both x right at) (give (truth_value false))

abbrev pub after_or : Value → Guard Value → Guard Value
after_or x right at = settle (truth_of x) >>> λ truth. choose_look truth (give (truth_value true)) (after_operand either x right at)

-- a part of a value that is there
abbrev pub after_whole : Value → Guard Sel → Guard Value
after_whole value step at = step at >>> λ sel. settle (part_of value sel)

abbrev pub guard_node : Expr-F (Guard (Unit {0})) (Guard Value) (Guard Piece) (Guard Sel) (Guard Value) (Guard (Unit {0})) → Guard Value
guard_node (Expr-F.Leaf leaf) at = guard_leaf leaf at
guard_node (Expr-F.Load place) at = place at
guard_node (Expr-F.Unary op operand) at = operand at >>> λ x. settle (value_of_one op x)
guard_node (Expr-F.Binary op left right) at = left at >>> λ x. after_operand op x right at
guard_node (Expr-F.And left right) at = left at >>> λ x. after_and x right at
guard_node (Expr-F.Or left right) at = left at >>> λ x. after_or x right at
guard_node (Expr-F.Apply function args) at = in_order args at >>> λ values. settle (applied at.reading.names function values)
guard_node (Expr-F.Array parts) at = in_order parts at >>> λ pieces. settle (array_of pieces)
guard_node (Expr-F.Of whole step) at = whole at >>> λ value. after_whole value step at
guard_node (Expr-F.Member of op) at = of at >>> λ value. settle (with_ok (cap_of value) (member_of op))
guard_node (Expr-F.Call target args returns) at = fault Range
guard_node (Expr-F.Create resource args machine) at = fault Range
guard_node (Expr-F.Read readings) at = fault Range

abbrev pub guard_step_node : Step-F (Guard (Unit {0})) (Guard Value) (Guard Piece) (Guard Sel) (Guard Value) (Guard (Unit {0})) → Guard Sel
guard_step_node (Step-F.At index) at = index at >>> λ x. settle (number_of x) >>> λ i. give (at_one i)
guard_step_node (Step-F.At2 row column) at =
    row at >>> λ x. settle (number_of x) >>> λ i. column at >>> λ y. settle (number_of y) >>> λ j. give (at_two i j)
guard_step_node (Step-F.Field field) at = give (at_field field)

abbrev pub guard_part_node : Part-F (Guard (Unit {0})) (Guard Value) (Guard Piece) (Guard Sel) (Guard Value) (Guard (Unit {0})) → Guard Piece
guard_part_node (Part-F.One value) at = value at >>> λ x. give (record { count = 1; value = x })
guard_part_node (Part-F.Repeated count value) at =
    count at >>> λ n. settle (number_of n) >>> λ number.
    value at >>> λ x. settle (count_of number) >>> λ times. give (record { count = times; value = x })

abbrev pub guard_place_node : PlaceExpr-F (Guard (Unit {0})) (Guard Value) (Guard Piece) (Guard Sel) (Guard Value) (Guard (Unit {0})) → Guard Value
guard_place_node place at = in_order place.path at >>> λ path. guard_load place.root path at

abbrev pub no_argument : Argument-F (Guard (Unit {0})) (Guard Value) (Guard Piece) (Guard Sel) (Guard Value) (Guard (Unit {0})) → Guard (Unit {0})
no_argument argument at = fault Range

abbrev pub no_reading : Reading-F (Guard (Unit {0})) (Guard Value) (Guard Piece) (Guard Sel) (Guard Value) (Guard (Unit {0})) → Guard (Unit {0})
no_reading reading at = fault Range

-- ---- trees

-- the value of a guard's expression, or its fault, and what it reads
abbrev pub guard_value : Expr → Guard Value
guard_value = fold-Expr (Guard (Unit {0})) (Guard Value) (Guard Piece) (Guard Sel) (Guard Value) (Guard (Unit {0})) no_argument guard_node guard_part_node guard_step_node guard_place_node no_reading

-- the same of a place, of one step of it, and of one part of a bracketed list
abbrev pub guard_place : PlaceExpr → Guard Value
guard_place = fold-PlaceExpr (Guard (Unit {0})) (Guard Value) (Guard Piece) (Guard Sel) (Guard Value) (Guard (Unit {0})) no_argument guard_node guard_part_node guard_step_node guard_place_node no_reading

abbrev pub guard_step : Step → Guard Sel
guard_step = fold-Step (Guard (Unit {0})) (Guard Value) (Guard Piece) (Guard Sel) (Guard Value) (Guard (Unit {0})) no_argument guard_node guard_part_node guard_step_node guard_place_node no_reading

abbrev pub guard_part : Part → Guard Piece
guard_part = fold-Part (Guard (Unit {0})) (Guard Value) (Guard Piece) (Guard Sel) (Guard Value) (Guard (Unit {0})) no_argument guard_node guard_part_node guard_step_node guard_place_node no_reading

-- whether a condition holds; where there is none, it does
abbrev pub truth_of_guard : Option Expr → Guard Bool
truth_of_guard None at = give true
truth_of_guard (Some expr) at = guard_value expr at >>> λ value. settle (truth_of value)

-- ---- names

-- An array has the lengths that were sent, counted from the lower bounds of the formal.
abbrev pub recounted : Dims → Dims → Result Dims Fault
recounted (One lo hi) (One lo' hi') = with_ok (int_bound ((lo +ℤ pos (extent lo' hi')) -ℤ pos 1)) (λ last. Ok (One lo last))
recounted (Two lo hi lo2 hi2) (Two lo' hi' lo2' hi2') =
    with_ok (int_bound ((lo +ℤ pos (extent lo' hi')) -ℤ pos 1)) (λ last.
    with_ok (int_bound ((lo2 +ℤ pos (extent lo2' hi2')) -ℤ pos 1)) (λ last2. Ok (Two lo last lo2 last2)))
recounted place sent = Ok sent

-- an array's own bounds are counted before those of its items
abbrev pub layer_counted : Shape-F (Value → Result Value Fault) → Value → Value-F Value → Result Value Fault
layer_counted (Shape-F.Rec fields) value (Value-F.Rec values) = with_ok (each_fits fields values) (λ parts. Ok (Rec parts))
layer_counted (Shape-F.Arr dims item) value (Value-F.Arr dims' items) =
    with_ok (recounted dims dims') (λ bounds. with_ok (all_fit item items) (λ parts. Ok (Arr bounds parts)))
layer_counted shape value layer = Ok value

-- a value as it was sent, each array in it counted from the lower bounds of the formal
abbrev pub counted_in : Shape → Value → Result Value Fault
counted_in = fold-Shape (Value → Result Value Fault) (λ layer value. layer_counted layer value (out-Value value))

abbrev pub as_sent : Shape → Option Value → Result Value Fault
as_sent shape None = default_value shape
as_sent shape (Some value) = with_ok (unless_fault (shape_fault shape) value) (counted_in shape)

-- A formal as a guard sees it: what was sent, or the default of a `res` formal. Where its bound or its default
-- is a fault, to name it is that fault.
abbrev pub formal_seen : Formal → Option Value → Result Value Fault
formal_seen formal sent = with_ok (formal_shape formal.shape sent) (λ shape. as_sent shape sent)

abbrev pub or_else : {A : Type 0} → Bool → A → A → A
or_else true this other = this
or_else false this other = other

-- the formal of a name and what it was sent
abbrev pub formal_named : List Formal → List Value → ℕ → Option (Formal × Option Value)
formal_named [] args var = None
formal_named (formal ∷ formals) args var =
    or_else (formal.var == var) (Some (formal, sent_to formal.mode args)) (formal_named formals (sent_after formal.mode args) var)

-- the returned name has its default
abbrev pub returned_named : Option Returned → ℕ → Option Shape
returned_named None var = None
returned_named (Some name) var = or_else (name.var == var) (Some name.shape) None

-- what went with the `Select`, by the names of the site
abbrev pub is_own : ℕ → Named → Bool
is_own var (named_own own) = own == var
is_own var _ = false

abbrev pub named_seen : List Named → List Value → ℕ → Option Value
named_seen [] env var = None
named_seen (name ∷ names) [] var = None
named_seen (name ∷ names) (value ∷ env) var = or_else (is_own var name) (Some value) (named_seen names env var)

abbrev pub instance_of_cap : Option Cap → Option ℕ
instance_of_cap (Some (a_resource instance)) = Some instance
instance_of_cap _ = None

abbrev pub machine_of_cap : Option Cap → Option ℕ
machine_of_cap (Some (Vm vm)) = Some vm
machine_of_cap _ = None

abbrev pub is_home : ℕ → Named → Bool
is_home import (named_home home) = home == import
is_home import _ = false

abbrev pub home_seen : List Named → List Value → ℕ → Option ℕ
home_seen [] env import = None
home_seen (name ∷ names) [] import = None
home_seen (name ∷ names) (value ∷ env) import = or_else (is_home import name) (instance_of_cap (cap_in value)) (home_seen names env import)

abbrev pub is_machine : Named → Bool
is_machine named_machine = true
is_machine _ = false

abbrev pub machine_seen : List Named → List Value → Option ℕ
machine_seen [] env = None
machine_seen (name ∷ names) [] = None
machine_seen (name ∷ names) (value ∷ env) = or_else (is_machine name) (machine_of_cap (cap_in value)) (machine_seen names env)

abbrev pub value_seen : Option (Formal × Option Value) → Option Shape → Option Value → Result Value Fault
value_seen (Some (formal, sent)) returned env = formal_seen formal sent
value_seen None (Some shape) env = default_value shape
value_seen None None env = or_fault Range env

-- An arm's formals hide the names outside it. A name that has no value is E6.
abbrev pub own_seen : Arm → List Value → List Named → List Value → ℕ → Result Value Fault
own_seen arm args names env var = value_seen (formal_named arm.formals args var) (returned_named arm.returned var) (named_seen names env var)

-- what the guards of an arm see where an invocation has these arguments
abbrev pub guarding : Reading → Me → List Named → List Value → Arm → List Value → Guarding
guarding reading me names env arm args = record {
  reading = reading;
  me = me;
  own = own_seen arm args names env;
  home = home_seen names env;
  machine = machine_seen names env;
}
