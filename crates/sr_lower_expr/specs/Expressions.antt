-- What expressions are in the core: one line for each construct.
use Rattle.std.specs.Prelude.{ℕ, ◌==◌, negsuc, Bool, true, false, List, [], ◌∷◌, Option, Some, None, unwrap_or, position, map, zip, flat_map, take, slice_get, if◌then◌else◌, Result, Ok, Err}
use Rattle.std.specs.Option.{option_map, option_and_then}
use Rattle.std.specs.Str.{bytes_eq}
use Rattle.sr_check_expr.specs.declared.facts.Facts.{Facts}
use Rattle.sr_check_expr.specs.declared.typed_expr.Named.{Named}
use Rattle.sr_check_expr.specs.declared.typed_expr.Named.TheVariants as named
use Rattle.sr_check_expr.specs.Exprs.{prefix_of}
use Rattle.sr_check_expr.specs.Infos.{name_spot}
use Rattle.sr_check_expr.specs.LiteralTypes.{literal_typed}
use Rattle.sr_check_expr.specs.Naming.{record_fields}
use Rattle.sr_core.specs.declared.component.Operation.{Operation}
use Rattle.sr_core.specs.declared.expression.Argument.{Argument}
use Rattle.sr_core.specs.declared.expression.Argument.TheOpen.{Expr-F as core-F}
use Rattle.sr_core.specs.declared.expression.Argument.TheVariants as argument
use Rattle.sr_core.specs.declared.expression.Expr.{Expr, out-Expr}
use Rattle.sr_core.specs.declared.expression.Expr.TheVariants as core
use Rattle.sr_core.specs.declared.expression.Function.{Function}
use Rattle.sr_core.specs.declared.expression.Function.TheVariants as function
use Rattle.sr_core.specs.declared.expression.Leaf.{Leaf}
use Rattle.sr_core.specs.declared.expression.Leaf.TheVariants as leaf
use Rattle.sr_core.specs.declared.expression.Part.{Part}
use Rattle.sr_core.specs.declared.expression.Part.TheVariants as part
use Rattle.sr_core.specs.declared.expression.PlaceExpr.{PlaceExpr}
use Rattle.sr_core.specs.declared.expression.Readable.{Readable}
use Rattle.sr_core.specs.declared.expression.Readable.TheVariants as readable
use Rattle.sr_core.specs.declared.expression.Reading.{Reading, roll-Reading}
use Rattle.sr_core.specs.declared.expression.Step.{Step}
use Rattle.sr_core.specs.declared.expression.Step.TheVariants as step
use Rattle.sr_names.specs.declared.meaning.Meaning.{Meaning}
use Rattle.sr_names.specs.declared.meaning.Meaning.TheVariants.{Predefined as MeansPredefined, Declared}
use Rattle.sr_names.specs.declared.predefined.Predefined.{Predefined}
use Rattle.sr_names.specs.declared.predefined.Predefined.TheVariants.{Read, Eof, Abs, Min, Max, Low, High, Lb, Ub, Length, Pred, Succ, MyResource, MyVm}
use Rattle.sr_names.specs.declared.spot.Spot.{Spot}
use Rattle.sr_names.specs.Components.{member_named}
use Rattle.sr_names.specs.Spots.{same_spot, spot_of}
use Rattle.sr_names.specs.Uses.{meaning_at}
use Rattle.sr_tree.specs.declared.expr.Create.{Create, fold-Create, roll-Create, map-Create}
use Rattle.sr_tree.specs.declared.expr.Create.TheOpen.{Create-F, Expr-F, Invocation-F, Part-F}
use Rattle.sr_tree.specs.declared.expr.Expr.{Expr as Tree, fold-Expr, roll-Expr, map-Expr}
use Rattle.sr_tree.specs.declared.expr.Invocation.{Invocation, out-Invocation, roll-Invocation, map-Invocation}
use Rattle.sr_tree.specs.declared.expr.Part.{Part as PartTree, fold-Part, roll-Part, map-Part}
use Rattle.sr_tree.specs.declared.name.Name.{Name}
use Rattle.sr_types.specs.declared.signature.Mode.{Mode}
use Rattle.sr_types.specs.declared.signature.Mode.TheVariants.{Val, Var, Res}
use Rattle.sr_types.specs.declared.signature.Param.{Param}
use Rattle.sr_types.specs.declared.spot.Spot as types
use Rattle.sr_types.specs.declared.ty.Ty.{Ty, out-Ty}
use Rattle.sr_types.specs.declared.ty.Ty.TheOpen.{Ty-F}
use Rattle.sr_types.specs.declared.typed.Static.{Static}
use Rattle.sr_value.specs.declared.fault.Fault.{Fault}
use Rattle.sr_value.specs.declared.place.Span.{Span}
use Rattle.sr_value.specs.declared.shape.Shape.{Shape}
use Rattle.sr_value.specs.declared.value.Value.{Value}
use Rattle.sr_value.specs.declared.value.Value.TheVariants as value
use Rattle.sr_value.specs.Predefined.{lowest_value, highest_value}
use Rattle.sr_lower_expr.specs.declared.exprs.Sent.{Sent}
use Rattle.sr_lower_expr.specs.declared.scene.Lowered.{Lowered}
use Rattle.sr_lower_expr.specs.declared.scene.Lowered.TheVariants as lowered
use Rattle.sr_lower_expr.specs.declared.scene.Scene.{Scene}
use Rattle.sr_check_expr.specs.Meanings.{typed_expr, type_of, known, constant_at, params_of, returned_by, literals_of, meant_by}
use Rattle.sr_lower_expr.specs.Operators.{conversion_function, binary_core}
use Rattle.sr_tables.specs.Parts.{deciding}
use Rattle.sr_lower_expr.specs.Places.{root_of, place_at, naming, operation_at, operation_expr, nothing, value_of, place_of, part_of}
use Rattle.sr_lower_expr.specs.Shapes.{shape_of_type}
use Rattle.sr_tables.specs.Tables.{things_in}

-- an expression, and what it is in the core
abbrev pub LoweredTree : Type 0
LoweredTree = Tree × Lowered

-- an invocation, and what its parts are in the core
pub record LoweredInvocation : Type 0 where
  pub tree : Invocation
  pub callee : LoweredTree
  pub arguments : List LoweredTree

abbrev pub trees_of : List LoweredTree → List Tree
trees_of all = map (λ told. told.0) all

abbrev pub lowered_of : List LoweredTree → List Lowered
lowered_of all = map (λ told. told.1) all

abbrev pub values : List Lowered → List Expr
values all = map value_of all

-- ---- constants and names

-- without a value, as in a program that is refused, nothing
abbrev pub constant_or_nothing : Option Value → Expr
constant_or_nothing None = nothing
constant_or_nothing (Some value) = core.Leaf (leaf.Constant value)

-- what is known before the run
abbrev pub static_expr : Static → Expr
static_expr static = constant_or_nothing (known static)

-- a variable, or a constant that isn't static
abbrev pub variable_core : Scene → Spot → Lowered
variable_core scene spot = lowered.Place (place_at (root_of scene spot))

abbrev pub named_core : Scene → Spot → Option Value → Option Operation → Lowered
named_core scene spot (Some value) operation = lowered.Value (core.Leaf (leaf.Constant value))
named_core scene spot None (Some operation) = lowered.Value (operation_expr scene spot)
named_core scene spot None None = variable_core scene spot

-- a name is the static constant, operation or variable that it means; `EOF` is -1
abbrev pub meaning_core : Scene → Option Meaning → Lowered
meaning_core scene (Some (Declared decl)) = named_core scene decl.spot (constant_at scene.facts decl.spot) (operation_at scene decl.spot)
meaning_core scene (Some (MeansPredefined Eof)) = lowered.Value (core.Leaf (leaf.Constant (value.Int (negsuc 0))))
meaning_core scene _ = lowered.Value nothing

abbrev pub name_core : Scene → Span → Lowered
name_core scene span = meaning_core scene (meaning_at scene.facts.uses (spot_of span))

-- ---- parts of values

-- one index or two
abbrev pub index_step : Lowered → Option LoweredTree → Step
index_step first None = step.At (value_of first)
index_step first (Some second) = step.At2 (value_of first) (value_of second.1)

-- the place of a field; one that isn't there, as in a program that is refused, has number 0
abbrev pub field_number : Facts → types.Spot → List ℕ → ℕ
field_number facts spot name = unwrap_or (position (λ field. bytes_eq field.name name) (record_fields facts.infos spot)) 0

-- an operation of a resource's spec; where there is none, as in a program that is refused, the resource stands for it
abbrev pub spec_operation : Facts → types.Spot → List ℕ → Spot
spec_operation facts resource name = unwrap_or (option_map (λ decl. decl.spot) (member_named facts.specs (name_spot resource) name)) (name_spot resource)

-- an operation through a capability
abbrev pub member_core : Scene → Lowered → Spot → Expr
member_core scene owner spot = naming scene spot (λ operation number. core.Member (value_of owner) number)

abbrev pub layer_member : {A : Type 0} → Scene → Lowered → List ℕ → Ty-F A → Lowered
layer_member scene owner name (Ty-F.Rec spot) = part_of owner (step.Field (field_number scene.facts spot name))
layer_member scene owner name (Ty-F.Resource spot) = lowered.Value (member_core scene owner (spec_operation scene.facts spot name))
layer_member scene owner name _ = lowered.Value nothing

-- after a component stands a name of its spec, after a value a field or an operation
abbrev pub field_core : Scene → LoweredTree → Name → Named → Lowered
field_core scene owner field (named.Component decl) = name_core scene field.span
field_core scene owner field _ = layer_member scene owner.1 field.text (out-Ty (type_of scene.facts owner.0))

-- ---- predefined functions

abbrev pub end_or_nothing : Result Value Fault → Expr
end_or_nothing (Ok value) = core.Leaf (leaf.Constant value)
end_or_nothing (Err fault) = nothing

abbrev pub is_two : Named → Bool
is_two (named.Number number) = number == 2
is_two _ = false

-- whether the second argument of `lb` or `ub` is the literal 2
abbrev pub is_second : Facts → List Tree → Bool
is_second facts (array ∷ number ∷ []) = is_two (typed_expr facts number).named
is_second facts trees = false

-- the number of the dimension is no argument
abbrev pub without_number : List Tree → List Lowered → List Lowered
without_number (array ∷ number ∷ []) lowered = take 1 lowered
without_number trees lowered = lowered

-- `lb(a)`, `lb(a, 1)` or `lb(a, 2)`
abbrev pub bound_core : Facts → Function → Function → List Tree → List Lowered → Expr
bound_core facts one two trees lowered = core.Apply (if is_second facts trees then two else one) (values (without_number trees lowered))

abbrev pub type_in : Named → List Ty
type_in (named.«Type» ty) = ty ∷ []
type_in _ = []

abbrev pub named_types : Facts → List Tree → List Ty
named_types facts trees = flat_map (λ tree. type_in (typed_expr facts tree).named) trees

abbrev pub end_value : Bool → Shape → Result Value Fault
end_value true shape = highest_value shape
end_value false shape = lowest_value shape

abbrev pub end_core : Scene → Bool → Ty → Expr
end_core scene is_high ty = end_or_nothing (end_value is_high (shape_of_type scene.tables.shapes ty))

-- `low(T)` and `high(T)` are known before the run; without a type, as in a program that is refused, they are nothing
abbrev pub ends_core : Scene → Bool → List Ty → Expr
ends_core scene is_high [] = nothing
ends_core scene is_high (ty ∷ types) = end_core scene is_high ty

-- how many literals the type of the first argument has; without an argument, as in a program that is refused, 0
abbrev pub literals_in : Facts → List Tree → ℕ
literals_in facts [] = 0
literals_in facts (tree ∷ trees) = literals_of facts (type_of facts tree)

abbrev pub layer_readable : {A : Type 0} → Ty-F A → Readable
layer_readable Ty-F.Bool = readable.Bool
layer_readable Ty-F.Char = readable.Char
layer_readable Ty-F.Str = readable.Str
layer_readable _ = readable.Int

abbrev pub readable_of : Ty → Readable
readable_of ty = layer_readable (out-Ty ty)

abbrev pub reading_core : Readable × Lowered → Reading
reading_core item = roll-Reading (record { kind = item.0; place = place_of item.1 })

-- an item is read by the type of its place
abbrev pub readings_core : Facts → List Tree → List Lowered → List Reading
readings_core facts trees lowered = map reading_core (zip (map (λ tree. readable_of (type_of facts tree)) trees) lowered)

-- a call of a predefined function, by its arguments and what they are in the core
abbrev pub function_core : Scene → Predefined → List Tree → List Lowered → Expr
function_core scene Abs trees lowered = core.Apply function.Abs (values lowered)
function_core scene Min trees lowered = core.Apply function.Min (values lowered)
function_core scene Max trees lowered = core.Apply function.Max (values lowered)
function_core scene Low trees lowered = ends_core scene false (named_types scene.facts trees)
function_core scene High trees lowered = ends_core scene true (named_types scene.facts trees)
function_core scene Lb trees lowered = bound_core scene.facts function.LowBound function.LowBound2 trees lowered
function_core scene Ub trees lowered = bound_core scene.facts function.HighBound function.HighBound2 trees lowered
function_core scene Length trees lowered = core.Apply function.Length (values lowered)
function_core scene Pred trees lowered = core.Apply function.Pred (values lowered)
function_core scene Succ trees lowered = core.Apply (function.Succ (literals_in scene.facts trees)) (values lowered)
function_core scene MyResource trees lowered = core.Leaf leaf.MyResource
function_core scene MyVm trees lowered = core.Leaf leaf.MyMachine
function_core scene Read trees lowered = core.Read (readings_core scene.facts trees lowered)
function_core scene _ trees lowered = nothing

-- ---- invocations

-- an argument goes as its formal says
abbrev pub argument_core : Mode → Lowered → Argument
argument_core Val told = argument.Val (value_of told)
argument_core Var told = argument.Var (place_of told)
argument_core Res told = argument.Res (place_of told)

abbrev pub arguments_by : List Param → List Lowered → List Argument
arguments_by params arguments = map (λ pair. argument_core pair.0.mode pair.1) (zip params arguments)

abbrev pub sent_arguments : Facts → LoweredInvocation → List Argument
sent_arguments facts sending = arguments_by (params_of facts (type_of facts sending.callee.0)) (lowered_of sending.arguments)

-- what an operation returns, by its number
abbrev pub returns_numbered : Scene → ℕ → Option Shape
returns_numbered scene op = option_and_then (λ operation. operation.returns) (slice_get (things_in scene.tables.operations) op)

-- what a capability of a type returns: its type tells no bounds
abbrev pub returns_typed : Scene → Ty → Option Shape
returns_typed scene ty = option_map (shape_of_type scene.tables.shapes) (returned_by scene.facts ty)

abbrev pub leaf_returns : Scene → Ty → Leaf → Option Shape
leaf_returns scene ty (leaf.Operation whose op) = returns_numbered scene op
leaf_returns scene ty _ = returns_typed scene ty

abbrev pub layer_returns : {A B C D E F : Type 0} → Scene → Ty → core-F A B C D E F → Option Shape
layer_returns scene ty (core-F.Leaf leaf) = leaf_returns scene ty leaf
layer_returns scene ty (core-F.Member of op) = returns_numbered scene op
layer_returns scene ty _ = returns_typed scene ty

-- the type of the value of a call, by what is called
abbrev pub call_returns : Scene → LoweredInvocation → Option Shape
call_returns scene sending = layer_returns scene (type_of scene.facts sending.callee.0) (out-Expr (value_of sending.callee.1))

-- an invocation of an operation
abbrev pub sent_core : Scene → LoweredInvocation → Sent
sent_core scene sending = record { target = value_of sending.callee.1; args = sent_arguments scene.facts sending; returns = call_returns scene sending }

abbrev pub called : Scene → LoweredInvocation → Expr
called scene sending = core.Call (value_of sending.callee.1) (sent_arguments scene.facts sending) (call_returns scene sending)

-- a call is of a predefined function, of a record type, or of an operation
abbrev pub call_core : Scene → LoweredInvocation → Named → Expr
call_core scene sending (named.Predefined name) = function_core scene name (trees_of sending.arguments) (lowered_of sending.arguments)
call_core scene sending (named.«Type» ty) = core.Apply function.Record (values (lowered_of sending.arguments))
call_core scene sending _ = called scene sending

abbrev pub call_of : Scene → LoweredInvocation → Expr
call_of scene sending = call_core scene sending (typed_expr scene.facts sending.callee.0).named

-- ---- create

-- without `on` the machine is the creator's
abbrev pub machine_core : Option LoweredTree → Expr
machine_core None = core.Leaf leaf.MyMachine
machine_core (Some machine) = value_of machine.1

-- an instance of the component that is declared at a spot; where none is, as in a program that is refused, nothing
abbrev pub instance_core : Scene → Spot → List Expr → Expr → Expr
instance_core scene spot args machine = by (position (same_spot spot) scene.tables.components)
  where
    by : Option ℕ → Expr
    by None = nothing
    by (Some component) = core.Create component args machine

-- ---- pending invocations

abbrev pub pending_core : Scene → Spot → Expr
pending_core scene spot = naming scene spot (λ operation number. core.Leaf (leaf.Count number))

-- ---- all

abbrev pub create_core : Scene → Create-F (Create × Expr) LoweredTree LoweredInvocation (PartTree × Part) → Expr
create_core scene (Create-F.Resource span resource arguments machine) =
    instance_core scene (meant_by scene.facts (deciding resource)) (values (lowered_of arguments)) (machine_core machine)
create_core scene (Create-F.Machine span) = core.Leaf leaf.MakeMachine

abbrev pub part_by : Option LoweredTree → LoweredTree → Part
part_by None value = part.One (value_of value.1)
part_by (Some count) value = part.Repeated (value_of count.1) (value_of value.1)

abbrev pub expr_core : Scene → Expr-F (Create × Expr) LoweredTree LoweredInvocation (PartTree × Part) → Lowered
expr_core scene (Expr-F.Literal span literal) = lowered.Value (static_expr (literal_typed literal).value)
expr_core scene (Expr-F.Name name) = name_core scene name.span
expr_core scene (Expr-F.BasicType span basic) = lowered.Value nothing
expr_core scene (Expr-F.Conversion span conversion value) = lowered.Value (core.Apply (conversion_function conversion) (value_of value.1 ∷ []))
expr_core scene (Expr-F.Group span inner) = lowered.Value (value_of inner.1)
expr_core scene (Expr-F.Parts span parts) = lowered.Value (core.Array (map (λ part. part.1) parts))
expr_core scene (Expr-F.Field span owner field) = field_core scene owner field (typed_expr scene.facts owner.0).named
expr_core scene (Expr-F.Index span array first second) = part_of array.1 (index_step first.1 second)
expr_core scene (Expr-F.Call sending) = lowered.Value (call_of scene sending)
expr_core scene (Expr-F.Create create) = lowered.Value create.1
expr_core scene (Expr-F.Unary span operator operand) = lowered.Value (core.Unary (prefix_of operator) (value_of operand.1))
expr_core scene (Expr-F.Pending span operation) = lowered.Value (pending_core scene (meant_by scene.facts operation))
expr_core scene (Expr-F.Binary span left operator right) = lowered.Value (binary_core operator (value_of left.1) (value_of right.1))

-- ---- each with its tree

abbrev pub create_lowered : Scene → Create-F (Create × Expr) LoweredTree LoweredInvocation (PartTree × Part) → Create × Expr
create_lowered scene create = (
  roll-Create (map-Create (Create × Expr) LoweredTree LoweredInvocation (PartTree × Part) Create Tree Invocation PartTree (λ c. c.0) (λ e. e.0) (λ s. s.tree) (λ p. p.0) create),
  create_core scene create,
)

abbrev pub expr_tree : Expr-F (Create × Expr) LoweredTree LoweredInvocation (PartTree × Part) → Tree
expr_tree expr = roll-Expr (map-Expr (Create × Expr) LoweredTree LoweredInvocation (PartTree × Part) Create Tree Invocation PartTree (λ c. c.0) (λ e. e.0) (λ s. s.tree) (λ p. p.0) expr)

abbrev pub expr_lowered : Scene → Expr-F (Create × Expr) LoweredTree LoweredInvocation (PartTree × Part) → LoweredTree
expr_lowered scene expr = (expr_tree expr, expr_core scene expr)

abbrev pub invocation_lowered : Invocation-F (Create × Expr) LoweredTree LoweredInvocation (PartTree × Part) → LoweredInvocation
invocation_lowered invocation = record {
  tree = roll-Invocation (map-Invocation (Create × Expr) LoweredTree LoweredInvocation (PartTree × Part) Create Tree Invocation PartTree (λ c. c.0) (λ e. e.0) (λ s. s.tree) (λ p. p.0) invocation);
  callee = invocation.callee;
  arguments = invocation.arguments;
}

abbrev pub part_lowered : Part-F (Create × Expr) LoweredTree LoweredInvocation (PartTree × Part) → PartTree × Part
part_lowered part = (
  roll-Part (map-Part (Create × Expr) LoweredTree LoweredInvocation (PartTree × Part) Create Tree Invocation PartTree (λ c. c.0) (λ e. e.0) (λ s. s.tree) (λ p. p.0) part),
  part_by part.count part.value,
)

abbrev pub told : Scene → Tree → LoweredTree
told scene = fold-Expr (Create × Expr) LoweredTree LoweredInvocation (PartTree × Part) (create_lowered scene) (expr_lowered scene) invocation_lowered part_lowered

-- what an expression is in the core
abbrev pub core_expr : Scene → Tree → Lowered
core_expr scene tree = (told scene tree).1

abbrev pub core_value : Scene → Tree → Expr
core_value scene tree = value_of (core_expr scene tree)

abbrev pub core_place : Scene → Tree → PlaceExpr
core_place scene tree = place_of (core_expr scene tree)

abbrev pub core_create : Scene → Create → Expr
core_create scene tree = (fold-Create (Create × Expr) LoweredTree LoweredInvocation (PartTree × Part) (create_lowered scene) (expr_lowered scene) invocation_lowered part_lowered tree).1

-- a tree, with what it is in the core
abbrev pub with_core : Scene → Tree → LoweredTree
with_core scene tree = (tree, core_expr scene tree)

abbrev pub core_sending : Scene → Invocation → LoweredInvocation
core_sending scene tree = record {
  tree = tree;
  callee = with_core scene (out-Invocation tree).callee;
  arguments = map (with_core scene) (out-Invocation tree).arguments;
}

abbrev pub core_part : Scene → PartTree → Part
core_part scene tree = (fold-Part (Create × Expr) LoweredTree LoweredInvocation (PartTree × Part) (create_lowered scene) (expr_lowered scene) invocation_lowered part_lowered tree).1
