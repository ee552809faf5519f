-- Calls of the predefined functions in expressions.
use Rattle.std.specs.Prelude.{ℕ, ◌==◌, Bool, true, false, not, List, [], ◌∷◌, ◌++◌, Option, Some, None, if◌then◌else◌}
use Rattle.sr_value.specs.declared.place.Span.{Span}
use Rattle.sr_value.specs.declared.predefined.Dimension.{Dimension}
use Rattle.sr_value.specs.declared.predefined.Dimension.TheVariants.{First, Second}
use Rattle.sr_value.specs.declared.shape.Shape.{Shape}
use Rattle.sr_value.specs.declared.shape.Shape.TheVariants as shape
use Rattle.sr_names.specs.declared.finding.Finding.{Finding}
use Rattle.sr_names.specs.declared.finding.Rule.TheVariants.{BadType, BadUse, Guard}
use Rattle.sr_names.specs.declared.meaning.Decl.{Decl}
use Rattle.sr_names.specs.declared.meaning.Sort.{Sort}
use Rattle.sr_names.specs.declared.meaning.Sort.TheVariants.{Resource}
use Rattle.sr_names.specs.declared.predefined.Predefined.{Predefined}
use Rattle.sr_names.specs.declared.predefined.Predefined.TheVariants.{Read, Abs, Min, Max, Low, High, Lb, Ub, Length, Pred, Succ, MyResource, MyVm}
use Rattle.sr_types.specs.declared.ty.Ty.{Ty, out-Ty}
use Rattle.sr_types.specs.declared.ty.Ty.TheOpen.{Ty-F}
use Rattle.sr_types.specs.declared.ty.Ty.TheVariants as ty
use Rattle.sr_types.specs.declared.typed.Outcome.{Outcome}
use Rattle.sr_types.specs.declared.typed.Outcome.TheVariants.{Broken, Met}
use Rattle.sr_types.specs.declared.typed.Static.TheVariants.{Unknown}
use Rattle.sr_types.specs.Outcomes.{computed, refused_typed}
use Rattle.sr_types.specs.Predefined.{number_rule, numbers_rule, low_rule, high_rule, bound_rule, length_rule, neighbour_rule}
use Rattle.sr_types.specs.Types.{is_no_type}
use Rattle.sr_check_expr.specs.declared.facts.Facts.{Facts}
use Rattle.sr_check_expr.specs.declared.facts.Here.{Here}
use Rattle.sr_check_expr.specs.declared.info.Info.{Info}
use Rattle.sr_check_expr.specs.declared.info.Info.TheVariants.{Enumeration}
use Rattle.sr_check_expr.specs.declared.typed_expr.TypedExpr.{TypedExpr}
use Rattle.sr_check_expr.specs.declared.typed_expr.Named.{Named}
use Rattle.sr_check_expr.specs.declared.typed_expr.Named.TheVariants as named
use Rattle.sr_check_expr.specs.Arguments.{all_valued}
use Rattle.sr_check_expr.specs.Entries.{Entries}
use Rattle.sr_check_expr.specs.Infos.{info_at, type_spot, name_spot}
use Rattle.sr_check_expr.specs.Typings.{Typing, broken_unless, settled}
use Rattle.sr_check_expr.specs.Uses.{read_rule}

-- the only argument, where there is one
abbrev pub only : List TypedExpr → Option TypedExpr
only [] = None
only (argument ∷ []) = Some argument
only (argument ∷ other ∷ arguments) = None

-- ---- `low` and `high`

abbrev pub info_shape : Option Info → Shape
info_shape (Some (Enumeration number literals)) = shape.Enum number literals
info_shape _ = shape.Int

abbrev pub layer_shape : {A : Type 0} → Entries → Ty-F A → Shape
layer_shape infos Ty-F.Bool = shape.Bool
layer_shape infos Ty-F.Char = shape.Char
layer_shape infos (Ty-F.Enum spot) = info_shape (info_at infos (name_spot spot))
layer_shape infos _ = shape.Int

-- the shape of places of a type that has a least and a greatest value
abbrev pub ends_shape : Entries → Ty → Shape
ends_shape infos ty = layer_shape infos (out-Ty ty)

abbrev pub unless_untyped : Ty → Outcome → Outcome
unless_untyped ty outcome = if is_no_type ty then Met refused_typed else outcome

abbrev pub low_outcome : Entries → Named → Outcome
low_outcome infos (named.«Type» ty) = unless_untyped ty (low_rule ty (ends_shape infos ty))
low_outcome infos _ = Broken

abbrev pub high_outcome : Entries → Named → Outcome
high_outcome infos (named.«Type» ty) = unless_untyped ty (high_rule ty (ends_shape infos ty))
high_outcome infos _ = Broken

-- ---- `lb` and `ub`

-- the literal 1 or 2
abbrev pub dimension_numbered : ℕ → Option Dimension
dimension_numbered number = if number == 1 then Some First else if number == 2 then Some Second else None

abbrev pub dimension_of : Named → Option Dimension
dimension_of (named.Number number) = dimension_numbered number
dimension_of _ = None

abbrev pub dimension_outcome : TypedExpr → Option Dimension → Outcome
dimension_outcome array None = Broken
dimension_outcome array (Some dimension) = bound_rule array.typed dimension

-- without a number the first dimension is meant
abbrev pub bound_outcome : List TypedExpr → Outcome
bound_outcome [] = Broken
bound_outcome (array ∷ []) = bound_rule array.typed First
bound_outcome (array ∷ number ∷ []) = dimension_outcome array (dimension_of number.named)
bound_outcome (array ∷ number ∷ third ∷ arguments) = Broken

-- ---- all

abbrev pub instance_type : Decl → Ty
instance_type component = ty.Resource (type_spot component.spot)

abbrev pub two_numbers_outcome : List TypedExpr → Outcome
two_numbers_outcome [] = Broken
two_numbers_outcome (a ∷ []) = Broken
two_numbers_outcome (a ∷ b ∷ []) = numbers_rule a.typed b.typed
two_numbers_outcome (a ∷ b ∷ c ∷ arguments) = Broken

-- a call with one argument
abbrev pub one_outcome : Entries → Predefined → TypedExpr → Outcome
one_outcome infos Abs argument = number_rule argument.typed
one_outcome infos Low argument = low_outcome infos argument.named
one_outcome infos High argument = high_outcome infos argument.named
one_outcome infos Length argument = length_rule argument.typed
one_outcome infos Pred argument = neighbour_rule argument.typed
one_outcome infos Succ argument = neighbour_rule argument.typed
one_outcome infos _ argument = Broken

abbrev pub by_one : Entries → Predefined → Option TypedExpr → Outcome
by_one infos name None = Broken
by_one infos name (Some argument) = one_outcome infos name argument

-- a call without arguments
abbrev pub none_outcome : Decl → Predefined → Outcome
none_outcome component MyResource = Met (computed (instance_type component) Unknown)
none_outcome component MyVm = Met (computed ty.Vm Unknown)
none_outcome component _ = Broken

abbrev pub by_none : Decl → Predefined → List TypedExpr → Outcome
by_none component name [] = none_outcome component name
by_none component name (argument ∷ arguments) = Broken

-- what a call is; a function that gives no value is none of expressions, and so is `EOF`
abbrev pub function_outcome : Facts → Predefined → List TypedExpr → Outcome
function_outcome facts Read arguments = Met (computed ty.Int Unknown)
function_outcome facts Min arguments = two_numbers_outcome arguments
function_outcome facts Max arguments = two_numbers_outcome arguments
function_outcome facts Lb arguments = bound_outcome arguments
function_outcome facts Ub arguments = bound_outcome arguments
function_outcome facts MyResource arguments = by_none facts.here.component MyResource arguments
function_outcome facts MyVm arguments = by_none facts.here.component MyVm arguments
function_outcome facts name arguments = by_one facts.infos name (only arguments)

abbrev pub is_resource : Sort → Bool
is_resource Resource = true
is_resource _ = false

-- `read` is of places
abbrev pub places_found : List TypedExpr → List Finding
places_found [] = []
places_found (argument ∷ arguments) = broken_unless (read_rule argument.typed) BadType argument.span ++ places_found arguments

-- an invocation, `read` or `create` may not stand after `and`, `st` or `by` of an arm
abbrev pub guard_found : Here → Span → List Finding
guard_found here span = broken_unless (not here.in_guard) Guard span

-- what else is found at a call: `low` and `high` are of types and all others of values, and `myresource()` is no
-- call in a global
abbrev pub function_found : Facts → Span → Predefined → List TypedExpr → List Finding
function_found facts span Low arguments = []
function_found facts span High arguments = []
function_found facts span Read arguments = all_valued arguments ++ (places_found arguments ++ guard_found facts.here span)
function_found facts span MyResource arguments = all_valued arguments ++ broken_unless (is_resource facts.here.component.sort) BadUse span
function_found facts span _ arguments = all_valued arguments

abbrev pub function_typing : Facts → Span → Predefined → List TypedExpr → Typing
function_typing facts span name arguments = settled span (function_found facts span name arguments) (function_outcome facts name arguments)
