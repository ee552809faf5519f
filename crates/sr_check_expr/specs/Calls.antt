-- Calls in expressions: of a predefined function, of a record type, or of an operation.
use Rattle.std.specs.Prelude.{Bool, true, false, List, [], ◌++◌}
use Rattle.sr_value.specs.declared.place.Span.{Span}
use Rattle.sr_names.specs.declared.finding.Finding.{Finding}
use Rattle.sr_names.specs.declared.finding.Rule.TheVariants.{BadUse}
use Rattle.sr_types.specs.declared.ty.Ty.{Ty, out-Ty}
use Rattle.sr_types.specs.declared.ty.Ty.TheOpen.{Ty-F}
use Rattle.sr_types.specs.declared.ty.Ty.TheVariants.{Rec}
use Rattle.sr_types.specs.declared.typed.Outcome.{Outcome}
use Rattle.sr_types.specs.declared.typed.Outcome.TheVariants.{Broken, Met}
use Rattle.sr_types.specs.declared.typed.Static.TheVariants.{Unknown}
use Rattle.sr_types.specs.Outcomes.{computed, refused_typed}
use Rattle.sr_check_expr.specs.declared.facts.Facts.{Facts}
use Rattle.sr_check_expr.specs.declared.typed_expr.TypedExpr.{TypedExpr}
use Rattle.sr_check_expr.specs.declared.typed_expr.Named.{Named}
use Rattle.sr_check_expr.specs.declared.typed_expr.Named.TheVariants as named
use Rattle.sr_check_expr.specs.Arguments.{as_many, all_found, all_valued, fields_found, invoked_found, invoked_outcome, is_callable}
use Rattle.sr_check_expr.specs.Typings.{Typing, broken_unless, value_found, settled, typed_exprs_of, with_found}
use Rattle.sr_check_expr.specs.Naming.{record_fields}
use Rattle.sr_check_expr.specs.PredefinedCalls.{function_typing, guard_found}

-- the parts of an invocation
pub record Called : Type 0 where
  pub span : Span
  pub callee : Typing
  pub arguments : List Typing

-- what is found in the parts themselves
abbrev pub parts_found : Called → List Finding
parts_found called = called.callee.found ++ all_found called.arguments

-- ---- records

abbrev pub layer_made : {A : Type 0} → Facts → List TypedExpr → Ty-F A → List Finding
layer_made facts arguments (Ty-F.Rec spot) = fields_found (record_fields facts.infos spot) arguments
layer_made facts arguments _ = []

abbrev pub record_if : Bool → Ty → Outcome
record_if true ty = Met (computed ty Unknown)
record_if false ty = Broken

abbrev pub layer_record : {A : Type 0} → Facts → List TypedExpr → Ty-F A → Outcome
layer_record facts arguments (Ty-F.Rec spot) = record_if (as_many (record_fields facts.infos spot) arguments) (Rec spot)
layer_record facts arguments Ty-F.Untyped = Met refused_typed
layer_record facts arguments _ = Broken

abbrev pub made_found : Facts → Ty → List TypedExpr → List Finding
made_found facts ty arguments = layer_made facts arguments (out-Ty ty)

abbrev pub made_outcome : Facts → Ty → List TypedExpr → Outcome
made_outcome facts ty arguments = layer_record facts arguments (out-Ty ty)

-- `T(a, b)` with a record type `T`: an argument for each field, and of its type
abbrev pub made_typing : Facts → Span → Ty → List TypedExpr → Typing
made_typing facts span ty arguments = settled span (all_valued arguments ++ made_found facts ty arguments) (made_outcome facts ty arguments)

-- ---- operations

-- the findings at an invocation; its result may be used in any way
abbrev pub invocation_found : Facts → Span → TypedExpr → List TypedExpr → List Finding
invocation_found facts span callee arguments =
    value_found callee ++ (all_valued arguments ++ (invoked_found facts.signatures callee.typed.ty arguments ++ guard_found facts.here span))

-- an operation that is invoked in an expression is called
abbrev pub invoked_typing : Facts → Span → TypedExpr → List TypedExpr → Typing
invoked_typing facts span callee arguments =
    settled span
    (invocation_found facts span callee arguments ++ broken_unless (is_callable facts.signatures callee.typed.ty) BadUse span)
    (invoked_outcome facts.signatures callee.typed.ty arguments)

-- ---- all

abbrev pub called_by : Facts → Span → TypedExpr → List TypedExpr → Named → Typing
called_by facts span callee arguments (named.Predefined name) = function_typing facts span name arguments
called_by facts span callee arguments (named.«Type» ty) = made_typing facts span ty arguments
called_by facts span callee arguments _ = invoked_typing facts span callee arguments

-- a call in an expression
abbrev pub call_typing : Facts → Called → Typing
call_typing facts called =
    with_found (parts_found called) (called_by facts called.span called.callee.typed_expr (typed_exprs_of called.arguments) called.callee.typed_expr.named)
