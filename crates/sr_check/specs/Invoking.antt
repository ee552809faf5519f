-- Invocations as statements.
use Rattle.std.specs.Prelude.{Bool, true, false, ◌&&◌, List, [], ◌∷◌, ◌++◌, Option, Some, None}
use Rattle.sr_value.specs.declared.place.Span.{Span}
use Rattle.sr_names.specs.declared.finding.Finding.{Finding}
use Rattle.sr_names.specs.declared.finding.Rule.TheVariants.{BadType, BadUse}
use Rattle.sr_names.specs.declared.predefined.Predefined.{Predefined}
use Rattle.sr_names.specs.declared.predefined.Predefined.TheVariants as predefined
use Rattle.sr_names.specs.Readings.{broken}
use Rattle.sr_tree.specs.declared.expr.Expr.{Expr}
use Rattle.sr_types.specs.declared.signature.Signature.{Signature}
use Rattle.sr_types.specs.declared.ty.Ty.{Ty}
use Rattle.sr_types.specs.declared.ty.Ty.TheVariants as ty
use Rattle.sr_types.specs.declared.typed.Static.TheVariants.{Unknown}
use Rattle.sr_types.specs.Outcomes.{computed}
use Rattle.sr_types.specs.Signatures.{signature_of}
use Rattle.sr_types.specs.Storing.{store_rule}
use Rattle.sr_check_expr.specs.declared.facts.Facts.{Facts}
use Rattle.sr_check_expr.specs.declared.typed_expr.TypedExpr.{TypedExpr}
use Rattle.sr_check_expr.specs.declared.typed_expr.Named.{Named}
use Rattle.sr_check_expr.specs.declared.typed_expr.Named.TheVariants as named
use Rattle.sr_check_expr.specs.Arguments.{all_valued, takes_as_many, is_callable, is_sendable, returned_by}
use Rattle.sr_check_expr.specs.Calls.{Called, parts_found, invocation_found}
use Rattle.sr_check_expr.specs.Exprs.{infer_expr}
use Rattle.sr_check_expr.specs.Infos.{info_at}
use Rattle.sr_check_expr.specs.Typings.{valued, broken_unless, typed_exprs_of}
use Rattle.sr_check_expr.specs.PredefinedCalls.{function_typing}
use Rattle.sr_check.specs.declared.operation.Operation.{Operation}
use Rattle.sr_check.specs.declared.serving.Serving.{Serving}
use Rattle.sr_check.specs.declared.serving.Serving.TheVariants.{SetsUp, Ends, Serves}
use Rattle.sr_check.specs.Contexts.{Context}
use Rattle.sr_check.specs.Results.{results_rule}
use Rattle.sr_check.specs.Services.{operation_by, service_found, type_of}
use Rattle.sr_check.specs.Uses.{written_rule}

abbrev pub is_operation_name : Named → Bool
is_operation_name (named.Predefined name) = false
is_operation_name (named.«Type» ty) = false
is_operation_name _ = true

-- an operation that is invoked with as many arguments as it has formals
abbrev pub callee_rule : Facts → TypedExpr → List TypedExpr → Bool
callee_rule facts callee arguments = is_operation_name callee.named && takes_as_many facts.signatures callee.typed.ty arguments

-- an operation that is invoked in a form that it allows
abbrev pub invoked_found : Facts → Span → Bool → TypedExpr → List TypedExpr → List Finding
invoked_found facts span allowed callee arguments =
    invocation_found facts span callee arguments
    ++ (broken_unless (callee_rule facts callee arguments) BadType span ++ broken_unless allowed BadUse span)

-- ---- predefined functions

-- `write` is of what has a text
abbrev pub written_found : List TypedExpr → List Finding
written_found [] = []
written_found (argument ∷ arguments) = broken_unless (written_rule argument.typed) BadType argument.span ++ written_found arguments

-- the operation that an expression names, which `P` services
abbrev pub named_operation : Facts → Named → Option Operation
named_operation facts (named.Operation spot) = operation_by spot (info_at facts.infos spot)
named_operation facts _ = None

-- `P(s)` is `receive s()`
abbrev pub semaphore_found : Context → Span → Option Operation → List Finding
semaphore_found context span None = broken BadType span ∷ []
semaphore_found context span (Some operation) =
    broken_unless (takes_as_many context.facts.signatures operation.ty []) BadType span ++ service_found context.facts context.procs span operation

abbrev pub p_found : Context → Span → List TypedExpr → List Finding
p_found context span (operation ∷ []) = semaphore_found context span (named_operation context.facts operation.named)
p_found context span _ = broken BadType span ∷ []

-- `V(e)` is `send e()`
abbrev pub v_found : Facts → Span → List TypedExpr → List Finding
v_found facts span (callee ∷ []) = invoked_found facts span (is_sendable facts.signatures callee.typed.ty) callee []
v_found facts span _ = broken BadType span ∷ []

-- of the predefined functions some are statements, and what `read` gives may be left
abbrev pub function_called : Context → Span → Predefined → List TypedExpr → List Finding
function_called context span predefined.Write arguments = all_valued arguments ++ written_found arguments
function_called context span predefined.Writes arguments = all_valued arguments ++ written_found arguments
function_called context span predefined.Read arguments = (function_typing context.facts span predefined.Read arguments).found
function_called context span predefined.P arguments = all_valued arguments ++ p_found context span arguments
function_called context span predefined.V arguments = v_found context.facts span arguments
function_called context span _ arguments = all_valued arguments ++ broken BadType span ∷ []

-- ---- `call`, `send` and `forward`

abbrev pub called_found : Context → Span → TypedExpr → List TypedExpr → Named → List Finding
called_found context span callee arguments (named.Predefined name) = function_called context span name arguments
called_found context span callee arguments _ = invoked_found context.facts span (is_callable context.facts.signatures callee.typed.ty) callee arguments

-- a call whose result is left
abbrev pub call_found : Context → Span → Called → List Finding
call_found context span called =
    parts_found called ++ called_found context span called.callee.typed_expr (typed_exprs_of called.arguments) called.callee.typed_expr.named

abbrev pub send_found : Facts → Span → Called → List Finding
send_found facts span called =
    parts_found called
    ++ invoked_found facts span (is_sendable facts.signatures called.callee.typed_expr.typed.ty) called.callee.typed_expr (typed_exprs_of called.arguments)

abbrev pub is_serving : Serving → Bool
is_serving SetsUp = false
is_serving Ends = false
is_serving (Serves operation) = true

abbrev pub served_type : Facts → Serving → Ty
served_type facts (Serves operation) = type_of (operation_by operation (info_at facts.infos operation))
served_type facts _ = ty.Untyped

abbrev pub results_by : Option Signature → Option Signature → Bool
results_by (Some own) (Some other) = results_rule own other
results_by _ _ = true

-- whether what the one gives back is what the other gives back
abbrev pub same_results : Facts → Ty → Ty → Bool
same_results facts own other = results_by (signature_of facts.signatures own) (signature_of facts.signatures other)

-- `forward` is of a service, and to an operation with equal results, in whatever form
abbrev pub forward_found : Context → Span → Called → List Finding
forward_found context span called =
    parts_found called
    ++ (invoked_found context.facts span true called.callee.typed_expr (typed_exprs_of called.arguments)
    ++ (broken_unless (is_serving context.serving) BadUse span
    ++ broken_unless (same_results context.facts (served_type context.facts context.serving) called.callee.typed_expr.typed.ty) BadType span))

-- `reply` is of a service or of initial code
abbrev pub may_reply : Serving → Bool
may_reply SetsUp = true
may_reply Ends = false
may_reply (Serves operation) = true

-- ---- arms of `co`

-- an arm is no statement: a store that its `co` doesn't allow is refused at the `co`, and that nothing is given back at
-- the invocation
abbrev pub result_found : Span → TypedExpr → Option Ty → Span → List Finding
result_found span target None invoked = broken BadType invoked ∷ []
result_found span target (Some ty) invoked = broken_unless (store_rule target.typed (computed ty Unknown)) BadType span

-- what a callee of this type gives back is stored to the place
abbrev pub place_found : Facts → Span → Option Expr → Ty → Span → List Finding
place_found facts span None callee invoked = []
place_found facts span (Some target) callee invoked =
    valued (infer_expr target facts) ++ result_found span (infer_expr target facts).typed_expr (returned_by facts.signatures callee) invoked

-- what is invoked is an operation that is called, and its result is stored to the place of the arm
abbrev pub started_found : Facts → Span → Option Expr → Called → List Finding
started_found facts span target called =
    parts_found called
    ++ (invoked_found facts called.span (is_callable facts.signatures called.callee.typed_expr.typed.ty) called.callee.typed_expr (typed_exprs_of called.arguments)
    ++ place_found facts span target called.callee.typed_expr.typed.ty called.span)
