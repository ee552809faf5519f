-- `receive`: an `in` with one arm, which assigns its formals to places.
use Rattle.std.specs.Prelude.{Bool, ◌||◌, List, [], ◌∷◌, ◌++◌, Option, Some, None}
use Rattle.sr_value.specs.declared.place.Span.{Span}
use Rattle.sr_names.specs.declared.finding.Finding.{Finding}
use Rattle.sr_names.specs.declared.finding.Rule.TheVariants.{BadType}
use Rattle.sr_names.specs.Readings.{broken}
use Rattle.sr_tree.specs.declared.expr.Expr.{Expr}
use Rattle.sr_tree.specs.declared.name.Name.{Name}
use Rattle.sr_types.specs.declared.signature.Param.{Param}
use Rattle.sr_types.specs.declared.ty.Ty.{Ty}
use Rattle.sr_types.specs.declared.typed.Static.TheVariants.{Unknown}
use Rattle.sr_types.specs.declared.typed.Typed.{Typed}
use Rattle.sr_types.specs.Outcomes.{computed}
use Rattle.sr_types.specs.Storing.{store_rule}
use Rattle.sr_types.specs.Types.{is_no_type}
use Rattle.sr_check_expr.specs.declared.facts.Facts.{Facts}
use Rattle.sr_check_expr.specs.declared.typed_expr.TypedExpr.{TypedExpr}
use Rattle.sr_check_expr.specs.Arguments.{as_many, all_found, all_valued}
use Rattle.sr_check_expr.specs.Typings.{broken_unless, typed_exprs_of}
use Rattle.sr_check_decl.specs.Variables.{typings_of}
use Rattle.sr_check.specs.declared.operation.Operation.{Operation}
use Rattle.sr_check.specs.Contexts.{Context}
use Rattle.sr_check.specs.Services.{operation_named, service_found, params_of}

-- a formal is assigned to a place
abbrev pub received_rule : Typed → Ty → Bool
received_rule place ty = store_rule place (computed ty Unknown)

abbrev pub received_found : List Param → List TypedExpr → List Finding
received_found [] places = []
received_found (param ∷ params) [] = []
received_found (param ∷ params) (place ∷ places) =
    broken_unless (received_rule place.typed param.ty) BadType place.span ++ received_found params places

-- there is a place for each formal
abbrev pub takes_all : Facts → Ty → List TypedExpr → Bool
takes_all facts ty places = is_no_type ty || as_many (params_of facts.signatures ty) places

abbrev pub receive_by : Context → Span → List TypedExpr → Option Operation → List Finding
receive_by context span places None = broken BadType span ∷ []
receive_by context span places (Some operation) =
    broken_unless (takes_all context.facts operation.ty places) BadType span
    ++ (received_found (params_of context.facts.signatures operation.ty) places ++ service_found context.facts context.procs span operation)

abbrev pub receive_found : Context → Span → Name → List Expr → List Finding
receive_found context span name places =
    all_found (typings_of context.facts places)
    ++ (all_valued (typed_exprs_of (typings_of context.facts places))
    ++ receive_by context span (typed_exprs_of (typings_of context.facts places)) (operation_named context.facts name))
