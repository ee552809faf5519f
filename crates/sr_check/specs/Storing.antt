-- Statements that store, stop and destroy.
use Rattle.std.specs.Prelude.{Bool, ◌&&◌, List, [], ◌++◌, Option, Some, None}
use Rattle.sr_value.specs.declared.place.Span.{Span}
use Rattle.sr_names.specs.declared.finding.Finding.{Finding}
use Rattle.sr_names.specs.declared.finding.Rule.TheVariants.{BadType}
use Rattle.sr_tree.specs.declared.expr.Expr.{Expr}
use Rattle.sr_types.specs.declared.typed.Typed.{Typed}
use Rattle.sr_types.specs.Kinds.{may_be_int}
use Rattle.sr_types.specs.Storing.{store_rule}
use Rattle.sr_check_expr.specs.declared.facts.Facts.{Facts}
use Rattle.sr_check_expr.specs.Exprs.{infer_expr}
use Rattle.sr_check_expr.specs.Typings.{Typing, valued, broken_unless}
use Rattle.sr_check.specs.Uses.{number_rule, destroyed_rule}

-- `++` and `--` are of places of int
abbrev pub counter_rule : Typed → Bool
counter_rule place = place.is_place && may_be_int place.ty

-- each may be stored to the other
abbrev pub exchange_rule : Typed → Typed → Bool
exchange_rule left right = store_rule left right && store_rule right left

-- an expression in a statement, which is refused as a whole where a rule of the expression isn't met
abbrev pub operand_found : (Typed → Bool) → Span → Typing → List Finding
operand_found rule span operand = valued operand ++ broken_unless (rule operand.typed_expr.typed) BadType span

abbrev pub operands_found : (Typed → Typed → Bool) → Span → Typing → Typing → List Finding
operands_found rule span left right = valued left ++ (valued right ++ broken_unless (rule left.typed_expr.typed right.typed_expr.typed) BadType span)

-- `place := value`
abbrev pub assign_found : Facts → Span → Expr → Expr → List Finding
assign_found facts span place value = operands_found store_rule span (infer_expr place facts) (infer_expr value facts)

-- `left :=: right`
abbrev pub exchange_found : Facts → Span → Expr → Expr → List Finding
exchange_found facts span left right = operands_found exchange_rule span (infer_expr left facts) (infer_expr right facts)

-- `place++` and `place--`
abbrev pub counter_found : Facts → Span → Expr → List Finding
counter_found facts span place = operand_found counter_rule span (infer_expr place facts)

-- `stop(status)`: an int
abbrev pub status_found : Facts → Span → Option Expr → List Finding
status_found facts span None = []
status_found facts span (Some status) = operand_found number_rule span (infer_expr status facts)

-- `destroy` is of an instance
abbrev pub destroy_found : Facts → Span → Expr → List Finding
destroy_found facts span target = operand_found destroyed_rule span (infer_expr target facts)
