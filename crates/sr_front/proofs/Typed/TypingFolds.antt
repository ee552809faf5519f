-- The folds that infer the types of expressions and list the names that they need.
use Rattle.std.proofs.Common.{List}
use Rattle.sr_check_decl.specs.NamesIn.{create_names, expr_names, invocation_names, part_names}
use Rattle.sr_check_expr.specs.Exprs.{CalledInferrer, Inferrer, PartInferrer, create_step, expr_step, invocation_step, part_step}
use Rattle.sr_value.specs.declared.place.Span.{Span}
use Rattle.sr_tree.proofs.ExprFolds.{Fold}

abbrev pub inferring : Fold Inferrer Inferrer CalledInferrer PartInferrer
inferring = record { create = create_step; expr = expr_step; invocation = invocation_step; part = part_step }

abbrev pub needing : Fold (List Span) (List Span) (List Span) (List Span)
needing = record { create = create_names; expr = expr_names; invocation = invocation_names; part = part_names }
