-- The folds that list the names in expressions, types and statements, and the spans of statements.
use Rattle.std.proofs.Common.{List}
use Rattle.sr_value.specs.declared.place.Span.{Span}
use Rattle.sr_tree.proofs.ExprFolds as exprs
use Rattle.sr_tree.proofs.StatementFolds as statements
use Rattle.sr_tree.proofs.TypeFolds.{TypeFold}
use Rattle.sr_order.specs.Names.{arm_names_step, block_item_names_step, branch_names_step, co_arm_names_step, create_names_step, expr_names_step, formal_names_step, invocation_names_step, part_names_step, returned_names_step, signature_names_step, statement_names_step, type_names_step}
use Rattle.sr_order.specs.Spans.{arm_step, block_item_step, branch_step, co_arm_step, statement_step}

abbrev pub expr_naming : exprs.Fold (List Span) (List Span) (List Span) (List Span)
expr_naming = record { create = create_names_step; expr = expr_names_step; invocation = invocation_names_step; part = part_names_step }

abbrev pub type_naming : TypeFold
type_naming = record {
  OfType = List Span;
  OfFormal = List Span;
  OfReturned = List Span;
  OfSignature = List Span;
  type_step = type_names_step;
  formal_step = formal_names_step;
  returned_step = returned_names_step;
  signature_step = signature_names_step;
}

abbrev pub naming : statements.Fold (List Span) (List Span) (List Span) (List Span) (List Span)
naming = record { item = block_item_names_step; statement = statement_names_step; arm = arm_names_step; branch = branch_names_step; co_arm = co_arm_names_step }

abbrev pub spanning : statements.Fold (List Span) (List Span) (List Span) (List Span) (List Span)
spanning = record { item = block_item_step; statement = statement_step; arm = arm_step; branch = branch_step; co_arm = co_arm_step }
