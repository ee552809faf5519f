-- The folds that find the uses in expressions, types and statements.
use Rattle.sr_tree.proofs.ExprFolds as exprs
use Rattle.sr_tree.proofs.StatementFolds as statements
use Rattle.sr_tree.proofs.TypeFolds.{TypeFold}
use Rattle.sr_scope.specs.Exprs.{Finds, Reads, create_step, expr_step, invocation_step, part_step}
use Rattle.sr_scope.specs.Statements.{Steps, arm_step, branch_step, co_arm_step, item_step, statement_step}
use Rattle.sr_scope.specs.Types.{Formals, Signed, formal_step, returned_step, signature_step, type_step}

abbrev pub expr_finding : exprs.Fold Finds Reads Finds Finds
expr_finding = record { create = create_step; expr = expr_step; invocation = invocation_step; part = part_step }

abbrev pub type_finding : TypeFold
type_finding = record {
  OfType = Finds;
  OfFormal = Formals;
  OfReturned = Formals;
  OfSignature = Signed;
  type_step = type_step;
  formal_step = formal_step;
  returned_step = returned_step;
  signature_step = signature_step;
}

abbrev pub finding : statements.Fold Steps Finds Finds Finds Finds
finding = record { item = item_step; statement = statement_step; arm = arm_step; branch = branch_step; co_arm = co_arm_step }
