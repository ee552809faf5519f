-- The fold that makes the core of expressions.
use Rattle.sr_core.specs.declared.expression.Expr.{Expr}
use Rattle.sr_core.specs.declared.expression.Part.{Part}
use Rattle.sr_tree.specs.declared.expr.Create.{Create}
use Rattle.sr_tree.specs.declared.expr.Part.{Part as PartTree}
use Rattle.sr_tree.proofs.ExprFolds.{Fold}
use Rattle.sr_lower_expr.specs.declared.scene.Scene.{Scene}
use Rattle.sr_lower_expr.specs.Expressions.{LoweredInvocation, LoweredTree, create_lowered, expr_lowered, invocation_lowered, part_lowered}

abbrev pub lowering : Scene → Fold (Create × Expr) LoweredTree LoweredInvocation (PartTree × Part)
lowering scene = record { create = create_lowered scene; expr = expr_lowered scene; invocation = invocation_lowered; part = part_lowered }
