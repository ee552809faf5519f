-- The fold that makes the core of statements.
use Rattle.sr_core.specs.declared.statement.CoArm.{CoArm}
use Rattle.sr_core.specs.declared.statement.Guarded.{Guarded}
use Rattle.sr_core.specs.declared.statement.Statement.{Statement}
use Rattle.sr_tree.proofs.StatementFolds.{Fold}
use Rattle.sr_lower_expr.specs.declared.scene.Scene.{Scene}
use Rattle.sr_desugar.specs.Statements.{Block, LoweredArm, WithSites, arm_made, branch_made, co_arm_made, item_made, statement_made}

abbrev pub making : Scene → Fold (WithSites Block) (WithSites Statement) (WithSites LoweredArm) (WithSites Guarded) (WithSites CoArm)
making scene = record { item = item_made scene; statement = statement_made scene; arm = arm_made scene; branch = branch_made scene; co_arm = co_arm_made scene }
