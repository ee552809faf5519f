-- What calls and receives are in the core.
use Rattle.std.proofs.Common.{◌≡◌, Bool, List, sym, ap, ◌∙◌}
use Rattle.sr_core.specs.declared.statement.CoArm.{CoArm}
use Rattle.sr_core.specs.declared.statement.Guarded.{Guarded}
use Rattle.sr_core.specs.declared.statement.Statement.{Statement}
use Rattle.sr_tree.specs.declared.expr.Expr.{Expr}
use Rattle.sr_tree.specs.declared.expr.Invocation.{Invocation}
use Rattle.sr_tree.specs.declared.name.Name.{Name}
use Rattle.sr_tree.specs.declared.statement.BlockItem.TheFolds.{fold-roll-Statement}
use Rattle.sr_tree.specs.declared.statement.BlockItem.TheOpen.{Statement-F}
use Rattle.sr_tree.specs.declared.statement.Statement.TheVariants as variant
use Rattle.sr_value.specs.declared.place.Span.{Span}
use Rattle.sr_check_expr.specs.Meanings.{function_called, meant_by}
use Rattle.sr_lower_expr.specs.declared.scene.Scene.{Scene}
use Rattle.sr_desugar.specs.Statements.{LoweredArm, Block, WithSites, arm_made, branch_made, call_made, co_arm_made, core_statement, item_made, receive_made, statement_made}

pub call_is : (scene : Scene) (span : Span) (with_call : Bool) (invocation : Invocation)
    → core_statement scene (variant.Call span with_call invocation) ≡ call_made scene span invocation (function_called scene.facts invocation)
call_is scene span with_call invocation =
    ap (λ tree. core_statement scene tree) (sym (variant.rolls-Call span with_call invocation))
    ∙ fold-roll-Statement (WithSites Block) (WithSites Statement) (WithSites LoweredArm) (WithSites Guarded) (WithSites CoArm)
    (item_made scene) (statement_made scene) (arm_made scene) (branch_made scene) (co_arm_made scene) (Statement-F.Call span with_call invocation)

pub receive_is : (scene : Scene) (span : Span) (operation : Name) (places : List Expr)
    → core_statement scene (variant.Receive span operation places) ≡ receive_made scene span (meant_by scene.facts operation) places
receive_is scene span operation places =
    ap (λ tree. core_statement scene tree) (sym (variant.rolls-Receive span operation places))
    ∙ fold-roll-Statement (WithSites Block) (WithSites Statement) (WithSites LoweredArm) (WithSites Guarded) (WithSites CoArm)
    (item_made scene) (statement_made scene) (arm_made scene) (branch_made scene) (co_arm_made scene) (Statement-F.Receive span operation places)
