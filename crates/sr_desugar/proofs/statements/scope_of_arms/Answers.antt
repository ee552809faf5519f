-- The scope is that of the first arm.
use Rattle.std.proofs.Common.{◌∙◌}
use Rattle.sr_desugar.proofs.FirstArm.{first_scope}
use Rattle.sr_desugar.proofs.statements.scope_of_arms.Goals as goal

pub returns-in-len1-up : goal.returns-in-len1-up
returns-in-len1-up c =
    c.scope_of_arm.ensures
    ∙ first_scope c.args.scene.now c.args.trees.now c.tree-item.result c.in-len1-up.len_at_least c.tree-item.is
