-- One arm more is appended.
use Rattle.std.proofs.Common.{◌+◌, List, ◌++◌, map, drop, ap, ◌∙◌}
use Rattle.sr_core.specs.declared.site.Arm.{Arm}
use Rattle.sr_desugar.specs.Statements.{arms_of, core_arm}
use Rattle.sr_desugar.proofs.Outputs.{mapped_next}
use Rattle.sr_desugar.proofs.statements.arms_of.Goals as goal

pub loop-tree-preserved : goal.loop-tree-preserved
loop-tree-preserved c =
    ap (λ (arms : List Arm). arms ++ arms_of (map (core_arm c.args.scene.now) (drop (c.loop-tree.tree-index + 1) c.args.trees.now))) c.in_ok-push.ensures.ok
    ∙ mapped_next (λ arm. arm.made.arm) (core_arm c.args.scene.now) c.loop-tree.arms c.in_ok-arm.field-0 c.args.trees.now c.loop-tree.tree-index c.tree-item.result
    c.loop-tree-test.true c.tree-item.is c.in_ok-arm.ensures
    ∙ c.loop-tree.invariant
