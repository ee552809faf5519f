-- What there is so far and what the rest adds are what all add.
use Rattle.std.proofs.Common.{drop, map, ◌++◌, ◌≡◌}
use Rattle.sr_desugar.specs.Statements.{all_made, all_sites, block_made, blocks_of, core_arm, core_branch, core_co_arm, core_items}
use Rattle.sr_desugar.proofs.statements.+statements.Given as goal

abbrev pub invariant-block-loop-item : goal.invariant-block-loop-item
invariant-block-loop-item l =
    (l.code ++ (block_made (core_items l.scene (drop l.item-index l.items))).made ≡ (block_made (core_items l.scene l.items)).made)
    × (l.sites ++ (block_made (core_items l.scene (drop l.item-index l.items))).sites ≡ l.fn.sites ++ (block_made (core_items l.scene l.items)).sites)

abbrev pub invariant-guards-loop-branch : goal.invariant-guards-loop-branch
invariant-guards-loop-branch l =
    (l.all ++ all_made (map (core_branch l.scene) (drop l.branch-index l.branches)) ≡ all_made (map (core_branch l.scene) l.branches))
    × (l.sites ++ all_sites (map (core_branch l.scene) (drop l.branch-index l.branches)) ≡ l.fn.sites ++ all_sites (map (core_branch l.scene) l.branches))

abbrev pub invariant-blocks-loop-arm : goal.invariant-blocks-loop-arm
invariant-blocks-loop-arm l =
    (l.all ++ blocks_of (map (core_arm l.scene) (drop l.arm-index l.arms)) ≡ blocks_of (map (core_arm l.scene) l.arms))
    × (l.sites ++ all_sites (map (core_arm l.scene) (drop l.arm-index l.arms)) ≡ l.fn.sites ++ all_sites (map (core_arm l.scene) l.arms))

abbrev pub invariant-co_arms-loop-tree : goal.invariant-co_arms-loop-tree
invariant-co_arms-loop-tree l =
    (l.all ++ all_made (map (core_co_arm l.scene) (drop l.tree-index l.trees)) ≡ all_made (map (core_co_arm l.scene) l.trees))
    × (l.sites ++ all_sites (map (core_co_arm l.scene) (drop l.tree-index l.trees)) ≡ l.fn.sites ++ all_sites (map (core_co_arm l.scene) l.trees))
