-- What there is so far and what the rest adds are what all add.
use Rattle.std.proofs.Common.{drop, map, ◌≡◌}
use Rattle.sr_outline.specs.Numbers.{arm_sites, block_sites, branch_sites, co_arm_sites}
use Rattle.sr_tables.specs.Lists.{lists}
use Rattle.sr_tables.specs.Tables.{with_spots}
use Rattle.sr_outline.proofs.waits.+sites.Given as goal

abbrev pub invariant-note_block-loop-item : goal.invariant-note_block-loop-item
invariant-note_block-loop-item l = with_spots l.sites (block_sites l.facts (drop l.item-index l.block)) ≡ with_spots l.fn.sites (block_sites l.facts l.block)

abbrev pub invariant-note_branches-loop-branch : goal.invariant-note_branches-loop-branch
invariant-note_branches-loop-branch l = with_spots l.sites (lists (map (branch_sites l.facts) (drop l.branch-index l.branches))) ≡ with_spots l.fn.sites (lists (map (branch_sites l.facts) l.branches))

abbrev pub invariant-note_arms-loop-arm : goal.invariant-note_arms-loop-arm
invariant-note_arms-loop-arm l = with_spots l.sites (lists (map (arm_sites l.facts) (drop l.arm-index l.arms))) ≡ with_spots l.fn.sites (lists (map (arm_sites l.facts) l.arms))

abbrev pub invariant-note_co_arms-loop-arm : goal.invariant-note_co_arms-loop-arm
invariant-note_co_arms-loop-arm l = with_spots l.sites (lists (map (co_arm_sites l.facts) (drop l.arm-index l.arms))) ≡ with_spots l.fn.sites (lists (map (co_arm_sites l.facts) l.arms))
