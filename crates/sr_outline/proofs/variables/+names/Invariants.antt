-- What there is so far and what the rest adds are what all add.
use Rattle.std.proofs.Common.{drop, map, ◌≡◌}
use Rattle.sr_outline.specs.Numbers.{arm_in, branch_in, co_arm_in, item_in}
use Rattle.sr_tables.specs.Lists.{lists}
use Rattle.sr_tables.specs.Tables.{with_spots}
use Rattle.sr_outline.proofs.variables.+names.Given as goal

abbrev pub invariant-note_block-loop-item : goal.invariant-note_block-loop-item
invariant-note_block-loop-item l = with_spots l.names (lists (map (item_in l.facts) (drop l.item-index l.block))) ≡ with_spots l.fn.names (lists (map (item_in l.facts) l.block))

abbrev pub invariant-note_branches-loop-branch : goal.invariant-note_branches-loop-branch
invariant-note_branches-loop-branch l = with_spots l.names (lists (map (branch_in l.facts) (drop l.branch-index l.branches))) ≡ with_spots l.fn.names (lists (map (branch_in l.facts) l.branches))

abbrev pub invariant-note_arms-loop-arm : goal.invariant-note_arms-loop-arm
invariant-note_arms-loop-arm l = with_spots l.names (lists (map (arm_in l.facts) (drop l.arm-index l.arms))) ≡ with_spots l.fn.names (lists (map (arm_in l.facts) l.arms))

abbrev pub invariant-note_co_arms-loop-arm : goal.invariant-note_co_arms-loop-arm
invariant-note_co_arms-loop-arm l = with_spots l.names (lists (map (co_arm_in l.facts) (drop l.arm-index l.arms))) ≡ with_spots l.fn.names (lists (map (co_arm_in l.facts) l.arms))
