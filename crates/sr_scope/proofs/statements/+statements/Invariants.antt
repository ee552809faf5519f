-- The scopes are as before, and what was noted so far and what the rest adds are what the whole list adds.
use Rattle.std.proofs.Common.{◌≡◌, ◌∷◌, ◌++◌, [], drop, map}
use Rattle.sr_names.specs.Diagnostics.{all_noted}
use Rattle.sr_scope.specs.Exprs.{all_found}
use Rattle.sr_scope.specs.Statements.{steps_found, block_found, item_read, arm_found, branch_found, co_arm_found}
use Rattle.sr_scope.proofs.statements.+statements.Given as goal

abbrev pub invariant-block-loop-item : goal.invariant-block-loop-item
invariant-block-loop-item l =
    (l.blocks.outer ≡ l.fn.blocks.outer ++ l.fn.blocks.inner ∷ [])
    × (all_noted l.diagnostics (steps_found (map item_read (drop l.item-index l.items)) l.place l.blocks) ≡ all_noted l.fn.diagnostics (block_found (map item_read l.items) l.place l.fn.blocks))

abbrev pub invariant-branches-loop-branch : goal.invariant-branches-loop-branch
invariant-branches-loop-branch l =
    (l.blocks ≡ l.fn.blocks)
    × (all_noted l.diagnostics (all_found (map branch_found (drop l.branch-index l.branches)) l.place l.fn.blocks) ≡ all_noted l.fn.diagnostics (all_found (map branch_found l.branches) l.place l.fn.blocks))

abbrev pub invariant-arms-loop-each : goal.invariant-arms-loop-each
invariant-arms-loop-each l =
    (l.blocks ≡ l.fn.blocks)
    × (all_noted l.diagnostics (all_found (map arm_found (drop l.each-index l.arms)) l.place l.fn.blocks) ≡ all_noted l.fn.diagnostics (all_found (map arm_found l.arms) l.place l.fn.blocks))

abbrev pub invariant-co_arms-loop-each : goal.invariant-co_arms-loop-each
invariant-co_arms-loop-each l =
    (l.blocks ≡ l.fn.blocks)
    × (all_noted l.diagnostics (all_found (map co_arm_found (drop l.each-index l.arms)) l.place l.fn.blocks) ≡ all_noted l.fn.diagnostics (all_found (map co_arm_found l.arms) l.place l.fn.blocks))
