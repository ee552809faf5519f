-- The spans so far and those of the rest are those of all.
use Rattle.std.proofs.Common.{◌≡◌, ◌++◌, drop}
use Rattle.sr_fmt.specs.Starts.{block_spans, branches_spans, arms_spans, co_arms_spans}
use Rattle.sr_fmt.proofs.starts.+statements.Given as goal

abbrev pub invariant-note_block-loop-item : goal.invariant-note_block-loop-item
invariant-note_block-loop-item l = l.starts ++ block_spans (drop l.item-index l.block) ≡ l.fn.starts ++ block_spans l.block

abbrev pub invariant-note_branches-loop-branch : goal.invariant-note_branches-loop-branch
invariant-note_branches-loop-branch l = l.starts ++ branches_spans (drop l.branch-index l.branches) ≡ l.fn.starts ++ branches_spans l.branches

abbrev pub invariant-note_arms-loop-arm : goal.invariant-note_arms-loop-arm
invariant-note_arms-loop-arm l = l.starts ++ arms_spans (drop l.arm-index l.arms) ≡ l.fn.starts ++ arms_spans l.arms

abbrev pub invariant-note_co_arms-loop-arm : goal.invariant-note_co_arms-loop-arm
invariant-note_co_arms-loop-arm l = l.starts ++ co_arms_spans (drop l.arm-index l.arms) ≡ l.fn.starts ++ co_arms_spans l.arms
