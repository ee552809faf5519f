-- What is declared and what was noted so far, and what the rest adds, are what all add.
use Rattle.std.proofs.Common.{◌≡◌, map, drop}
use Rattle.sr_names.specs.Diagnostics.{all_noted}
use Rattle.sr_check.specs.Contexts.{context_of, in_order}
use Rattle.sr_check.specs.Statements.{arms_at, co_arms_at, block_item_read, branch_read, arm_read, co_arm_read}
use Rattle.sr_check.proofs.statements.+statements.Given as goal

abbrev pub invariant-block-loop-item : goal.invariant-block-loop-item
invariant-block-loop-item l = record {
  known : (in_order (map block_item_read (drop l.item-index l.items)) (context_of l.enclosing l.facts)).facts ≡ (in_order (map block_item_read l.items) (context_of l.enclosing l.fn.facts)).facts;
  noted : all_noted l.diagnostics (in_order (map block_item_read (drop l.item-index l.items)) (context_of l.enclosing l.facts)).found ≡ all_noted l.fn.diagnostics (in_order (map block_item_read l.items) (context_of l.enclosing l.fn.facts)).found;
}

abbrev pub invariant-branches-loop-tree : goal.invariant-branches-loop-tree
invariant-branches-loop-tree l = record {
  known : (in_order (map branch_read (drop l.tree-index l.trees)) (context_of l.enclosing l.facts)).facts ≡ (in_order (map branch_read l.trees) (context_of l.enclosing l.fn.facts)).facts;
  noted : all_noted l.diagnostics (in_order (map branch_read (drop l.tree-index l.trees)) (context_of l.enclosing l.facts)).found ≡ all_noted l.fn.diagnostics (in_order (map branch_read l.trees) (context_of l.enclosing l.fn.facts)).found;
}

abbrev pub invariant-arms-loop-tree : goal.invariant-arms-loop-tree
invariant-arms-loop-tree l = record {
  known : (in_order (arms_at l.span (map arm_read (drop l.tree-index l.trees))) (context_of l.enclosing l.facts)).facts ≡ (in_order (arms_at l.span (map arm_read l.trees)) (context_of l.enclosing l.fn.facts)).facts;
  noted : all_noted l.diagnostics (in_order (arms_at l.span (map arm_read (drop l.tree-index l.trees))) (context_of l.enclosing l.facts)).found ≡ all_noted l.fn.diagnostics (in_order (arms_at l.span (map arm_read l.trees)) (context_of l.enclosing l.fn.facts)).found;
}

abbrev pub invariant-co_arms-loop-tree : goal.invariant-co_arms-loop-tree
invariant-co_arms-loop-tree l = record {
  known : (in_order (co_arms_at l.span (map co_arm_read (drop l.tree-index l.trees))) (context_of l.enclosing l.facts)).facts ≡ (in_order (co_arms_at l.span (map co_arm_read l.trees)) (context_of l.enclosing l.fn.facts)).facts;
  noted : all_noted l.diagnostics (in_order (co_arms_at l.span (map co_arm_read (drop l.tree-index l.trees))) (context_of l.enclosing l.facts)).found ≡ all_noted l.fn.diagnostics (in_order (co_arms_at l.span (map co_arm_read l.trees)) (context_of l.enclosing l.fn.facts)).found;
}
