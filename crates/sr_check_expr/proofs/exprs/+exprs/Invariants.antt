-- What was noted so far and what the rest adds are what the whole list adds, and so are the answers.
use Rattle.std.proofs.Common.{◌≡◌, ◌++◌, map, drop}
use Rattle.sr_names.specs.Diagnostics.{all_noted}
use Rattle.sr_check_expr.specs.Arguments.{all_found}
use Rattle.sr_check_expr.specs.Exprs.{infer_expr, infer_part, infer_all, infer_parts, parts_found, repeated}
use Rattle.sr_check_expr.specs.Typings.{typed_exprs_of}
use Rattle.sr_check_expr.proofs.exprs.+exprs.Given as goal

abbrev pub invariant-all-loop-tree : goal.invariant-all-loop-tree
invariant-all-loop-tree l = record {
  noted : all_noted l.diagnostics (all_found (infer_all (map infer_expr (drop l.tree-index l.trees)) l.facts)) ≡ all_noted l.fn.diagnostics (all_found (infer_all (map infer_expr l.trees) l.facts));
  value : l.typed_expr ++ typed_exprs_of (infer_all (map infer_expr (drop l.tree-index l.trees)) l.facts) ≡ typed_exprs_of (infer_all (map infer_expr l.trees) l.facts);
}

abbrev pub invariant-all_parts-loop-tree : goal.invariant-all_parts-loop-tree
invariant-all_parts-loop-tree l = record {
  noted : all_noted l.diagnostics (parts_found (infer_parts (map infer_part (drop l.tree-index l.trees)) l.facts)) ≡ all_noted l.fn.diagnostics (parts_found (infer_parts (map infer_part l.trees) l.facts));
  value : l.repeated ++ map repeated (infer_parts (map infer_part (drop l.tree-index l.trees)) l.facts) ≡ map repeated (infer_parts (map infer_part l.trees) l.facts);
}
