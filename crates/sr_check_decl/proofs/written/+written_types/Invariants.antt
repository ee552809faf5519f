-- What was noted so far and what the rest adds are what all formals add, and so are the answers.
use Rattle.std.proofs.Common.{◌≡◌, ◌++◌, map, drop}
use Rattle.sr_names.specs.Diagnostics.{all_noted}
use Rattle.sr_check_decl.specs.TypeTrees.{formal_read, formals_at, formals_found, all_params}
use Rattle.sr_check_decl.proofs.written.+written_types.Given as goal

abbrev pub invariant-all_formals-loop-tree : goal.invariant-all_formals-loop-tree
invariant-all_formals-loop-tree l = record {
  noted : all_noted l.diagnostics (formals_found (formals_at (map formal_read (drop l.tree-index l.trees)) l.facts l.is_field)) ≡ all_noted l.fn.diagnostics (formals_found (formals_at (map formal_read l.trees) l.facts l.is_field));
  value : l.params ++ all_params (formals_at (map formal_read (drop l.tree-index l.trees)) l.facts l.is_field) ≡ all_params (formals_at (map formal_read l.trees) l.facts l.is_field);
}
