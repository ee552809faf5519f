-- The names so far and those of the rest are those of all.
use Rattle.std.proofs.Common.{◌≡◌, ◌++◌, map, drop}
use Rattle.sr_check_decl.specs.NamesIn.{names_in, names_in_part, concat_spans}
use Rattle.sr_check_decl.proofs.names_in.+names.Given as goal

abbrev pub invariant-push_all-loop-tree : goal.invariant-push_all-loop-tree
invariant-push_all-loop-tree l = l.names ++ concat_spans (map names_in (drop l.tree-index l.trees)) ≡ l.fn.names ++ concat_spans (map names_in l.trees)

abbrev pub invariant-push_parts-loop-tree : goal.invariant-push_parts-loop-tree
invariant-push_parts-loop-tree l = l.names ++ concat_spans (map names_in_part (drop l.tree-index l.trees)) ≡ l.fn.names ++ concat_spans (map names_in_part l.trees)
