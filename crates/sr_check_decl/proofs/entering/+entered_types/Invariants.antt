-- What is read so far and what the rest give are what all formals give, and so are the signatures.
use Rattle.std.proofs.Common.{◌≡◌, ◌++◌, drop}
use Rattle.sr_check_decl.specs.Entering.{formals_read_in}
use Rattle.sr_check_decl.proofs.entering.+entered_types.Given as goal

abbrev pub invariant-enter_formals-loop-tree : goal.invariant-enter_formals-loop-tree
invariant-enter_formals-loop-tree l = record {
  facts : (formals_read_in (drop l.tree-index l.trees) l.facts).facts ≡ (formals_read_in l.trees l.fn.facts).facts;
  read : l.params ++ (formals_read_in (drop l.tree-index l.trees) l.facts).read ≡ (formals_read_in l.trees l.fn.facts).read;
}
