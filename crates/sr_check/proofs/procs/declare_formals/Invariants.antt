-- What is declared so far and what the rest declares are what all declare.
use Rattle.std.proofs.Common.{◌≡◌, drop}
use Rattle.sr_check.specs.Components.{quantifiers_formal}
use Rattle.sr_check.proofs.procs.declare_formals.Given as goal

abbrev pub invariant-loop-tree : goal.invariant-loop-tree
invariant-loop-tree l = quantifiers_formal (drop l.tree-index l.trees) l.facts ≡ quantifiers_formal l.trees l.fn.facts
