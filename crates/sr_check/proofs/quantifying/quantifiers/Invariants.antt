-- What is declared and what was noted so far, and what the rest adds, are what all add.
use Rattle.std.proofs.Common.{◌≡◌, drop}
use Rattle.sr_names.specs.Diagnostics.{all_noted}
use Rattle.sr_check.specs.Quantifying.{quantifiers_found, quantifiers_known}
use Rattle.sr_check.proofs.quantifying.quantifiers.Given as goal

abbrev pub invariant-loop-tree : goal.invariant-loop-tree
invariant-loop-tree l = record {
  known : quantifiers_known l.facts (drop l.tree-index l.trees) ≡ quantifiers_known l.fn.facts l.trees;
  noted : all_noted l.diagnostics (quantifiers_found l.facts (drop l.tree-index l.trees)) ≡ all_noted l.fn.diagnostics (quantifiers_found l.fn.facts l.trees);
}
