-- The scope and what was noted so far, and what the rest adds, are what the whole list adds.
use Rattle.std.proofs.Common.{◌≡◌, drop}
use Rattle.sr_names.specs.declared.meaning.Sort.TheVariants.{Variable}
use Rattle.sr_names.specs.Diagnostics.{all_noted}
use Rattle.sr_scope.specs.Declares.{names_declared, names_twice}
use Rattle.sr_scope.specs.Procs.{quantifier_names}
use Rattle.sr_scope.proofs.procs.declare_quantified.Given as goal

abbrev pub invariant-loop-quantifier : goal.invariant-loop-quantifier
invariant-loop-quantifier l =
    (names_declared Variable (quantifier_names (drop l.quantifier-index l.quantifiers)) l.table ≡ names_declared Variable (quantifier_names l.quantifiers) l.fn.table)
    × (all_noted l.diagnostics (names_twice Variable (quantifier_names (drop l.quantifier-index l.quantifiers)) l.table) ≡ all_noted l.fn.diagnostics (names_twice Variable (quantifier_names l.quantifiers) l.fn.table))
