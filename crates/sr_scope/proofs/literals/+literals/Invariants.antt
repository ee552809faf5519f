-- The scope and what was noted so far, and what the rest adds, are what the whole list adds.
use Rattle.std.proofs.Common.{◌≡◌, drop}
use Rattle.sr_names.specs.declared.meaning.Sort.TheVariants.{Literal}
use Rattle.sr_names.specs.Diagnostics.{all_noted}
use Rattle.sr_scope.specs.Declares.{names_declared, names_twice}
use Rattle.sr_scope.specs.Literals.{formals_literals}
use Rattle.sr_scope.proofs.literals.+literals.Given as goal

abbrev pub invariant-declare_in_formals-loop-formal : goal.invariant-declare_in_formals-loop-formal
invariant-declare_in_formals-loop-formal l =
    (names_declared Literal (formals_literals (drop l.formal-index l.formals)) l.table ≡ names_declared Literal (formals_literals l.formals) l.fn.table)
    × (all_noted l.diagnostics (names_twice Literal (formals_literals (drop l.formal-index l.formals)) l.table) ≡ all_noted l.fn.diagnostics (names_twice Literal (formals_literals l.formals) l.fn.table))
