-- The scope and what was noted so far, and what the rest adds, are what the whole list adds.
use Rattle.std.proofs.Common.{◌≡◌, drop}
use Rattle.sr_names.specs.Diagnostics.{all_noted}
use Rattle.sr_scope.specs.Declares.{names_declared, names_twice}
use Rattle.sr_scope.proofs.declares.declare_names.Given as goal

abbrev pub invariant-loop-name : goal.invariant-loop-name
invariant-loop-name l =
    (names_declared l.sort ((drop l.name-index l.names)) l.table ≡ names_declared l.sort (l.names) l.fn.table)
    × (all_noted l.diagnostics (names_twice l.sort ((drop l.name-index l.names)) l.table) ≡ all_noted l.fn.diagnostics (names_twice l.sort (l.names) l.fn.table))
