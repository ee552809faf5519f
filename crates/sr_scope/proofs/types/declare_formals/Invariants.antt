-- The scope and what was noted so far, and what the rest adds, are what the whole list adds.
use Rattle.std.proofs.Common.{◌≡◌, drop, map}
use Rattle.sr_names.specs.Diagnostics.{all_noted}
use Rattle.sr_scope.specs.Types.{formals_declared, formals_twice, formal_read}
use Rattle.sr_scope.proofs.types.declare_formals.Given as goal

abbrev pub invariant-loop-formal : goal.invariant-loop-formal
invariant-loop-formal l =
    (formals_declared (map formal_read (drop l.formal-index l.formals)) l.table ≡ formals_declared (map formal_read l.formals) l.fn.table)
    × (all_noted l.diagnostics (formals_twice (map formal_read (drop l.formal-index l.formals)) l.table) ≡ all_noted l.fn.diagnostics (formals_twice (map formal_read l.formals) l.fn.table))
