-- The scope and what was noted so far, and what the rest adds, are what the whole list adds.
use Rattle.std.proofs.Common.{◌≡◌, drop, map}
use Rattle.sr_names.specs.declared.meaning.Sort.TheVariants.{Operation}
use Rattle.sr_names.specs.Diagnostics.{all_noted}
use Rattle.sr_scope.specs.Declares.{names_declared, names_twice, op_name}
use Rattle.sr_scope.proofs.declares.declare_operations.Given as goal

abbrev pub invariant-loop-item : goal.invariant-loop-item
invariant-loop-item l =
    (names_declared Operation (map op_name (drop l.item-index l.items)) l.table ≡ names_declared Operation (map op_name l.items) l.fn.table)
    × (all_noted l.diagnostics (names_twice Operation (map op_name (drop l.item-index l.items)) l.table) ≡ all_noted l.fn.diagnostics (names_twice Operation (map op_name l.items) l.fn.table))
