-- The scope and what was noted so far, and what the rest adds, are what the whole list adds.
use Rattle.std.proofs.Common.{◌≡◌, drop}
use Rattle.sr_names.specs.Diagnostics.{all_noted}
use Rattle.sr_scope.specs.Items.{items_declared, items_twice}
use Rattle.sr_scope.proofs.items.declare_items.Given as goal

abbrev pub invariant-loop-item : goal.invariant-loop-item
invariant-loop-item l =
    (items_declared (drop l.item-index l.items) l.table ≡ items_declared l.items l.fn.table)
    × (all_noted l.diagnostics (items_twice (drop l.item-index l.items) l.table) ≡ all_noted l.fn.diagnostics (items_twice l.items l.fn.table))
