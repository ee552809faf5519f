-- The outer scopes are as before, and what was noted so far and what the rest adds are what the whole list adds.
use Rattle.std.proofs.Common.{◌≡◌, drop}
use Rattle.sr_names.specs.Diagnostics.{all_noted}
use Rattle.sr_scope.specs.Procs.{proc_items_found}
use Rattle.sr_scope.proofs.procs.proc_items.Given as goal

abbrev pub invariant-loop-item : goal.invariant-loop-item
invariant-loop-item l =
    (l.blocks.outer ≡ l.fn.blocks.outer)
    × (all_noted l.diagnostics (proc_items_found (drop l.item-index l.items) l.place l.blocks) ≡ all_noted l.fn.diagnostics (proc_items_found l.items l.place l.fn.blocks))
