-- What was noted so far and what the rest adds are what the whole list adds.
use Rattle.std.proofs.Common.{◌≡◌, drop}
use Rattle.sr_names.specs.Diagnostics.{all_noted}
use Rattle.sr_scope.specs.Declarations.{op_items_found}
use Rattle.sr_scope.proofs.declarations.operations.Given as goal

abbrev pub invariant-loop-item : goal.invariant-loop-item
invariant-loop-item l = all_noted l.diagnostics (op_items_found (drop l.item-index l.items) l.place l.blocks) ≡ all_noted l.fn.diagnostics (op_items_found l.items l.place l.blocks)
