-- What was noted so far and what the rest adds are what the whole list adds.
use Rattle.std.proofs.Common.{◌≡◌, drop}
use Rattle.sr_names.specs.Diagnostics.{all_noted}
use Rattle.sr_scope.specs.Items.{served_twice}
use Rattle.sr_scope.proofs.items.serve_items.Given as goal

abbrev pub invariant-loop-item : goal.invariant-loop-item
invariant-loop-item l = all_noted l.diagnostics (served_twice (drop l.item-index l.items) l.place l.blocks l.served) ≡ all_noted l.fn.diagnostics (served_twice l.items l.place l.blocks l.fn.served)
