-- The place is the same but for what is declared, and what was noted so far and what the rest adds are what the whole list adds.
use Rattle.std.proofs.Common.{◌≡◌, drop}
use Rattle.sr_names.specs.Diagnostics.{all_noted}
use Rattle.sr_scope.specs.Items.{inside, items_found}
use Rattle.sr_scope.proofs.items.items.Given as goal

abbrev pub invariant-loop-each : goal.invariant-loop-each
invariant-loop-each l =
    (l.place ≡ inside l.fn.place l.place.within)
    × (l.blocks ≡ l.fn.blocks)
    × (all_noted l.diagnostics (items_found (drop l.each-index l.items) l.fn.place l.fn.blocks) ≡ all_noted l.fn.diagnostics (items_found l.items l.fn.place l.fn.blocks))
