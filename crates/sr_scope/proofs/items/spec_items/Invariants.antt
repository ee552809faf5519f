-- The place is the same but for what is declared, and what was noted so far and what the rest adds are what the whole list adds.
use Rattle.std.proofs.Common.{◌≡◌, drop}
use Rattle.sr_names.specs.Diagnostics.{all_noted}
use Rattle.sr_scope.specs.Items.{inside, specs_found}
use Rattle.sr_scope.proofs.items.spec_items.Given as goal

abbrev pub invariant-loop-item : goal.invariant-loop-item
invariant-loop-item l =
    (l.place ≡ inside l.fn.place l.place.within)
    × (all_noted l.diagnostics (specs_found (drop l.item-index l.items) l.fn.place l.blocks) ≡ all_noted l.fn.diagnostics (specs_found l.items l.fn.place l.blocks))
