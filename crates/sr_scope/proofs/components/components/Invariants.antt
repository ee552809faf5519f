-- The program is the same, and what was noted so far and what the rest adds are what the whole list adds.
use Rattle.std.proofs.Common.{◌≡◌, drop}
use Rattle.sr_names.specs.Diagnostics.{all_noted}
use Rattle.sr_scope.specs.Components.{components_found}
use Rattle.sr_scope.proofs.components.components.Given as goal

abbrev pub invariant-loop-each : goal.invariant-loop-each
invariant-loop-each l =
    (l.place.components ≡ l.fn.place.components)
    × (l.place.specs ≡ l.fn.place.specs)
    × (all_noted l.diagnostics (components_found l.fn.place.components l.fn.place.specs (drop l.each-index l.components)) ≡ all_noted l.fn.diagnostics (components_found l.fn.place.components l.fn.place.specs l.components))
