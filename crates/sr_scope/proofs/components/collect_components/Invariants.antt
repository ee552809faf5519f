-- The place and what was noted so far, and what the rest adds, are what the whole list adds.
use Rattle.std.proofs.Common.{◌≡◌, drop}
use Rattle.sr_names.specs.Diagnostics.{all_noted}
use Rattle.sr_scope.specs.Components.{all_collected, all_collected_twice}
use Rattle.sr_scope.proofs.components.collect_components.Given as goal

abbrev pub invariant-loop-component : goal.invariant-loop-component
invariant-loop-component l =
    (all_collected (drop l.component-index l.components) l.place ≡ all_collected l.components l.fn.place)
    × (all_noted l.diagnostics (all_collected_twice (drop l.component-index l.components) l.place) ≡ all_noted l.fn.diagnostics (all_collected_twice l.components l.fn.place))
