-- What there is so far and what the rest adds are what all add.
use Rattle.std.proofs.Common.{drop, ◌++◌, ◌≡◌}
use Rattle.sr_outline.specs.Outline.{enumerations_of}
use Rattle.sr_outline.proofs.outline.push_all_literals.Given as goal

abbrev pub invariant-loop-component : goal.invariant-loop-component
invariant-loop-component l = l.names ++ enumerations_of (drop l.component-index l.components) ≡ l.fn.names ++ enumerations_of l.components
