-- What there is so far and what the rest adds are what all add.
use Rattle.std.proofs.Common.{drop, fold, ◌+◌, ◌≡◌}
use Rattle.sr_outline.specs.Outline.{with_component}
use Rattle.std.specs.List.{enumerate_from}
use Rattle.sr_outline.proofs.outline.note_components.Given as goal

abbrev pub invariant-loop-component : goal.invariant-loop-component
invariant-loop-component l =
    (l.number ≡ l.first + l.component-index)
    × (fold (with_component l.facts) l.tables (enumerate_from l.number (drop l.component-index l.components)) ≡ fold (with_component l.facts) l.fn.tables (enumerate_from l.first l.components))
