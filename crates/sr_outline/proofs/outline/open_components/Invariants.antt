-- What there is so far and what the rest adds are what all add.
use Rattle.std.proofs.Common.{drop, flat_map, ◌+◌, ◌≡◌}
use Rattle.sr_outline.specs.Outline.{component_entries}
use Rattle.sr_tables.specs.Tables.{with_entries}
use Rattle.std.specs.List.{enumerate_from}
use Rattle.sr_outline.proofs.outline.open_components.Given as goal

abbrev pub invariant-loop-component : goal.invariant-loop-component
invariant-loop-component l =
    (l.opening.shapes ≡ l.fn.opening.shapes)
    × (l.opening.heads ≡ l.fn.opening.heads)
    × (l.opening.procs ≡ l.fn.opening.procs)
    × (with_entries l.opening.operations (flat_map (component_entries l.facts l.fn.opening.shapes l.fn.opening.heads l.fn.opening.procs) (enumerate_from l.number (drop l.component-index l.components))) ≡ with_entries l.fn.opening.operations (flat_map (component_entries l.facts l.fn.opening.shapes l.fn.opening.heads l.fn.opening.procs) (enumerate_from l.first l.components)))
    × (l.number ≡ l.first + l.component-index)
