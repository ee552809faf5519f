-- What there is so far and what the rest adds are what all add.
use Rattle.std.proofs.Common.{drop, flat_map, ◌≡◌}
use Rattle.sr_outline.specs.Outline.{component_entries}
use Rattle.sr_tables.specs.Parts.{components_in}
use Rattle.sr_tables.specs.Tables.{with_entries}
use Rattle.std.specs.List.{enumerate_from}
use Rattle.sr_outline.proofs.outline.open_all.Given as goal

abbrev pub invariant-loop-file : goal.invariant-loop-file
invariant-loop-file l =
    (l.opening.shapes ≡ l.fn.opening.shapes)
    × (l.opening.heads ≡ l.fn.opening.heads)
    × (l.opening.procs ≡ l.fn.opening.procs)
    × (with_entries l.opening.operations (flat_map (component_entries l.facts l.fn.opening.shapes l.fn.opening.heads l.fn.opening.procs) (enumerate_from l.number (components_in (drop l.file-index l.files)))) ≡ with_entries l.fn.opening.operations (flat_map (component_entries l.facts l.fn.opening.shapes l.fn.opening.heads l.fn.opening.procs) (enumerate_from 0 (components_in l.files))))
