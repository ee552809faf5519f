-- What there is so far and what the rest adds are what all add.
use Rattle.std.proofs.Common.{drop, ◌≡◌}
use Rattle.std.specs.List.{enumerate_from}
use Rattle.sr_outline.specs.Numbers.{shared_entries}
use Rattle.sr_tables.specs.Tables.{with_entries}
use Rattle.sr_outline.proofs.variables.note_numbered.Given as goal

abbrev pub invariant-loop-spot : goal.invariant-loop-spot
invariant-loop-spot l =
    (l.place ≡ l.spot-index)
    × (with_entries l.shared (shared_entries l.component (enumerate_from l.place (drop l.spot-index l.spots))) ≡ with_entries l.fn.shared (shared_entries l.component (enumerate_from 0 l.spots)))
