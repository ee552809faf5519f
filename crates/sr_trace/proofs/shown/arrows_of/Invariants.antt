-- The arrows of all rows that came are there.
use Rattle.std.proofs.Common.{◌≡◌, take}
use Rattle.std.specs.Prelude.{flat_map}
use Rattle.sr_trace.specs.Shown.{arrows_to}
use Rattle.sr_trace.proofs.shown.arrows_of.Given as goal

abbrev pub invariant-loop-row : goal.invariant-loop-row
invariant-loop-row l = l.arrows ≡ flat_map arrows_to (take l.row-index l.rows)
