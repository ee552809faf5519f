-- The cells so far.
use Rattle.std.proofs.Common.{◌≡◌, take}
use Rattle.std.specs.Prelude.{filter_map}
use Rattle.sr_races.specs.Accesses.{cell_in}
use Rattle.sr_races.proofs.access.push_cells.Given as goal

abbrev pub invariant-loop-one : goal.invariant-loop-one
invariant-loop-one l = l.found ≡ filter_map cell_in (take l.one-index l.seen)
