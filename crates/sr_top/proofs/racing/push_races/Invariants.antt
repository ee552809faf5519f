-- The lines of all that came are there.
use Rattle.std.proofs.Common.{◌≡◌, ◌++◌, take}
use Rattle.std.specs.Prelude.{flat_map}
use Rattle.sr_top.specs.Racing.{race_line}
use Rattle.sr_top.proofs.racing.push_races.Given as goal

abbrev pub invariant-loop-race : goal.invariant-loop-race
invariant-loop-race l = l.text ≡ l.fn.text ++ flat_map (race_line l.names) (take l.race-index l.races)
