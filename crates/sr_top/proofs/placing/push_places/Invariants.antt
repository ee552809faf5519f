-- The lines of all that came are there.
use Rattle.std.proofs.Common.{◌≡◌, ◌++◌, take}
use Rattle.std.specs.Prelude.{flat_map}
use Rattle.sr_top.specs.Placing.{place_line}
use Rattle.sr_top.proofs.placing.push_places.Given as goal

abbrev pub invariant-loop-process : goal.invariant-loop-process
invariant-loop-process l = l.text ≡ l.fn.text ++ flat_map (place_line l.names) (take l.process-index l.processes)
