use Rattle.std.proofs.Common.{◌≡◌, map, take}
use Rattle.sr_world.specs.Parts.{home_in}
use Rattle.sr_world.proofs.places.homes.Given as goal

abbrev pub invariant-loop-global : goal.invariant-loop-global
invariant-loop-global l = l.homes ≡ map (home_in l.places l.machine) (take l.global-index l.imports)
