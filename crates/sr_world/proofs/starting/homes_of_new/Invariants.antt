use Rattle.std.proofs.Common.{◌≡◌, map, take}
use Rattle.sr_instances.specs.Instances.{with_instance}
use Rattle.sr_world.specs.Parts.{home_in}
use Rattle.sr_world.proofs.starting.homes_of_new.Given as goal

abbrev pub invariant-loop-global : goal.invariant-loop-global
invariant-loop-global l = l.homes ≡ map (home_in (with_instance l.places l.new.name l.new.component l.new.machine) l.new.machine) (take l.global-index l.imports)
