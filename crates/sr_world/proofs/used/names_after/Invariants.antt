use Rattle.std.proofs.Common.{◌≡◌, length}
use Rattle.sr_world.specs.Names.{names_after}
use Rattle.sr_world.proofs.used.names_after.Given as goal

abbrev pub invariant-loop-rest : goal.invariant-loop-rest
invariant-loop-rest l = names_after l.rest l.name ≡ names_after l.names l.name

abbrev pub decreases-loop-rest : goal.decreases-loop-rest
decreases-loop-rest l = length l.rest
