use Rattle.sr_world.specs.Parts.{AreUsedBelow}
use Rattle.sr_world.proofs.used.first_unused.Given as goal

abbrev pub invariant-loop-name : goal.invariant-loop-name
invariant-loop-name l = AreUsedBelow l.names l.name-counter
