use Rattle.sr_world.proofs.NameLemmas.{needs_new}
use Rattle.sr_world.proofs.world.World.is_new.Goals as goal

pub returns-clause-needed : goal.returns-clause-needed
returns-clause-needed c = λ yes. needs_new c.args.self.now c.args.name (c.is_unused.ensures.0 yes)
