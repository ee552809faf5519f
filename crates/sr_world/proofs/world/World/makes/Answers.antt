use Rattle.std.proofs.Common.{sym, ◌∙◌}
use Rattle.sr_world.proofs.DecideLemmas.{makes_is}
use Rattle.sr_world.proofs.world.World.makes.Goals as goal

pub returns : goal.returns
returns c = λ actor name. c.makes_some.ensures ∙ sym (makes_is c.args.core.now c.args.ask.now.place name c.args.self.now actor c.args.ask.now.role c.args.ask.now.request)
