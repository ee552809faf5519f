use Rattle.std.proofs.Common.{sym, ◌∙◌}
use Rattle.sr_world.proofs.DecideLemmas.{waits_is}
use Rattle.sr_world.proofs.world.World.wants_input.Goals as goal

pub returns : goal.returns
returns c = λ core actor name. c.awaits_input.ensures ∙ sym (waits_is core c.args.ask.now.place name c.args.self.now actor c.args.ask.now.role c.args.ask.now.request)
