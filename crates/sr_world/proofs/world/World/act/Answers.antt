use Rattle.std.proofs.Common.{subst, sym}
use Rattle.sr_world.specs.Acting.{Acts}
use Rattle.sr_world.specs.Steps.{done_by}
use Rattle.sr_world.proofs.world.World.act.Goals as goal

pub returns-in-Reply : goal.returns-in-Reply
returns-in-Reply c =
    subst (λ r. Acts (done_by c.args.core.now c.args.self.now c.args.actor c.args.name c.args.ask.now.place c.args.ask.now.role r) c.args.self.now c.reply.new.self c.reply.result) (sym c.in-Reply.is) c.reply.ensures
