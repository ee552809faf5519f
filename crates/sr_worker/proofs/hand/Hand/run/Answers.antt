use Rattle.sr_actor.proofs.CrewLemmas.{on_ok}
use Rattle.sr_worker.proofs.Loops.{both_ok, none-passed}
use Rattle.sr_worker.proofs.hand.Hand.run.Goals as goal

pub returns-clause-playing : goal.returns-clause-playing
returns-clause-playing g c = on_ok c.work.result (λ works plays playing. works.playing c.requires.apart plays playing) c.work.ensures.works

pub returns-clause-none : goal.returns-clause-none
returns-clause-none g c =
    both_ok c.work.result (λ works idle same unspent. none-passed (g.A.Actor.asks_after c.args.program.now) (g.D.Desk.declines c.args.desk.now) (g.D.Desk.rests c.args.desk.now) (g.D.Desk.made c.args.desk.now) c.args.self.now c.work.new.self c.work.new.seat works idle same unspent) c.work.ensures.works c.work.ensures.idle
