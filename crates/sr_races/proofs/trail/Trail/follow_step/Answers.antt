-- What the process asks, if it lives.
use Rattle.sr_races.proofs.FollowLemmas.{asked-for, never-asked}
use Rattle.sr_races.proofs.TraceLemmas.{trailed-asked}
use Rattle.sr_races.proofs.trail.Trail.follow_step.Goals as goal

pub returns-in-Some : goal.returns-in-Some
returns-in-Some g c = λ r is core trailed.
    let after = g.A.Actor.asks_after c.args.program.now in
    let k = g.A.Actor.core_of c.args.program.now in
    c.follow_ask.ensures r is core
    (asked-for after r c.args.place k core c.args.process c.args.self.now.replayer trailed.at c.in_ok-asked.asked c.in_ok-asked.ensures.asks c.in-Some.ask c.in-Some.is)
    (trailed-asked after r c.args.place k core c.args.self.now c.asked.new.self c.asked.ensures.ending c.in_ok-asked.ensures.stands trailed)

pub returns-in-None : goal.returns-in-None
returns-in-None g c = λ r is core trailed.
    never-asked (g.A.Actor.asks_after c.args.program.now) r c.args.place (g.A.Actor.core_of c.args.program.now) core c.args.process c.args.self.now.replayer trailed.at c.in_ok-asked.asked c.in_ok-asked.ensures.asks
    c.args.name is c.in-None.is
