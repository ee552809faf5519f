use Rattle.sr_races.proofs.FollowLemmas.{asked-for, never-asked, walked-asked}
use Rattle.sr_replay.proofs.CrewLemmas.{if_ok}
use Rattle.sr_races.proofs.walk.Walk.follow_step.Goals as goal

pub returns-in-Some-clause-grows : goal.returns-in-Some-clause-grows
returns-in-Some-clause-grows g c = if_ok c.follow_ask.result (λ legal grows is. record { clocks = (grows is).clocks; entries = (grows is).entries }) c.follow_ask.ensures.grows

pub returns-in-Some-clause-walks : goal.returns-in-Some-clause-walks
returns-in-Some-clause-walks g c = λ r is core walked.
    let after = g.A.Actor.asks_after c.args.program.now in
    let k = g.A.Actor.core_of c.args.program.now in
    c.follow_ask.ensures.walks r is core
    (asked-for after r c.args.place k core c.args.process c.args.self.now.replayer walked.at c.in_ok-asked.asked c.in_ok-asked.ensures.asks c.in-Some.ask c.in-Some.is)
    (walked-asked after r c.args.place k core c.args.self.now c.asked.new.self c.asked.ensures.ending c.in_ok-asked.ensures.stands walked)

pub returns-in-None-clause-walks : goal.returns-in-None-clause-walks
returns-in-None-clause-walks g c = λ r is core walked.
    never-asked (g.A.Actor.asks_after c.args.program.now) r c.args.place (g.A.Actor.core_of c.args.program.now) core c.args.process c.args.self.now.replayer walked.at c.in_ok-asked.asked c.in_ok-asked.ensures.asks
    c.args.name is c.in-None.is
