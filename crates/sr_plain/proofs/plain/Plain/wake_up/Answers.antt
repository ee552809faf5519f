use Rattle.sr_plain.proofs.EngineLemmas.{woken_engine}
use Rattle.sr_plain.proofs.plain.Plain.wake_up.Goals as goal

pub returns-in_ok-wake_up-in-Some-clause-engine : goal.returns-in_ok-wake_up-in-Some-clause-engine
returns-in_ok-wake_up-in-Some-clause-engine g c = λ program limit state events engine.
    woken_engine (g.A.Actor.asks_after program) g.A.Actor.can_feed (g.A.Actor.core_of program) limit state events c.args.self.now engine c.in-Some.woken c.in-Some.is
    (record c.args.self.now { crew = c.let_go.new.crew }) c.let_go.ensures c.wake_up.new.waiters c.in_ok-wake_up-in-Some.ensures
