use Rattle.sr_plain.proofs.BeginLemmas.{on_ok}
use Rattle.sr_plain.proofs.EngineLemmas.{given_engine}
use Rattle.sr_plain.proofs.plain.Plain.give.Goals as goal

pub returns-clause-ok : goal.returns-clause-ok
returns-clause-ok g c =
    on_ok c.give.result
    (λ is program limit state events engine open_input. given_engine (g.A.Actor.asks_after program) g.A.Actor.can_feed (g.A.Actor.core_of program) limit state events c.args.self.now engine open_input c.args.bytes.now c.give.new.self is)
    c.give.ensures.ok
