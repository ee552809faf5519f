use Rattle.sr_plain.proofs.EngineLemmas.{closed_engine}
use Rattle.sr_plain.proofs.plain.Plain.end_input.Goals as goal

pub returns : goal.returns
returns g c = λ program limit state events engine open_input.
    closed_engine (g.A.Actor.asks_after program) g.A.Actor.can_feed (g.A.Actor.core_of program) limit state events c.args.self.now engine open_input c.end_input.new.self c.end_input.ensures
