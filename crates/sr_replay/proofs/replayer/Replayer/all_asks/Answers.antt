use Rattle.std.proofs.Common.{◌∙◌}
use Rattle.sr_replay.proofs.AskLemmas.{all-asked}
use Rattle.sr_replay.proofs.replayer.Replayer.all_asks.Goals as goal

pub returns-clause-asks : goal.returns-clause-asks
returns-clause-asks g c = λ limit state stands.
    all-asked (g.A.Actor.core_of c.args.program.now) limit state stands.valid c.args.self.now.world stands.world c.as_slice.result.now (c.as_slice.ensures ∙ c.in_ok-processes.ensures) c.new-asks.result c.push_all_asks.new.asks
    c.new-asks.ensures (c.in_ok-push_all_asks.ensures.asks limit state stands)
