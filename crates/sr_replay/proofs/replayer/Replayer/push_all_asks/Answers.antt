use Rattle.std.proofs.Common.{◌∙◌, arith}
use Rattle.sr_replay.proofs.AskLemmas.{pieces-more}
use Rattle.sr_replay.specs.Replaying.{asked_by}
use Rattle.sr_world.specs.Worlds.{started}
use Rattle.sr_replay.proofs.replayer.Replayer.push_all_asks.Goals as goal

pub loop-process-preserved : goal.loop-process-preserved
loop-process-preserved g c = record {
  asks = λ limit state stands.
      pieces-more (λ process. asked_by (g.A.Actor.core_of c.args.program.now) limit state (started state.world process)) c.args.asks.now c.loop-process.asks c.push_asks.new.asks c.args.processes.now c.loop-process.process-index _
      (omega arith) (c.loop-process.invariant.asks limit state stands) (c.in_ok-push_asks.ensures.asks limit state (c.loop-process.invariant.stands limit state stands));
  stands = λ limit state stands. c.in_ok-push_asks.ensures.stands limit state (c.loop-process.invariant.stands limit state stands);
  ending = c.push_asks.ensures.ending ∙ c.loop-process.invariant.ending;
  world = c.push_asks.ensures.world ∙ c.loop-process.invariant.world;
}
