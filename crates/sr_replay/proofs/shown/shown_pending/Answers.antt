use Rattle.sr_replay.proofs.ShownLemmas.{next-taken}
use Rattle.sr_replay.proofs.shown.shown_pending.Goals as goal

pub loop-place-preserved : goal.loop-place-preserved
loop-place-preserved c = next-taken c.args.queue.now.items c.loop-place.place c.at.result.now c.in_ok-pending.pending c.loop-place.shown c.push.new.self c.at.ensures c.in_ok-pending.ensures c.loop-place.invariant c.in_ok-push.ensures.ok
