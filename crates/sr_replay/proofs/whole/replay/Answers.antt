use Rattle.std.proofs.Common.{IfOk, List, subst}
use Rattle.sr_ask.specs.declared.item.Item.{Item}
use Rattle.sr_replay.specs.Replays.{Replays}
use Rattle.sr_replay.proofs.whole.replay.Goals as goal

pub returns : goal.returns
returns g c =
    subst (λ (items : List Item). IfOk c.replay_on.result (λ replayed. Replays (g.A.Actor.core_of c.args.program.now) c.args.steps c.args.ticks c.args.input.now items c.args.upto replayed)) c.as_slice.ensures
    (c.replay_on.ensures c.args.ticks c.args.input.now (c.in_ok-replayer.ensures c.args.program.now))
