use Rattle.std.proofs.Common.{◌∙◌}
use Rattle.sr_shard.specs.Dividing.{moved_by, moved_in}
use Rattle.sr_shard.proofs.SplitLemmas.{joined_parts, joined_world}
use Rattle.sr_shard.proofs.splitting.unsplit.Goals as goal

pub returns-clause-joined : goal.returns-clause-joined
returns-clause-joined g c = λ joined is.
    let class = g.P.Opening.opened.class in
    c.take_back.ensures ∙ joined_world class c.args.world.now joined c.args.shards (moved_by c.in_ok-loan.loan) is
    (c.in_ok-loan.ensures class (moved_in joined) is.order (joined_parts class c.args.world.now joined c.args.shards c.together-divided.result c.requires c.together-divided.ensures.parts is))
