use Rattle.std.proofs.Common.{length}
use Rattle.sr_shard.proofs.SplitLemmas.{Gathered}
use Rattle.sr_shard.proofs.splitting.together.Given as goal

abbrev pub invariant-putting : goal.invariant-putting
invariant-putting g l = Gathered g.P.Opening.opened.class l.fn.shards l.shards l.divided

abbrev pub decreases-putting : goal.decreases-putting
decreases-putting g l = length l.shards
