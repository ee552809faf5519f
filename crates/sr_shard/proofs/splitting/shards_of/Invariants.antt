use Rattle.sr_shard.proofs.SplitLemmas.{Begun}
use Rattle.sr_shard.proofs.splitting.shards_of.Given as goal

abbrev pub invariant-loop-number : goal.invariant-loop-number
invariant-loop-number g l = Begun g.P.Opening.opened l.number l.divided l.shards
