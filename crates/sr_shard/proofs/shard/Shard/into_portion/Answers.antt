use Rattle.std.proofs.Common.{subst}
use Rattle.sr_shard.specs.Shards.{IsReplay, Sharded}
use Rattle.sr_shard.proofs.ShardLemmas.{present_part}
use Rattle.sr_shard.proofs.shard.Shard.into_portion.Goals as goal

pub returns-clause-part : goal.returns-clause-part
returns-clause-part g c =
    let opened = g.P.Opening.opened in
    present_part opened c.args.self (subst (λ (shard : Sharded). IsReplay opened shard) c.self.view_is c.self.invariant.0)
