use Rattle.std.proofs.Common.{None}
use Rattle.sr_shard.proofs.ShardLemmas.{begun_present, begun_replay}
use Rattle.sr_shard.proofs.shard.Shard.begin.Goals as goal

pub invariant_of-result : goal.invariant_of-result
invariant_of-result g c = (
  begun_replay g.P.Opening.opened c.args.portion c.new.result c.new.ensures.portion c.requires.moved c.new.ensures.present c.new-2.result.items None c.requires.number c.new-2.ensures.items,
  tt,
)

pub returns-clause-present : goal.returns-clause-present
returns-clause-present g c = begun_present g.P.Opening.opened c.args.portion c.new.result c.new.ensures.portion c.requires.moved c.new.ensures.present
