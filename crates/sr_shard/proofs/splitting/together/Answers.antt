use Rattle.std.proofs.Common.{subst, sym}
use Rattle.sr_shard.proofs.SplitLemmas.{Gathered, gathered_more, gathered_none, in_place, is_gathered}
use Rattle.sr_shard.proofs.splitting.together.Goals as goal

pub putting-init : goal.putting-init
putting-init g c = gathered_none g.P.Opening.opened.class c.args.shards c.empty-divided.result c.empty-divided.ensures.blocks c.empty-divided.ensures.calls c.empty-divided.ensures.queues

pub putting-preserved : goal.putting-preserved
putting-preserved g c =
    subst (λ divided. Gathered g.P.Opening.opened.class c.args.shards c.pop.new.self divided) (sym c.put.ensures)
    (gathered_more g.P.Opening.opened.class c.args.shards c.putting.shards c.pop.new.self c.in-Some.shard c.into_portion.result c.putting.divided c.requires c.putting.invariant c.in-Some.ensures
    c.into_portion.ensures.number c.into_portion.ensures.within c.into_portion.ensures.moved c.into_portion.ensures.part)

pub returns-clause-place : goal.returns-clause-place
returns-clause-place g c = in_place g.P.Opening.opened.class c.args.shards c.putting.shards c.putting.divided c.requires c.putting.invariant c.in_default.ensures.0

pub returns-clause-parts : goal.returns-clause-parts
returns-clause-parts g c = is_gathered g.P.Opening.opened.class c.args.shards c.putting.shards c.putting.divided c.putting.invariant c.in_default.ensures.0
