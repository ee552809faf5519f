use Rattle.std.proofs.Common.{◌≡◌, ◌∙◌, arith, subst}
use Rattle.sr_shard.specs.Dividing.{moved_in}
use Rattle.sr_shard.specs.Shards.{opened_part}
use Rattle.sr_shard.proofs.SplitLemmas.{begun_all, begun_more, begun_none, taken_part}
use Rattle.sr_shard.proofs.splitting.shards_of.Goals as goal

pub loop-number-init : goal.loop-number-init
loop-number-init g c = begun_none g.P.Opening.opened c.args.divided c.new-shards.result c.requires c.new-shards.ensures

pub begin-requires-clause-moved : goal.begin-requires-clause-moved
begin-requires-clause-moved g c =
    taken_part g.P.Opening.opened.class (moved_in g.P.Opening.opened.world) c.loop-number.number c.loop-number.divided c.take-portion.result (omega arith) c.loop-number.invariant.from c.take-portion.ensures.taken

pub loop-number-preserved : goal.loop-number-preserved
loop-number-preserved g c =
    begun_more g.P.Opening.opened c.loop-number.number c.loop-number.divided c.take-portion.new.self c.loop-number.shards c.push.new.self c.begin.result c.loop-number.invariant c.take-portion.ensures.others
    (let same = c.take-portion.ensures.taken.number in record {
      number = c.begin.ensures.number ∙ same;
      journal = c.begin.ensures.journal;
      present = subst (λ n. c.begin.result.present ≡ opened_part g.P.Opening.opened n) same c.begin.ensures.present;
    })
    c.in_ok-push.ensures.ok

pub returns : goal.returns
returns g c = begun_all g.P.Opening.opened c.loop-number.number c.loop-number.divided c.loop-number.shards c.loop-number.invariant (omega arith)
