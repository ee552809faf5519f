use Rattle.std.proofs.Common.{subst, sym}
use Rattle.sr_shard.specs.Presents.{IsNewcomer}
use Rattle.sr_shard.specs.declared.change.Change.{Change}
use Rattle.sr_shard.proofs.ReadyLemmas.{all_ready, newcomer_at, newcomers_kept, ready_more, same_then}
use Rattle.sr_shard.proofs.present.Present.reserve_all.Goals as goal

pub reserve-requires : goal.reserve-requires
reserve-requires c =
    let starts = c.loop-change.self.born.starts in
    let changes = c.args.changes.now in
    subst (λ (one : Change). IsNewcomer starts one) (sym c.change-item.is)
    (newcomer_at starts changes c.loop-change.change-index c.change-item.result c.loop-change-test.true
    (newcomers_kept c.args.self.now.born.starts starts changes (sym c.loop-change.invariant.same.born) c.requires))

pub loop-change-preserved : goal.loop-change-preserved
loop-change-preserved c = record {
  same = same_then c.args.self.now c.loop-change.self c.reserve.new.self c.loop-change.invariant.same c.reserve.ensures.same;
  ready = λ base.
      ready_more base c.loop-change.self c.reserve.new.self c.args.changes.now c.loop-change.change-index c.change-item.result c.loop-change-test.true c.change-item.is c.reserve.ensures.kept (c.loop-change.invariant.ready base)
      (c.in_ok-reserve.ensures.ready base);
}

pub returns-clause-ready : goal.returns-clause-ready
returns-clause-ready c = λ base.
    all_ready base c.loop-change.self c.args.changes.now c.loop-change.change-index c.loop-change-test.false (c.loop-change.invariant.ready base)
