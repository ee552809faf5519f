use Rattle.sr_shard.proofs.ReadyLemmas.{made_all, making_all, making_more, ready_first, shorter}
use Rattle.sr_shard.proofs.present.Present.make_all.Goals as goal

pub making-init : goal.making-init
making-init c = making_all c.args.standing.now c.args.self.now c.args.changes c.requires.apart c.requires.ready

pub make-requires : goal.make-requires
make-requires c = ready_first c.args.standing.now c.args.self.now c.args.changes c.making.self c.making.changes c.remove-change.result c.making.invariant c.remove-change.ensures.item

pub making-preserved : goal.making-preserved
making-preserved c =
    making_more c.args.standing.now c.args.self.now c.args.changes c.making.self c.make.new.self c.making.changes c.remove-change.new.self c.remove-change.result c.making.invariant c.remove-change.ensures.item
    c.remove-change.ensures.others c.make.ensures

pub making-smaller : goal.making-smaller
making-smaller c = shorter c.making.changes c.remove-change.new.self c.remove-change.result c.remove-change.ensures.item c.remove-change.ensures.others

pub returns-clause-present : goal.returns-clause-present
returns-clause-present c = λ base is.
    made_all c.args.standing.now c.args.self.now c.args.changes c.making.self c.making.changes c.making.invariant (c.is_empty.ensures.0 c.making-test.false) base is
