use Rattle.std.proofs.Common.{◌+◌, subst, sym}
use Rattle.std.specs.Prelude.{slice_set}
use Rattle.sr_queue.proofs.DividingLemmas.{Dealt, deal-all, deal-more}
use Rattle.sr_queue.proofs.dividing.deal.Goals as goal

pub loop-number-preserved : goal.loop-number-preserved
loop-number-preserved c =
    subst (λ left. Dealt c.args.numbers.now (c.loop-number.number-index + 1) (slice_set c.loop-number.queues c.home.result c.append.new.self) left c.args.pending.now.items)
    (sym c.take_out-invocation.ensures.others)
    (deal-more c.args.numbers.now c.loop-number.number-index c.loop-number.queues c.loop-number.pending.items c.args.pending.now.items c.take_out-invocation.result c.home.result
    c.index-queues-home.result c.append.new.self c.loop-number.invariant c.loop-number-test.true c.take_out-invocation.ensures.item c.home.ensures.home c.in_ok-append.ensures)

pub returns : goal.returns
returns c =
    deal-all c.args.numbers.now c.loop-number.number-index c.loop-number.queues c.loop-number.pending.items c.args.pending.now.items c.loop-number.invariant c.loop-number-test.false
