use Rattle.std.proofs.Common.{◌≤◌, length, take, ap, sym, ◌∙◌, arith}
use Rattle.std.specs.List.{enumerate_from}
use Rattle.std.proofs.lemmas.List.{take_all}
use Rattle.std.proofs.lemmas.List.FromFn.{length-enumerate_from}
use Rattle.sr_select.specs.Named.{earlier, next_open}
use Rattle.sr_select.proofs.NamedLemmas.{closed-more, open-more, open-none}
use Rattle.sr_select.proofs.named.next_open.Goals.{else-not-is_closed, then-not-is_closed}
use Rattle.sr_select.proofs.named.next_open.Goals as goal

pub loop-number-init : goal.loop-number-init
loop-number-init c = sym (open-none c.args.owner c.args.closed.now c.args.from c.args.queue.now.items)

pub loop-number-preserved : goal.loop-number-preserved
loop-number-preserved c =
    let items = c.args.queue.now.items in
    let number = c.loop-number.number in
    let arm = c.index-arms-number.result in
    let before = next_open c.args.owner c.args.closed.now (take number (enumerate_from 0 c.args.arms.now)) c.args.from items in
    elim c.if-not-is_closed.branch [
      | then-not-is_closed w ↦
          w.next-is ∙ w.earlier-next.ensures ∙ ap (λ o. earlier o w.next_of-place.result) c.loop-number.invariant ∙ ap (earlier before) w.next_of-place.ensures
          ∙ sym (open-more c.args.owner c.args.closed.now c.args.arms.now number arm c.loop-number-test.true c.index-arms-number.is c.args.from items (sym c.is_closed.ensures ∙ w.if-not-is_closed.true))
      | else-not-is_closed w ↦
          w.next-is ∙ c.loop-number.invariant
          ∙ sym (closed-more c.args.owner c.args.closed.now c.args.arms.now number arm c.loop-number-test.true c.index-arms-number.is c.args.from items (sym c.is_closed.ensures ∙ w.if-not-is_closed.false))
    ]

pub returns : goal.returns
returns c =
    let past : length (enumerate_from 0 c.args.arms.now) ≤ c.loop-number.number = omega (arith, length-enumerate_from 0 c.args.arms.now, c.loop-number-test.false) in
    c.loop-number.invariant ∙ ap (λ arms. next_open c.args.owner c.args.closed.now arms c.args.from c.args.queue.now.items) (take_all c.loop-number.number (enumerate_from 0 c.args.arms.now) past)
