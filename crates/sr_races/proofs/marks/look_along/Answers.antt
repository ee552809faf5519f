use Rattle.std.proofs.Common.{◌≡◌, ◌+◌, ◌-◌, arith, subst, sym}
use Rattle.std.proofs.lemmas.Option.{slice_get-get_or}
use Rattle.sr_races.proofs.MarkLemmas.{HasLooked, look-all, look-begins, look-ends, look-more}
use Rattle.sr_races.proofs.marks.look_along.Goals as goal

pub loop-left-init : goal.loop-left-init
loop-left-init c = record { within = omega arith; looked = look-begins c.args.marks.now c.args.found.now }

pub returns-then-mark-count : goal.returns-then-mark-count
returns-then-mark-count c =
    let left = c.loop-left.left - 1 in
    let next : c.loop-left.left ≡ left + 1 = omega arith in
    look-ends c.args.marks.now left c.args.found.now c.loop-left.found _ (slice_get-get_or c.args.marks.now left _ (omega arith))
    (subst (λ n. HasLooked c.args.marks.now n c.args.found.now c.loop-left.found) next c.loop-left.invariant.looked) c.args.count c.if-mark-count.true

pub loop-left-preserved : goal.loop-left-preserved
loop-left-preserved c =
    let left = c.loop-left.left - 1 in
    let next : c.loop-left.left ≡ left + 1 = omega arith in
    record {
      within = omega arith;
      looked = subst (HasLooked c.args.marks.now left c.args.found.now) (sym c.in_ok-push.ensures.ok)
          (look-more c.args.marks.now left c.args.found.now c.loop-left.found _ (slice_get-get_or c.args.marks.now left _ (omega arith))
          (subst (λ n. HasLooked c.args.marks.now n c.args.found.now c.loop-left.found) next c.loop-left.invariant.looked));
    }

pub returns : goal.returns
returns c =
    let none : c.loop-left.left ≡ 0 = omega arith in
    look-all c.args.marks.now c.args.count c.args.found.now c.loop-left.found (subst (λ n. HasLooked c.args.marks.now n c.args.found.now c.loop-left.found) none c.loop-left.invariant.looked)
