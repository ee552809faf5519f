-- One turn of the way up.
use Rattle.std.proofs.Common.{◌<◌, length, get_or, arith, sym, subst, ◌∙◌}
use Rattle.sr_classes.proofs.Parents.{turned}
use Rattle.sr_classes.proofs.forest.first_of.Goals as goal

pub bounds-all-parent : goal.bounds-all-parent
bounds-all-parent c = subst (λ all. get_or all c.up.at 0 < length all) (sym c.as_slice-all.ensures)
    (omega (arith, c.up.invariant.1 c.up.at c.up.invariant.2, c.up.invariant.2))

pub up-smaller : goal.up-smaller
up-smaller c = (turned c.up.parents c.as_slice-all.result.now c.replace.new.self c.up.at c.as_slice-all.ensures c.up.invariant.1 c.up.invariant.2 c.if-parent-at.false
    c.replace.ensures.others).2

pub up-preserved : goal.up-preserved
up-preserved c =
    let step = turned c.up.parents c.as_slice-all.result.now c.replace.new.self c.up.at c.as_slice-all.ensures c.up.invariant.1 c.up.invariant.2 c.if-parent-at.false
    c.replace.ensures.others in (
      step.0 ∙ c.up.invariant.0,
      step.1,
      subst (λ n. get_or c.as_slice-all.result.now (get_or c.as_slice-all.result.now c.up.at 0) 0 < n) (sym step.0)
          (omega (arith, step.2, c.up.invariant.2)),
      λ of stands. let so_far = c.up.invariant.3 of stands in let now = step.3 of so_far.0 in (now.0, now.1 ∙ so_far.1),
    )
