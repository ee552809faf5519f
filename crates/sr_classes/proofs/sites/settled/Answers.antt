-- One operation more has its first.
use Rattle.std.proofs.Common.{◌+◌, ◌≤◌, length, [], ◌∷◌, arith, ◌∙◌, ap, sym, subst}
use Rattle.std.proofs.lemmas.List.{length-append}
use Rattle.sr_classes.proofs.Groups.{one-more}
use Rattle.sr_classes.proofs.sites.settled.Goals as goal

pub loop-op-preserved : goal.loop-op-preserved
loop-op-preserved c = (
  c.first_of-first.ensures.length ∙ c.loop-op.invariant.0,
  c.first_of-first.ensures.forest,
  ap length c.in_ok-push.ensures.ok ∙ length-append c.loop-op.classes (c.first_of-first.result ∷ []) ∙ ap (λ n. n + 1) c.loop-op.invariant.2,
  subst (λ n. c.loop-op.op + 1 ≤ n) (sym c.first_of-first.ensures.length) (omega (arith, c.loop-op-test.true)),
  λ of stands. let so_far = c.loop-op.invariant.4 of stands in let now = c.first_of-first.ensures.first of so_far.0 in
      (now.0, one-more c.loop-op.classes c.push.new.self c.first_of-first.result c.loop-op.op of c.loop-op.invariant.2 c.in_ok-push.ensures.ok now.1 so_far.1),
)
