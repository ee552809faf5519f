use Rattle.std.proofs.Common.{arith, below_more, ◌∙◌, refl, sym, true≢false}
use Rattle.sr_races.proofs.PathLemmas.{agree-at, agreed-at, differ, within}
use Rattle.sr_races.proofs.access.is_within.Goals as goal

pub loop-place-preserved : goal.loop-place-preserved
loop-place-preserved c =
    below_more _ _ c.loop-place.invariant (agree-at c.args.one.now c.args.other.now c.loop-place.place _ _ (omega arith) (omega arith) (c.same.ensures.0 c.if-not-same.false))

pub returns-then-not-same : goal.returns-then-not-same
returns-then-not-same c = (
  λ so. absurd (true≢false (sym so)),
  λ leads. absurd (differ c.args.one.now c.args.other.now c.loop-place.place (omega arith) (omega arith)
      (λ same. true≢false (sym (c.same.ensures.1 (agreed-at c.args.one.now c.args.other.now c.loop-place.place _ _ (omega arith) (omega arith) same)) ∙ c.if-not-same.true)) leads),
)

pub returns : goal.returns
returns c = (λ _. within c.args.one.now c.args.other.now (record { at = λ k less less'. c.loop-place.invariant k (omega arith) }), λ _. refl)
