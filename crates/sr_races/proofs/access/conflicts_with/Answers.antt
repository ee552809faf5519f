use Rattle.std.proofs.Common.{◌∙◌, arith, refl, sym, true≢false}
use Rattle.sr_races.proofs.PathLemmas.{among-at, none-at-all, none-more, none-yet}
use Rattle.sr_races.specs.Accesses.{Conflict}
use Rattle.sr_races.proofs.access.conflicts_with.Goals as goal

pub loop-other-init : goal.loop-other-init
loop-other-init c = none-yet (Conflict c.args.one.now) c.args.others.now

pub loop-other-preserved : goal.loop-other-preserved
loop-other-preserved c =
    none-more (Conflict c.args.one.now) c.args.others.now c.loop-other.other-index c.other-item.result (omega arith) c.other-item.is c.loop-other.invariant
    (λ conflict. true≢false (sym (c.conflict.ensures.1 conflict) ∙ c.if-conflict.false))

pub returns-then-conflict : goal.returns-then-conflict
returns-then-conflict c = (
  λ _. record { other = c.other-item.result; among = among-at c.args.others.now c.loop-other.other-index c.other-item.result (omega arith) c.other-item.is; conflict = c.conflict.ensures.0 c.if-conflict.true },
  λ _. refl,
)

pub returns : goal.returns
returns c = (
  λ so. absurd (true≢false (sym so)),
  λ some. absurd (none-at-all (Conflict c.args.one.now) c.args.others.now c.loop-other.other-index c.loop-other.invariant (omega arith) some.other some.among some.conflict),
)
