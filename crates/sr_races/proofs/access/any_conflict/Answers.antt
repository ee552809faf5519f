use Rattle.std.proofs.Common.{◌∙◌, arith, refl, sym, true≢false}
use Rattle.sr_races.proofs.PathLemmas.{among-at, none-at-all, none-more, none-yet}
use Rattle.sr_races.specs.Accesses.{ConflictWith}
use Rattle.sr_races.specs.declared.access.Access.{Access}
use Rattle.sr_races.proofs.access.any_conflict.Goals as goal

pub loop-one-init : goal.loop-one-init
loop-one-init c = none-yet (λ (one : Access). ConflictWith one c.args.others.now) c.args.ones.now

pub loop-one-preserved : goal.loop-one-preserved
loop-one-preserved c =
    none-more (λ (one : Access). ConflictWith one c.args.others.now) c.args.ones.now c.loop-one.one-index c.one-item.result (omega arith) c.one-item.is c.loop-one.invariant
    (λ conflict. true≢false (sym (c.conflicts_with.ensures.1 conflict) ∙ c.if-conflicts_with.false))

pub returns-then-conflicts_with : goal.returns-then-conflicts_with
returns-then-conflicts_with c = (
  λ _. record { one = c.one-item.result; among = among-at c.args.ones.now c.loop-one.one-index c.one-item.result (omega arith) c.one-item.is; conflict = c.conflicts_with.ensures.0 c.if-conflicts_with.true },
  λ _. refl,
)

pub returns : goal.returns
returns c = (
  λ so. absurd (true≢false (sym so)),
  λ some. absurd (none-at-all (λ (one : Access). ConflictWith one c.args.others.now) c.args.ones.now c.loop-one.one-index c.loop-one.invariant (omega arith) some.one some.among some.conflict),
)
