use Rattle.std.proofs.Common.{◌∙◌, arith, subst, sym, true≢false}
use Rattle.std.proofs.lemmas.Bool.{lt-ltb, ltb-true}
use Rattle.sr_races.specs.Accesses.{SomeConflict}
use Rattle.sr_races.proofs.search.looks_raced.Goals as goal

pub returns-then-one-other : goal.returns-then-one-other
returns-then-one-other c = (λ so. absurd (true≢false (sym so)), λ looks. absurd (looks.processes c.if-one-other.true))

pub returns-then-not-any_conflict : goal.returns-then-not-any_conflict
returns-then-not-any_conflict c = (
  λ so. absurd (true≢false (sym so)),
  λ looks. absurd (true≢false (sym (c.any_conflict.ensures.1 (subst (λ xs. SomeConflict c.as_slice.result.now xs) (sym c.as_slice-2.ensures) (subst (λ xs. SomeConflict xs c.args.other.now.accesses) (sym c.as_slice.ensures) looks.conflicts)))
      ∙ c.if-not-any_conflict.true)),
)

pub returns : goal.returns
returns c = (
  λ so. record {
    processes = c.if-one-other.false;
    fewer = let less = ltb-true c.count.result c.count-2.result so in omega (arith, less);
    conflicts =
        subst (λ xs. SomeConflict xs c.args.other.now.accesses) c.as_slice.ensures
        (subst (λ xs. SomeConflict c.as_slice.result.now xs) c.as_slice-2.ensures (c.any_conflict.ensures.0 c.if-not-any_conflict.false));
  },
  λ looks. lt-ltb c.count.result c.count-2.result (let fewer = looks.fewer in omega (arith, fewer)),
)
