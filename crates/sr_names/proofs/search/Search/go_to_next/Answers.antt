-- The last pending spot is visited, where there is one.
use Rattle.std.proofs.Common.{true≢false, is_some, refl, ap, sym, ◌∙◌}
use Rattle.std.proofs.lemmas.Result.{err_from_is_err_and}
use Rattle.sr_names.specs.Searches.{passes_by, enters_next}
use Rattle.sr_names.proofs.Grouping.{when_err}
use Rattle.sr_names.proofs.search.Search.go_to_next.Goals as goal

pub returns-in_default-clause-none : goal.returns-in_default-clause-none
returns-in_default-clause-none c = λ _. (c.in_default.ensures.0, ap (λ p. record c.args.self.now { pending = p }) (c.in_default.ensures.1 ∙ sym c.in_default.ensures.0))

pub returns-in_default-clause-some : goal.returns-in_default-clause-some
returns-in_default-clause-some c = λ e. absurd (true≢false (sym e))

pub returns-in_err-enter-in-None-clause-none : goal.returns-in_err-enter-in-None-clause-none
returns-in_err-enter-in-None-clause-none c =
    let p = err_from_is_err_and c.from_residual.result c.from_residual.ensures.1 in
    when_err c.from_residual.result _ p.0 p.1

pub returns-in_err-enter-in-None-clause-some : goal.returns-in_err-enter-in-None-clause-some
returns-in_err-enter-in-None-clause-some c =
    let p = err_from_is_err_and c.from_residual.result c.from_residual.ensures.1 in
    when_err c.from_residual.result _ p.0 p.1

pub returns-in_ok-enter-in-None-clause-none : goal.returns-in_ok-enter-in-None-clause-none
returns-in_ok-enter-in-None-clause-none c = λ e. absurd (true≢false e)

pub returns-in_ok-enter-in-None-clause-some : goal.returns-in_ok-enter-in-None-clause-some
returns-in_ok-enter-in-None-clause-some c = λ _. enters_next c.pop.new.self c.in-Some.spot c.in-Some.ensures (sym c.in-None.ensures) c.in_ok-enter-in-None.ensures

pub returns-in-Some-get-clause-none : goal.returns-in-Some-get-clause-none
returns-in-Some-get-clause-none c = λ e. absurd (true≢false e)

pub returns-in-Some-get-clause-some : goal.returns-in-Some-get-clause-some
returns-in-Some-get-clause-some c = λ _. passes_by c.pop.new.self c.in-Some.spot c.in-Some.ensures (ap is_some (sym c.in-Some-get.ensures)) refl
