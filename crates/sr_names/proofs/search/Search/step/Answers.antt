-- A step keeps what is known of a search, and leaves less to do.
use Rattle.std.proofs.Common.{true≢false, refl, ap, sym, ◌∙◌}
use Rattle.std.proofs.lemmas.Result.{err_from_is_err_and}
use Rattle.sr_names.proofs.Grouping.{when_err, shrinks-on, next-steps, next-shrinks, next-ended}
use Rattle.sr_names.proofs.Searching.{steps-on}
use Rattle.sr_names.proofs.search.Search.step.Goals as goal

pub returns-in_err-go_on-in-Some-clause-steps : goal.returns-in_err-go_on-in-Some-clause-steps
returns-in_err-go_on-in-Some-clause-steps c =
    let p = err_from_is_err_and c.from_residual.result c.from_residual.ensures.1 in
    when_err c.from_residual.result _ p.0 p.1

pub returns-in_err-go_on-in-Some-clause-smaller : goal.returns-in_err-go_on-in-Some-clause-smaller
returns-in_err-go_on-in-Some-clause-smaller c =
    let p = err_from_is_err_and c.from_residual.result c.from_residual.ensures.1 in
    when_err c.from_residual.result _ p.0 p.1

pub returns-in_err-go_on-in-Some-clause-ended : goal.returns-in_err-go_on-in-Some-clause-ended
returns-in_err-go_on-in-Some-clause-ended c =
    let p = err_from_is_err_and c.from_residual.result c.from_residual.ensures.1 in
    when_err c.from_residual.result _ p.0 p.1

pub returns-in_ok-go_on-in-Some-clause-steps : goal.returns-in_ok-go_on-in-Some-clause-steps
returns-in_ok-go_on-in-Some-clause-steps c =
    steps-on c.args.targets.now c.args.self.now (record c.args.self.now { groups = c.pop.new.self }) c.go_on.new.self c.pop.new.self c.in-Some.group c.in-Some.ensures refl c.in_ok-go_on-in-Some.ensures

pub returns-in_ok-go_on-in-Some-clause-smaller : goal.returns-in_ok-go_on-in-Some-clause-smaller
returns-in_ok-go_on-in-Some-clause-smaller c = λ _.
    shrinks-on c.args.targets.now c.args.self.now (record c.args.self.now { groups = c.pop.new.self }) c.go_on.new.self c.pop.new.self c.in-Some.group c.in-Some.ensures refl c.in_ok-go_on-in-Some.ensures

pub returns-in_ok-go_on-in-Some-clause-ended : goal.returns-in_ok-go_on-in-Some-clause-ended
returns-in_ok-go_on-in-Some-clause-ended c = λ e. absurd (true≢false e)

pub returns-in-None-clause-steps : goal.returns-in-None-clause-steps
returns-in-None-clause-steps c =
    next-steps c.args.targets.now c.args.self.now (record c.args.self.now { groups = c.pop.new.self }) c.go_to_next.new.self c.in-None.ensures.0 (ap (λ gs. record c.args.self.now { groups = gs }) (c.in-None.ensures.1 ∙ sym c.in-None.ensures.0)) c.go_to_next.result
    c.go_to_next.ensures.none c.go_to_next.ensures.some

pub returns-in-None-clause-smaller : goal.returns-in-None-clause-smaller
returns-in-None-clause-smaller c =
    next-shrinks c.args.targets.now c.args.self.now (record c.args.self.now { groups = c.pop.new.self }) c.go_to_next.new.self c.in-None.ensures.0 (ap (λ gs. record c.args.self.now { groups = gs }) (c.in-None.ensures.1 ∙ sym c.in-None.ensures.0)) c.go_to_next.result
    c.go_to_next.ensures.some

pub returns-in-None-clause-ended : goal.returns-in-None-clause-ended
returns-in-None-clause-ended c =
    next-ended c.args.targets.now c.args.self.now (record c.args.self.now { groups = c.pop.new.self }) c.go_to_next.new.self c.in-None.ensures.0 (ap (λ gs. record c.args.self.now { groups = gs }) (c.in-None.ensures.1 ∙ sym c.in-None.ensures.0)) c.go_to_next.result
    c.go_to_next.ensures.none
