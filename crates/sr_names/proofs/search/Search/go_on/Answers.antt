-- Each way on is one of those that the definition has.
use Rattle.std.proofs.Common.{◌<◌, ◌≤◌, length, ap, sym, ◌∙◌, arith}
use Rattle.std.proofs.lemmas.Result.{on_ok_weaker, err_from_is_err_and}
use Rattle.sr_names.specs.Searches.{closes, enters, entered}
use Rattle.sr_names.proofs.Grouping.{when_err, went-merged, went-passed}
use Rattle.sr_names.proofs.search.Search.go_on.Goals as goal

pub returns-then-len-group : goal.returns-then-len-group
returns-then-len-group c =
    let full : length c.args.self.now.pending ≤ c.args.group.pending = omega arith in
    on_ok_weaker c.close.result (closes full) c.close.ensures

pub returns-in_default : goal.returns-in_default
returns-in_default c = absurd (omega (arith, ap length c.in_default.ensures.0))

pub returns-in_err-push : goal.returns-in_err-push
returns-in_err-push c =
    let p = err_from_is_err_and c.from_residual.result c.from_residual.ensures.1 in
    when_err c.from_residual.result _ p.0 p.1

pub returns-in_default-get : goal.returns-in_default-get
returns-in_default-get c =
    let unread : c.args.group.pending < length c.args.self.now.pending = omega arith in
    on_ok_weaker c.enter.result
    (λ e. enters c.pop.new.self c.in-Some.spot unread c.in-Some.ensures (sym c.in_default-get.ensures)
    (e ∙ ap (λ gs. entered c.args.targets.now c.in-Some.spot (record c.args.self.now { groups = gs; pending = c.pop.new.self })) c.in_ok-push.ensures.ok))
    c.enter.ensures

pub returns-then-is_before : goal.returns-then-is_before
returns-then-is_before c =
    let unread : c.args.group.pending < length c.args.self.now.pending = omega arith in
    on_ok_weaker c.push-then-is_before.result
    (λ e. went-merged c.args.targets.now c.args.group c.args.self.now (record c.args.self.now { pending = c.push-then-is_before.new.self }) c.pop.new.self c.in-Some.spot unread c.in-Some.ensures
    c.in-Some-get.mark (sym c.in-Some-get.ensures) (sym c.if-is_before.ensures) (ap (λ l. record c.args.self.now { pending = l }) e))
    c.push-then-is_before.ensures.ok

pub returns-else-is_before : goal.returns-else-is_before
returns-else-is_before c =
    let unread : c.args.group.pending < length c.args.self.now.pending = omega arith in
    on_ok_weaker c.push-else-is_before.result
    (λ e. went-passed c.args.targets.now c.args.group c.args.self.now (record c.args.self.now { groups = c.push-else-is_before.new.self; pending = c.pop.new.self }) c.pop.new.self c.in-Some.spot unread
    c.in-Some.ensures c.in-Some-get.mark (sym c.in-Some-get.ensures) (sym c.if-is_before.ensures) (ap (λ gs. record c.args.self.now { groups = gs; pending = c.pop.new.self }) e))
    c.push-else-is_before.ensures.ok
