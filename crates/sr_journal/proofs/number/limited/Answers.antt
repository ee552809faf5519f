use Rattle.std.proofs.Common.{◌≤◌, arith, rules}
use Rattle.sr_journal.proofs.DigitSteps.{limited-ok}
use Rattle.sr_journal.proofs.number.limited.Goals as goal

pub overflow_cast-result : goal.overflow_cast-result
overflow_cast-result c =
    let p = limited-ok c.args.may_be_zero c.args.most c.args.end c.in_ok-number.number c.args.bytes.now c.in_ok-number.rest.now (omega arith) c.in_ok-number.ensures in
    let h : c.in_ok-number.number ≤ c.args.most = p.1 in
    search (rules, h)

pub returns-clause-read : goal.returns-clause-read
returns-clause-read c = (limited-ok c.args.may_be_zero c.args.most c.args.end c.in_ok-number.number c.args.bytes.now c.in_ok-number.rest.now (omega arith) c.in_ok-number.ensures).0

pub returns-clause-within : goal.returns-clause-within
returns-clause-within c = (limited-ok c.args.may_be_zero c.args.most c.args.end c.in_ok-number.number c.args.bytes.now c.in_ok-number.rest.now (omega arith) c.in_ok-number.ensures).1
