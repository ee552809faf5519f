use Rattle.std.proofs.Common.{◌≡◌, None, Option, Some, ap, sym}
use Rattle.sr_ask.specs.declared.answer.Answer.{Answer}
use Rattle.std.proofs.lemmas.Result.{on_ok_weaker}
use Rattle.sr_process.specs.declared.process.Process.{Process}
use Rattle.sr_process.proofs.Moves.{hear_ready, hear_same}
use Rattle.sr_process.proofs.process.Process.hear.Goals as goal

pub returns-in-Some-replace-clause-same : goal.returns-in-Some-replace-clause-same
returns-in-Some-replace-clause-same c =
    let old : Process = c.args.self.now in
    let mid : record old { fed = c.replace.new.dest } ≡ record old { fed = None } = ap (λ (fed : Option Answer). record old { fed = fed }) c.replace.ensures.after in
    let fed : old.fed ≡ Some c.in-Some-replace.answer = cc in
    on_ok_weaker c.hear_at.result (hear_same c.args.program.now old (record old { fed = c.replace.new.dest }) c.hear_at.new.self c.in-Some.coded.now c.in-Some-replace.answer c.in-Waiting.is fed mid (sym c.in-Some.ensures)) c.hear_at.ensures

pub returns-in-Some-replace-clause-ready : goal.returns-in-Some-replace-clause-ready
returns-in-Some-replace-clause-ready c =
    on_ok_weaker c.hear_at.result (hear_ready (record c.args.self.now { fed = c.replace.new.dest }) c.hear_at.new.self c.in-Some.coded.now c.in-Some-replace.answer c.in-Waiting.is c.replace.ensures.after) c.hear_at.ensures
