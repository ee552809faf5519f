use Rattle.std.proofs.Common.{◌∙◌, ◌++◌, ◌∷◌, [], ap}
use Rattle.std.proofs.lemmas.Result.{on_ok_weaker}
use Rattle.sr_races.proofs.marks.push_line.Goals as goal

pub returns : goal.returns
returns c =
    on_ok_weaker c.push-2.result
    (λ pushed. pushed ∙ ap (λ marks. c.args.lines.now ++ record { column = c.args.column; marks = marks } ∷ []) (c.in_ok-push.ensures.ok ∙ ap (λ marks. marks ++ c.args.mark ∷ []) c.new-marks.ensures)) c.push-2.ensures.ok
