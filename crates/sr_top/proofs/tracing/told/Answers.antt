-- The lines or the picture, as it is asked.
use Rattle.std.proofs.Common.{◌≡◌, subst, sym, Some}
use Rattle.std.specs.Prelude.{IfErr, IfOk}
use Rattle.sr_top.specs.Programs.{core_in}
use Rattle.sr_top.specs.Tracing.{EndsTold, told_text}
use Rattle.sr_top.proofs.tracing.told.Goals as goal

pub returns-then-picture-clause-text : goal.returns-then-picture-clause-text
returns-then-picture-clause-text c =
    subst (λ b. IfOk c.drawn.result (λ text. told_text (core_in c.args.program.now) c.args.names.now b c.args.rows.now ≡ Some text)) (sym c.if-picture.true) c.drawn.ensures.text

pub returns-then-picture-clause-ends : goal.returns-then-picture-clause-ends
returns-then-picture-clause-ends c =
    subst (λ b. IfErr c.drawn.result (EndsTold b c.args.rows.now)) (sym c.if-picture.true) c.drawn.ensures.ends

pub returns-else-picture-clause-text : goal.returns-else-picture-clause-text
returns-else-picture-clause-text c =
    subst (λ b. IfOk c.written.result (λ text. told_text (core_in c.args.program.now) c.args.names.now b c.args.rows.now ≡ Some text)) (sym c.if-picture.false) c.written.ensures.text

pub returns-else-picture-clause-ends : goal.returns-else-picture-clause-ends
returns-else-picture-clause-ends c =
    subst (λ b. IfErr c.written.result (EndsTold b c.args.rows.now)) (sym c.if-picture.false) c.written.ensures.ends
