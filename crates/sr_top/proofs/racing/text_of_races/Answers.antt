-- What the search came to, and its lines.
use Rattle.std.proofs.Common.{◌≡◌, subst}
use Rattle.std.specs.Prelude.{IfOk}
use Rattle.sr_races.specs.Races.{Races}
use Rattle.sr_top.proofs.Replayed.{out_of_memory_as, raced_as}
use Rattle.sr_top.specs.Programs.{core_in}
use Rattle.sr_top.specs.Racing.{races_text}
use Rattle.sr_top.specs.Stages.{run_of}
use Rattle.sr_top.specs.declared.question.Question.TheVariants as question
use Rattle.sr_top.proofs.racing.text_of_races.Goals as goal

pub returns-in-Ok-Found-clause-lines : goal.returns-in-Ok-Found-clause-lines
returns-in-Ok-Found-clause-lines c =
    let journal = c.args.journal.now in
    let run = run_of (core_in c.args.program.now) journal c.args.input.now in
    raced_as c.args.names.now journal.header.steps run c.in-Ok-Found.races c.lines_of.result
    (subst (Races journal.header.steps run) c.in-Ok-Found.field-0-is c.in-Ok-Found.ensures)
    (subst (λ races. IfOk c.lines_of.result (λ lines. lines ≡ races_text c.args.names.now races)) c.as_slice.ensures c.lines_of.ensures.lines)

pub returns-in-Ok-Found-clause-ends : goal.returns-in-Ok-Found-clause-ends
returns-in-Ok-Found-clause-ends c =
    let journal = c.args.journal.now in
    out_of_memory_as c.args.names.now journal.header.steps (run_of (core_in c.args.program.now) journal c.args.input.now) question.Races c.lines_of.result c.lines_of.ensures.ends
