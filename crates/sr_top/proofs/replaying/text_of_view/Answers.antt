-- What the replay came to, and its lines.
use Rattle.std.proofs.Common.{subst}
use Rattle.sr_replay.specs.Replays.{Replays}
use Rattle.sr_top.proofs.Replayed.{out_of_memory_as, seen_as}
use Rattle.sr_top.specs.Programs.{core_in}
use Rattle.sr_top.specs.Replaying.{ReplaysTo}
use Rattle.sr_top.specs.Stages.{run_of}
use Rattle.sr_top.specs.declared.question.Question.TheVariants as question
use Rattle.sr_top.proofs.replaying.text_of_view.Goals as goal

pub returns-in-Ok-Reached-clause-lines : goal.returns-in-Ok-Reached-clause-lines
returns-in-Ok-Reached-clause-lines c =
    let core = core_in c.args.program.now in
    let journal = c.args.journal.now in
    let header = journal.header in
    let run = run_of core journal c.args.input.now in
    seen_as c.args.names.now header.steps run c.args.view c.in-Ok-Reached.snapshot c.lines_of.result
    (subst (ReplaysTo c.args.view header.steps run) c.in-Ok-Reached.field-0-is
    (subst (λ n. Replays core header.steps header.ticks c.args.input.now journal.items n c.in-Ok-Reached.field-0) c.count_upto-upto.ensures.count c.in-Ok-Reached.ensures))
    c.lines_of.ensures.lines

pub returns-in-Ok-Reached-clause-ends : goal.returns-in-Ok-Reached-clause-ends
returns-in-Ok-Reached-clause-ends c =
    let journal = c.args.journal.now in
    out_of_memory_as c.args.names.now journal.header.steps (run_of (core_in c.args.program.now) journal c.args.input.now) (question.Seen c.args.view) c.lines_of.result c.lines_of.ensures.ends

pub returns-in-Ok-Illegal-clause-ends : goal.returns-in-Ok-Illegal-clause-ends
returns-in-Ok-Illegal-clause-ends c =
    let core = core_in c.args.program.now in
    let journal = c.args.journal.now in
    let header = journal.header in
    subst (ReplaysTo c.args.view header.steps (run_of core journal c.args.input.now)) c.in-Ok-Illegal.field-0-is
    (subst (λ n. Replays core header.steps header.ticks c.args.input.now journal.items n c.in-Ok-Illegal.field-0) c.count_upto-upto.ensures.count c.in-Ok-Illegal.ensures)
