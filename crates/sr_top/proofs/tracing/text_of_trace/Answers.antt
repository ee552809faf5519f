-- What the trace came to, and its text.
use Rattle.std.proofs.Common.{subst, sym}
use Rattle.std.specs.Prelude.{IfErr, IfOk, Some, ◌≡◌}
use Rattle.sr_top.proofs.Replayed.{traced_as, untraced_as}
use Rattle.sr_top.specs.Programs.{core_in}
use Rattle.sr_top.specs.Replaying.{TracesTo}
use Rattle.sr_top.specs.Stages.{run_of}
use Rattle.sr_top.specs.Tracing.{EndsTold, told_text}
use Rattle.sr_races.specs.Traces.{IsTrace}
use Rattle.sr_top.proofs.tracing.text_of_trace.Goals as goal

pub returns-in-Ok-Found-clause-lines : goal.returns-in-Ok-Found-clause-lines
returns-in-Ok-Found-clause-lines c =
    let core = core_in c.args.program.now in
    let journal = c.args.journal.now in
    let steps = journal.header.steps in
    let run = run_of core journal c.args.input.now in
    let found = subst (λ n. IsTrace steps n run c.in-Ok-Found.field-0) c.count_upto.ensures.count c.in-Ok-Found.ensures in
    traced_as c.args.names.now steps run c.args.tracing c.in-Ok-Found.rows (subst (TracesTo c.args.tracing steps run) c.in-Ok-Found.field-0-is found) c.told.result
    (subst (λ rows. IfOk c.told.result (λ text. told_text core c.args.names.now c.args.tracing.picture rows ≡ Some text)) c.as_slice.ensures c.told.ensures.text)

pub returns-in-Ok-Found-clause-ends : goal.returns-in-Ok-Found-clause-ends
returns-in-Ok-Found-clause-ends c =
    let journal = c.args.journal.now in
    let steps = journal.header.steps in
    let run = run_of (core_in c.args.program.now) journal c.args.input.now in
    let found = subst (λ n. IsTrace steps n run c.in-Ok-Found.field-0) c.count_upto.ensures.count c.in-Ok-Found.ensures in
    untraced_as c.args.names.now steps run c.args.tracing c.in-Ok-Found.rows (subst (TracesTo c.args.tracing steps run) c.in-Ok-Found.field-0-is found) c.told.result
    (subst (λ rows. IfErr c.told.result (EndsTold c.args.tracing.picture rows)) c.as_slice.ensures c.told.ensures.ends)

pub returns-in-Ok-Illegal-clause-ends : goal.returns-in-Ok-Illegal-clause-ends
returns-in-Ok-Illegal-clause-ends c =
    let journal = c.args.journal.now in
    let steps = journal.header.steps in
    let run = run_of (core_in c.args.program.now) journal c.args.input.now in
    subst (TracesTo c.args.tracing steps run) c.in-Ok-Illegal.field-0-is
    (subst (λ n. IsTrace steps n run c.in-Ok-Illegal.field-0) c.count_upto.ensures.count c.in-Ok-Illegal.ensures)
