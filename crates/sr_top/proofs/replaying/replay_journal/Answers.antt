-- The lines are put; or there are none, and the call ends for that reason.
use Rattle.std.proofs.Common.{inl, inr, refl, subst, sym}
use Rattle.sr_top.proofs.Endings.{listed}
use Rattle.sr_top.proofs.Replayed.{replay_ended, replay_answered}
use Rattle.sr_top.specs.Causes.{Call, HasCause, PutsLines, call_of, devices}
use Rattle.sr_top.specs.Reading.{reads_by}
use Rattle.sr_top.proofs.replaying.replay_journal.Goals as goal

pub returns-in-Ok-clause-cause : goal.returns-in-Ok-clause-cause
returns-in-Ok-clause-cause g c = λ words asked.
    let held = g.O.Sink.held c.args.output.now in
    let faults = g.O.Sink.faults c.args.output.now in
    let held_now = g.O.Sink.held c.put_lines.new.output in
    let faults_now = g.O.Sink.faults c.put_lines.new.output in
    let call : Call =
    call_of words (g.F.Files.content c.args.files.now)
    (reads_by (g.F.Files.readings c.args.files.now) (g.F.Files.faults c.args.files.now)) (reads_by (g.F.Files.readings c.replayed_text.new.files) (g.F.Files.faults c.replayed_text.new.files))
    (devices (g.I.Source.left c.args.input.now) (g.I.Source.faults c.args.input.now) held faults)
    (devices (g.I.Source.left c.replayed_text.new.input) (g.I.Source.faults c.replayed_text.new.input) held_now faults_now) c.without_items.result.items c.without_items.result.rounds in
    subst (HasCause call) (sym c.without_items.ensures.ending)
    (listed call c.in-Ok.text c.put_lines.result
    (inr (inl (replay_answered call c.args.journal.now c.args.names.now c.args.question asked (c.without_items.ensures.items, c.without_items.ensures.rounds) c.in-Ok.text c.in-Ok.ensures.text)))
    (subst (λ lines. PutsLines lines held held_now faults faults_now c.put_lines.result) c.as_bytes.ensures c.put_lines.ensures))

pub returns-in-Err-clause-cause : goal.returns-in-Err-clause-cause
returns-in-Err-clause-cause g c = λ words asked.
    let held = g.O.Sink.held c.args.output.now in
    let faults = g.O.Sink.faults c.args.output.now in
    let call : Call =
    call_of words (g.F.Files.content c.args.files.now)
    (reads_by (g.F.Files.readings c.args.files.now) (g.F.Files.faults c.args.files.now)) (reads_by (g.F.Files.readings c.replayed_text.new.files) (g.F.Files.faults c.replayed_text.new.files))
    (devices (g.I.Source.left c.args.input.now) (g.I.Source.faults c.args.input.now) held faults)
    (devices (g.I.Source.left c.replayed_text.new.input) (g.I.Source.faults c.replayed_text.new.input) held faults) c.without_items-in-Err.result.items c.without_items-in-Err.result.rounds in
    subst (HasCause call) (sym c.without_items-in-Err.ensures.ending)
    (replay_ended call c.args.journal.now c.args.names.now c.args.question asked
    (record { no_items = (c.without_items-in-Err.ensures.items, c.without_items-in-Err.ensures.rounds); held = refl; no_write_fault = refl }) c.in-Err.ending c.in-Err.ensures.ends)
