-- The text is put; or there is none, and the call ends for that reason.
use Rattle.std.proofs.Common.{inr, refl, subst, sym}
use Rattle.sr_top.proofs.Endings.{listed}
use Rattle.sr_top.proofs.Layouts.{layout_ended, layout_shown}
use Rattle.sr_top.specs.Causes.{Call, HasCause, PutsLines, call_of, devices}
use Rattle.sr_top.specs.Reading.{reads_by}
use Rattle.sr_top.proofs.laying_out.lay_out_file.Goals as goal

pub returns-in-Ok-clause-cause : goal.returns-in-Ok-clause-cause
returns-in-Ok-clause-cause g c = λ words left read_faults asked.
    let held = g.O.Sink.held c.args.output.now in
    let faults = g.O.Sink.faults c.args.output.now in
    let held_now = g.O.Sink.held c.put_lines.new.output in
    let faults_now = g.O.Sink.faults c.put_lines.new.output in
    let call : Call =
    call_of words (g.F.Files.content c.args.files.now)
    (reads_by (g.F.Files.readings c.args.files.now) (g.F.Files.faults c.args.files.now)) (reads_by (g.F.Files.readings c.text_of_file.new.files) (g.F.Files.faults c.text_of_file.new.files))
    (devices left read_faults held faults) (devices left read_faults held_now faults_now) c.without_items.result.items c.without_items.result.rounds in
    subst (HasCause call) (sym c.without_items.ensures.ending)
    (listed call c.in-Ok.text c.put_lines.result
    (inr (inr (layout_shown call c.args.name.now asked (c.without_items.ensures.items, c.without_items.ensures.rounds) refl refl c.in-Ok.ensures.no_fault c.in-Ok.text c.in-Ok.ensures.text)))
    (subst (λ lines. PutsLines lines held held_now faults faults_now c.put_lines.result) c.as_bytes.ensures c.put_lines.ensures))

pub returns-in-Err-clause-cause : goal.returns-in-Err-clause-cause
returns-in-Err-clause-cause g c = λ words left read_faults asked.
    let held = g.O.Sink.held c.args.output.now in
    let faults = g.O.Sink.faults c.args.output.now in
    let call : Call =
    call_of words (g.F.Files.content c.args.files.now)
    (reads_by (g.F.Files.readings c.args.files.now) (g.F.Files.faults c.args.files.now)) (reads_by (g.F.Files.readings c.text_of_file.new.files) (g.F.Files.faults c.text_of_file.new.files))
    (devices left read_faults held faults) (devices left read_faults held faults) c.without_items-in-Err.result.items c.without_items-in-Err.result.rounds in
    subst (HasCause call) (sym c.without_items-in-Err.ensures.ending)
    (layout_ended call c.args.name.now asked (record { no_items = (c.without_items-in-Err.ensures.items, c.without_items-in-Err.ensures.rounds); untouched = refl }) c.in-Err.ending c.in-Err.ensures.ends)
