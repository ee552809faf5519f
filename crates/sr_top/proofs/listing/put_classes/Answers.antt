-- The lines are put.
use Rattle.std.proofs.Common.{◌∙◌, subst}
use Rattle.sr_class_text.specs.Lines.{class_text}
use Rattle.sr_top.specs.Causes.{PutsLines}
use Rattle.sr_top.proofs.listing.put_classes.Goals as goal

pub returns : goal.returns
returns g c =
    let held = g.O.Sink.held c.args.output.now in
    let held_now = g.O.Sink.held c.put_lines.new.output in
    let faults = g.O.Sink.faults c.args.output.now in
    let faults_now = g.O.Sink.faults c.put_lines.new.output in
    subst (λ program. PutsLines (class_text program.core program.classes.of) held held_now faults faults_now c.put_lines.result) c.program-program.ensures
    (subst (λ lines. PutsLines lines held held_now faults faults_now c.put_lines.result) (c.as_bytes.ensures ∙ c.in-Ok.ensures) c.put_lines.ensures)
