-- One operation more came.
use Rattle.std.proofs.Common.{◌==◌}
use Rattle.sr_class_text.proofs.Below.{stepped}
use Rattle.sr_class_text.specs.Lines.{class_line}
use Rattle.sr_classes.specs.Classes.{class_of}
use Rattle.sr_class_text.proofs.push_lines.Goals as goal

pub loop-op-preserved : goal.loop-op-preserved
loop-op-preserved c =
    stepped (λ op. class_of c.args.classes.now op == op) (class_line c.args.core.now c.args.classes.now) c.loop-op.op c.args.text.now c.loop-op.text _ c.loop-op.invariant c.in_ok-push_line_at.ensures
