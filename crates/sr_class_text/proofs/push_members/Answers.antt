-- One operation more came.
use Rattle.std.proofs.Common.{◌==◌}
use Rattle.sr_class_text.proofs.Below.{stepped}
use Rattle.sr_class_text.specs.Lines.{member_text}
use Rattle.sr_classes.specs.Classes.{class_of}
use Rattle.sr_class_text.proofs.push_members.Goals as goal

pub loop-op-preserved : goal.loop-op-preserved
loop-op-preserved c =
    stepped (λ op. class_of c.args.classes.now op == c.args.class) (member_text c.args.operations.now) c.loop-op.op c.args.text.now c.loop-op.text _ c.loop-op.invariant c.in_ok-push_member_at.ensures
