-- So far there is each operation of the class that came.
use Rattle.std.proofs.Common.{◌≡◌, ◌++◌, ◌==◌}
use Rattle.sr_class_text.specs.Lines.{member_text, texts_below}
use Rattle.sr_classes.specs.Classes.{class_of}
use Rattle.sr_class_text.proofs.push_members.Given as goal

abbrev pub invariant-loop-op : goal.invariant-loop-op
invariant-loop-op l = l.text ≡ l.fn.text ++ texts_below (λ op. class_of l.classes op == l.class) (member_text l.operations) l.op
