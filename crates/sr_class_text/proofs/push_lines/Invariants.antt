-- So far there is the line of each class whose first operation came.
use Rattle.std.proofs.Common.{◌≡◌, ◌++◌, ◌==◌}
use Rattle.sr_class_text.specs.Lines.{class_line, texts_below}
use Rattle.sr_classes.specs.Classes.{class_of}
use Rattle.sr_class_text.proofs.push_lines.Given as goal

abbrev pub invariant-loop-op : goal.invariant-loop-op
invariant-loop-op l = l.text ≡ l.fn.text ++ texts_below (λ op. class_of l.classes op == op) (class_line l.core l.classes) l.op
