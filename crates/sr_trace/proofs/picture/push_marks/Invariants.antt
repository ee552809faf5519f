-- All items that came are there.
use Rattle.std.proofs.Common.{◌≡◌, ◌++◌, take}
use Rattle.std.specs.Prelude.{flat_map}
use Rattle.sr_trace.specs.Drawing.{mark_text}
use Rattle.sr_trace.proofs.picture.push_marks.Given as goal

abbrev pub invariant-loop-row : goal.invariant-loop-row
invariant-loop-row l = l.text ≡ l.fn.text ++ flat_map (mark_text l.core l.names l.columns l.rows) (take l.row-index l.rows)
