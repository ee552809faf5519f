-- All columns that came are there.
use Rattle.std.proofs.Common.{◌≡◌, ◌++◌, take}
use Rattle.std.specs.Prelude.{flat_map}
use Rattle.sr_trace.specs.Drawing.{column_text}
use Rattle.sr_trace.proofs.picture.push_columns.Given as goal

abbrev pub invariant-loop-column : goal.invariant-loop-column
invariant-loop-column l = l.text ≡ l.fn.text ++ flat_map (column_text l.core l.height l.columns) (take l.column-index l.columns)
