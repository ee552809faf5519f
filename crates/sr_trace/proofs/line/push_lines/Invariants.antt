-- The lines of all rows that came are there.
use Rattle.std.proofs.Common.{◌≡◌, ◌++◌, take}
use Rattle.std.specs.Prelude.{flat_map}
use Rattle.sr_trace.specs.Lines.{trace_line}
use Rattle.sr_trace.proofs.line.push_lines.Given as goal

abbrev pub invariant-loop-row : goal.invariant-loop-row
invariant-loop-row l = l.text ≡ l.fn.text ++ flat_map (trace_line l.core l.names) (take l.row-index l.rows)
