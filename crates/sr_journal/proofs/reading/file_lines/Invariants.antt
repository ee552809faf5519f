use Rattle.std.proofs.Common.{◌≡◌, ◌-◌}
use Rattle.sr_journal.specs.Reading.{file_at, many_at}
use Rattle.sr_journal.proofs.Loops.{with_front}
use Rattle.sr_journal.proofs.reading.file_lines.Given as goal

abbrev pub invariant-loop : goal.invariant-loop
invariant-loop l = with_front l.files (many_at file_at (l.count - l.counter) l.rest) ≡ many_at file_at l.count l.bytes
