use Rattle.std.proofs.Common.{◌≡◌, ◌-◌}
use Rattle.sr_journal.specs.Reading.{item_at, many_at}
use Rattle.sr_journal.proofs.Loops.{with_front}
use Rattle.sr_journal.proofs.reading.item_lines.Given as goal

abbrev pub invariant-loop : goal.invariant-loop
invariant-loop l = with_front l.items (many_at (item_at l.timed) (l.count - l.counter) l.rest) ≡ many_at (item_at l.timed) l.count l.bytes
