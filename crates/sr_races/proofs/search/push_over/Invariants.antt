-- All pairs with the second items so far were looked at, these are noted, and the races aren't too many.
use Rattle.std.proofs.Common.{◌≡◌, ◌≤◌, length}
use Rattle.sr_races.specs.Items.{Run}
use Rattle.sr_races.specs.Marks.{AreNoted}
use Rattle.sr_races.specs.Searches.{AreRacesBefore, IsRead}
use Rattle.sr_races.proofs.search.push_over.Given as goal

abbrev pub invariant-loop-second : goal.invariant-loop-second
invariant-loop-second l = record {
  size : length l.spots ≡ length l.entries;
  found : (r : Run) → IsRead r l.clocks l.entries → AreNoted r l.clocks (length l.entries) 0 l.fn.spots → AreRacesBefore r 0 l.second l.races;
  noted : (r : Run) → IsRead r l.clocks l.entries → AreNoted r l.clocks (length l.entries) 0 l.fn.spots → AreNoted r l.clocks (length l.entries) l.second l.spots;
  few : length l.races ≤ 65536;
}
