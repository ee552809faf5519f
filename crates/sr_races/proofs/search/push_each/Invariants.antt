-- The first of them, so many, were looked at.
use Rattle.sr_races.specs.Items.{Run}
use Rattle.sr_races.specs.Searches.{AreFirsts, AreRacesBefore, HasCome, IsRead}
use Rattle.sr_races.specs.Walks.{IsEntry}
use Rattle.sr_races.proofs.search.push_each.Given as goal

abbrev pub invariant-loop-first : goal.invariant-loop-first
invariant-loop-first l = (r : Run) → IsRead r l.clocks l.entries → IsEntry r l.clocks l.second l.other → AreFirsts r l.second l.firsts → AreRacesBefore r 0 l.second l.fn.races → HasCome r l.second l.firsts l.first-index l.races
