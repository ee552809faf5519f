-- All items so far were made, and a run may have so many.
use Rattle.std.proofs.Common.{◌≡◌, ◌≤◌}
use Rattle.sr_races.specs.Items.{Run}
use Rattle.sr_races.specs.Walks.{CanWalk, IsWalked}
use Rattle.sr_races.proofs.whole.races_on.Given as goal

abbrev pub invariant-loop-place : goal.invariant-loop-place
invariant-loop-place g l = record {
  can : CanWalk l.items l.place l.walk;
  walked : (r : Run) → r.items ≡ l.items → r.core ≡ g.A.Actor.core_of l.program → IsWalked (g.A.Actor.asks_after l.program) r 0 l.fn.walk → IsWalked (g.A.Actor.asks_after l.program) r l.place l.walk;
  most : l.place ≤ l.steps;
}
