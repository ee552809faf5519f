-- All items that came were made, and a run may have so many.
use Rattle.std.proofs.Common.{◌≡◌, ◌≤◌}
use Rattle.sr_races.specs.Items.{Run}
use Rattle.sr_races.specs.Trails.{IsTrailed}
use Rattle.sr_races.proofs.tracing.rows_of.Given as goal

abbrev pub invariant-loop-place : goal.invariant-loop-place
invariant-loop-place g l = ((r : Run) → r.items ≡ l.items → r.core ≡ g.A.Actor.core_of l.program → IsTrailed (g.A.Actor.asks_after l.program) r 0 l.fn.trail → IsTrailed (g.A.Actor.asks_after l.program) r l.place l.trail) × (l.place ≤ l.steps)
