-- All that came were made.
use Rattle.std.proofs.Common.{ℕ, take}
use Rattle.sr_replay.specs.Replaying.{IsAt}
use Rattle.sr_world.specs.Runs.{Next, run_from}
use Rattle.sr_replay.proofs.replayer.Replayer.follow.Given as goal

abbrev pub invariant-loop-place : goal.invariant-loop-place
invariant-loop-place g l = (limit : ℕ) (now : Next) → IsAt (g.A.Actor.asks_after l.program) (g.A.Actor.core_of l.program) limit now l.fn.self
    → IsAt (g.A.Actor.asks_after l.program) (g.A.Actor.core_of l.program) limit (run_from (g.A.Actor.core_of l.program) limit now (take l.place l.items)) l.self
