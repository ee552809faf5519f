use Rattle.std.proofs.Common.{◌≡◌, ℕ, List, None}
use Rattle.sr_plain.specs.Engine.{IsEngine}
use Rattle.sr_plain.specs.Waiting.{turns_len}
use Rattle.sr_world.specs.Runs.{Event, State}
use Rattle.sr_plain.proofs.plain.Plain.take_turn.Given as goal

-- it stands for the same state
abbrev pub invariant-loop-process : goal.invariant-loop-process
invariant-loop-process g l = (l.self.woken ≡ None) × ((limit : ℕ) (state : State) (events : List Event)
    → IsEngine (g.A.Actor.asks_after l.program) g.A.Actor.can_feed (g.A.Actor.core_of l.program) limit state events l.fn.self
    → IsEngine (g.A.Actor.asks_after l.program) g.A.Actor.can_feed (g.A.Actor.core_of l.program) limit state events l.self)

abbrev pub decreases-loop-process : goal.decreases-loop-process
decreases-loop-process g l = turns_len l.self.waiters
