use Rattle.std.proofs.Common.{◌≡◌, ℕ, List}
use Rattle.sr_plain.specs.Crew.{member_of}
use Rattle.sr_plain.specs.Engine.{IsEngine}
use Rattle.sr_world.specs.Runs.{Event, State}
use Rattle.sr_plain.proofs.BeginLemmas.{to_begin}
use Rattle.sr_plain.proofs.plain.Plain.try_ready.Given as goal

-- it stands for the same state, and the process may have begun
abbrev pub invariant-loop-tried : goal.invariant-loop-tried
invariant-loop-tried g l = (l.self.world ≡ l.fn.self.world) × (l.self.waiters ≡ l.fn.self.waiters) × (l.self.woken ≡ l.fn.self.woken)
    × ((limit : ℕ) (state : State) (events : List Event) → IsEngine (g.A.Actor.asks_after l.program) g.A.Actor.can_feed (g.A.Actor.core_of l.program) limit state events l.fn.self
    → IsEngine (g.A.Actor.asks_after l.program) g.A.Actor.can_feed (g.A.Actor.core_of l.program) limit state events l.self)

abbrev pub decreases-loop-tried : goal.decreases-loop-tried
decreases-loop-tried g l = to_begin (member_of l.self.crew l.process)
