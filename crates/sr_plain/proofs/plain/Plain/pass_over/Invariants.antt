use Rattle.std.proofs.Common.{◌≡◌, ◌≤◌, ◌-◌, ℕ, List, [], None, length}
use Rattle.std.specs.List.{AllByRecursion}
use Rattle.sr_classes.specs.Classes.{class_of}
use Rattle.sr_plain.specs.Passing.{FitsItem, IsPassing, NoneCould}
use Rattle.sr_world.specs.Runs.{Event, State}
use Rattle.sr_plain.proofs.plain.Plain.pass_over.Given as goal

-- the pass goes on, and where it has made nothing, none of those could take part that were asked
abbrev pub invariant-loop-process : goal.invariant-loop-process
invariant-loop-process g l = record {
  awake : l.self.woken ≡ None;
  within : length l.fn.made ≤ l.room → length l.made ≤ l.room;
  fit : AllByRecursion FitsItem l.fn.made → AllByRecursion FitsItem l.made;
  passing : (limit : ℕ) (state : State) (events : List Event) (bound : ℕ) → l.high ≤ bound
      → IsPassing (g.A.Actor.asks_after l.program) g.A.Actor.can_feed (g.A.Actor.core_of l.program) (class_of l.classes.of) limit state events bound l.fn.made l.fn.self
      → IsPassing (g.A.Actor.asks_after l.program) g.A.Actor.can_feed (g.A.Actor.core_of l.program) (class_of l.classes.of) limit state events bound l.made l.self
      × (l.made ≡ [] → (l.fn.made ≡ []) × NoneCould (g.A.Actor.core_of l.program) (class_of l.classes.of) limit state l.low l.at);
}

abbrev pub decreases-loop-process : goal.decreases-loop-process
decreases-loop-process g l = l.high - l.at
