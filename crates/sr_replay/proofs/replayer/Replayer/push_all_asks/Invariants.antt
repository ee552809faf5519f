-- Each that came was asked, and the state is the same.
use Rattle.std.proofs.Common.{◌≡◌, ◌++◌, ℕ, take}
use Rattle.std.specs.Prelude.{flat_map}
use Rattle.sr_replay.specs.Replaying.{StandsAt, asked_by}
use Rattle.sr_world.specs.Runs.{State}
use Rattle.sr_world.specs.Worlds.{started}
use Rattle.sr_replay.proofs.replayer.Replayer.push_all_asks.Given as goal

abbrev pub invariant-loop-process : goal.invariant-loop-process
invariant-loop-process g l = record {
  asks : (limit : ℕ) (state : State) → StandsAt (g.A.Actor.asks_after l.program) (g.A.Actor.core_of l.program) limit state l.fn.self
      → l.asks ≡ l.fn.asks ++ flat_map (λ process. asked_by (g.A.Actor.core_of l.program) limit state (started state.world process)) (take l.process-index l.processes);
  stands : (limit : ℕ) (state : State) → StandsAt (g.A.Actor.asks_after l.program) (g.A.Actor.core_of l.program) limit state l.fn.self
      → StandsAt (g.A.Actor.asks_after l.program) (g.A.Actor.core_of l.program) limit state l.self;
  ending : l.self.ending ≡ l.fn.self.ending;
  world : l.self.world ≡ l.fn.self.world;
}
