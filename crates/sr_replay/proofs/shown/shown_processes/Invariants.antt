-- Each that came is shown.
use Rattle.std.proofs.Common.{◌≡◌, take}
use Rattle.std.specs.Prelude.{flat_map}
use Rattle.sr_replay.specs.Parts.{process_at}
use Rattle.sr_world.specs.Worlds.{started}
use Rattle.sr_replay.proofs.shown.shown_processes.Given as goal

abbrev pub invariant-loop-one : goal.invariant-loop-one
invariant-loop-one l = l.shown ≡ flat_map (λ one. process_at one.1 (started l.world one.0)) (take l.one-index l.asks)
