use Rattle.std.proofs.Common.{take}
use Rattle.sr_world.specs.Worlds.{World}
use Rattle.sr_shard.specs.Presents.{AreReady, IsSame}
use Rattle.sr_shard.proofs.present.Present.reserve_all.Given as goal

abbrev pub invariant-loop-change : goal.invariant-loop-change
invariant-loop-change l = record { same : IsSame l.initial.self l.self; ready : (base : World) → AreReady base l.self (take l.change-index l.changes) }
