use Rattle.std.proofs.Common.{◌≡◌, true, take}
use Rattle.std.specs.List.{list_all}
use Rattle.sr_world.specs.Runs.{is_blocked}
use Rattle.sr_world.proofs.world.World.are_blocked.Given as goal

abbrev pub invariant-loop-one : goal.invariant-loop-one
invariant-loop-one l = list_all (λ one. is_blocked l.core l.self one.0 one.1) (take l.one-index l.asks) ≡ true
