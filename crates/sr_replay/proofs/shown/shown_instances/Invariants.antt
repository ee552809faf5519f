-- Each that came is shown.
use Rattle.std.proofs.Common.{◌≡◌, take}
use Rattle.std.specs.Prelude.{flat_map}
use Rattle.sr_instances.specs.Instances.{instance_of}
use Rattle.sr_replay.specs.Parts.{instance_at}
use Rattle.sr_replay.proofs.shown.shown_instances.Given as goal

abbrev pub invariant-loop-name : goal.invariant-loop-name
invariant-loop-name l = l.shown ≡ flat_map (λ name. instance_at (instance_of l.places name)) (take l.name-index l.names)
