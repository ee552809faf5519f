-- The lines of all that came are there.
use Rattle.std.proofs.Common.{◌≡◌, ◌++◌, take}
use Rattle.std.specs.Prelude.{flat_map}
use Rattle.sr_replay.specs.Texts.{instance_line}
use Rattle.sr_replay.proofs.texts.push_instances.Given as goal

abbrev pub invariant-loop-instance : goal.invariant-loop-instance
invariant-loop-instance l = l.text ≡ l.fn.text ++ flat_map (instance_line l.core) (take l.instance-index l.instances)
