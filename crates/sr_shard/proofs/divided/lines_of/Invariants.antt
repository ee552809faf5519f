use Rattle.std.proofs.Common.{◌≡◌, take}
use Rattle.std.specs.Prelude.{map}
use Rattle.sr_classes.specs.Classes.{class_of}
use Rattle.sr_shard.specs.Dividing.{line_of}
use Rattle.sr_shard.proofs.divided.lines_of.Given as goal

abbrev pub invariant-loop-place : goal.invariant-loop-place
invariant-loop-place l = l.numbers ≡ map (line_of (class_of l.classes.of)) (take l.place l.queue.items)
