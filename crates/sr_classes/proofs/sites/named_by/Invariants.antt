-- The operations so far and those of the rest are all operations.
use Rattle.std.proofs.Common.{◌≡◌, ◌<◌, ◌++◌, All, drop}
use Rattle.sr_classes.specs.Classes.{named_by}
use Rattle.sr_classes.proofs.sites.named_by.Given as goal

abbrev pub invariant-loop-arm : goal.invariant-loop-arm
invariant-loop-arm l = (l.group ++ named_by l.count (drop l.arm-index l.arms) ≡ named_by l.count l.arms) × All (λ op. op < l.count) l.group
