-- So far no more was taken than the input may have, and no take failed.
use Rattle.std.proofs.Common.{◌≡◌, ◌-◌, ◌≤◌, length}
use Rattle.std.specs.Io.KnownBytes.{prepend_known}
use Rattle.sr_top.proofs.input.take_all.Given as goal

abbrev pub invariant-pieces : goal.invariant-pieces
invariant-pieces g l =
    (g.I.Source.left l.initial.input ≡ prepend_known l.taken (g.I.Source.left l.input)) × (length l.taken ≤ 67108864) × (g.I.Source.faults l.input ≡ g.I.Source.faults l.initial.input)

abbrev pub decreases-pieces : goal.decreases-pieces
decreases-pieces g l = 67108865 - length l.taken
