-- What there is so far and what the rest adds are what all add.
use Rattle.std.proofs.Common.{drop, ◌++◌, ◌≡◌}
use Rattle.sr_desugar.specs.Core.{spec_code}
use Rattle.sr_desugar.proofs.program.spec_code.Given as goal

abbrev pub invariant-loop-item : goal.invariant-loop-item
invariant-loop-item l = l.code ++ spec_code l.scene (drop l.item-index l.items) ≡ spec_code l.scene l.items
