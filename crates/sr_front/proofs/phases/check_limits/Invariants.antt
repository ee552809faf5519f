-- What the other files lead to, all lead to.
use Rattle.std.proofs.Common.{take}
use Rattle.sr_front.specs.Reading.{KeepsLimits, BreaksLimits}
use Rattle.sr_front.proofs.Lists.FileByFile.{LeadsOn}
use Rattle.sr_front.proofs.phases.check_limits.Given as goal

abbrev pub invariant-loop-tokens : goal.invariant-loop-tokens
invariant-loop-tokens l = LeadsOn KeepsLimits BreaksLimits (λ file. file.items) (λ file. file.items) l.files l.tokens-index (take l.tokens-index l.files)
