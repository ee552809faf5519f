-- What the other files lead to, all lead to.
use Rattle.std.proofs.Common.{◌≡◌, take}
use Rattle.sr_front.specs.Reading.{HasItsSize, IsTooLarge}
use Rattle.sr_front.proofs.Lists.FileByFile.{LeadsOn}
use Rattle.sr_front.proofs.phases.check_sizes.Given as goal

abbrev pub invariant-loop-content : goal.invariant-loop-content
invariant-loop-content l = (l.number ≡ l.content-index)
    × LeadsOn HasItsSize IsTooLarge (λ file. file.1) (λ file. file.1) l.files l.content-index (take l.content-index l.files)
