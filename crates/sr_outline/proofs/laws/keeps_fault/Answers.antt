-- By cases: either the shape is kept, or both have too many cells.
use Rattle.sr_outline.proofs.LargeShapes.{keeps-fault}
use Rattle.sr_outline.proofs.laws.keeps_fault.Goals as goal

pub returns : goal.returns
returns c = keeps-fault
