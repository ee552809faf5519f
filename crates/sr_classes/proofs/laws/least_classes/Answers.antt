-- By induction on why two operations are of one class.
use Rattle.sr_classes.proofs.Least.{least}
use Rattle.sr_classes.proofs.laws.least_classes.Goals as goal

pub returns : goal.returns
returns c = least
