use Rattle.sr_meaning.proofs.LawProofs.{left_decides}
use Rattle.sr_meaning.proofs.laws.left_side_decides.Goals as goal

pub returns : goal.returns
returns c = left_decides
