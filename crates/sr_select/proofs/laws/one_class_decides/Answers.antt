use Rattle.sr_select.proofs.LawProofs.{one-class-decides}
use Rattle.sr_select.proofs.laws.one_class_decides.Goals as goal

pub returns : goal.returns
returns c = one-class-decides
