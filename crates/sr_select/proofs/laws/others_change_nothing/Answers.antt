use Rattle.sr_select.proofs.LawProofs.{unnamed-changes-nothing}
use Rattle.sr_select.proofs.laws.others_change_nothing.Goals as goal

pub returns : goal.returns
returns c = unnamed-changes-nothing
