use Rattle.sr_meaning.proofs.LawProofs.{calls_in_order}
use Rattle.sr_meaning.proofs.laws.calls_go_in_order.Goals as goal

pub returns : goal.returns
returns c = calls_in_order
