use Rattle.sr_meaning.proofs.LawProofs.{replies_once}
use Rattle.sr_meaning.proofs.laws.services_reply_once.Goals as goal

pub returns : goal.returns
returns c = replies_once
