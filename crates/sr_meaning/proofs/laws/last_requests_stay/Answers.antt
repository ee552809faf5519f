use Rattle.sr_meaning.proofs.LawProofs.{asks_for_good}
use Rattle.sr_meaning.proofs.laws.last_requests_stay.Goals as goal

pub returns : goal.returns
returns c = asks_for_good
