use Rattle.sr_select.proofs.LawProofs.{oldest-first}
use Rattle.sr_select.proofs.laws.oldest_goes_first.Goals as goal

pub returns : goal.returns
returns c = oldest-first
