use Rattle.sr_plain.proofs.LeaveLemmas.{by-number}
use Rattle.sr_plain.proofs.laws.taken_by_number.Goals as goal

pub returns : goal.returns
returns c = by-number
