use Rattle.sr_select.proofs.LawProofs.{serves-pending}
use Rattle.sr_select.proofs.laws.the_serviced_is_pending.Goals as goal

pub returns : goal.returns
returns c = serves-pending
