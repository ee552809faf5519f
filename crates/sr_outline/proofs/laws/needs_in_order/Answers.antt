-- By induction on the depth of the search.
use Rattle.sr_outline.proofs.Making.{needs-in_order}
use Rattle.sr_outline.proofs.laws.needs_in_order.Goals as goal

pub returns : goal.returns
returns c = needs-in_order
