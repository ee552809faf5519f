use Rattle.sr_races.proofs.RaceLemmas.{earlier_too}
use Rattle.sr_races.proofs.laws.earlier_items_are_before_too.Goals as goal

pub returns : goal.returns
returns c = earlier_too
