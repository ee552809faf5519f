use Rattle.sr_races.proofs.LinkLemmas.{before_is_earlier}
use Rattle.sr_races.proofs.laws.before_comes_earlier.Goals as goal

pub returns : goal.returns
returns c = before_is_earlier
