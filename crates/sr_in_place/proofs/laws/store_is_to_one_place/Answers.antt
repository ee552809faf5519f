use Rattle.sr_in_place.proofs.PlaceLemmas.{others-stay, stored-loaded}
use Rattle.sr_in_place.proofs.laws.store_is_to_one_place.Goals as goal

pub returns-clause-stored : goal.returns-clause-stored
returns-clause-stored c = stored-loaded

pub returns-clause-others : goal.returns-clause-others
returns-clause-others c = others-stay
