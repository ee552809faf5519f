use Rattle.sr_store.proofs.LawLemmas.{loaded-after, other-places-stay}
use Rattle.sr_store.proofs.laws.load_after_store.Goals as goal

pub returns-clause-stored : goal.returns-clause-stored
returns-clause-stored c = loaded-after

pub returns-clause-others : goal.returns-clause-others
returns-clause-others c = other-places-stay
