use Rattle.sr_store.proofs.LawLemmas.{others-stay, shape-stays, store-named}
use Rattle.sr_store.proofs.laws.store_is_to_one_variable.Goals as goal

pub returns-clause-shape : goal.returns-clause-shape
returns-clause-shape c = shape-stays

pub returns-clause-others : goal.returns-clause-others
returns-clause-others c = others-stay

pub returns-clause-named : goal.returns-clause-named
returns-clause-named c = store-named
