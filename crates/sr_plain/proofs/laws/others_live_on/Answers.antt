use Rattle.sr_plain.proofs.LeaveLemmas.{leaves, leaves_at_rest}
use Rattle.sr_plain.proofs.laws.others_live_on.Goals as goal

pub returns-clause-step : goal.returns-clause-step
returns-clause-step c = λ core world actor name ask. leaves name world core actor ask.place ask.role ask.request

pub returns-clause-rest : goal.returns-clause-rest
returns-clause-rest c = λ core world name. leaves_at_rest name world core
