use Rattle.sr_instances.proofs.InstanceLemmas.{state-itself, state-others}
use Rattle.sr_instances.proofs.laws.state_is_of_one.Goals as goal

pub returns-clause-itself : goal.returns-clause-itself
returns-clause-itself c = λ places name state there. state-itself name state places.instances there

pub returns-clause-others : goal.returns-clause-others
returns-clause-others c = λ places name other state ne. state-others name state other ne places.instances
