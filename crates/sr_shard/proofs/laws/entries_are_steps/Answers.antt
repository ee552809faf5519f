use Rattle.sr_shard.proofs.SoundLemmas.{valid_states_stand}
use Rattle.sr_shard.proofs.StepLemmas as step
use Rattle.sr_shard.proofs.laws.entries_are_steps.Goals as goal

pub returns-clause-steps : goal.returns-clause-steps
returns-clause-steps c = step.entries_are_steps

pub returns-clause-valid : goal.returns-clause-valid
returns-clause-valid c = valid_states_stand
