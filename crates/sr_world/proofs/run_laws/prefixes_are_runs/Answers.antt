use Rattle.sr_world.proofs.LawProofs.{prefix_is_a_run, run_goes_on}
use Rattle.sr_world.proofs.run_laws.prefixes_are_runs.Goals as goal

pub returns-clause-prefix : goal.returns-clause-prefix
returns-clause-prefix c = prefix_is_a_run

pub returns-clause-rest : goal.returns-clause-rest
returns-clause-rest c = run_goes_on
