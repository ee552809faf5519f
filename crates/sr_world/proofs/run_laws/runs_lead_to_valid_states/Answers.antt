use Rattle.sr_world.proofs.LawProofs.{runs_lead_to_valid_states}
use Rattle.sr_world.proofs.run_laws.runs_lead_to_valid_states.Goals as goal

pub returns : goal.returns
returns c = runs_lead_to_valid_states
