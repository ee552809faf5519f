use Rattle.sr_world.proofs.LawProofs.{every_state_is_sound}
use Rattle.sr_world.proofs.run_laws.every_state_is_sound.Goals as goal

pub returns : goal.returns
returns c = every_state_is_sound
