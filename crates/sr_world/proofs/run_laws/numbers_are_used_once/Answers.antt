use Rattle.sr_world.proofs.LawProofs.{numbers_are_used_once}
use Rattle.sr_world.proofs.run_laws.numbers_are_used_once.Goals as goal

pub returns : goal.returns
returns c = numbers_are_used_once
