use Rattle.sr_world.proofs.LawProofs.{each_stands_once}
use Rattle.sr_world.proofs.run_laws.each_stands_once.Goals as goal

pub returns : goal.returns
returns c = each_stands_once
