use Rattle.sr_plain.proofs.CrowdLemmas.{crowd-left}
use Rattle.sr_plain.proofs.crowd.leave.Goals as goal

pub returns : goal.returns
returns c = crowd-left c.args.process c.args.crowd.now c.remove.new.self c.remove.result c.remove.ensures.updates c.remove.ensures.test c.requires c.remove.ensures.len
