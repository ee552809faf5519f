-- By the rule that refuses two procs for one operation.
use Rattle.sr_scope.proofs.Served.{served_once}
use Rattle.sr_scope.proofs.laws.served_once.Goals as goal

pub returns : goal.returns
returns c = served_once
