use Rattle.std.proofs.Common.{ap}
use Rattle.sr_meaning.specs.Statements.{status_meaning}
use Rattle.sr_gen_expr.proofs.Stretching.{gives_as}
use Rattle.sr_gen.proofs.Actions.{gives_no_status}
use Rattle.sr_gen.proofs.action.gen_status.Goals as goal

pub returns-in_ok-emit-in-None : goal.returns-in_ok-emit-in-None
returns-in_ok-emit-in-None c = gives_as (ap status_meaning c.in-None.is) (gives_no_status c.in_ok-emit-in-None.ensures)
