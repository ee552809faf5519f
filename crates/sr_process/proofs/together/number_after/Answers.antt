use Rattle.sr_process.proofs.Leading.{replaced_follows}
use Rattle.sr_process.proofs.together.number_after.Goals as goal

pub returns-in-Some : goal.returns-in-Some
returns-in-Some c = replaced_follows c.args.code.now c.args.own.now c.args.part c.args.address c.in_ok-first.first c.in-Some.found c.in_ok-first.ensures c.in-Some.ensures
