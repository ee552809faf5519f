use Rattle.sr_execute.proofs.Numbers.{number_made}
use Rattle.sr_execute.proofs.quick_variables.quick_made.Goals as goal

pub returns-in-Int-clause-made : goal.returns-in-Int-clause-made
returns-in-Int-clause-made c = number_made c.args.var c.args.next c.args.shape c.set_number.new.own c.args.frame.now c.in-Int.is c.set_number.ensures
