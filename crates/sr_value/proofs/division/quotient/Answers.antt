-- The law of the cut quotient holds of the arguments.
use Rattle.sr_value.proofs.DivisionLaws.{cut_quotient_is}
use Rattle.sr_value.proofs.division.quotient.Goals as goal

pub returns-clause-cut : goal.returns-clause-cut
returns-clause-cut c = cut_quotient_is c.args.a c.args.b c.requires
