-- The law of the floor quotient holds of the arguments, whichever way the rest is made.
use Rattle.sr_value.proofs.DivisionLaws.{floor_quotient_is}
use Rattle.sr_value.proofs.division.modulo.Goals as goal

pub returns-then-rest-lt0-clause-floor : goal.returns-then-rest-lt0-clause-floor
returns-then-rest-lt0-clause-floor c = floor_quotient_is c.args.a c.args.b c.requires

pub returns-else-rest-lt0-clause-floor : goal.returns-else-rest-lt0-clause-floor
returns-else-rest-lt0-clause-floor c = floor_quotient_is c.args.a c.args.b c.requires

pub returns-then-rest-gt0-clause-floor : goal.returns-then-rest-gt0-clause-floor
returns-then-rest-gt0-clause-floor c = floor_quotient_is c.args.a c.args.b c.requires

pub returns-else-rest-gt0-clause-floor : goal.returns-else-rest-gt0-clause-floor
returns-else-rest-gt0-clause-floor c = floor_quotient_is c.args.a c.args.b c.requires
