use Rattle.sr_select.proofs.ShownLemmas.{what-was-read-is-there, what-was-read-is-watched}
use Rattle.sr_select.proofs.laws.what_was_read_is_there.Goals as goal

pub returns-clause-there : goal.returns-clause-there
returns-clause-there c reading site me env items watched within = what-was-read-is-there watched reading site me env items within

pub returns-clause-watched : goal.returns-clause-watched
returns-clause-watched c reading site me env items watched within = what-was-read-is-watched watched reading site me env items within
