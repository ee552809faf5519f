use Rattle.sr_select.proofs.ShownLemmas.{what-was-read-decides}
use Rattle.sr_select.proofs.laws.what_was_read_decides.Goals as goal

pub returns : goal.returns
returns c reading reading' site me env items watched within = what-was-read-decides watched reading site me env items within reading'
