-- By induction on the findings.
use Rattle.sr_names.proofs.FirstLemmas.{keeps-first}
use Rattle.sr_names.proofs.laws.keeps_first.Goals as goal

pub returns : goal.returns
returns c = keeps-first
