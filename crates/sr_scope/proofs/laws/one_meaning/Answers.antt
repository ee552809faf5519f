-- By counting: at a spot not more uses are found than names stand there.
use Rattle.sr_scope.proofs.FoundFiles.{one_meaning}
use Rattle.sr_scope.proofs.laws.one_meaning.Goals as goal

pub returns : goal.returns
returns c = one_meaning
