use Rattle.sr_code.proofs.OneByOne.{one_by_one}
use Rattle.sr_code.proofs.laws.code_runs_one_by_one.Goals as goal

pub returns : goal.returns
returns c = one_by_one
