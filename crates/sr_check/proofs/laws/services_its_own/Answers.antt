-- Where no rule is broken each component services its own operations.
use Rattle.sr_check.proofs.Kept.{all_service_own}
use Rattle.sr_check.proofs.laws.services_its_own.Goals as goal

pub returns : goal.returns
returns c = all_service_own
