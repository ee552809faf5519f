use Rattle.std.proofs.Common.{sym}
use Rattle.sr_plain.proofs.crowd.is_empty_at.Goals as goal

pub returns-in-Some : goal.returns-in-Some
returns-in-Some c = λ none. record { crowd = c.in-Some.crowd.now; here = sym c.in-Some.ensures.value; nobody = c.is_empty.ensures.0 none }
