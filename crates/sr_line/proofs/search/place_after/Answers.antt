use Rattle.std.proofs.Common.{◌+◌, Some, ap}
use Rattle.std.proofs.lemmas.Option.{none-some, same_Some}
use Rattle.sr_line.proofs.search.place_after.Goals as goal

pub returns-in_err-place-clause-found : goal.returns-in_err-place-clause-found
returns-in_err-place-clause-found g c = λ place item at is. absurd (none-some place (c.in_err-place.ensures.found place item at is))

pub returns-clause-found : goal.returns-clause-found
returns-clause-found g c = λ place item at is. ap (λ n. Some (c.args.before + n)) (same_Some c.in_ok-place.place place (c.in_ok-place.ensures.found place item at is))
