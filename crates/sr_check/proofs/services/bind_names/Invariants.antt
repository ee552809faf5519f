-- What is declared so far and what the rest declares are what all declare.
use Rattle.std.proofs.Common.{◌≡◌, drop}
use Rattle.sr_check.specs.Services.{names_bound}
use Rattle.sr_check.proofs.services.bind_names.Given as goal

abbrev pub invariant-loop-name : goal.invariant-loop-name
invariant-loop-name l = names_bound (drop l.name-index l.names) l.rest l.facts ≡ names_bound l.names l.params l.fn.facts
