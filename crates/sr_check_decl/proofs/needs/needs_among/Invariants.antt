-- What is named so far and what the rest name is what all name.
use Rattle.std.proofs.Common.{◌≡◌, ◌++◌, drop}
use Rattle.sr_check_decl.specs.Needs.{needs_among}
use Rattle.sr_check_decl.proofs.needs.needs_among.Given as goal

abbrev pub invariant-loop-name : goal.invariant-loop-name
invariant-loop-name l = l.spots ++ needs_among l.facts.uses (drop l.name-index l.names) ≡ needs_among l.facts.uses l.names
