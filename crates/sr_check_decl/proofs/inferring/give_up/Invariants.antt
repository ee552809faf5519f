-- What is declared so far and what the rest declares are what all declare.
use Rattle.std.proofs.Common.{◌≡◌, map, drop}
use Rattle.sr_check_decl.specs.Waits.{seen}
use Rattle.sr_check_decl.specs.Inferring.{given_up}
use Rattle.sr_check_decl.proofs.inferring.give_up.Given as goal

abbrev pub invariant-loop-waiting : goal.invariant-loop-waiting
invariant-loop-waiting l = given_up (map seen (drop l.waiting-index l.all)) l.facts ≡ given_up (map seen l.all) l.fn.facts
