-- The leads so far and those of the rest are those of all.
use Rattle.std.proofs.Common.{◌≡◌, ◌++◌, map, drop}
use Rattle.sr_check_decl.specs.Waits.{seen}
use Rattle.sr_check_decl.specs.Cycles.{leads_left}
use Rattle.sr_check_decl.proofs.cycles.leads_left.Given as goal

abbrev pub invariant-loop-waiting : goal.invariant-loop-waiting
invariant-loop-waiting l = l.leads ++ leads_left l.facts (map seen (drop l.waiting-index l.all)) ≡ leads_left l.facts (map seen l.all)
