-- The leads so far and those of the rest are those of all.
use Rattle.std.proofs.Common.{◌≡◌, ◌++◌, drop}
use Rattle.sr_check_decl.specs.Waits.{seen}
use Rattle.sr_check_decl.specs.Cycles.{leads_of}
use Rattle.sr_check_decl.proofs.cycles.push_leads.Given as goal

abbrev pub invariant-loop-name : goal.invariant-loop-name
invariant-loop-name l = l.leads ++ leads_of l.facts (seen l.waiting) (drop l.name-index l.names) ≡ l.fn.leads ++ leads_of l.facts (seen l.waiting) l.names
