-- The lists so far and those of the rest are those of all.
use Rattle.std.proofs.Common.{◌≡◌, ◌++◌, map, drop}
use Rattle.sr_check_decl.specs.Waits.{seen}
use Rattle.sr_check_decl.specs.Needs.{needs_in, FirstAreKnown}
use Rattle.sr_check_decl.proofs.needs.needs_of_all.Given as goal

abbrev pub invariant-loop-waiting : goal.invariant-loop-waiting
invariant-loop-waiting l = record {
  spots : l.needs.spots ++ map (needs_in l.facts.uses) (map seen (drop l.waiting-index l.all)) ≡ map (needs_in l.facts.uses) (map seen l.all);
  known : FirstAreKnown l.facts l.needs.spots l.needs.known;
}
