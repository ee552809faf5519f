-- What is picked so far and what is picked at the rest is what is picked at all.
use Rattle.std.proofs.Common.{◌≡◌, ◌++◌, map, drop}
use Rattle.sr_check_decl.specs.Waits.{seen}
use Rattle.sr_check_decl.specs.Needs.{FirstAreKnown}
use Rattle.sr_check_decl.specs.Picked.{picked}
use Rattle.sr_check_decl.proofs.inferring.next_wave.Given as goal

abbrev pub invariant-loop-place : goal.invariant-loop-place
invariant-loop-place l = record {
  value : map seen l.wave ++ picked l.facts (map seen l.all) (drop l.place-index l.places) ≡ picked l.facts (map seen l.all) l.places;
  same : l.needs.spots ≡ l.fn.needs.spots;
  known : FirstAreKnown l.facts l.needs.spots l.needs.known;
}
