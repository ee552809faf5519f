-- The waves so far and the waves that are left are all waves.
use Rattle.std.proofs.Common.{◌≡◌, map, length, ◌-◌}
use Rattle.sr_check_decl.specs.Waits.{seen}
use Rattle.sr_check_decl.specs.Inferring.{waves, inferred}
use Rattle.sr_check_decl.proofs.Lines.{Lined}
use Rattle.sr_check_decl.proofs.inferring.infer_waves.Given as goal

abbrev pub invariant-loop-wave : goal.invariant-loop-wave
invariant-loop-wave l = record {
  lined : Lined l.facts (map seen l.all) l.needs.spots l.needs.known l.places;
  same : l.needs.spots ≡ l.fn.needs.spots;
  so_far : waves (length l.all - l._wave) (map seen l.all) l.facts ≡ inferred (map seen l.all) l.fn.facts;
}
