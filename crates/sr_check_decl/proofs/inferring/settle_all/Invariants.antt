-- What the rest settles after what is settled so far is what all settle.
use Rattle.std.proofs.Common.{◌≡◌, map, drop}
use Rattle.sr_check_decl.specs.Waits.{seen}
use Rattle.sr_check_decl.specs.Inferring.{all_settled}
use Rattle.sr_check_decl.proofs.inferring.settle_all.Given as goal

abbrev pub invariant-loop-waiting : goal.invariant-loop-waiting
invariant-loop-waiting l = all_settled (map seen (drop l.waiting-index l.wave)) l.facts ≡ all_settled (map seen l.wave) l.fn.facts
