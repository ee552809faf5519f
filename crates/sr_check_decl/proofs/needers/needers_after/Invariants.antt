-- The places so far and those after the rest are those after all.
use Rattle.std.proofs.Common.{◌≡◌, ◌++◌, map, drop}
use Rattle.sr_check_decl.specs.Waits.{seen}
use Rattle.sr_check_decl.specs.Needers.{needers_after}
use Rattle.sr_check_decl.proofs.needers.needers_after.Given as goal

abbrev pub invariant-loop-waiting : goal.invariant-loop-waiting
invariant-loop-waiting l = l.found ++ needers_after l.needers (map seen (drop l.waiting-index l.wave)) ≡ needers_after l.needers (map seen l.wave)
