-- The mentions so far, with those of the rest of the arms, are those of all.
use Rattle.std.proofs.Common.{◌≡◌, ◌++◌, drop, flat_map}
use Rattle.sr_tables.specs.Sites.{arm_mentions}
use Rattle.sr_tables.proofs.sites.mentions_of.Given as goal

abbrev pub invariant-loop-arm : goal.invariant-loop-arm
invariant-loop-arm l = l.all ++ flat_map arm_mentions (drop l.arm-index l.arms) ≡ flat_map arm_mentions l.arms
