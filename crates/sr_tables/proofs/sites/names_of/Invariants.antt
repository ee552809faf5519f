-- The names so far, with those of the rest of the arms, are those of all.
use Rattle.std.proofs.Common.{◌≡◌, drop, flat_map, fold}
use Rattle.sr_tables.specs.Sites.{arm_outer, names_of, with_named}
use Rattle.sr_tables.proofs.sites.names_of.Given as goal

abbrev pub invariant-loop-arm : goal.invariant-loop-arm
invariant-loop-arm l = fold with_named l.names (flat_map arm_outer (drop l.arm-index l.arms)) ≡ names_of l.arms
