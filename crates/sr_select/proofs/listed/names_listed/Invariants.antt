-- All arms pass where the rest does.
use Rattle.std.proofs.Common.{◌≡◌, drop}
use Rattle.std.specs.List.{list_all}
use Rattle.sr_select.specs.Worlds.{arm_names_only, listed}
use Rattle.sr_select.proofs.listed.names_listed.Given as goal

abbrev pub invariant-loop-arm : goal.invariant-loop-arm
invariant-loop-arm l = list_all (arm_names_only (listed l.site)) (drop l.arm-index l.arm-items) ≡ list_all (arm_names_only (listed l.site)) l.arm-items
