-- all arms pass where the rest does
use Rattle.std.proofs.Common.{◌≡◌, drop}
use Rattle.std.specs.List.{list_all}
use Rattle.sr_select.specs.Laws.{is_plain}
use Rattle.sr_plain.proofs.aside.all_plain.Given as goal

abbrev pub invariant-loop-arm : goal.invariant-loop-arm
invariant-loop-arm l = list_all is_plain (drop l.arm-index l.arms) ≡ list_all is_plain l.arms
