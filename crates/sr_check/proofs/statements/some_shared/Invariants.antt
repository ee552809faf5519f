-- There is one among all where there is one among the rest.
use Rattle.std.proofs.Common.{◌≡◌, map, drop}
use Rattle.std.specs.List.{list_any}
use Rattle.sr_check.specs.Services.{is_shared_name}
use Rattle.sr_check.specs.Statements.{arm_read}
use Rattle.sr_check.proofs.statements.some_shared.Given as goal

abbrev pub invariant-loop-arm : goal.invariant-loop-arm
invariant-loop-arm l = list_any (λ arm. is_shared_name l.facts arm.operation) (map arm_read (drop l.arm-index l.arms)) ≡ list_any (λ arm. is_shared_name l.facts arm.operation) (map arm_read l.arms)
