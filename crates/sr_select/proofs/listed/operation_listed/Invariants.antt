-- The operation is listed where it is among the rest.
use Rattle.std.proofs.Common.{◌≡◌, ◌==◌, drop}
use Rattle.std.specs.List.{list_any}
use Rattle.sr_select.proofs.listed.operation_listed.Given as goal

abbrev pub invariant-loop-other : goal.invariant-loop-other
invariant-loop-other l = list_any (λ other. l.op == other) (drop l.other-index l.other-items) ≡ list_any (λ other. l.op == other) l.other-items
