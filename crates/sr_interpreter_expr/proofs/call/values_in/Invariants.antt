-- The values of the arguments so far stand before those of the rest.
use Rattle.std.proofs.Common.{◌≡◌, ◌++◌, drop}
use Rattle.sr_interpreter_expr.proofs.call.values_in.Given as goal
use Rattle.sr_ask.specs.Invocations.{values_sent}

abbrev pub invariant-loop-one : goal.invariant-loop-one
invariant-loop-one l = l.values ++ values_sent (drop l.one-index l.sent) ≡ values_sent l.sent
