-- The places of the arguments so far stand before those of the rest.
use Rattle.std.proofs.Common.{◌≡◌, ◌++◌, drop}
use Rattle.sr_interpreter_expr.proofs.call.places_in.Given as goal
use Rattle.sr_ask.specs.Invocations.{places_back}

abbrev pub invariant-loop-one : goal.invariant-loop-one
invariant-loop-one l = l.places ++ places_back (drop l.one-index l.sent) ≡ places_back l.sent
