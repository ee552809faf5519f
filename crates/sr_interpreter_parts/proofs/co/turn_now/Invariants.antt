-- The numbers so far are those of the quantifiers so far.
use Rattle.std.proofs.Common.{◌≡◌, map, take}
use Rattle.sr_interpreter_parts.proofs.co.turn_now.Given as goal
use Rattle.sr_ask.specs.Places.{number_held}

abbrev pub invariant-loop-quantifier : goal.invariant-loop-quantifier
invariant-loop-quantifier l = l.turn ≡ map (λ q. number_held l.interpreter.own q.var) (take l.quantifier-index l.quantifiers)
