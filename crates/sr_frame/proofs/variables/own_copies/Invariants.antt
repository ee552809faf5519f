-- The values so far are those of the variables so far.
use Rattle.std.proofs.Common.{◌≡◌, map, take}
use Rattle.sr_ask.specs.Places.{own_at, own_or_nothing}
use Rattle.sr_frame.proofs.variables.own_copies.Given as goal

abbrev pub invariant-loop-var : goal.invariant-loop-var
invariant-loop-var l = l.values ≡ map (λ var. own_or_nothing (own_at l.own var)) (take l.var-index l.vars)
