-- The numbers so far are those of the variables so far.
use Rattle.std.proofs.Common.{◌≡◌, map, take}
use Rattle.sr_ask.specs.Places.{number_held}
use Rattle.sr_frame.proofs.variables.turn_held.Given as goal

abbrev pub invariant-loop-var : goal.invariant-loop-var
invariant-loop-var l = l.turn ≡ map (λ var. number_held l.own var) (take l.var-index l.vars)
