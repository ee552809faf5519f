-- What is left to set, over what is set so far, is all.
use Rattle.std.proofs.Common.{◌≡◌, drop}
use Rattle.sr_frame.specs.Variables.{vars_set}
use Rattle.sr_frame.proofs.variables.set_vars.Given as goal

abbrev pub invariant-loop-var : goal.invariant-loop-var
invariant-loop-var l = vars_set (drop l.var-index l.vars) l.rest l.own ≡ vars_set l.vars l.turn l.initial.own
