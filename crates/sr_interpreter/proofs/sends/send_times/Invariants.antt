-- The sends that are left, from here on, are what all led to.
use Rattle.std.proofs.Common.{◌≡◌}
use Rattle.sr_meaning.specs.Statements.{sends}
use Rattle.sr_interpreter_expr.specs.Interpreters.{here_of, stage_of}
use Rattle.sr_interpreter.proofs.sends.send_times.Given as goal

abbrev pub decreases-sends : goal.decreases-sends
decreases-sends g l = l.left

abbrev pub invariant-sends : goal.invariant-sends
invariant-sends g l = sends l.target l.left (here_of g.C.HasCore.core_of l.scene) (stage_of l.interpreter) ≡ sends l.target l.initial.left (here_of g.C.HasCore.core_of l.scene) (stage_of l.initial.interpreter)
