-- The answers that were used change nothing.
use Rattle.std.proofs.Common.{◌≡◌, length}
use Rattle.sr_ask.specs.Behaviors.{asking}
use Rattle.sr_ask.specs.declared.ask.Asks.{Asks}
use Rattle.sr_interpreter_expr.specs.Interpreters.{stage_of}
use Rattle.sr_interpreter_expr.proofs.listening.heard.Given as goal

abbrev pub invariant-answers : goal.invariant-answers
invariant-answers g l = (asks : Asks) → asking (g.F.Takes.takes l.form) asks l.limit (stage_of l.interpreter) ≡ asking (g.F.Takes.takes l.form) asks l.limit (stage_of l.initial.interpreter)

abbrev pub decreases-answers : goal.decreases-answers
decreases-answers g l = length l.interpreter.answers
