-- What was noted so far and what the rest adds are what all arguments add.
use Rattle.std.proofs.Common.{◌≡◌, drop}
use Rattle.sr_names.specs.Diagnostics.{all_noted}
use Rattle.sr_check_expr.specs.Arguments.{arguments_found}
use Rattle.sr_check_expr.proofs.arguments.note_arguments.Given as goal

abbrev pub invariant-loop-formal : goal.invariant-loop-formal
invariant-loop-formal l = all_noted l.diagnostics (arguments_found (drop l.formal-index l.formals) l.rest) ≡ all_noted l.fn.diagnostics (arguments_found l.formals l.arguments)
