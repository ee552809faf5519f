-- What was noted so far and what the rest adds are what all arguments add.
use Rattle.std.proofs.Common.{◌≡◌, drop}
use Rattle.sr_names.specs.Diagnostics.{all_noted}
use Rattle.sr_check_expr.specs.Arguments.{all_valued}
use Rattle.sr_check_expr.proofs.arguments.note_values.Given as goal

abbrev pub invariant-loop-argument : goal.invariant-loop-argument
invariant-loop-argument l = all_noted l.diagnostics (all_valued (drop l.argument-index l.arguments)) ≡ all_noted l.fn.diagnostics (all_valued l.arguments)
