-- What was noted so far and what the rest adds are what all arguments add.
use Rattle.std.proofs.Common.{◌≡◌, drop}
use Rattle.sr_names.specs.Diagnostics.{all_noted}
use Rattle.sr_check_expr.specs.PredefinedCalls.{places_found}
use Rattle.sr_check_expr.proofs.functions.note_places.Given as goal

abbrev pub invariant-loop-argument : goal.invariant-loop-argument
invariant-loop-argument l = all_noted l.diagnostics (places_found (drop l.argument-index l.arguments)) ≡ all_noted l.fn.diagnostics (places_found l.arguments)
