-- What was noted so far and what the rest adds are what all add.
use Rattle.std.proofs.Common.{◌≡◌, drop}
use Rattle.sr_names.specs.Diagnostics.{all_noted}
use Rattle.sr_check.specs.Invoking.{written_found}
use Rattle.sr_check.proofs.invoking.note_written.Given as goal

abbrev pub invariant-loop-argument : goal.invariant-loop-argument
invariant-loop-argument l = all_noted l.diagnostics (written_found (drop l.argument-index l.arguments)) ≡ all_noted l.fn.diagnostics (written_found l.arguments)
