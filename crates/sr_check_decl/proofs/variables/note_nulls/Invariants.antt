-- What was noted so far and what the rest adds are what all add.
use Rattle.std.proofs.Common.{◌≡◌, drop}
use Rattle.sr_names.specs.Diagnostics.{all_noted}
use Rattle.sr_check_decl.specs.Variables.{nulls_found}
use Rattle.sr_check_decl.proofs.variables.note_nulls.Given as goal

abbrev pub invariant-loop-value : goal.invariant-loop-value
invariant-loop-value l = all_noted l.diagnostics (nulls_found (drop l.value-index l.values)) ≡ all_noted l.fn.diagnostics (nulls_found l.values)
