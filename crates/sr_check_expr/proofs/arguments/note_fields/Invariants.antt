-- What was noted so far and what the rest adds are what all arguments add.
use Rattle.std.proofs.Common.{◌≡◌, drop}
use Rattle.sr_names.specs.Diagnostics.{all_noted}
use Rattle.sr_check_expr.specs.Arguments.{fields_found}
use Rattle.sr_check_expr.proofs.arguments.note_fields.Given as goal

abbrev pub invariant-loop-field : goal.invariant-loop-field
invariant-loop-field l = all_noted l.diagnostics (fields_found (drop l.field-index l.fields) l.rest) ≡ all_noted l.fn.diagnostics (fields_found l.fields l.arguments)
