-- What was noted so far and what the rest adds are what all add.
use Rattle.std.proofs.Common.{◌≡◌, drop}
use Rattle.sr_names.specs.Diagnostics.{all_noted}
use Rattle.sr_check_decl.specs.Variables.{values_found}
use Rattle.sr_check_decl.proofs.variables.note_initial.Given as goal

abbrev pub invariant-loop-decl : goal.invariant-loop-decl
invariant-loop-decl l = all_noted l.diagnostics (values_found l.ty (drop l.decl-index l.decls) l.rest) ≡ all_noted l.fn.diagnostics (values_found l.ty l.decls l.values)
