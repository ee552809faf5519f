-- What was noted so far and what the rest adds are what the whole list adds.
use Rattle.std.proofs.Common.{◌≡◌, drop}
use Rattle.sr_names.specs.Diagnostics.{all_noted}
use Rattle.sr_scope.specs.Components.{imports_found}
use Rattle.sr_scope.proofs.components.note_imports.Given as goal

abbrev pub invariant-loop-name : goal.invariant-loop-name
invariant-loop-name l = all_noted l.diagnostics (imports_found l.components (drop l.name-index l.names)) ≡ all_noted l.fn.diagnostics (imports_found l.components l.names)
