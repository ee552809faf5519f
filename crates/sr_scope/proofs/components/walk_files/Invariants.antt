-- The program is the same, and what was noted so far and what the rest adds are what the whole list adds.
use Rattle.std.proofs.Common.{◌≡◌, drop}
use Rattle.sr_names.specs.Diagnostics.{all_noted}
use Rattle.sr_scope.specs.Components.{files_found}
use Rattle.sr_scope.proofs.components.walk_files.Given as goal

abbrev pub invariant-loop-file : goal.invariant-loop-file
invariant-loop-file l =
    (l.place.components ≡ l.fn.place.components)
    × (l.place.specs ≡ l.fn.place.specs)
    × (all_noted l.diagnostics (files_found l.fn.place.components l.fn.place.specs (drop l.file-index l.files)) ≡ all_noted l.fn.diagnostics (files_found l.fn.place.components l.fn.place.specs l.files))
