-- The place and what was noted so far, and what the rest adds, are what the whole list adds.
use Rattle.std.proofs.Common.{◌≡◌, drop}
use Rattle.sr_names.specs.Diagnostics.{all_noted}
use Rattle.sr_scope.specs.Components.{files_collected, files_collected_twice}
use Rattle.sr_scope.proofs.components.collect_files.Given as goal

abbrev pub invariant-loop-file : goal.invariant-loop-file
invariant-loop-file l =
    (files_collected (drop l.file-index l.files) l.place ≡ files_collected l.files l.fn.place)
    × (all_noted l.diagnostics (files_collected_twice (drop l.file-index l.files) l.place) ≡ all_noted l.fn.diagnostics (files_collected_twice l.files l.fn.place))
