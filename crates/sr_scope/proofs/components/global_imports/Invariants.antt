-- The imports so far and those of the rest are those of all.
use Rattle.std.proofs.Common.{◌≡◌, ◌++◌, drop}
use Rattle.sr_scope.specs.Components.{files_imports}
use Rattle.sr_scope.proofs.components.global_imports.Given as goal

abbrev pub invariant-loop-file : goal.invariant-loop-file
invariant-loop-file l = l.imports ++ files_imports l.components (drop l.file-index l.files) ≡ files_imports l.components l.files
