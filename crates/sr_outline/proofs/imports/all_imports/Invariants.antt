-- What there is so far and what the rest adds are what all add.
use Rattle.std.proofs.Common.{drop, map, ◌++◌, ◌≡◌}
use Rattle.sr_outline.specs.Outline.{imports_of}
use Rattle.sr_tables.specs.Parts.{components_in}
use Rattle.sr_outline.proofs.imports.all_imports.Given as goal

abbrev pub invariant-loop-file : goal.invariant-loop-file
invariant-loop-file l = l.all ++ map (imports_of l.facts l.components) (components_in (drop l.file-index l.files)) ≡ map (imports_of l.facts l.components) (components_in l.files)
