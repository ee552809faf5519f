-- What there is so far and what the rest adds are what all add.
use Rattle.std.proofs.Common.{drop, ◌++◌, ◌≡◌}
use Rattle.sr_outline.specs.Outline.{enumerations_of}
use Rattle.sr_tables.specs.Parts.{components_in}
use Rattle.sr_outline.proofs.outline.enumerations_of.Given as goal

abbrev pub invariant-loop-file : goal.invariant-loop-file
invariant-loop-file l = l.names ++ enumerations_of (components_in (drop l.file-index l.files)) ≡ enumerations_of (components_in l.files)
