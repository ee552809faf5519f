-- What there is so far and what the rest adds are what all add.
use Rattle.std.proofs.Common.{drop, fold, ◌≡◌}
use Rattle.sr_outline.specs.Outline.{with_component}
use Rattle.sr_tables.specs.Parts.{components_in}
use Rattle.std.specs.List.{enumerate_from}
use Rattle.sr_outline.proofs.outline.note_files.Given as goal

abbrev pub invariant-loop-file : goal.invariant-loop-file
invariant-loop-file l = fold (with_component l.facts) l.tables (enumerate_from l.number (components_in (drop l.file-index l.files))) ≡ fold (with_component l.facts) l.fn.tables (enumerate_from 0 (components_in l.files))
