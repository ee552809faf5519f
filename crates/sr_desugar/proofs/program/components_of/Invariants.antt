-- What there is so far and what the rest adds are what all add.
use Rattle.std.proofs.Common.{drop, ◌++◌, ◌≡◌}
use Rattle.sr_desugar.specs.Core.{all_components, wholes_from, with_wholes}
use Rattle.sr_tables.specs.Parts.{components_in}
use Rattle.sr_desugar.proofs.program.components_of.Given as goal

abbrev pub invariant-loop-file : goal.invariant-loop-file
invariant-loop-file l =
    (l.scene.facts ≡ l.fn.scene.facts)
    × (l.scene.tables ≡ l.fn.scene.tables)
    × (l.components ++ all_components (wholes_from l.fn.scene.facts l.fn.scene.tables l.imports l.number (components_in (drop l.file-index l.files)))
    ≡ all_components (wholes_from l.fn.scene.facts l.fn.scene.tables l.imports 0 (components_in l.files)))
    × (with_wholes l.gathered (wholes_from l.fn.scene.facts l.fn.scene.tables l.imports l.number (components_in (drop l.file-index l.files)))
    ≡ with_wholes l.fn.gathered (wholes_from l.fn.scene.facts l.fn.scene.tables l.imports 0 (components_in l.files)))
