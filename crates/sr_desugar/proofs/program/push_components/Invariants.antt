-- What there is so far and what the rest adds are what all add.
use Rattle.std.proofs.Common.{drop, ◌+◌, ◌++◌, ◌≡◌}
use Rattle.sr_desugar.specs.Core.{all_components, wholes_from, with_wholes}
use Rattle.sr_desugar.proofs.program.push_components.Given as goal

abbrev pub invariant-loop-component : goal.invariant-loop-component
invariant-loop-component l =
    (l.number ≡ l.first + l.component-index)
    × (l.scene.facts ≡ l.fn.scene.facts)
    × (l.scene.tables ≡ l.fn.scene.tables)
    × (l.components ++ all_components (wholes_from l.fn.scene.facts l.fn.scene.tables l.imports l.number (drop l.component-index l.trees))
    ≡ l.fn.components ++ all_components (wholes_from l.fn.scene.facts l.fn.scene.tables l.imports l.first l.trees))
    × (with_wholes l.gathered (wholes_from l.fn.scene.facts l.fn.scene.tables l.imports l.number (drop l.component-index l.trees))
    ≡ with_wholes l.fn.gathered (wholes_from l.fn.scene.facts l.fn.scene.tables l.imports l.first l.trees))
