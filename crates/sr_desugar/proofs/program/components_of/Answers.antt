-- The components of one file more are put in.
use Rattle.std.proofs.Common.{◌≡◌, ℕ, ◌+◌, List, ◌++◌, drop, length, ap, ◌∙◌}
use Rattle.sr_check_expr.specs.declared.facts.Facts.{Facts}
use Rattle.sr_core.specs.declared.component.Component.{Component}
use Rattle.sr_tables.specs.declared.tables.Tables.{Tables}
use Rattle.sr_tables.specs.Parts.{components_in}
use Rattle.sr_tree.specs.declared.component.Component.{Component as Tree}
use Rattle.sr_tree.specs.declared.component.File.{File}
use Rattle.sr_desugar.specs.declared.bodies.Gathered.{Gathered}
use Rattle.sr_desugar.specs.Core.{LoweredComponent, all_components, wholes_from, with_wholes}
use Rattle.sr_desugar.proofs.Outputs.{components_file, gathered_file}
use Rattle.sr_desugar.proofs.program.components_of.Goals as goal

pub loop-file-preserved : goal.loop-file-preserved
loop-file-preserved c =
    let facts : Facts = c.args.scene.now.facts in
    let tables : Tables = c.args.scene.now.tables in
    let imports : List (List ℕ) = c.args.imports.now in
    let files : List File = c.args.files.now in
    let i : ℕ = c.loop-file.file-index in
    let n : ℕ = c.loop-file.number in
    let m : ℕ = c.in_ok-number.number in
    let file : File = c.file-item.result in
    let there = c.loop-file.invariant in
    let next : m ≡ n + length file.components = c.in_ok-number.ensures.next ∙ ap (λ (trees : List Tree). n + length trees) c.as_slice-trees.ensures in
    let wholes : wholes_from c.loop-file.scene.facts c.loop-file.scene.tables imports n c.as_slice-trees.result.now ≡ wholes_from facts tables imports n file.components =
    ap (λ (f : Facts). wholes_from f c.loop-file.scene.tables imports n c.as_slice-trees.result.now) there.0
    ∙ ap (λ (t : Tables). wholes_from facts t imports n c.as_slice-trees.result.now) there.1
    ∙ ap (λ (trees : List Tree). wholes_from facts tables imports n trees) c.as_slice-trees.ensures in (
      c.in_ok-number.ensures.facts ∙ there.0,
      c.in_ok-number.ensures.tables ∙ there.1,
      ap (λ (components : List Component). components ++ all_components (wholes_from facts tables imports m (components_in (drop (i + 1) files))))
          (c.in_ok-number.ensures.components ∙ ap (λ (w : List LoweredComponent). c.loop-file.components ++ all_components w) wholes)
          ∙ components_file facts tables imports c.loop-file.components n m files i file c.loop-file-test.true c.file-item.is next ∙ there.2,
      ap (λ (gathered : Gathered). with_wholes gathered (wholes_from facts tables imports m (components_in (drop (i + 1) files))))
          (c.in_ok-number.ensures.gathered ∙ ap (λ (w : List LoweredComponent). with_wholes c.loop-file.gathered w) wholes)
          ∙ gathered_file facts tables imports c.loop-file.gathered n m files i file c.loop-file-test.true c.file-item.is next ∙ there.3,
    )
