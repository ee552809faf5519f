-- One component more is put in.
use Rattle.std.proofs.Common.{◌≡◌, ℕ, ◌+◌, List, [], ◌∷◌, ◌++◌, drop, arith, ap, ◌∙◌}
use Rattle.sr_check_expr.specs.declared.facts.Facts.{Facts}
use Rattle.sr_core.specs.declared.component.Component.{Component}
use Rattle.sr_tables.specs.declared.tables.Tables.{Tables}
use Rattle.sr_tree.specs.declared.component.Component.{Component as Tree}
use Rattle.sr_desugar.specs.declared.bodies.Gathered.{Gathered}
use Rattle.sr_desugar.specs.Core.{LoweredComponent, all_components, whole_of, wholes_from, with_wholes}
use Rattle.sr_desugar.proofs.Outputs.{components_item, gathered_item}
use Rattle.sr_desugar.proofs.program.push_components.Goals as goal

pub loop-component-preserved : goal.loop-component-preserved
loop-component-preserved c =
    let facts : Facts = c.args.scene.now.facts in
    let tables : Tables = c.args.scene.now.tables in
    let imports : List (List ℕ) = c.args.imports.now in
    let trees : List Tree = c.args.trees.now in
    let i : ℕ = c.loop-component.component-index in
    let n : ℕ = c.loop-component.number in
    let tree : Tree = c.component-item.result in
    let there = c.loop-component.invariant in
    let whole : whole_of c.loop-component.scene.facts c.loop-component.scene.tables imports (c.in_ok-at.at, tree) ≡ whole_of facts tables imports (n, tree) =
    ap (λ (f : Facts). whole_of f c.loop-component.scene.tables imports (c.in_ok-at.at, tree)) there.1
    ∙ ap (λ (t : Tables). whole_of facts t imports (c.in_ok-at.at, tree)) there.2
    ∙ ap (λ (m : ℕ). whole_of facts tables imports (m, tree)) c.in_ok-at.ensures in (
      omega arith,
      c.in_ok-push_component.ensures.facts ∙ there.1,
      c.in_ok-push_component.ensures.tables ∙ there.2,
      ap (λ (components : List Component). components ++ all_components (wholes_from facts tables imports (n + 1) (drop (i + 1) trees)))
          (c.in_ok-push_component.ensures.components ∙ ap (λ (w : LoweredComponent). c.loop-component.components ++ w.component ∷ []) whole)
          ∙ components_item (whole_of facts tables imports) c.loop-component.components n trees i tree c.loop-component-test.true c.component-item.is ∙ there.3,
      ap (λ (gathered : Gathered). with_wholes gathered (wholes_from facts tables imports (n + 1) (drop (i + 1) trees)))
          (c.in_ok-push_component.ensures.gathered ∙ ap (λ (w : LoweredComponent). with_wholes c.loop-component.gathered (w ∷ [])) whole)
          ∙ gathered_item (whole_of facts tables imports) c.loop-component.gathered n trees i tree c.loop-component-test.true c.component-item.is ∙ there.4,
    )
