-- The components, procs and sites are those of all components.
use Rattle.std.proofs.Common.{◌≡◌, ℕ, List, [], map, ap, ◌∙◌}
use Rattle.sr_check_expr.specs.declared.facts.Facts.{Facts}
use Rattle.sr_outline.specs.Outline.{imports_of}
use Rattle.sr_tables.specs.declared.tables.Tables.{Tables}
use Rattle.sr_tables.specs.Parts.{components_in}
use Rattle.sr_tree.specs.declared.component.Component.{Component as Tree}
use Rattle.sr_desugar.specs.declared.bodies.Gathered.{Gathered}
use Rattle.sr_desugar.specs.Core.{all_components, wholes_from, with_wholes}
use Rattle.sr_desugar.proofs.program.parts_in.Goals as goal

pub returns-clause-components : goal.returns-clause-components
returns-clause-components c =
    let facts : Facts = c.args.scene.now.facts in
    let tables : Tables = c.args.scene.now.tables in
    let trees : List Tree = components_in c.args.files.now in
    let imports : c.as_slice.result.now ≡ map (imports_of facts tables.components) trees = c.as_slice.ensures ∙ c.in_ok-imports.ensures in
    c.in_ok-components.ensures.value ∙ ap (λ (imported : List (List ℕ)). all_components (wholes_from facts tables imported 0 trees)) imports

pub returns-clause-gathered : goal.returns-clause-gathered
returns-clause-gathered c =
    let facts : Facts = c.args.scene.now.facts in
    let tables : Tables = c.args.scene.now.tables in
    let trees : List Tree = components_in c.args.files.now in
    let imports : c.as_slice.result.now ≡ map (imports_of facts tables.components) trees = c.as_slice.ensures ∙ c.in_ok-imports.ensures in
    let start : Gathered = record { procs = c.new.result; sites = c.new-2.result } in
    let none : Gathered = record { procs = []; sites = [] } in
    let empty : start ≡ none = λ i. record { procs = c.new.ensures i; sites = c.new-2.ensures i } in
    c.in_ok-components.ensures.gathered
    ∙ ap (λ (there : Gathered). with_wholes there (wholes_from facts tables c.as_slice.result.now 0 trees)) empty
    ∙ ap (λ (imported : List (List ℕ)). with_wholes none (wholes_from facts tables imported 0 trees)) imports
