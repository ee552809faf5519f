-- The core is made of the parts and of the operations.
use Rattle.std.proofs.Common.{◌≡◌, List, [], ap, ◌∙◌}
use Rattle.sr_outline.specs.Outline.{enumerations_of}
use Rattle.sr_tables.specs.declared.tables.Tables.{Tables}
use Rattle.sr_tables.specs.Parts.{components_in}
use Rattle.sr_tables.specs.Tables.{things_in}
use Rattle.sr_tree.specs.declared.component.Component.{Component as Tree}
use Rattle.sr_desugar.specs.declared.bodies.Gathered.{Gathered}
use Rattle.sr_desugar.specs.declared.program.Parts.{Parts}
use Rattle.sr_desugar.specs.Core.{LoweredComponent, all_components, wholes_of, with_wholes}
use Rattle.sr_desugar.proofs.program.core_in.Goals as goal

pub returns : goal.returns
returns c =
    let tables : Tables = c.args.scene.now.tables in
    let trees : List Tree = components_in c.args.files.now in
    let wholes : List LoweredComponent = wholes_of c.args.scene.now.facts trees tables in
    let none : Gathered = record { procs = []; sites = [] } in
    let parts : c.into_inner.result ≡ c.in_ok-parts.parts = c.into_inner.ensures ∙ c.in_ok-parts-2.ensures in
    let components : c.into_inner.result.components ≡ all_components wholes =
    ap (λ (parts : Parts). parts.components) parts ∙ c.in_ok-parts.ensures.components in
    let gathered : c.into_inner.result.gathered ≡ with_wholes none wholes = ap (λ (parts : Parts). parts.gathered) parts ∙ c.in_ok-parts.ensures.gathered in
    let names : c.into_inner.result.names ≡ enumerations_of trees = ap (λ (parts : Parts). parts.names) parts ∙ c.in_ok-parts.ensures.names in
    let operations : c.in_ok-operations.operations ≡ things_in tables.operations =
    c.in_ok-operations.ensures ∙ ap (λ (there : Tables). things_in there.operations) c.in_ok-parts.ensures.tables in
    c.core_with.ensures
    ∙ (λ i. record {
      components = components i;
      operations = operations i;
      procs = (gathered i).procs;
      sites = (gathered i).sites;
      names = names i;
    })
