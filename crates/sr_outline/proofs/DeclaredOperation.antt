-- The operations, put into the tables.
use Rattle.std.proofs.Common.{◌≡◌, List, [], flat_map, ap, ◌∙◌, Result, Ok, Err, OnOk}
use Rattle.std.specs.List.{enumerate_from}
use Rattle.sr_check_expr.specs.declared.facts.Facts.{Facts}
use Rattle.sr_core.specs.declared.component.Operation.{Operation}
use Rattle.sr_names.specs.declared.spot.Spot.{Spot}
use Rattle.sr_tree.specs.declared.component.Component.{Component}
use Rattle.sr_tables.specs.declared.tables.Tables.{Tables}
use Rattle.sr_tables.specs.Tables.{with_entries}
use Rattle.sr_outline.specs.declared.operations.OperationTable.{OperationTable}
use Rattle.sr_outline.specs.Heads.{Heads}
use Rattle.sr_outline.specs.Outline.{component_entries}
use Rattle.sr_tables.specs.Shapes.{Shapes}
use Rattle.sr_outline.proofs.Together.{with_operations}

abbrev pub start_of : Tables → OperationTable
start_of tables = record { shapes = tables.shapes; heads = tables.heads; procs = tables.procs; component = 0; operations = tables.operations }

-- tables with these parts
abbrev with_opened_parts : Tables → List Spot → Shapes → Heads → List (Spot × Operation) → Tables
with_opened_parts tables procs shapes heads operations = record tables { procs = procs; shapes = shapes; heads = heads; operations = operations }

same_parts : (tables : Tables) (p p' : List Spot) (s s' : Shapes) (h h' : Heads) (o o' : List (Spot × Operation))
    → p ≡ p' → s ≡ s' → h ≡ h' → o ≡ o' → with_opened_parts tables p s h o ≡ with_opened_parts tables p' s' h' o'
same_parts tables p p' s s' h h' o o' procs shapes heads operations =
    ap (λ (q : List Spot). with_opened_parts tables q s h o) procs
    ∙ ap (λ (q : Shapes). with_opened_parts tables p' q h o) shapes
    ∙ ap (λ (q : Heads). with_opened_parts tables p' s' q o) heads
    ∙ ap (λ (q : List (Spot × Operation)). with_opened_parts tables p' s' h' q) operations

pub opened_whole : {A E : Type 0} (result : Result A E) (facts : Facts) (components : List Component) (tables without filled : Tables) (taken last : OperationTable)
    → taken ≡ start_of tables
    → without ≡ with_opened_parts tables [] [] [] []
    → OnOk result (last.operations ≡ with_entries taken.operations (flat_map (component_entries facts taken.shapes taken.heads taken.procs) (enumerate_from 0 components)))
    → OnOk result (last.shapes ≡ taken.shapes)
    → OnOk result (last.heads ≡ taken.heads)
    → OnOk result (last.procs ≡ taken.procs)
    → filled ≡ with_opened_parts without last.procs last.shapes last.heads last.operations
    → OnOk result (filled ≡ with_operations facts components tables)
opened_whole (Ok _) facts components tables without filled taken last t w operations shapes heads procs f =
    f
    ∙ ap (λ (rest : Tables). with_opened_parts rest last.procs last.shapes last.heads last.operations) w
    ∙ same_parts tables _ _ _ _ _ _ _ _
    (procs ∙ ap (λ (o : OperationTable). o.procs) t)
    (shapes ∙ ap (λ (o : OperationTable). o.shapes) t)
    (heads ∙ ap (λ (o : OperationTable). o.heads) t)
    (operations ∙ ap (λ (o : OperationTable). with_entries o.operations (flat_map (component_entries facts o.shapes o.heads o.procs) (enumerate_from 0 components))) t)
opened_whole (Err _) facts components tables without filled taken last t w operations shapes heads procs f = tt
