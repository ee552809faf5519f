-- What is found in an expression: the uses of its names, in the order of the text.
use Rattle.std.specs.Prelude.{List, [], ◌∷◌, ◌++◌, Option, Some, None}
use Rattle.sr_names.specs.declared.finding.Finding.{Finding}
use Rattle.sr_names.specs.declared.meaning.Decl.{Decl}
use Rattle.sr_names.specs.declared.place.Blocks.{Blocks}
use Rattle.sr_names.specs.declared.place.Place.{Place}
use Rattle.sr_tree.specs.declared.expr.Create.TheOpen.{Create-F, Expr-F, Invocation-F, Part-F}
use Rattle.sr_tree.specs.declared.expr.Create.{Create, fold-Create}
use Rattle.sr_tree.specs.declared.expr.Expr.{Expr, fold-Expr}
use Rattle.sr_tree.specs.declared.expr.Invocation.{Invocation, fold-Invocation}
use Rattle.sr_tree.specs.declared.expr.Part.{Part, fold-Part}
use Rattle.sr_scope.specs.Names.{component_named, name_found, field_found, qualified_found}

-- what is found at a place within these scopes
abbrev pub Finds : Type 0
Finds = Place → Blocks → List Finding

-- what is found in an expression, and the component that it names, where it is a bare name of one
pub record Read : Type 0 where
  pub component : Option Decl
  pub found : List Finding

abbrev pub Reads : Type 0
Reads = Place → Blocks → Read

-- an expression that names no component
abbrev pub plain : List Finding → Read
plain found = record { component = None; found = found }

abbrev pub optional_found : Option Reads → Finds
optional_found None place blocks = []
optional_found (Some reads) place blocks = (reads place blocks).found

abbrev pub reads_found : List Reads → Finds
reads_found [] place blocks = []
reads_found (reads ∷ more) place blocks = (reads place blocks).found ++ reads_found more place blocks

abbrev pub all_found : List Finds → Finds
all_found [] place blocks = []
all_found (finds ∷ more) place blocks = finds place blocks ++ all_found more place blocks

abbrev pub create_step : Create-F Finds Reads Finds Finds → Finds
create_step (Create-F.Resource span resource arguments machine) place blocks =
    qualified_found place blocks resource ++ (reads_found arguments place blocks ++ optional_found machine place blocks)
create_step (Create-F.Machine span) place blocks = []

abbrev pub invocation_step : Invocation-F Finds Reads Finds Finds → Finds
invocation_step invocation place blocks = (invocation.callee place blocks).found ++ reads_found invocation.arguments place blocks

abbrev pub part_step : Part-F Finds Reads Finds Finds → Finds
part_step part place blocks = optional_found part.count place blocks ++ (part.value place blocks).found

abbrev pub expr_step : Expr-F Finds Reads Finds Finds → Reads
expr_step (Expr-F.Literal span literal) place blocks = plain []
expr_step (Expr-F.Name name) place blocks = record { component = component_named place blocks name; found = name_found place blocks name }
expr_step (Expr-F.BasicType span basic) place blocks = plain []
expr_step (Expr-F.Conversion span conversion value) place blocks = plain (value place blocks).found
expr_step (Expr-F.Group span inner) place blocks = plain (inner place blocks).found
expr_step (Expr-F.Parts span parts) place blocks = plain (all_found parts place blocks)
expr_step (Expr-F.Field span record-read field) place blocks =
    plain ((record-read place blocks).found ++ field_found place (record-read place blocks).component field)
expr_step (Expr-F.Index span array first second) place blocks =
    plain ((array place blocks).found ++ ((first place blocks).found ++ optional_found second place blocks))
expr_step (Expr-F.Call invocation) place blocks = plain (invocation place blocks)
expr_step (Expr-F.Create create) place blocks = plain (create place blocks)
expr_step (Expr-F.Unary span operator operand) place blocks = plain (operand place blocks).found
expr_step (Expr-F.Pending span operation) place blocks = plain (name_found place blocks operation)
expr_step (Expr-F.Binary span left operator right) place blocks = plain ((left place blocks).found ++ (right place blocks).found)

abbrev pub expr_reads : Expr → Reads
expr_reads = fold-Expr Finds Reads Finds Finds create_step expr_step invocation_step part_step

abbrev pub create_found : Create → Finds
create_found = fold-Create Finds Reads Finds Finds create_step expr_step invocation_step part_step

abbrev pub invocation_found : Invocation → Finds
invocation_found = fold-Invocation Finds Reads Finds Finds create_step expr_step invocation_step part_step

abbrev pub part_found : Part → Finds
part_found = fold-Part Finds Reads Finds Finds create_step expr_step invocation_step part_step
