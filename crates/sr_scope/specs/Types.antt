-- What is found in a type, and the names that formals and fields declare.
use Rattle.std.specs.Prelude.{List, [], ◌∷◌, ◌++◌, Option, Some, None, map}
use Rattle.sr_names.specs.declared.finding.Finding.{Finding}
use Rattle.sr_names.specs.declared.meaning.Sort.TheVariants.{Variable}
use Rattle.sr_names.specs.Entries.{Entries}
use Rattle.sr_tree.specs.declared.expr.Expr.{Expr}
use Rattle.sr_tree.specs.declared.name.Name.{Name}
use Rattle.sr_tree.specs.declared.types.Decl.{Decl}
use Rattle.sr_tree.specs.declared.types.DimsTree.{DimsTree}
use Rattle.sr_tree.specs.declared.types.RangeTree.{RangeTree}
use Rattle.sr_tree.specs.declared.types.RangeTree.TheVariants.{Length, Bounds, From, Any}
use Rattle.sr_tree.specs.declared.types.TypeTree.{TypeTree, fold-TypeTree}
use Rattle.sr_tree.specs.declared.types.Formal.{Formal, fold-Formal}
use Rattle.sr_tree.specs.declared.types.Returned.{Returned, fold-Returned}
use Rattle.sr_tree.specs.declared.types.Signature.{Signature, fold-Signature}
use Rattle.sr_tree.specs.declared.types.TypeTree.TheOpen.{TypeTree-F, Formal-F, Returned-F, Signature-F}
use Rattle.sr_scope.specs.Declares.{names_declared, names_twice}
use Rattle.sr_scope.specs.Exprs.{Finds, expr_reads}
use Rattle.sr_scope.specs.Names.{qualified_found}

abbrev pub expr_found : Expr → Finds
expr_found expr place blocks = (expr_reads expr place blocks).found

abbrev pub maybe_expr_found : Option Expr → Finds
maybe_expr_found None place blocks = []
maybe_expr_found (Some expr) place blocks = expr_found expr place blocks

abbrev pub range_found : RangeTree → Finds
range_found (Length span length) place blocks = expr_found length place blocks
range_found (Bounds span low high) place blocks = expr_found low place blocks ++ expr_found high place blocks
range_found (From span low) place blocks = expr_found low place blocks
range_found (Any span) place blocks = []

abbrev pub maybe_range_found : Option RangeTree → Finds
maybe_range_found None place blocks = []
maybe_range_found (Some range) place blocks = range_found range place blocks

abbrev pub dims_found : DimsTree → Finds
dims_found dims place blocks = range_found dims.first place blocks ++ maybe_range_found dims.second place blocks

abbrev pub maybe_dims_found : Option DimsTree → Finds
maybe_dims_found None place blocks = []
maybe_dims_found (Some dims) place blocks = dims_found dims place blocks

abbrev pub decls_found : List Decl → Finds
decls_found [] place blocks = []
decls_found (decl ∷ decls) place blocks = maybe_dims_found decl.dims place blocks ++ decls_found decls place blocks

-- formals, fields or what is returned: the names that they declare, and what is found in their bounds and types
pub record Formals : Type 0 where
  pub names : List Name
  pub found : Finds

abbrev pub formals_found : List Formals → Finds
formals_found [] place blocks = []
formals_found (formals ∷ more) place blocks = formals.found place blocks ++ formals_found more place blocks

abbrev pub maybe_found : Option Formals → Finds
maybe_found None place blocks = []
maybe_found (Some formals) place blocks = formals.found place blocks

-- formals are variables of their scope
abbrev pub formals_declared : List Formals → Entries → Entries
formals_declared [] table = table
formals_declared (formals ∷ more) table = formals_declared more (names_declared Variable formals.names table)

abbrev pub formals_twice : List Formals → Entries → List Finding
formals_twice [] table = []
formals_twice (formals ∷ more) table = names_twice Variable formals.names table ++ formals_twice more (names_declared Variable formals.names table)

abbrev pub maybe_declared : Option Formals → Entries → Entries
maybe_declared None table = table
maybe_declared (Some formals) table = names_declared Variable formals.names table

abbrev pub maybe_twice : Option Formals → Entries → List Finding
maybe_twice None table = []
maybe_twice (Some formals) table = names_twice Variable formals.names table

-- a signature: its formals and what it returns are of one scope of their own, and their types are read outside of it
pub record Signed : Type 0 where
  pub formals : List Formals
  pub returned : Option Formals

abbrev pub signed_declared : Signed → Entries → Entries
signed_declared signed table = maybe_declared signed.returned (formals_declared signed.formals table)

abbrev pub signed_twice : Signed → Entries → List Finding
signed_twice signed table = formals_twice signed.formals table ++ maybe_twice signed.returned (formals_declared signed.formals table)

abbrev pub signed_found : Signed → Finds
signed_found signed place blocks =
    signed_twice signed [] ++ (formals_found signed.formals place blocks ++ maybe_found signed.returned place blocks)

abbrev pub formal_step : Formal-F Finds Formals Formals Signed → Formals
formal_step formal = record {
  names = map (λ decl. decl.name) formal.decls;
  found = λ place blocks. decls_found formal.decls place blocks ++ formal.ty place blocks;
}

abbrev pub returned_step : Returned-F Finds Formals Formals Signed → Formals
returned_step returned = record {
  names = returned.decl.name ∷ [];
  found = λ place blocks. maybe_dims_found returned.decl.dims place blocks ++ returned.ty place blocks;
}

abbrev pub signature_step : Signature-F Finds Formals Formals Signed → Signed
signature_step signature = record { formals = signature.formals; returned = signature.returned }

-- the fields of a record are of one scope of their own
abbrev pub type_step : TypeTree-F Finds Formals Formals Signed → Finds
type_step (TypeTree-F.Int span) place blocks = []
type_step (TypeTree-F.Bool span) place blocks = []
type_step (TypeTree-F.Char span) place blocks = []
type_step (TypeTree-F.Str span length) place blocks = maybe_expr_found length place blocks
type_step (TypeTree-F.Enum span literals) place blocks = []
type_step (TypeTree-F.Rec span fields) place blocks = formals_twice fields [] ++ formals_found fields place blocks
type_step (TypeTree-F.CapOf span name) place blocks = qualified_found place blocks name
type_step (TypeTree-F.CapMachine span) place blocks = []
type_step (TypeTree-F.CapOperation span signature) place blocks = signed_found signature place blocks
type_step (TypeTree-F.Array span dims item) place blocks = dims_found dims place blocks ++ item place blocks
type_step (TypeTree-F.Named span name) place blocks = qualified_found place blocks name

abbrev pub type_found : TypeTree → Finds
type_found = fold-TypeTree Finds Formals Formals Signed type_step formal_step returned_step signature_step

abbrev pub formal_read : Formal → Formals
formal_read = fold-Formal Finds Formals Formals Signed type_step formal_step returned_step signature_step

abbrev pub returned_read : Returned → Formals
returned_read = fold-Returned Finds Formals Formals Signed type_step formal_step returned_step signature_step

abbrev pub signature_read : Signature → Signed
signature_read = fold-Signature Finds Formals Formals Signed type_step formal_step returned_step signature_step

abbrev pub maybe_type_found : Option TypeTree → Finds
maybe_type_found None place blocks = []
maybe_type_found (Some ty) place blocks = type_found ty place blocks
