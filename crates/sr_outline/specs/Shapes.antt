-- What places of a type can hold: types with their bounds and the lengths of their strings.
use Rattle.std.specs.Prelude.{◌≡◌, ℕ, ◌+◌, ◌*◌, nat_le, Bool, true, if◌then◌else◌, ℤ, pos, negsuc, List, [], ◌∷◌, Option, Some, None, unwrap_or, map, flat_map, fold}
use Rattle.std.specs.Option.{option_map, option_and_then}
use Rattle.sr_check_expr.specs.declared.facts.Facts.{Facts}
use Rattle.sr_check_expr.specs.declared.info.Info.{Info}
use Rattle.sr_check_expr.specs.declared.info.Info.TheVariants as info
use Rattle.sr_check_expr.specs.Infos.{info_at}
use Rattle.sr_core.specs.declared.formal.FormalShape.{FormalShape}
use Rattle.sr_core.specs.declared.formal.FormalShape.TheVariants.{Fixed, Open, Open2}
use Rattle.sr_names.specs.Spots.{spot_of}
use Rattle.sr_tree.specs.declared.component.Component.{Component}
use Rattle.sr_tree.specs.declared.component.SpecItem.{SpecItem}
use Rattle.sr_tree.specs.declared.component.SpecItem.TheVariants as spec
use Rattle.sr_tree.specs.declared.declaration.TypeDecl.{TypeDecl}
use Rattle.sr_tree.specs.declared.expr.Expr.{Expr}
use Rattle.sr_tree.specs.declared.name.QualifiedName.{QualifiedName}
use Rattle.sr_tree.specs.declared.types.DimsTree.{DimsTree}
use Rattle.sr_tree.specs.declared.types.Formal.{Formal, fold-Formal}
use Rattle.sr_tree.specs.declared.types.RangeTree.{RangeTree}
use Rattle.sr_tree.specs.declared.types.RangeTree.TheVariants.{Length, Bounds, From, Any}
use Rattle.sr_tree.specs.declared.types.TypeTree.{TypeTree, out-TypeTree, fold-TypeTree}
use Rattle.sr_tree.specs.declared.types.TypeTree.TheOpen.{TypeTree-F, Formal-F}
use Rattle.sr_tree.specs.Nested.{types_within}
use Rattle.sr_value.specs.declared.shape.Dims.{Dims}
use Rattle.sr_value.specs.declared.shape.Dims.TheVariants.{One, Two}
use Rattle.sr_value.specs.declared.shape.Shape.{Shape}
use Rattle.sr_value.specs.declared.shape.Shape.TheVariants as shape
use Rattle.sr_value.specs.Operands.{int_in}
use Rattle.sr_value.specs.Shapes.{bounds_in_range, cell_count, strings_in_range}
use Rattle.sr_outline.specs.declared.shapes.Ends.{Ends}
use Rattle.sr_check_expr.specs.Meanings.{typed_expr, known, meant_by}
use Rattle.sr_tables.specs.Parts.{deciding, spot_named, in_component}
use Rattle.sr_tables.specs.Shapes.{Shapes, most_bytes, shape_at}
use Rattle.sr_tables.specs.Tables.{with_entry}

-- ---- static bounds and lengths

-- the number that a static expression is; without one, as in a program that is refused, 0
abbrev pub fixed_number : Facts → Expr → ℤ
fixed_number facts expr = unwrap_or (option_and_then int_in (known (typed_expr facts expr).typed.value)) (pos 0)

abbrev pub natural : ℤ → ℕ
natural (pos n) = n
natural (negsuc n) = 0

abbrev pub string_shape : Facts → Option Expr → Shape
string_shape facts None = shape.Str most_bytes
string_shape facts (Some length) = shape.Str (natural (fixed_number facts length))

-- `[n]` is `[1:n]`
abbrev pub ends_of : Facts → RangeTree → Ends
ends_of facts (Length span length) = record { lo = pos 1; hi = Some (fixed_number facts length) }
ends_of facts (Bounds span low high) = record { lo = fixed_number facts low; hi = Some (fixed_number facts high) }
ends_of facts (From span low) = record { lo = fixed_number facts low; hi = None }
ends_of facts (Any span) = record { lo = pos 1; hi = None }

-- ---- arrays

-- a formal that is an array: `*` follows the length of the argument
abbrev pub line_to : Option ℤ → ℤ → Shape → FormalShape
line_to (Some hi) lo item = Fixed (shape.Arr (One lo hi) item)
line_to None lo item = Open lo item

abbrev pub line_shape : Ends → Shape → FormalShape
line_shape ends item = line_to ends.hi ends.lo item

abbrev pub table_to : Option ℤ → Option ℤ → ℤ → ℤ → Shape → FormalShape
table_to (Some hi) (Some hi2) lo lo2 item = Fixed (shape.Arr (Two lo hi lo2 hi2) item)
table_to hi hi2 lo lo2 item = Open2 lo hi lo2 hi2 item

abbrev pub table_shape : Ends → Ends → Shape → FormalShape
table_shape rows columns item = table_to rows.hi columns.hi rows.lo columns.lo item

abbrev pub array_shape : Ends → Option Ends → Shape → FormalShape
array_shape rows None item = line_shape rows item
array_shape rows (Some columns) item = table_shape rows columns item

abbrev pub array_formal : Facts → DimsTree → Shape → FormalShape
array_formal facts dims item = array_shape (ends_of facts dims.first) (option_map (ends_of facts) dims.second) item

-- a bound that must be written, as it is where a program isn't refused
abbrev pub last_of : Ends → ℤ
last_of ends = unwrap_or ends.hi ends.lo

abbrev pub dims_of : Ends → Option Ends → Dims
dims_of rows None = One rows.lo (last_of rows)
dims_of rows (Some columns) = Two rows.lo (last_of rows) columns.lo (last_of columns)

abbrev pub fixed_dims : Facts → DimsTree → Dims
fixed_dims facts dims = dims_of (ends_of facts dims.first) (option_map (ends_of facts) dims.second)

-- a name that is declared may have dims of its own
abbrev pub decl_shape : Facts → Option DimsTree → Shape → Shape
decl_shape facts None item = item
decl_shape facts (Some dims) item = shape.Arr (fixed_dims facts dims) item

-- ---- types as written, by the shapes of the types that are declared before

-- the shape of the type that a name means
unfoldable pub named_shape : Facts → Shapes → QualifiedName → Shape
named_shape facts shapes name = shape_at shapes (meant_by facts (deciding name))

abbrev pub enumeration_shape : Option Info → Shape
enumeration_shape (Some (info.Enumeration number literals)) = shape.Enum number literals
enumeration_shape _ = shape.Int

abbrev pub field_shapes : Facts → Formal-F Shape (List Shape) (Unit {0}) (Unit {0}) → List Shape
field_shapes facts fields = map (λ decl. decl_shape facts decl.dims fields.ty) fields.decls

abbrev pub layer_shape : Facts → Shapes → TypeTree-F Shape (List Shape) (Unit {0}) (Unit {0}) → Shape
layer_shape facts shapes (TypeTree-F.Int span) = shape.Int
layer_shape facts shapes (TypeTree-F.Bool span) = shape.Bool
layer_shape facts shapes (TypeTree-F.Char span) = shape.Char
layer_shape facts shapes (TypeTree-F.Str span length) = string_shape facts length
layer_shape facts shapes (TypeTree-F.Enum span literals) = enumeration_shape (info_at facts.infos (spot_of span))
layer_shape facts shapes (TypeTree-F.Rec span fields) = shape.Rec (flat_map (λ shapes. shapes) fields)
layer_shape facts shapes (TypeTree-F.CapOf span name) = shape.Capa
layer_shape facts shapes (TypeTree-F.CapMachine span) = shape.Capa
layer_shape facts shapes (TypeTree-F.CapOperation span signature) = shape.Capa
layer_shape facts shapes (TypeTree-F.Array span dims item) = shape.Arr (fixed_dims facts dims) item
layer_shape facts shapes (TypeTree-F.Named span name) = named_shape facts shapes name

-- the shape of a type as it is written
abbrev pub type_shape : Facts → Shapes → TypeTree → Shape
type_shape facts shapes =
    fold-TypeTree Shape (List Shape) (Unit {0}) (Unit {0}) (layer_shape facts shapes) (field_shapes facts) (λ returned. tt) (λ signature. tt)

abbrev pub fields_in : Facts → Shapes → Formal → List Shape
fields_in facts shapes =
    fold-Formal Shape (List Shape) (Unit {0}) (Unit {0}) (layer_shape facts shapes) (field_shapes facts) (λ returned. tt) (λ signature. tt)

abbrev pub layer_formal : {C D : Type 0} → Facts → Shapes → TypeTree → TypeTree-F TypeTree Formal C D → FormalShape
layer_formal facts shapes ty (TypeTree-F.Array span dims item) = array_formal facts dims (type_shape facts shapes item)
layer_formal facts shapes ty _ = Fixed (type_shape facts shapes ty)

-- what a formal can hold that is declared with or without dims
abbrev pub formal_shape : Facts → Shapes → Option DimsTree → TypeTree → FormalShape
formal_shape facts shapes None ty = layer_formal facts shapes ty (out-TypeTree ty)
formal_shape facts shapes (Some dims) ty = array_formal facts dims (type_shape facts shapes ty)

-- ---- type declarations

abbrev pub spec_item_types : SpecItem → List TypeDecl
spec_item_types (spec.«Type» named) = named ∷ []
spec_item_types _ = []

abbrev pub types_in : List Component → List TypeDecl
types_in components = flat_map (in_component spec_item_types) components

-- a shape that no variable can have: it has more than 1,048,576 cells, and where asked a string that is too long (E10)
abbrev pub too_large : Bool → Shape
too_large strings_fit = shape.Rec (shape.Arr (One (pos 1) (pos 1048577)) shape.Int ∷ shape.Str (if strings_fit then 0 else 65536) ∷ [])

-- the shape that is kept for a declared type: one of more than 1,048,576 cells is never built
abbrev pub kept_shape : Shape → Shape
kept_shape shape = if nat_le (cell_count shape) 1048576 then shape else too_large (strings_in_range shape)

-- a shape that is kept in place of another has its fault, by itself and as a part: its bounds are in range, its strings
-- fit where the other's do, and it has too many cells beside any others and in an array of any length where the other has
abbrev pub KeepsFault : Type 0
KeepsFault =
    (shape : Shape) → bounds_in_range shape ≡ true
    → (bounds_in_range (kept_shape shape) ≡ true)
    × (strings_in_range (kept_shape shape) ≡ strings_in_range shape)
    × ((items others : ℕ) → nat_le (items * cell_count (kept_shape shape) + others) 1048576 ≡ nat_le (items * cell_count shape + others) 1048576)

-- the shape that a declared type is kept with
abbrev pub declared_shape : Facts → Shapes → TypeTree → Shape
declared_shape facts shapes tree = kept_shape (type_shape facts shapes tree)

abbrev pub at_word : {A B C D : Type 0} → Shapes → TypeTree-F A B C D → Shape → Shapes
at_word shapes (TypeTree-F.Enum span literals) shape = with_entry shapes (spot_of span) shape
at_word shapes (TypeTree-F.Rec span fields) shape = with_entry shapes (spot_of span) shape
at_word shapes _ shape = shapes

-- an enumeration or a record is kept by the place of its word
abbrev pub with_written : Facts → Shapes → TypeTree → Shapes
with_written facts shapes tree = at_word shapes (out-TypeTree tree) (declared_shape facts shapes tree)

-- and the declared type by its name
abbrev pub with_name : Facts → Shapes → TypeDecl → Shapes
with_name facts shapes named = with_entry shapes (spot_named named.name) (declared_shape facts shapes named.ty)

abbrev pub with_type : Facts → Shapes → TypeDecl → Shapes
with_type facts shapes named = with_name facts (fold (with_written facts) shapes (types_within named.ty)) named

-- the declared types of a program, each by those before it
abbrev pub with_types : Facts → Shapes → List TypeDecl → Shapes
with_types facts shapes declared = fold (with_type facts) shapes declared

abbrev pub shapes_of : Facts → List Component → Shapes
shapes_of facts components = with_types facts [] (types_in components)
