-- What declarations of variables and constants are in the core.
use Rattle.std.specs.Prelude.{ℕ, ℤ, pos, List, [], ◌∷◌, Option, Some, None, if◌then◌else◌}
use Rattle.std.specs.Option.{option_map}
use Rattle.sr_core.specs.declared.expression.Expr.{Expr as CoreExpr}
use Rattle.sr_core.specs.declared.expression.Expr.TheVariants as core
use Rattle.sr_core.specs.declared.expression.Leaf.TheVariants.{Constant}
use Rattle.sr_core.specs.declared.statement.DimsExpr.{DimsExpr}
use Rattle.sr_core.specs.declared.statement.DimsExpr.TheVariants as dims
use Rattle.sr_core.specs.declared.statement.ItemShape.{ItemShape}
use Rattle.sr_core.specs.declared.statement.ItemShape.TheVariants as item
use Rattle.sr_core.specs.declared.statement.Range.{Range}
use Rattle.sr_core.specs.declared.statement.Scope.{Scope}
use Rattle.sr_core.specs.declared.statement.Scope.TheVariants.{Own, Shared}
use Rattle.sr_core.specs.declared.statement.Setup.{Setup}
use Rattle.sr_core.specs.declared.statement.Setup.TheVariants.{Typed, Untyped}
use Rattle.sr_core.specs.declared.statement.ShapeExpr.{ShapeExpr}
use Rattle.sr_core.specs.declared.statement.Statement.{Statement}
use Rattle.sr_core.specs.declared.statement.Statement.TheVariants.{Declare}
use Rattle.sr_names.specs.declared.spot.Spot.{Spot}
use Rattle.sr_tree.specs.declared.declaration.ConstDecl.{ConstDecl}
use Rattle.sr_tree.specs.declared.declaration.VarDecl.{VarDecl}
use Rattle.sr_tree.specs.declared.expr.Expr.{Expr}
use Rattle.sr_tree.specs.declared.types.Decl.{Decl}
use Rattle.sr_tree.specs.declared.types.DimsTree.{DimsTree}
use Rattle.sr_tree.specs.declared.types.RangeTree.{RangeTree}
use Rattle.sr_tree.specs.declared.types.RangeTree.TheVariants.{Length, Bounds, From, Any}
use Rattle.sr_tree.specs.declared.types.TypeTree.{TypeTree, out-TypeTree}
use Rattle.sr_tree.specs.declared.types.TypeTree.TheOpen.{TypeTree-F}
use Rattle.sr_value.specs.declared.place.Place.{Place}
use Rattle.sr_value.specs.declared.value.Value.TheVariants as value
use Rattle.sr_lower_expr.specs.declared.scene.Scene.{Scene}
use Rattle.sr_tables.specs.declared.tables.SharedVariable.{SharedVariable}
use Rattle.sr_lower_expr.specs.Expressions.{core_value}
use Rattle.sr_check_expr.specs.Meanings.{is_constant, type_at}
use Rattle.sr_tables.specs.Parts.{line_of, spot_named}
use Rattle.sr_lower_expr.specs.Places.{own_number, nothing}
use Rattle.sr_lower_expr.specs.Shapes.{shape_of_type}
use Rattle.sr_outline.specs.Shapes.{type_shape}
use Rattle.sr_tables.specs.Tables.{found_at}

-- an int that is written by nobody
abbrev pub int_expr : ℤ → CoreExpr
int_expr number = core.Leaf (Constant (value.Int number))

abbrev pub int_constant : ℕ → CoreExpr
int_constant number = int_expr (pos number)

-- ---- types whose bounds are found when the declaration is reached

-- `[n]` is `[1:n]`; a `*`, which only a formal of an accepted program has, is nothing
abbrev pub range_core : Scene → RangeTree → Range
range_core scene (Length span length) = record { lo = int_constant 1; hi = core_value scene length }
range_core scene (Bounds span low high) = record { lo = core_value scene low; hi = core_value scene high }
range_core scene (From span low) = record { lo = core_value scene low; hi = nothing }
range_core scene (Any span) = record { lo = int_constant 1; hi = nothing }

abbrev pub dims_core : Scene → DimsTree → DimsExpr
dims_core scene tree = by tree.second
  where
    by : Option RangeTree → DimsExpr
    by None = dims.One (range_core scene tree.first)
    by (Some second) = dims.Two (range_core scene tree.first) (range_core scene second)

abbrev pub maybe_dims : Scene → Option DimsTree → DimsExpr
maybe_dims scene None = dims.None
maybe_dims scene (Some tree) = dims_core scene tree

abbrev pub fixed_item : Scene → TypeTree → ItemShape
fixed_item scene ty = item.Fixed (type_shape scene.facts scene.tables.shapes ty)

-- the length of a string may be any int too
abbrev pub string_item : Scene → TypeTree → Option Expr → ItemShape
string_item scene ty None = fixed_item scene ty
string_item scene ty (Some length) = item.Str (core_value scene length)

abbrev pub layer_item : {B C D : Type 0} → Scene → TypeTree → TypeTree-F TypeTree B C D → ItemShape
layer_item scene ty (TypeTree-F.Str span length) = string_item scene ty length
layer_item scene ty _ = fixed_item scene ty

abbrev pub item_core : Scene → TypeTree → ItemShape
item_core scene ty = layer_item scene ty (out-TypeTree ty)

-- the dimensions stand with the name or in the type
abbrev pub layer_place : {B C D : Type 0} → Scene → Option DimsTree → TypeTree → TypeTree-F TypeTree B C D → ShapeExpr
layer_place scene None ty (TypeTree-F.Array span tree inner) = record { dims = dims_core scene tree; item = item_core scene inner }
layer_place scene written ty _ = record { dims = maybe_dims scene written; item = item_core scene ty }

abbrev pub shape_expr : Scene → Option DimsTree → TypeTree → ShapeExpr
shape_expr scene written ty = layer_place scene written ty (out-TypeTree ty)

-- ---- variables

-- a variable of the component, or of the process; one that isn't shared, as in a program that is refused, has number 0
abbrev pub var_number : Scene → Scope → Spot → ℕ
var_number scene Own spot = own_number scene spot
var_number scene Shared spot = by (found_at scene.tables.shared spot)
  where
    by : Option SharedVariable → ℕ
    by None = 0
    by (Some variable) = variable.var

abbrev pub declare : Scene → Scope → Place → Spot → Setup → Statement
declare scene scope place spot setup = Declare place (record { scope = scope; var = var_number scene scope spot; setup = setup })

-- without a type a variable or constant has the type and the bounds of its value
abbrev pub untyped : Scene → Spot → Expr → Setup
untyped scene spot value = Untyped (shape_of_type scene.tables.shapes (type_at scene.facts spot)) (core_value scene value)

abbrev pub typed : Scene → Decl → TypeTree → Option Expr → Setup
typed scene decl ty value = Typed (shape_expr scene decl.dims ty) (option_map (core_value scene) value)

abbrev pub first_of : {A : Type 0} → List A → Option A
first_of [] = None
first_of (thing ∷ things) = Some thing

abbrev pub after_first : {A : Type 0} → List A → List A
after_first [] = []
after_first (thing ∷ things) = things

-- each name has its value, where there are values
abbrev pub typed_vars : Scene → Scope → Place → TypeTree → List Decl → List Expr → List Statement
typed_vars scene scope place ty [] values = []
typed_vars scene scope place ty (decl ∷ decls) values =
    declare scene scope place (spot_named decl.name) (typed scene decl ty (first_of values)) ∷ typed_vars scene scope place ty decls (after_first values)

abbrev pub untyped_vars : Scene → Scope → Place → List Decl → List Expr → List Statement
untyped_vars scene scope place [] values = []
untyped_vars scene scope place (decl ∷ decls) [] = []
untyped_vars scene scope place (decl ∷ decls) (value ∷ values) =
    declare scene scope place (spot_named decl.name) (untyped scene (spot_named decl.name) value) ∷ untyped_vars scene scope place decls values

-- a declaration of variables declares each of its names, at its own line
abbrev pub var_core : Scene → Scope → VarDecl → List Statement
var_core scene scope variables = by variables.ty
  where
    by : Option TypeTree → List Statement
    by (Some ty) = typed_vars scene scope (line_of variables.span) ty variables.decls variables.values
    by None = untyped_vars scene scope (line_of variables.span) variables.decls variables.values

-- a static constant is nothing at the run; any other is a variable that has its value
abbrev pub const_core : Scene → Scope → ConstDecl → List Statement
const_core scene scope constant = if is_constant scene.facts (spot_named constant.name) then [] else (declare scene scope (line_of constant.span) (spot_named constant.name) (untyped scene (spot_named constant.name) constant.value) ∷ [])
