-- The shapes of types, which have no bounds of their own.
use Rattle.std.specs.Prelude.{pos}
use Rattle.sr_check_expr.specs.Infos.{name_spot}
use Rattle.sr_types.specs.declared.ty.Ty.{Ty, fold-Ty}
use Rattle.sr_types.specs.declared.ty.Ty.TheOpen.{Ty-F}
use Rattle.sr_value.specs.declared.shape.Dims.TheVariants.{One, Two}
use Rattle.sr_value.specs.declared.shape.Shape.{Shape}
use Rattle.sr_value.specs.declared.shape.Shape.TheVariants as shape
use Rattle.sr_tables.specs.Shapes.{Shapes, most_bytes, shape_at}

-- A type has no bounds: its strings have 65,535 bytes, and its arrays no items. Records have their declared shape.
abbrev pub layer_of_type : Shapes → Ty-F Shape → Shape
layer_of_type shapes Ty-F.Int = shape.Int
layer_of_type shapes Ty-F.Bool = shape.Bool
layer_of_type shapes Ty-F.Char = shape.Char
layer_of_type shapes Ty-F.Str = shape.Str most_bytes
layer_of_type shapes (Ty-F.Enum spot) = shape_at shapes (name_spot spot)
layer_of_type shapes (Ty-F.Rec spot) = shape_at shapes (name_spot spot)
layer_of_type shapes (Ty-F.Vector item) = shape.Arr (One (pos 1) (pos 0)) item
layer_of_type shapes (Ty-F.Matrix item) = shape.Arr (Two (pos 1) (pos 0) (pos 1) (pos 0)) item
layer_of_type shapes _ = shape.Capa

abbrev pub shape_of_type : Shapes → Ty → Shape
shape_of_type shapes = fold-Ty Shape (layer_of_type shapes)
