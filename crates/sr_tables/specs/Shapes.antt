-- The shapes of declared types.
use Rattle.std.specs.Prelude.{ℕ, List, unwrap_or}
use Rattle.sr_names.specs.declared.spot.Spot.{Spot}
use Rattle.sr_value.specs.declared.shape.Shape.{Shape}
use Rattle.sr_value.specs.declared.shape.Shape.TheVariants as shape
use Rattle.sr_tables.specs.Tables.{found_at}

-- a string place without a length holds up to 65,535 bytes
abbrev pub most_bytes : ℕ
most_bytes = 65535

abbrev pub Shapes : Type 0
Shapes = List (Spot × Shape)

-- the shape of a declared type; one that has none, as in a program that is refused, is an `int`
abbrev pub shape_at : Shapes → Spot → Shape
shape_at shapes spot = unwrap_or (found_at shapes spot) shape.Int
