-- What the shapes of places mean: their bounds, their cells, and the values of places that nothing was stored to.
use Rattle.std.specs.Prelude.{ℕ, ◌+◌, ◌*◌, ℤ, pos, ◌-ℤ◌, Bool, true, false, ◌&&◌, [], sum, replicate, Option, Some, None, Result, Ok, Err, nat_le, if◌then◌else◌, int_lt, int_le, unsigned_abs}
use Rattle.std.specs.List.{list_all}
use Rattle.sr_value.specs.declared.capability.Cap.TheVariants.{Null}
use Rattle.sr_value.specs.declared.fault.Fault.{Fault}
use Rattle.sr_value.specs.declared.fault.Fault.TheVariants.{Range, TooLarge}
use Rattle.sr_value.specs.declared.shape.Dims.{Dims}
use Rattle.sr_value.specs.declared.shape.Dims.TheVariants.{One, Two}
use Rattle.sr_value.specs.declared.shape.Shape.{Shape, fold-Shape}
use Rattle.sr_value.specs.declared.shape.Shape.TheOpen.{Shape-F}
use Rattle.sr_value.specs.declared.value.Value.{Value}
use Rattle.sr_value.specs.declared.value.Value.TheVariants.{Int, Bool as Truth, Char, Enum, Str, Rec, Arr, Capa}

-- ---- bounds

-- bounds of an array are in range where `hi` isn't below `lo - 1`
abbrev pub in_range : ℤ → ℤ → Bool
in_range lo hi = int_le (lo -ℤ pos 1) hi

-- how many indices there are from `lo` to `hi`
abbrev pub extent : ℤ → ℤ → ℕ
extent lo hi = if int_lt hi lo then 0 else unsigned_abs (hi -ℤ lo) + 1

abbrev pub dims_in_range : Dims → Bool
dims_in_range (One lo hi) = in_range lo hi
dims_in_range (Two lo hi lo2 hi2) = in_range lo hi && in_range lo2 hi2

-- the number of items of an array of these bounds
abbrev pub item_count : Dims → ℕ
item_count (One lo hi) = extent lo hi
item_count (Two lo hi lo2 hi2) = extent lo hi * extent lo2 hi2

abbrev pub layer_in_range : Shape-F Bool → Bool
layer_in_range (Shape-F.Rec fields) = list_all (λ field. field) fields
layer_in_range (Shape-F.Arr dims item) = dims_in_range dims && item
layer_in_range _ = true

-- all bounds within a shape are in range
abbrev pub bounds_in_range : Shape → Bool
bounds_in_range = fold-Shape Bool layer_in_range

-- ---- size

-- a cell is a value that is no array or record
abbrev pub layer_cells : Shape-F ℕ → ℕ
layer_cells (Shape-F.Rec fields) = sum fields
layer_cells (Shape-F.Arr dims item) = item_count dims * item
layer_cells _ = 1

-- the number of cells of a place of this shape
abbrev pub cell_count : Shape → ℕ
cell_count = fold-Shape ℕ layer_cells

abbrev pub layer_strings : Shape-F Bool → Bool
layer_strings (Shape-F.Str most) = nat_le most 65535
layer_strings (Shape-F.Rec fields) = list_all (λ field. field) fields
layer_strings (Shape-F.Arr dims item) = item
layer_strings _ = true

-- no string place within a shape is longer than 65,535 bytes; those in arrays of no items count too
abbrev pub strings_in_range : Shape → Bool
strings_in_range = fold-Shape Bool layer_strings

-- a variable has at most 1,048,576 cells, and its string places at most 65,535 bytes each
abbrev pub has_size : Shape → Bool
has_size shape = nat_le (cell_count shape) 1048576 && strings_in_range shape

-- ---- unset values

-- 0, false, char 0, the first literal, the empty string, `null`; records and arrays by their parts
abbrev pub layer_unset : Shape-F Value → Value
layer_unset Shape-F.Int = Int (pos 0)
layer_unset Shape-F.Bool = Truth false
layer_unset Shape-F.Char = Char 0
layer_unset (Shape-F.Enum ty count) = Enum ty 0
layer_unset (Shape-F.Str most) = Str []
layer_unset (Shape-F.Rec fields) = Rec fields
layer_unset (Shape-F.Arr dims item) = Arr dims (replicate (item_count dims) item)
layer_unset Shape-F.Capa = Capa Null

abbrev pub unset_value : Shape → Value
unset_value = fold-Shape Value layer_unset

-- why no variable has this shape, where none has: E6 where bounds are out of range, then E10 where it is too large
abbrev pub shape_fault : Shape → Option Fault
shape_fault shape = if bounds_in_range shape then (if has_size shape then None else Some TooLarge) else Some Range

-- the value, or else the fault
abbrev pub unless_fault : {A : Type 0} → Option Fault → A → Result A Fault
unless_fault None value = Ok value
unless_fault (Some fault) value = Err fault

-- the value of a new variable, where a variable has this shape
abbrev pub default_value : Shape → Result Value Fault
default_value shape = unless_fault (shape_fault shape) (unset_value shape)
