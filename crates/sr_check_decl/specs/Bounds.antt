-- The bounds of arrays and the lengths of strings, and the types of items.
use Rattle.std.specs.Prelude.{ℤ, pos, Bool, true, false, ◌&&◌, ◌||◌, Option, Some, None, is_some, int_le}
use Rattle.sr_types.specs.declared.typed.Static.{Static}
use Rattle.sr_types.specs.declared.typed.Static.TheVariants.{Known}
use Rattle.sr_types.specs.declared.typed.Typed.{Typed}
use Rattle.sr_types.specs.Kinds.{may_be_int}
use Rattle.sr_types.specs.declared.ty.Ty.{Ty, out-Ty}
use Rattle.sr_types.specs.declared.ty.Ty.TheOpen.{Ty-F}
use Rattle.sr_types.specs.Types.{is_no_type}
use Rattle.sr_value.specs.Operands.{int_in}
use Rattle.sr_value.specs.Shapes.{in_range}

-- the number of an int that is known before the run
abbrev pub static_int : Static → Option ℤ
static_int (Known value) = int_in value
static_int _ = None

-- a string length isn't below 0
abbrev pub is_length : Option ℤ → Bool
is_length (Some number) = int_le (pos 0) number
is_length None = false

-- a string length that must be static
abbrev pub fixed_length_rule : Typed → Bool
fixed_length_rule length = is_no_type length.ty || (may_be_int length.ty && is_length (static_int length.value))

-- a bound, or the value that a semaphore begins with, is an int
abbrev pub int_rule : Typed → Bool
int_rule number = may_be_int number.ty

-- a bound that must be static
abbrev pub fixed_int_rule : Typed → Bool
fixed_int_rule bound = is_no_type bound.ty || (may_be_int bound.ty && is_some (static_int bound.value))

-- `hi` isn't below `lo - 1`, where both are known
abbrev pub ends_in_range : Option ℤ → Option ℤ → Bool
ends_in_range (Some lo) (Some hi) = in_range lo hi
ends_in_range (Some lo) None = true
ends_in_range None hi = true

abbrev pub layer_item_type : {A : Type 0} → Ty-F A → Bool
layer_item_type (Ty-F.Vector item) = false
layer_item_type (Ty-F.Matrix item) = false
layer_item_type _ = true

-- the item type of an array is no array
abbrev pub item_type_rule : Ty → Bool
item_type_rule ty = layer_item_type (out-Ty ty)
