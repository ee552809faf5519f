-- The types of parts: of an item that indices pick, and of a field.
use Rattle.std.specs.Prelude.{Bool, ◌&&◌, Option, Some, None}
use Rattle.sr_types.specs.declared.typed.Outcome.{Outcome}
use Rattle.sr_types.specs.declared.typed.Outcome.TheVariants.{Broken}
use Rattle.sr_types.specs.declared.typed.Typed.{Typed}
use Rattle.sr_types.specs.Kinds.{may_be_int}
use Rattle.sr_types.specs.Outcomes.{met_if, part_of}
use Rattle.sr_types.specs.declared.ty.Ty.{Ty, out-Ty}
use Rattle.sr_types.specs.declared.ty.Ty.TheOpen.{Ty-F}
use Rattle.sr_types.specs.declared.ty.Ty.TheVariants.{Char, Untyped}

-- one index picks an item of an array of one dimension, and a char of a string
abbrev pub layer_item : Ty-F Ty → Option Ty
layer_item (Ty-F.Vector item) = Some item
layer_item Ty-F.Str = Some Char
layer_item Ty-F.Untyped = Some Untyped
layer_item _ = None

-- two indices pick an item of an array of two dimensions
abbrev pub layer_item_of_two : Ty-F Ty → Option Ty
layer_item_of_two (Ty-F.Matrix item) = Some item
layer_item_of_two Ty-F.Untyped = Some Untyped
layer_item_of_two _ = None

abbrev pub item_of_one : Ty → Option Ty
item_of_one ty = layer_item (out-Ty ty)

abbrev pub item_of_two : Ty → Option Ty
item_of_two ty = layer_item_of_two (out-Ty ty)

abbrev pub part_if : Typed → Bool → Ty → Outcome
part_if whole met ty = met_if met (part_of whole ty)

abbrev pub indexed : Typed → Bool → Option Ty → Outcome
indexed whole met None = Broken
indexed whole met (Some item) = part_if whole met item

-- `a[i]`: an int index, of an array of one dimension or a string
abbrev pub index_one_rule : Typed → Typed → Outcome
index_one_rule whole at = indexed whole (may_be_int at.ty) (item_of_one whole.ty)

-- `a[i, j]`: two int indices, of an array of two dimensions
abbrev pub index_two_rule : Typed → Typed → Typed → Outcome
index_two_rule whole row column = indexed whole (may_be_int row.ty && may_be_int column.ty) (item_of_two whole.ty)

-- `r.f`
abbrev pub field_rule : Typed → Ty → Typed
field_rule owner ty = part_of owner ty
