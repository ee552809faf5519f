-- The kinds of types that rules ask for. What has no type may be of each kind.
use Rattle.std.specs.Prelude.{Bool, true, false}
use Rattle.sr_types.specs.declared.ty.Ty.{Ty, out-Ty}
use Rattle.sr_types.specs.declared.ty.Ty.TheOpen.{Ty-F}
use Rattle.sr_value.specs.declared.predefined.Dimension.{Dimension}
use Rattle.sr_value.specs.declared.predefined.Dimension.TheVariants.{First, Second}

abbrev pub layer_int : {A : Type 0} → Ty-F A → Bool
layer_int Ty-F.Int = true
layer_int Ty-F.Untyped = true
layer_int _ = false

abbrev pub layer_bool : {A : Type 0} → Ty-F A → Bool
layer_bool Ty-F.Bool = true
layer_bool Ty-F.Untyped = true
layer_bool _ = false

abbrev pub layer_text : {A : Type 0} → Ty-F A → Bool
layer_text Ty-F.Char = true
layer_text Ty-F.Str = true
layer_text Ty-F.Untyped = true
layer_text _ = false

abbrev pub layer_ordered : {A : Type 0} → Ty-F A → Bool
layer_ordered Ty-F.Int = true
layer_ordered Ty-F.Char = true
layer_ordered Ty-F.Str = true
layer_ordered (Ty-F.Enum spot) = true
layer_ordered Ty-F.Untyped = true
layer_ordered _ = false

abbrev pub layer_compared : {A : Type 0} → Ty-F A → Bool
layer_compared (Ty-F.Rec spot) = false
layer_compared (Ty-F.Vector item) = false
layer_compared (Ty-F.Matrix item) = false
layer_compared _ = true

abbrev pub layer_str : {A : Type 0} → Ty-F A → Bool
layer_str Ty-F.Str = true
layer_str Ty-F.Untyped = true
layer_str _ = false

abbrev pub layer_numbered : {A : Type 0} → Ty-F A → Bool
layer_numbered Ty-F.Bool = true
layer_numbered Ty-F.Char = true
layer_numbered Ty-F.Str = true
layer_numbered (Ty-F.Enum spot) = true
layer_numbered Ty-F.Untyped = true
layer_numbered _ = false

abbrev pub layer_ends : {A : Type 0} → Ty-F A → Bool
layer_ends Ty-F.Int = true
layer_ends Ty-F.Bool = true
layer_ends Ty-F.Char = true
layer_ends (Ty-F.Enum spot) = true
layer_ends Ty-F.Untyped = true
layer_ends _ = false

abbrev pub layer_neighbours : {A : Type 0} → Ty-F A → Bool
layer_neighbours Ty-F.Int = true
layer_neighbours Ty-F.Char = true
layer_neighbours (Ty-F.Enum spot) = true
layer_neighbours Ty-F.Untyped = true
layer_neighbours _ = false

abbrev pub is_first : Dimension → Bool
is_first First = true
is_first Second = false

abbrev pub layer_dimension : {A : Type 0} → Ty-F A → Dimension → Bool
layer_dimension (Ty-F.Vector item) dimension = is_first dimension
layer_dimension (Ty-F.Matrix item) dimension = true
layer_dimension Ty-F.Untyped dimension = true
layer_dimension _ dimension = false

abbrev pub may_be_int : Ty → Bool
may_be_int ty = layer_int (out-Ty ty)

abbrev pub may_be_bool : Ty → Bool
may_be_bool ty = layer_bool (out-Ty ty)

-- a string or a `char`
abbrev pub may_be_text : Ty → Bool
may_be_text ty = layer_text (out-Ty ty)

-- int, char, enum, string: what `<` compares
abbrev pub may_be_ordered : Ty → Bool
may_be_ordered ty = layer_ordered (out-Ty ty)

-- int, bool, char, enum, string, cap: what `=` compares
abbrev pub may_be_compared : Ty → Bool
may_be_compared ty = layer_compared (out-Ty ty)

abbrev pub may_be_str : Ty → Bool
may_be_str ty = layer_str (out-Ty ty)

-- char, enum, bool, string: what `int` converts
abbrev pub may_be_numbered : Ty → Bool
may_be_numbered ty = layer_numbered (out-Ty ty)

-- int, bool, char, string, enum, cap: what has a text
abbrev pub may_be_written : Ty → Bool
may_be_written ty = layer_compared (out-Ty ty)

-- int, bool, char, enum: what has a least and a greatest value
abbrev pub may_have_ends : Ty → Bool
may_have_ends ty = layer_ends (out-Ty ty)

-- int, char, enum: what has values before and after
abbrev pub may_have_neighbours : Ty → Bool
may_have_neighbours ty = layer_neighbours (out-Ty ty)

-- arrays of one dimension have the first, those of two have both
abbrev pub may_have_dimension : Ty → Dimension → Bool
may_have_dimension ty dimension = layer_dimension (out-Ty ty) dimension
