-- The types of bracketed lists of parts.
use Rattle.std.specs.Prelude.{Bool, true, List, [], ◌∷◌, Option, Some, None, if◌then◌else◌}
use Rattle.std.specs.List.{list_all}
use Rattle.std.specs.Option.{option_and_then, option_map_or}
use Rattle.sr_types.specs.declared.aggregates.Repeated.{Repeated}
use Rattle.sr_types.specs.declared.typed.Outcome.{Outcome}
use Rattle.sr_types.specs.declared.typed.Outcome.TheVariants.{Broken}
use Rattle.sr_types.specs.Kinds.{may_be_int}
use Rattle.sr_types.specs.Outcomes.{unknown_if}
use Rattle.sr_types.specs.declared.ty.Ty.{Ty, out-Ty}
use Rattle.sr_types.specs.declared.ty.Ty.TheOpen.{Ty-F}
use Rattle.sr_types.specs.declared.ty.Ty.TheVariants.{Vector, Matrix, Untyped}
use Rattle.sr_types.specs.Types.{fits_type, is_no_type}

-- the one type of two values: `null` and `noop` are of every capability type, and what has no type of each type
abbrev pub common_type : Ty → Ty → Option Ty
common_type a b = if is_no_type a then Some b else (if fits_type b a then Some a else (if fits_type a b then Some b else None))

-- the one type of values of a type and of those of all parts
abbrev pub common_of_all : Ty → List Repeated → Option Ty
common_of_all known [] = Some known
common_of_all known (part ∷ parts) = option_and_then (λ ty. common_of_all ty parts) (common_type known part.value.ty)

-- `[n] e`: the count is an int
abbrev pub is_counted : Repeated → Bool
is_counted part = option_map_or (λ count. may_be_int count.ty) part.count true

abbrev pub are_counted : List Repeated → Bool
are_counted parts = list_all is_counted parts

-- from arrays of one dimension comes one of two, from arrays of two none, and from other values one of one
abbrev pub layer_array : Ty → Bool → Ty-F Ty → Outcome
layer_array ty met (Ty-F.Vector item) = unknown_if met (Matrix item)
layer_array ty met (Ty-F.Matrix item) = Broken
layer_array ty met Ty-F.Untyped = unknown_if met Untyped
layer_array ty met _ = unknown_if met (Vector ty)

abbrev pub array_of : Ty → Bool → Outcome
array_of ty met = layer_array ty met (out-Ty ty)

abbrev pub array_with : Option Ty → Bool → Outcome
array_with None met = Broken
array_with (Some ty) met = array_of ty met

-- `(e, [n] e, ..)`: values of one type, and at least one of them
abbrev pub bracketed_rule : List Repeated → Outcome
bracketed_rule [] = Broken
bracketed_rule (part ∷ parts) = array_with (common_of_all part.value.ty parts) (are_counted (part ∷ parts))
