-- What places and formals take.
use Rattle.std.specs.Prelude.{Bool, ◌&&◌}
use Rattle.sr_types.specs.declared.typed.Typed.{Typed}
use Rattle.sr_types.specs.declared.signature.Mode.{Mode}
use Rattle.sr_types.specs.declared.signature.Mode.TheVariants.{Val, Var, Res}
use Rattle.sr_types.specs.declared.ty.Ty.{Ty}
use Rattle.sr_types.specs.Types.{fits_type}

-- a store is to a place, of a value of its type
abbrev pub store_rule : Typed → Typed → Bool
store_rule place value = place.is_place && fits_type value.ty place.ty

-- a `val` formal takes values of its type, `var` and `res` take places of it
abbrev pub argument_rule : Mode → Ty → Typed → Bool
argument_rule Val ty argument = fits_type argument.ty ty
argument_rule Var ty argument = argument.is_place && fits_type argument.ty ty
argument_rule Res ty argument = argument.is_place && fits_type argument.ty ty
