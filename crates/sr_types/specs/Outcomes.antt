-- What rules give.
use Rattle.std.specs.Prelude.{Bool, true, false, Result, Ok, Err}
use Rattle.sr_types.specs.declared.typed.Outcome.{Outcome}
use Rattle.sr_types.specs.declared.typed.Outcome.TheVariants.{Broken, Met}
use Rattle.sr_types.specs.declared.typed.Static.{Static}
use Rattle.sr_types.specs.declared.typed.Static.TheVariants.{Unknown, Known, Faults}
use Rattle.sr_types.specs.declared.typed.Typed.{Typed}
use Rattle.sr_types.specs.declared.ty.Ty.{Ty}
use Rattle.sr_types.specs.declared.ty.Ty.TheVariants.{Untyped}
use Rattle.sr_value.specs.declared.fault.Fault.{Fault}
use Rattle.sr_value.specs.declared.value.Value.{Value}

-- the whole, where the rule is met
abbrev pub met_if : Bool → Typed → Outcome
met_if true whole = Met whole
met_if false whole = Broken

-- an expression that is no place
abbrev pub computed : Ty → Static → Typed
computed ty value = record { ty = ty; is_place = false; value = value }

-- what is known of a static expression: the value or the fault of what it means
abbrev pub found : Result Value Fault → Static
found (Ok value) = Known value
found (Err fault) = Faults fault

-- a whole that is no place and isn't static, where the rule is met
abbrev pub unknown_if : Bool → Ty → Outcome
unknown_if met ty = met_if met (computed ty Unknown)

-- a part is a place where the whole is one; it isn't static
abbrev pub part_of : Typed → Ty → Typed
part_of whole ty = record { ty = ty; is_place = whole.is_place; value = Unknown }

-- what stands for an expression that was refused: it may be of any type, and a place
abbrev pub refused_typed : Typed
refused_typed = record { ty = Untyped; is_place = true; value = Unknown }
