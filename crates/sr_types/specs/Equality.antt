-- Equality of types as a test that computes: the row of the language's table on equality.
use Rattle.std.specs.Prelude.{Bool, true, false, ◌&&◌, ◌==◌}
use Rattle.std.specs.Cmp.Lexicographic.{pointwise}
use Rattle.std.specs.Option.{option_eq}
use Rattle.sr_types.specs.declared.signature.Forms.{Forms}
use Rattle.sr_types.specs.declared.signature.Forms.TheVariants.{Both, Call, Send}
use Rattle.sr_types.specs.declared.signature.Mode.{Mode}
use Rattle.sr_types.specs.declared.signature.Mode.TheVariants.{Val, Var, Res}
use Rattle.sr_types.specs.declared.signature.Param.{Param}
use Rattle.sr_types.specs.declared.signature.Signature.{Signature}
use Rattle.sr_types.specs.declared.spot.Spot.{Spot}
use Rattle.sr_types.specs.declared.ty.Ty.{Ty, out-Ty, fold-Ty}
use Rattle.sr_types.specs.declared.ty.Ty.TheOpen.{Ty-F}

-- declarations are the same where their names stand at one spot
abbrev pub same_spot : Spot → Spot → Bool
same_spot a b = (a.file == b.file) && (a.byte == b.byte)

-- enumerations and record types are equal by declaration, strings always, arrays by dimensions and type of
-- items, `cap R` by resource, operations by the number of their signature, `cap vm` always
abbrev pub layer_same : Ty-F (Ty → Bool) → Ty-F Ty → Bool
layer_same Ty-F.Int Ty-F.Int = true
layer_same Ty-F.Bool Ty-F.Bool = true
layer_same Ty-F.Char Ty-F.Char = true
layer_same Ty-F.Str Ty-F.Str = true
layer_same (Ty-F.Enum spot) (Ty-F.Enum spot') = same_spot spot spot'
layer_same (Ty-F.Rec spot) (Ty-F.Rec spot') = same_spot spot spot'
layer_same (Ty-F.Vector same) (Ty-F.Vector item) = same item
layer_same (Ty-F.Matrix same) (Ty-F.Matrix item) = same item
layer_same (Ty-F.Resource spot) (Ty-F.Resource spot') = same_spot spot spot'
layer_same (Ty-F.Op number) (Ty-F.Op number') = number == number'
layer_same Ty-F.Vm Ty-F.Vm = true
layer_same Ty-F.NullCap Ty-F.NullCap = true
layer_same Ty-F.Untyped Ty-F.Untyped = true
layer_same _ _ = false

-- whether two types are equal
abbrev pub same_type : Ty → Ty → Bool
same_type = fold-Ty (Ty → Bool) (λ layer ty. layer_same layer (out-Ty ty))

-- ---- signatures

abbrev pub same_mode : Mode → Mode → Bool
same_mode Val Val = true
same_mode Var Var = true
same_mode Res Res = true
same_mode _ _ = false

abbrev pub same_forms : Forms → Forms → Bool
same_forms Both Both = true
same_forms Call Call = true
same_forms Send Send = true
same_forms _ _ = false

-- formals are equal in mode and type
abbrev pub same_param : Param → Param → Bool
same_param a b = same_mode a.mode b.mode && same_type a.ty b.ty

-- signatures are equal in the forms that they allow, their formals and what they return
abbrev pub equal_signatures : Signature → Signature → Bool
equal_signatures a b = same_forms a.forms b.forms && (pointwise same_param a.params b.params && option_eq same_type a.returns b.returns)
