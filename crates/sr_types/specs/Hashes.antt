-- What types and signatures are hashed by. Equal ones are hashed alike, which is all that a table needs.
use Rattle.std.specs.Prelude.{[], ◌++◌}
use Rattle.std.specs.Hash.{HashWrites, u8, u32, usize, slice, option}
use Rattle.sr_types.specs.declared.signature.Forms.{Forms}
use Rattle.sr_types.specs.declared.signature.Forms.TheVariants.{Both, Call, Send}
use Rattle.sr_types.specs.declared.signature.Mode.{Mode}
use Rattle.sr_types.specs.declared.signature.Mode.TheVariants.{Val, Var, Res}
use Rattle.sr_types.specs.declared.signature.Param.{Param}
use Rattle.sr_types.specs.declared.signature.Signature.{Signature}
use Rattle.sr_types.specs.declared.spot.Spot.{Spot}
use Rattle.sr_types.specs.declared.ty.Ty.{Ty, out-Ty}
use Rattle.sr_types.specs.declared.ty.Ty.TheOpen.{Ty-F}

abbrev pub spot_writes : Spot → HashWrites
spot_writes spot = u32 spot.file ++ u32 spot.byte

-- a type apart from the type of its items
abbrev pub layer_head : {A : Type 0} → Ty-F A → HashWrites
layer_head Ty-F.Int = u8 0
layer_head Ty-F.Bool = u8 1
layer_head Ty-F.Char = u8 2
layer_head Ty-F.Str = u8 3
layer_head (Ty-F.Enum spot) = u8 4 ++ spot_writes spot
layer_head (Ty-F.Rec spot) = u8 5 ++ spot_writes spot
layer_head (Ty-F.Vector item) = u8 6
layer_head (Ty-F.Matrix item) = u8 7
layer_head (Ty-F.Resource spot) = u8 8 ++ spot_writes spot
layer_head (Ty-F.Op number) = u8 9 ++ usize number
layer_head Ty-F.Vm = u8 10
layer_head Ty-F.NullCap = u8 11
layer_head Ty-F.Untyped = u8 12

abbrev pub head_writes : Ty → HashWrites
head_writes ty = layer_head (out-Ty ty)

abbrev pub layer_items : Ty-F Ty → HashWrites
layer_items (Ty-F.Vector item) = head_writes item
layer_items (Ty-F.Matrix item) = head_writes item
layer_items _ = []

-- a type, and of an array what its items are
abbrev pub type_writes : Ty → HashWrites
type_writes ty = head_writes ty ++ layer_items (out-Ty ty)

abbrev pub mode_writes : Mode → HashWrites
mode_writes Val = u8 0
mode_writes Var = u8 1
mode_writes Res = u8 2

abbrev pub forms_writes : Forms → HashWrites
forms_writes Both = u8 0
forms_writes Call = u8 1
forms_writes Send = u8 2

abbrev pub param_writes : Param → HashWrites
param_writes param = mode_writes param.mode ++ type_writes param.ty

abbrev pub signature_writes : Signature → HashWrites
signature_writes signature = forms_writes signature.forms ++ (slice param_writes signature.params ++ option type_writes signature.returns)
