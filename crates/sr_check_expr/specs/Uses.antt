-- What `read` and `on` ask of expressions.
use Rattle.std.specs.Prelude.{Bool, true, false, ◌&&◌}
use Rattle.sr_types.specs.declared.typed.Typed.{Typed}
use Rattle.sr_types.specs.declared.ty.Ty.{out-Ty}
use Rattle.sr_types.specs.declared.ty.Ty.TheOpen.{Ty-F}

abbrev pub layer_read : {A : Type 0} → Ty-F A → Bool
layer_read Ty-F.Int = true
layer_read Ty-F.Bool = true
layer_read Ty-F.Char = true
layer_read Ty-F.Str = true
layer_read Ty-F.Untyped = true
layer_read _ = false

-- `read` is of places of int, bool, char, string
abbrev pub read_rule : Typed → Bool
read_rule argument = argument.is_place && layer_read (out-Ty argument.ty)

abbrev pub layer_machine : {A : Type 0} → Ty-F A → Bool
layer_machine Ty-F.Vm = true
layer_machine Ty-F.NullCap = true
layer_machine Ty-F.Untyped = true
layer_machine _ = false

-- `on` is of a `cap vm`
abbrev pub machine_rule : Typed → Bool
machine_rule machine = layer_machine (out-Ty machine.ty)
