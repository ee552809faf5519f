-- What the uses of expressions ask of them.
use Rattle.std.specs.Prelude.{Bool, true, false}
use Rattle.sr_types.specs.declared.typed.Typed.{Typed}
use Rattle.sr_types.specs.Kinds.{may_be_int, may_be_bool, may_be_written, may_have_neighbours}
use Rattle.sr_types.specs.declared.ty.Ty.{out-Ty}
use Rattle.sr_types.specs.declared.ty.Ty.TheOpen.{Ty-F}

-- guards, and what stands after `st` and `and`, are bool
abbrev pub condition_rule : Typed → Bool
condition_rule guard = may_be_bool guard.ty

-- bounds and steps are int
abbrev pub number_rule : Typed → Bool
number_rule step = may_be_int step.ty

-- `by` is an int, char or enum
abbrev pub choice_rule : Typed → Bool
choice_rule choice = may_have_neighbours choice.ty

-- `write` is of int, bool, char, string, enum, cap
abbrev pub written_rule : Typed → Bool
written_rule argument = may_be_written argument.ty

abbrev pub layer_instance : {A : Type 0} → Ty-F A → Bool
layer_instance (Ty-F.Resource spot) = true
layer_instance Ty-F.NullCap = true
layer_instance Ty-F.Untyped = true
layer_instance _ = false

-- `destroy` is of a `cap R`
abbrev pub destroyed_rule : Typed → Bool
destroyed_rule argument = layer_instance (out-Ty argument.ty)
