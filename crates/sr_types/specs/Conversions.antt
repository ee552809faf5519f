-- The types of conversions. None of them is static.
use Rattle.sr_types.specs.declared.typed.Outcome.{Outcome}
use Rattle.sr_types.specs.declared.typed.Typed.{Typed}
use Rattle.sr_types.specs.Kinds.{may_be_int, may_be_numbered, may_be_written}
use Rattle.sr_types.specs.Outcomes.{unknown_if}
use Rattle.sr_types.specs.declared.ty.Ty.TheVariants.{Int, Char, Str}

-- `int(x)` is of a char, enum, bool or string
abbrev pub int_rule : Typed → Outcome
int_rule value = unknown_if (may_be_numbered value.ty) Int

-- `char(i)` is of an int
abbrev pub char_rule : Typed → Outcome
char_rule value = unknown_if (may_be_int value.ty) Char

-- `string(x)` is of what has a text
abbrev pub string_rule : Typed → Outcome
string_rule value = unknown_if (may_be_written value.ty) Str
