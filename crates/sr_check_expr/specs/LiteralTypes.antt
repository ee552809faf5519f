-- The types and values of literals. All of them are static.
use Rattle.std.specs.Prelude.{ℕ, pos, nat_le, if◌then◌else◌, true, false, List, [], ◌∷◌, Option, Some, None}
use Rattle.sr_literal.specs.Literals.{number_of, string_of}
use Rattle.sr_tree.specs.declared.expr.BasicType.{BasicType}
use Rattle.sr_tree.specs.declared.expr.BasicType.TheVariants as basic
use Rattle.sr_tree.specs.declared.expr.Literal.{Literal}
use Rattle.sr_tree.specs.declared.expr.Literal.TheVariants.{Number, Char, Str, True, False, Null, Noop}
use Rattle.sr_types.specs.declared.typed.Static.{Static}
use Rattle.sr_types.specs.declared.typed.Static.TheVariants.{Unknown, Known}
use Rattle.sr_types.specs.declared.typed.Typed.{Typed}
use Rattle.sr_types.specs.declared.ty.Ty.{Ty}
use Rattle.sr_types.specs.declared.ty.Ty.TheVariants as ty
use Rattle.sr_types.specs.Outcomes.{computed}
use Rattle.sr_value.specs.declared.capability.Cap.TheVariants as cap
use Rattle.sr_value.specs.declared.value.Value.TheVariants as value
use Rattle.sr_check_expr.specs.declared.typed_expr.Named.{Named}
use Rattle.sr_check_expr.specs.declared.typed_expr.Named.TheVariants as named

abbrev pub number_static : Option ℕ → Static
number_static (Some number) = if nat_le number 2147483647 then Known (value.Int (pos number)) else Unknown
number_static None = Unknown

abbrev pub char_static : List ℕ → Static
char_static (byte ∷ bytes) = Known (value.Char byte)
char_static [] = Unknown

-- numbers are int, characters char, strings of the one type of strings, `true` and `false` bool; `null` and `noop`
-- are of every capability type
abbrev pub literal_typed : Literal → Typed
literal_typed (Number text) = computed ty.Int (number_static (number_of text))
literal_typed (Char text) = computed ty.Char (char_static (string_of text))
literal_typed (Str text) = computed ty.Str (Known (value.Str (string_of text)))
literal_typed True = computed ty.Bool (Known (value.Bool true))
literal_typed False = computed ty.Bool (Known (value.Bool false))
literal_typed Null = computed ty.NullCap (Known (value.Capa cap.Null))
literal_typed Noop = computed ty.NullCap (Known (value.Capa cap.Noop))

abbrev pub number_named : Option ℕ → Named
number_named (Some number) = named.Number number
number_named None = named.Nothing

abbrev pub literal_named : Literal → Named
literal_named (Number text) = number_named (number_of text)
literal_named _ = named.Nothing

-- the types that are words
abbrev pub basic_type : BasicType → Ty
basic_type basic.Int = ty.Int
basic_type basic.Bool = ty.Bool
basic_type basic.Char = ty.Char
