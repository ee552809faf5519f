-- What single tokens stand for.
use Rattle.std.specs.Prelude.{◌≡◌, ℕ, List, Option, Some, None}
use Rattle.sr_tree.specs.declared.expr.BasicType.{BasicType}
use Rattle.sr_tree.specs.declared.expr.BasicType.TheVariants as basic
use Rattle.sr_tree.specs.declared.expr.BinaryOperator.{BinaryOperator}
use Rattle.sr_tree.specs.declared.expr.BinaryOperator.TheVariants as binary
use Rattle.sr_tree.specs.declared.expr.Conversion.{Conversion}
use Rattle.sr_tree.specs.declared.expr.Conversion.TheVariants as conversion
use Rattle.sr_tree.specs.declared.expr.Literal.{Literal}
use Rattle.sr_tree.specs.declared.expr.Literal.TheVariants as literal
use Rattle.sr_tree.specs.declared.expr.UnaryOperator.{UnaryOperator}
use Rattle.sr_tree.specs.declared.expr.UnaryOperator.TheVariants as unary
use Rattle.sr_tree.specs.declared.name.Name.{Name}
use Rattle.sr_tree.specs.declared.token.Sign.{Sign}
use Rattle.sr_tree.specs.declared.token.Sign.TheVariants as sign
use Rattle.sr_tree.specs.declared.token.Token.{Token}
use Rattle.sr_tree.specs.declared.token.TokenKind.{TokenKind}
use Rattle.sr_tree.specs.declared.token.TokenKind.TheVariants as kind
use Rattle.sr_tree.specs.declared.token.Word.{Word}
use Rattle.sr_tree.specs.declared.token.Word.TheVariants as word

abbrev pub IsSign : Sign → Token → Type 0
IsSign s t = t.kind ≡ kind.Sign s

abbrev pub IsWord : Word → Token → Type 0
IsWord w t = t.kind ≡ kind.Word w

abbrev pub IsName : Token → Type 0
IsName t = t.kind ≡ kind.Name

abbrev pub IsSeparator : Token → Type 0
IsSeparator t = t.kind ≡ kind.Separator

-- the name that a token is
abbrev pub name_of : Token → Name
name_of t = record { text = t.text; span = t.span }

-- numbers, characters and strings, and the words `true`, `false`, `null` and `noop`
abbrev pub word_literal : Word → Option Literal
word_literal word.True = Some literal.True
word_literal word.False = Some literal.False
word_literal word.Null = Some literal.Null
word_literal word.Noop = Some literal.Noop
word_literal _ = None

abbrev pub literal_of : TokenKind → List ℕ → Option Literal
literal_of kind.Number text = Some (literal.Number text)
literal_of kind.Char text = Some (literal.Char text)
literal_of kind.Str text = Some (literal.Str text)
literal_of (kind.Word w) text = word_literal w
literal_of _ text = None

-- the words `int`, `bool` and `char`
abbrev pub word_basic : Word → Option BasicType
word_basic word.Int = Some basic.Int
word_basic word.Bool = Some basic.Bool
word_basic word.Char = Some basic.Char
word_basic _ = None

abbrev pub basic_of : TokenKind → Option BasicType
basic_of (kind.Word w) = word_basic w
basic_of _ = None

-- the words `int`, `char` and `string`
abbrev pub word_conversion : Word → Option Conversion
word_conversion word.Int = Some conversion.Int
word_conversion word.Char = Some conversion.Char
word_conversion word.String = Some conversion.Str
word_conversion _ = None

abbrev pub conversion_of : TokenKind → Option Conversion
conversion_of (kind.Word w) = word_conversion w
conversion_of _ = None

-- `-`, `+` and `not`
abbrev pub sign_unary : Sign → Option UnaryOperator
sign_unary sign.Minus = Some unary.Minus
sign_unary sign.Plus = Some unary.Plus
sign_unary _ = None

abbrev pub word_unary : Word → Option UnaryOperator
word_unary word.Not = Some unary.Not
word_unary _ = None

abbrev pub unary_of : TokenKind → Option UnaryOperator
unary_of (kind.Sign s) = sign_unary s
unary_of (kind.Word w) = word_unary w
unary_of _ = None

abbrev pub sign_binary : Sign → Option BinaryOperator
sign_binary sign.Equal = Some binary.Equal
sign_binary sign.NotEqual = Some binary.NotEqual
sign_binary sign.Less = Some binary.Less
sign_binary sign.LessEqual = Some binary.LessEqual
sign_binary sign.Greater = Some binary.Greater
sign_binary sign.GreaterEqual = Some binary.GreaterEqual
sign_binary sign.Plus = Some binary.Plus
sign_binary sign.Minus = Some binary.Minus
sign_binary sign.Join = Some binary.Join
sign_binary sign.Star = Some binary.Times
sign_binary sign.Slash = Some binary.Divide
sign_binary sign.Percent = Some binary.Remainder
sign_binary _ = None

abbrev pub word_binary : Word → Option BinaryOperator
word_binary word.Or = Some binary.Or
word_binary word.Xor = Some binary.Xor
word_binary word.And = Some binary.And
word_binary word.Mod = Some binary.Modulo
word_binary _ = None

abbrev pub binary_of : TokenKind → Option BinaryOperator
binary_of (kind.Sign s) = sign_binary s
binary_of (kind.Word w) = word_binary w
binary_of _ = None

-- The levels of expressions, from the tightest: 0 are the factors, 1 have `*`, `/`, `%` and `mod`, 2 have
-- `+`, `-` and `||`, 3 the comparisons, 4 `and`, and 5 `or` and `xor`. What stands to the right of an
-- operator is of a level tighter than its own.
abbrev pub right_level : BinaryOperator → ℕ
right_level binary.Or = 4
right_level binary.Xor = 4
right_level binary.And = 3
right_level binary.Equal = 2
right_level binary.NotEqual = 2
right_level binary.Less = 2
right_level binary.LessEqual = 2
right_level binary.Greater = 2
right_level binary.GreaterEqual = 2
right_level binary.Plus = 1
right_level binary.Minus = 1
right_level binary.Join = 1
right_level binary.Times = 0
right_level binary.Divide = 0
right_level binary.Remainder = 0
right_level binary.Modulo = 0

-- What stands to the left may be of the operator's own level, so that operators group to the left; but
-- comparisons don't group.
abbrev pub left_level : BinaryOperator → ℕ
left_level binary.Or = 5
left_level binary.Xor = 5
left_level binary.And = 4
left_level binary.Equal = 2
left_level binary.NotEqual = 2
left_level binary.Less = 2
left_level binary.LessEqual = 2
left_level binary.Greater = 2
left_level binary.GreaterEqual = 2
left_level binary.Plus = 2
left_level binary.Minus = 2
left_level binary.Join = 2
left_level binary.Times = 1
left_level binary.Divide = 1
left_level binary.Remainder = 1
left_level binary.Modulo = 1
