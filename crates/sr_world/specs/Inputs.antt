-- How one item of input is read. Blanks are tab, newline, carriage return and space. A char is the next byte. For all
-- other kinds blanks are passed over, and the longest run of bytes that aren't blanks is the token.
use Rattle.std.specs.Prelude.{ℕ, ℤ, nat_eq, ◌==◌, Bool, true, false, not, ◌&&◌, ◌||◌, List, [], ◌∷◌, length, drop, take_while, Option, Some, None, if◌then◌else◌}
use Rattle.std.specs.Cmp.Lexicographic.{pointwise}
use Rattle.sr_ask.specs.declared.request.ReadKind.{ReadKind}
use Rattle.sr_ask.specs.declared.request.ReadKind.TheVariants as kind
use Rattle.sr_ask.specs.declared.answer.Answer.{Answer}
use Rattle.sr_ask.specs.declared.answer.Answer.TheVariants as answer
use Rattle.sr_value.specs.declared.value.Value.{Value}
use Rattle.sr_value.specs.declared.value.Value.TheVariants as value
use Rattle.sr_value.specs.Predefined.{written_int}
use Rattle.sr_value.specs.Texts.{bool_name}

abbrev pub is_blank : ℕ → Bool
is_blank byte = byte == 9 || (byte == 10 || (byte == 13 || byte == 32))

abbrev pub is_part : ℕ → Bool
is_part byte = not (is_blank byte)

abbrev pub blanks_in : List ℕ → List ℕ
blanks_in rest = take_while is_blank rest

abbrev pub without_blanks : List ℕ → List ℕ
without_blanks rest = drop (length (blanks_in rest)) rest

abbrev pub token_in : List ℕ → List ℕ
token_in rest = take_while is_part (without_blanks rest)

abbrev pub after_token : List ℕ → List ℕ
after_token rest = drop (length (token_in rest)) (without_blanks rest)

-- ---- what a token is of each kind

abbrev pub as_int : Option ℤ → Option Value
as_int None = None
as_int (Some number) = Some (value.Int number)

-- a bool is written as its text is
abbrev pub as_bool : List ℕ → Option Value
as_bool bytes = if pointwise nat_eq bytes (bool_name true) then Some (value.Bool true)
    else if pointwise nat_eq bytes (bool_name false) then Some (value.Bool false) else None

abbrev pub token_value : ReadKind → List ℕ → Option Value
token_value kind.Int bytes = as_int (written_int bytes)
token_value kind.Bool bytes = as_bool bytes
token_value kind.Char bytes = None
token_value kind.Str bytes = Some (value.Str bytes)

-- ---- one item

-- an answer, and the input that it leaves
pub record ItemRead : Type 0 where
  pub answer : Answer
  pub rest : List ℕ

-- a char is the next byte, blank or not
abbrev pub char_read : List ℕ → ItemRead
char_read [] = record { answer = answer.End; rest = [] }
char_read (byte ∷ rest) = record { answer = answer.Got (value.Char byte); rest = rest }

-- a token that doesn't fit stays, without the blanks before it
abbrev pub fitting_read : List ℕ → Option Value → ItemRead
fitting_read rest None = record { answer = answer.Bad; rest = without_blanks rest }
fitting_read rest (Some v) = record { answer = answer.Got v; rest = after_token rest }

abbrev pub token_read : ReadKind → List ℕ → List ℕ → ItemRead
token_read kind rest [] = record { answer = answer.End; rest = [] }
token_read kind rest (byte ∷ bytes) = fitting_read rest (token_value kind (byte ∷ bytes))

abbrev pub item_read : ReadKind → List ℕ → ItemRead
item_read kind.Char rest = char_read rest
item_read kind rest = token_read kind rest (token_in rest)

-- ---- when an item is decided

abbrev pub some_are : List ℕ → Bool
some_are [] = false
some_are (byte ∷ bytes) = true

-- a char by a byte, a token by the blank after it, each by the end of the input
abbrev pub is_decided : ReadKind → List ℕ → Bool → Bool
is_decided kind rest true = true
is_decided kind.Char rest false = some_are rest
is_decided kind rest false = some_are (token_in rest) && some_are (after_token rest)
