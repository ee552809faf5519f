-- What may not follow a piece, since it would be read with it.
use Rattle.std.specs.Prelude.{ℕ, ◌==◌, Bool, false, ◌||◌, not, nat_eq, if◌then◌else◌, List, slice_index, Option, Some, None, codes}
use Rattle.std.specs.List.{starts_with}
use Rattle.sr_tree.specs.declared.token.Sign.{Sign}
use Rattle.sr_tree.specs.declared.token.Sign.TheVariants.{Assign, Colon, Minus, Plus, Slash, Less, Greater, OpenBracket}
use Rattle.sr_lexer.specs.Bytes.{is_letter, is_digit, is_name_byte}
use Rattle.sr_lexer.specs.Symbols.{sign_at}
use Rattle.sr_lexer.specs.Pieces.{first_passes}

-- `=` after `:` `<` `>`, `:` after `:=`, `>` and `-` after `-`, `+` after `+`, `/` and `*` after `/`, `]` after `[`
abbrev pub lengthens : Sign → ℕ → Bool
lengthens Colon byte = nat_eq 61 byte
lengthens Assign byte = nat_eq 58 byte
lengthens Minus byte = nat_eq 62 byte || nat_eq 45 byte
lengthens Plus byte = nat_eq 43 byte
lengthens Slash byte = nat_eq 47 byte || nat_eq 42 byte
lengthens Less byte = nat_eq 61 byte
lengthens Greater byte = nat_eq 61 byte
lengthens OpenBracket byte = nat_eq 93 byte
lengthens _ byte = false

abbrev pub lengthens_found : Option Sign → List ℕ → Bool
lengthens_found None rest = false
lengthens_found (Some sign) rest = first_passes (lengthens sign) rest

-- a sign with what lengthens it; a comment up to `*/` with nothing
abbrev pub touches_sign : List ℕ → List ℕ → Bool
touches_sign bytes rest = if starts_with nat_eq bytes (codes "/*") then false else lengthens_found (sign_at bytes) rest

-- a comment from `#` with all but a newline
abbrev pub touches_comment : List ℕ → List ℕ → Bool
touches_comment bytes rest = if slice_index bytes 0 == 35 then first_passes (λ byte. not (byte == 10)) rest else touches_sign bytes rest

-- whether the piece at the front of some bytes would go on with `rest` if that stood after it: a name, word or number with
-- a letter, digit or underscore
abbrev pub touches : List ℕ → List ℕ → Bool
touches bytes rest =
    if is_letter (slice_index bytes 0) || is_digit (slice_index bytes 0) then first_passes is_name_byte rest else touches_comment bytes rest
