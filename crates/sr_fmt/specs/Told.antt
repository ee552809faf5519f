-- The tokens that the source spells out: all but the separators that newlines are.
use Rattle.std.specs.Prelude.{ℕ, Bool, not, nat_eq, List, [], ◌∷◌, ◌++◌, filter, length, map, Option, Some, None}
use lib.Pointwise.{pointwise}
use Rattle.sr_tree.specs.declared.token.Token.{Token}
use Rattle.sr_tree.specs.declared.token.TokenKind.{TokenKind}
use Rattle.sr_lexer.specs.Separators.{Placed}
use Rattle.sr_fmt.specs.declared.told.Told.{Told}
use Rattle.sr_fmt.specs.Layout.{kind_of}

-- a newline that is a separator has the newline as its text
abbrev pub is_told : Token → Bool
is_told token = not (pointwise nat_eq token.text (10 ∷ []))

-- a token's kind, and how many bytes it has
abbrev pub brief : Token → Told
brief token = record { kind = token.kind; len = length token.text }

abbrev pub all_told : List Token → List Told
all_told tokens = map brief (filter is_told tokens)

-- the tokens among pieces
abbrev pub told_at : Option TokenKind → List ℕ → List Told
told_at None text = []
told_at (Some kind) text = record { kind = kind; len = length text } ∷ []

abbrev pub told_in : List Placed → List Told
told_in [] = []
told_in (p ∷ rest) = told_at (kind_of p) p.text ++ told_in rest
