-- The text in the one style, piece by piece.
use Rattle.std.specs.Prelude.{ℕ, ◌+◌, ◌-◌, ◌*◌, ◌==◌, Bool, ◌&&◌, ◌||◌, if◌then◌else◌, List, [], ◌∷◌, ◌++◌, Option, Some, None, codes, replicate}
use Rattle.sr_tree.specs.declared.token.Sign.TheVariants.{NotEqual}
use Rattle.sr_tree.specs.declared.token.Token.{Token}
use Rattle.sr_tree.specs.declared.token.TokenKind.{TokenKind}
use Rattle.sr_tree.specs.declared.token.TokenKind.TheVariants.{Sign}
use Rattle.sr_tree.specs.Tokens.{is_separator}
use Rattle.sr_lexer.specs.Pieces.{first_passes}
use Rattle.sr_lexer.specs.Roles.{opens_bracket, closes_bracket}
use Rattle.sr_lexer.specs.Separators.{Placed, tokens_at}
use Rattle.sr_fmt.specs.declared.pen.Pen.{Pen}
use Rattle.sr_fmt.specs.Blanks.{is_spaced}
use Rattle.sr_fmt.specs.Gaps.{pen_past}
use Rattle.sr_fmt.specs.Roles.{opens_level, closes_level, stands_out, begins_component, always_begins_line}

-- ---- lines

-- outside of brackets each statement begins a line, and so do the words and signs that always do
abbrev pub begins_line : ℕ → Bool → TokenKind → Bool
begins_line depth statement kind = depth == 0 && (statement || always_begins_line kind)

-- the level of a line that begins with this token, where so many levels are open
abbrev pub level_of : ℕ → TokenKind → ℕ
level_of level kind = if stands_out kind then level - 1 else level

-- how many `(` and `[` are open after a token
abbrev pub depth_after : ℕ → TokenKind → ℕ
depth_after depth kind = if opens_bracket kind then depth + 1 else (if closes_bracket kind then depth - 1 else depth)

-- how many levels are open after a token
abbrev pub level_after : ℕ → TokenKind → ℕ
level_after level kind = if opens_level kind then level + 1 else (if closes_level kind then level - 1 else level)

-- two spaces for each level
abbrev pub indentation : ℕ → List ℕ
indentation level = replicate (2 * level) 32

-- a line ends after its last token
abbrev pub line_end : Option TokenKind → List ℕ
line_end None = []
line_end (Some last) = 10 ∷ []

-- one empty line stands between components
abbrev pub empty_line : Option TokenKind → TokenKind → List ℕ
empty_line last kind = if begins_component kind then line_end last else []

-- what stands before a token that begins a line: the comments before it come first
abbrev pub line_start : Pen → TokenKind → List ℕ
line_start pen kind = line_end pen.last ++ empty_line pen.last kind ++ pen.held ++ indentation (level_of pen.level kind)

-- ---- tokens

-- what stands between two tokens of a line
abbrev pub blank_between : Option TokenKind → TokenKind → List ℕ
blank_between None kind = []
blank_between (Some last) kind = if is_spaced last kind then 32 ∷ [] else []

-- tokens are spelled as in the source, but `~=` as `!=`
abbrev pub spelled : TokenKind → List ℕ → List ℕ
spelled (Sign NotEqual) text = codes "!="
spelled _ text = text

-- what stands before a token
abbrev pub before_token : Pen → Bool → TokenKind → List ℕ
before_token pen statement kind = if begins_line pen.depth statement kind then line_start pen kind else blank_between pen.last kind

-- how it goes on after a token
abbrev pub after_token : Pen → Bool → TokenKind → Pen
after_token pen statement kind = record {
  depth = depth_after pen.depth kind;
  level = level_after pen.level kind;
  last = Some kind;
  held = if begins_line pen.depth statement kind then [] else pen.held;
}

-- ---- pieces

-- the kind of token that a piece is, if it is one
abbrev pub first_kind : List Token → Option TokenKind
first_kind [] = None
first_kind (token ∷ tokens) = Some token.kind

abbrev pub kind_of : Placed → Option TokenKind
kind_of p = first_kind (tokens_at [] p.kind p.text p.span)

-- of what is no token, comments begin with `#` or `/`
abbrev pub is_comment : List ℕ → Bool
is_comment text = first_passes (λ byte. byte == 35 || byte == 47) text

-- outside of brackets no separator is written
abbrev pub is_dropped : ℕ → TokenKind → Bool
is_dropped depth kind = depth == 0 && is_separator kind

-- what is written of a piece; `statement` says whether a statement begins with it
abbrev pub written : Pen → Bool → Option TokenKind → List ℕ → List ℕ
written pen statement None text = []
written pen statement (Some kind) text = if is_dropped pen.depth kind then [] else before_token pen statement kind ++ spelled kind text

-- how it goes on after a piece
abbrev pub pen_after : Pen → Bool → Option TokenKind → List ℕ → Pen
pen_after pen statement None text = pen_past (is_comment text) pen text
pen_after pen statement (Some kind) text = if is_dropped pen.depth kind then pen else after_token pen statement kind

-- what is written of the pieces; `begins` says at which bytes statements begin
unfoldable pub layout : (ℕ → Bool) → Pen → List Placed → List ℕ
layout begins pen [] = line_end pen.last ++ pen.held
layout begins pen (p ∷ rest) =
    written pen (begins p.span.from) (kind_of p) p.text ++ layout begins (pen_after pen (begins p.span.from) (kind_of p) p.text) rest

-- before the first piece
abbrev pub first_pen : Pen
first_pen = record { depth = 0; level = 0; last = None; held = [] }
