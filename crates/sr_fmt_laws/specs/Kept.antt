-- What a canonical text keeps of its source: the tokens, but for separators outside of brackets, and the comments.
use Rattle.std.specs.Prelude.{◌≡◌, ℕ, Bool, if◌then◌else◌, List, [], ◌∷◌, length, Option, Some, None}
use Rattle.sr_tree.specs.declared.component.File.{File}
use Rattle.sr_tree.specs.declared.token.TokenKind.{TokenKind}
use Rattle.sr_lexer.specs.Separators.{Placed}
use Rattle.sr_lexer.specs.Tokens.{Chain}
use Rattle.sr_order.specs.Spans.{statement_spans}
use Rattle.sr_fmt.specs.Canonical.{begins_at}
use Rattle.sr_fmt.specs.Layout.{depth_after, is_comment, is_dropped, kind_of, spelled, layout, first_pen}

-- a token by its kind and how the one style spells it
pub record Spelled : Type 0 where
  pub kind : TokenKind
  pub text : List ℕ

-- a token before others, where so many brackets are open
abbrev pub kept_with : ℕ → Option TokenKind → List ℕ → (ℕ → List Spelled) → List Spelled
kept_with depth None text more = more depth
kept_with depth (Some kind) text more =
    if is_dropped depth kind then more depth else record { kind = kind; text = spelled kind text } ∷ more (depth_after depth kind)

-- the tokens among pieces, in order, but for separators outside of brackets
abbrev pub kept : ℕ → List Placed → List Spelled
kept depth [] = []
kept depth (p ∷ rest) = kept_with depth (kind_of p) p.text (λ after. kept after rest)

-- whether a statement begins with a token, before the marks of others
abbrev pub starts_with : ℕ → Option TokenKind → Bool → (ℕ → List Bool) → List Bool
starts_with depth None statement more = more depth
starts_with depth (Some kind) statement more = if is_dropped depth kind then more depth else statement ∷ more (depth_after depth kind)

-- of the tokens that are kept, whether a statement begins with each
abbrev pub starts_in : (ℕ → Bool) → ℕ → List Placed → List Bool
starts_in begins depth [] = []
starts_in begins depth (p ∷ rest) = starts_with depth (kind_of p) (begins p.span.from) (λ after. starts_in begins after rest)

abbrev pub comment_with : Option TokenKind → List ℕ → List (List ℕ) → List (List ℕ)
comment_with None text more = if is_comment text then text ∷ more else more
comment_with (Some kind) text more = more

-- the comments among pieces, in order
abbrev pub comments_in : List Placed → List (List ℕ)
comments_in [] = []
comments_in (p ∷ rest) = comment_with (kind_of p) p.text (comments_in rest)

-- both texts are chains of pieces, with the same tokens and the same comments in order
pub record SaysTheSame (source text : List ℕ) : Type 0 where
  pub pieces : List Placed
  pub again : List Placed
  pub chain : Chain 0 source 0 pieces (length source)
  pub chain_again : Chain 0 text 0 again (length text)
  pub tokens : kept 0 again ≡ kept 0 pieces
  pub comments : comments_in again ≡ comments_in pieces

-- a text is laid out as itself, where statements begin with those of its tokens with which they begin in the source
pub record StaysAsItIs (source : List ℕ) (tree : File) (text : List ℕ) : Type 0 where
  pub pieces : List Placed
  pub again : List Placed
  pub chain : Chain 0 source 0 pieces (length source)
  pub chain_again : Chain 0 text 0 again (length text)
  pub stays : (begins : ℕ → Bool) → starts_in begins 0 again ≡ starts_in (begins_at (statement_spans tree)) 0 pieces → layout begins first_pen again ≡ text
