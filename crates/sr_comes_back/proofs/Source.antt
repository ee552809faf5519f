-- The tokens that a source keeps, with whether statements begin with them.
use Rattle.std.proofs.Common.{◌≡◌, ℕ, ◌==◌, Bool, true, false, cond, not, ◌&&◌, List, [], ◌∷◌, ◌++◌, refl, ap, subst, ◌∙◌, append_assoc, Option, Some, None}
use Rattle.std.proofs.lemmas.List.Sums.{fold-append}
use Rattle.sr_value.specs.declared.place.Span.{Span}
use Rattle.sr_tree.specs.declared.token.Token.{Token}
use Rattle.sr_tree.specs.declared.token.TokenKind.{TokenKind}
use Rattle.sr_tree.specs.declared.token.TokenKind.TheVariants as kinds
use Rattle.sr_tree.specs.Tokens.{is_separator}
use Rattle.sr_lexer.specs.declared.piece.PieceKind.{PieceKind}
use Rattle.sr_lexer.specs.declared.piece.PieceKind.TheVariants as pieces
use Rattle.sr_lexer.specs.Roles.{continues_line}
use Rattle.sr_lexer.specs.Separators.{Placed, open_after, open_brackets, line_may_end, newline_after, newline_separator, separators, separators_where, token_of, tokens_at, tokens_after}
use Rattle.sr_fmt.specs.Layout.{depth_after, is_dropped, kind_of}
use Rattle.sr_comes_back.proofs.Lines.{Marked, mark, tokens_in, kept_tokens, dropped_depth, right_of}

abbrev pub marked_with : ℕ → Option TokenKind → List ℕ → Span → Bool → (ℕ → List Marked) → List Marked
marked_with depth None text span begins more = more depth
marked_with depth (Some kind) text span begins more = cond (is_dropped depth kind) (more depth) (mark begins (token_of kind text span) ∷ more (depth_after depth kind))

-- the tokens among pieces but for separators outside of brackets, with their marks
abbrev pub marked_in : (ℕ → Bool) → ℕ → List Placed → List Marked
marked_in begins depth [] = []
marked_in begins depth (p ∷ rest) = marked_with depth (kind_of p) p.text p.span (begins p.span.from) (λ after. marked_in begins after rest)

left_of : (a b : Bool) → (a && b) ≡ true → a ≡ true
left_of true b e = refl
left_of false b e = absurd (cc)

-- the separator that a newline is isn't kept
newline_kept : (depth : ℕ) (o : Option Span) (ts : List Token) → (depth == 0) ≡ true → kept_tokens depth (newline_separator o ++ ts) ≡ kept_tokens depth ts
newline_kept depth None ts e = refl
newline_kept depth (Some span) ts e = ap (λ b. cond (b && true) (kept_tokens depth ts) (record { kind = kinds.Separator; text = 10 ∷ []; span = span } ∷ kept_tokens depth ts)) e

one_true : (a b c : Bool) → (a && b && c) ≡ true → a ≡ true
one_true true b c e = refl
one_true false b c e = absurd (cc)

separators_kept : (depth : ℕ) (may_end : Bool) (o : Option Span) (kind : TokenKind) (ts : List Token) → kept_tokens depth (separators_where depth may_end o kind ++ ts) ≡ kept_tokens depth ts
separators_kept depth may_end o kind ts = by_test ((depth == 0) && may_end && not (continues_line kind)) refl
  where
    by_test : (b : Bool) → ((depth == 0) && may_end && not (continues_line kind)) ≡ b → kept_tokens depth (cond b (newline_separator o) [] ++ ts) ≡ kept_tokens depth ts
    by_test true e = newline_kept depth o ts (one_true (depth == 0) may_end (not (continues_line kind)) e)
    by_test false e = refl

open_more : (before : List Placed) (p : Placed) → open_brackets (before ++ p ∷ []) ≡ open_after (open_brackets before) p.kind
open_more before p = fold-append (λ depth piece. open_after depth piece.kind) 0 before (p ∷ [])

token_kept : (begins : Bool) (depth : ℕ) (kind : TokenKind) (text : List ℕ) (span : Span) (more : ℕ → List Marked) (rest : List Token) → kept_tokens (depth_after depth kind) rest ≡ tokens_in (more (depth_after depth kind))
    → kept_tokens depth (token_of kind text span ∷ rest) ≡ tokens_in (marked_with depth (Some kind) text span begins more)
token_kept begins depth kind text span more rest same = by_test (is_dropped depth kind) refl
  where
    by_test : (b : Bool) → is_dropped depth kind ≡ b → cond b (kept_tokens depth rest) (token_of kind text span ∷ kept_tokens (depth_after depth kind) rest) ≡ tokens_in (cond b (more depth) (mark begins (token_of kind text span) ∷ more (depth_after depth kind)))
    by_test true e = subst (λ n. kept_tokens n rest ≡ tokens_in (more n)) (dropped_depth depth kind (right_of (depth == 0) (is_separator kind) e)) same
    by_test false e = ap (λ ts. token_of kind text span ∷ ts) same

piece_kept : (begins : ℕ → Bool) (before : List Placed) (kind : PieceKind) (text : List ℕ) (span : Span) (ps : List Placed)
    → kept_tokens (open_brackets (before ++ record { kind = kind; text = text; span = span } ∷ [])) (tokens_after (before ++ record { kind = kind; text = text; span = span } ∷ []) ps) ≡ tokens_in (marked_in begins (open_brackets (before ++ record { kind = kind; text = text; span = span } ∷ [])) ps)
    → kept_tokens (open_brackets before) (tokens_at before kind text span ++ tokens_after (before ++ record { kind = kind; text = text; span = span } ∷ []) ps) ≡ tokens_in (marked_with (open_brackets before) (kind_of (record { kind = kind; text = text; span = span })) text span (begins span.from) (λ after. marked_in begins after ps))
piece_kept begins before pieces.Blank text span ps same =
    let p : Placed = record { kind = pieces.Blank; text = text; span = span } in
    subst (λ n. kept_tokens n (tokens_after (before ++ p ∷ []) ps) ≡ tokens_in (marked_in begins n ps)) (open_more before p) same
piece_kept begins before pieces.Comment text span ps same =
    let p : Placed = record { kind = pieces.Comment; text = text; span = span } in
    subst (λ n. kept_tokens n (tokens_after (before ++ p ∷ []) ps) ≡ tokens_in (marked_in begins n ps)) (open_more before p) same
piece_kept begins before pieces.Newline text span ps same =
    let p : Placed = record { kind = pieces.Newline; text = text; span = span } in
    subst (λ n. kept_tokens n (tokens_after (before ++ p ∷ []) ps) ≡ tokens_in (marked_in begins n ps)) (open_more before p) same
piece_kept begins before (pieces.Token kind) text span ps same =
    let p : Placed = record { kind = pieces.Token kind; text = text; span = span } in
    let rest = tokens_after (before ++ p ∷ []) ps in
    ap (kept_tokens (open_brackets before)) (append_assoc (separators before kind) (token_of kind text span ∷ []) rest)
    ∙ separators_kept (open_brackets before) (line_may_end before) (newline_after before) kind (token_of kind text span ∷ rest)
    ∙ token_kept (begins span.from) (open_brackets before) kind text span (λ after. marked_in begins after ps) rest
    (subst (λ n. kept_tokens n rest ≡ tokens_in (marked_in begins n ps)) (open_more before p) same)

-- the tokens of pieces that are kept are those among the pieces
pub source_kept : (begins : ℕ → Bool) (before ps : List Placed) → kept_tokens (open_brackets before) (tokens_after before ps) ≡ tokens_in (marked_in begins (open_brackets before) ps)
source_kept begins before [] = refl
source_kept begins before (p ∷ ps) = piece_kept begins before p.kind p.text p.span ps (source_kept begins (before ++ p ∷ []) ps)
