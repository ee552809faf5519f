-- Each token of a file begins after the beginning of the one before.
use Rattle.std.specs.Prelude.{if◌then◌else◌}
use Rattle.std.proofs.Common.{◌≡◌, refl, sym, ap, subst, ℕ, ◌+◌, ◌<◌, ◌≤◌, ◌==◌, ◌&&◌, not, Bool, true, false, List, [], ◌∷◌, ◌++◌, length, drop, Option, Some, None, unwrap_or, Ok, Err, Result, arith, ◌∙◌}
use Rattle.sr_value.specs.declared.place.Span.{Span}
use Rattle.sr_text.specs.declared.refusal.Kind.TheVariants.{BadByte}
use Rattle.sr_tree.specs.declared.token.Token.{Token}
use Rattle.sr_tree.specs.declared.token.TokenKind.{TokenKind}
use Rattle.sr_order.specs.Order.{Ascend, none_left, one_more, token_spans}
use Rattle.sr_order.proofs.Ordered.{ascend-lower}
use Rattle.sr_lexer.specs.declared.piece.Fault.{Fault}
use Rattle.sr_lexer.specs.declared.piece.Piece.{Piece}
use Rattle.sr_lexer.specs.declared.piece.PieceKind.{PieceKind}
use Rattle.sr_lexer.specs.declared.piece.PieceKind.TheVariants as pieces
use Rattle.sr_lexer.specs.declared.reader.Reader.{Reader}
use Rattle.sr_lexer.specs.Pieces.{piece_at, FitsIn}
use Rattle.sr_lexer.specs.Reading.{after_piece}
use Rattle.sr_lexer.specs.Roles.{continues_line}
use Rattle.sr_lexer.specs.Separators.{Placed, open_brackets, line_may_end, newline_after, newline_separator, token_of, tokens_at, tokens_after, tokens_of}
use Rattle.sr_lexer.specs.Symbols.{listed_sign}
use Rattle.sr_lexer.specs.Tokens.{Chain, Lexes}
use Rattle.sr_lexer.proofs.PieceLemmas.{piece_fits}
use Rattle.sr_lexer.proofs.TrackLemmas.{tracks_more}

-- a piece that is found has bytes
nothing_found : piece_at [] ≡ Err (record { kind = BadByte; at = 0 })
unfolding piece_at listed_sign
nothing_found = refl

found_len : (bytes : List ℕ) (piece : Piece) → piece_at bytes ≡ Ok piece → 0 < piece.len
found_len [] piece e =
    let clash : ◌≡◌ {A = Result Piece Fault} (Err (record { kind = BadByte; at = 0 })) (Ok piece) = sym nothing_found ∙ e in
    cc
found_len (b ∷ bytes) piece e = (subst (FitsIn (b ∷ bytes)) e (piece_fits (b ∷ bytes) (omega arith))).0

-- the first newline after the last token of the pieces with one more
abbrev reader_of : List Placed → Reader
reader_of before = record { tokens = tokens_of before; depth = open_brackets before; may_end = line_may_end before; newline = newline_after before }

newline_more : (before : List Placed) (kind : PieceKind) (text : List ℕ) (span : Span)
    → newline_after (before ++ record { kind = kind; text = text; span = span } ∷ []) ≡ (after_piece (reader_of before) kind text span).newline
newline_more before kind text span =
    sym (tracks_more before (reader_of before) kind text span (record { tokens = refl; depth = refl; may_end = refl; newline = refl })).newline

-- a newline that waits stands between what is read of the tokens and the byte `from`
Waits : ℕ → ℕ → ℕ → Option Span → Type 0
Waits file low from None = Unit {0}
Waits file low from (Some span) = (span.file ≡ file) × (low ≤ span.from) × (span.from < from)

module _ (file low from to : ℕ) (near : low ≤ from) (far : from < to) where
  still_waits : (newline : Option Span) → Waits file low from newline → Waits file low to newline
  unfolding Waits
  still_waits None w = tt
  still_waits (Some span) w = (w.0, w.1, omega (arith, w.2))

  now_waits : (newline : Option Span) (span : Span) → span.file ≡ file → span.from ≡ from → Waits file low from newline → Waits file low to (Some (unwrap_or newline span))
  unfolding Waits
  now_waits None span f at w = (f, omega (arith, near, at), omega (arith, far, at))
  now_waits (Some other) span f at w = (w.0, w.1, omega (arith, w.2))

  -- a token and the separator before it, if one is
  token_ascends : (separated : Bool) (newline : Option Span) (kind : TokenKind) (text : List ℕ) (span : Span) (more : List Token)
      → Waits file low from newline → span.file ≡ file → span.from ≡ from → Ascend file to (token_spans more)
      → Ascend file low (token_spans (((if separated then newline_separator newline else []) ++ token_of kind text span ∷ []) ++ more))
  unfolding Waits
  token_ascends false newline kind text span more w f at rest = one_more span f (omega (arith, near, at)) (ascend-lower (omega (arith, far, at)) rest)
  token_ascends true None kind text span more w f at rest = one_more span f (omega (arith, near, at)) (ascend-lower (omega (arith, far, at)) rest)
  token_ascends true (Some newline) kind text span more w f at rest =
      one_more newline w.0 w.1 (one_more span f (omega (arith, w.2, at)) (ascend-lower (omega (arith, far, at)) rest))

-- what one piece adds, before what those after it add
step : (file low from : ℕ) (before rest : List Placed) (kind : PieceKind) (text : List ℕ) (span : Span) → low ≤ from → from < span.to
    → span.file ≡ file → span.from ≡ from → Waits file low from (newline_after before)
    → ((bound : ℕ) → bound ≤ span.to → Waits file bound span.to (newline_after (before ++ record { kind = kind; text = text; span = span } ∷ []))
    → Ascend file bound (token_spans (tokens_after (before ++ record { kind = kind; text = text; span = span } ∷ []) rest)))
    → Ascend file low (token_spans (tokens_at before kind text span ++ tokens_after (before ++ record { kind = kind; text = text; span = span } ∷ []) rest))
unfolding Waits
step file low from before rest pieces.Blank text span near far f at w more =
    more low (omega (arith, near, far)) (subst (Waits file low span.to) (sym (newline_more before pieces.Blank text span)) (still_waits file low from span.to near far (newline_after before) w))
step file low from before rest pieces.Comment text span near far f at w more =
    more low (omega (arith, near, far)) (subst (Waits file low span.to) (sym (newline_more before pieces.Comment text span)) (still_waits file low from span.to near far (newline_after before) w))
step file low from before rest pieces.Newline text span near far f at w more =
    more low (omega (arith, near, far)) (subst (Waits file low span.to) (sym (newline_more before pieces.Newline text span)) (now_waits file low from span.to near far (newline_after before) span f at w))
step file low from before rest (pieces.Token kind) text span near far f at w more =
    token_ascends file low from span.to near far (open_brackets before == 0 && line_may_end before && not (continues_line kind)) (newline_after before) kind text span
    (tokens_after (before ++ record { kind = pieces.Token kind; text = text; span = span } ∷ []) rest) w f at
    (more span.to (omega arith) (subst (Waits file span.to span.to) (sym (newline_more before (pieces.Token kind) text span)) tt))

-- the pieces from a byte on
after : (file : ℕ) (bytes : List ℕ) (low from : ℕ) (before ps : List Placed) (to : ℕ) → low ≤ from → Waits file low from (newline_after before)
    → Chain file bytes from ps to → Ascend file low (token_spans (tokens_after before ps))
after file bytes low from before [] to near w chain = none_left
after file bytes low from before (p ∷ ps) to near w chain =
    let found = chain.0 in
    let len : 0 < found.0.len = found_len (drop from bytes) found.0 found.1 in
    let file_is : p.span.file ≡ file = ap (λ (q : Placed). q.span.file) found.2 in
    let from_is : p.span.from ≡ from = ap (λ (q : Placed). q.span.from) found.2 in
    let to_is : p.span.to ≡ from + found.0.len = ap (λ (q : Placed). q.span.to) found.2 in
    step file low from before ps p.kind p.text p.span near (omega (arith, len, to_is)) file_is from_is w
    (λ bound within waits. after file bytes bound p.span.to (before ++ p ∷ []) ps to within waits chain.1)

pub tokens-ascend : (file : ℕ) (bytes : List ℕ) (tokens : List Token) → Lexes file bytes tokens → Ascend file 0 (token_spans tokens)
unfolding tokens_of Waits
tokens-ascend file bytes tokens lexes = subst (λ all. Ascend file 0 (token_spans all)) (sym lexes.told) (after file bytes 0 0 [] lexes.pieces (length bytes) (omega arith) tt lexes.chain)
