-- Reading one more piece.
use Rattle.std.proofs.Common.{◌≡◌, ℕ, Bool, cond, not, List, [], ◌∷◌, ◌++◌, reverse, refl, ap, sym, ◌∙◌, append_assoc, find, take_while, Option, Some, None, option_map, unwrap_or}
use Rattle.std.specs.Option.{option_or}
use Rattle.std.proofs.lemmas.List.{append-nil, reverse-append}
use Rattle.std.proofs.lemmas.List.Sums.{fold-append, take_while-cons}
use Rattle.std.proofs.lemmas.List.Folds.{find-append}
use Rattle.sr_value.specs.declared.place.Span.{Span}
use Rattle.sr_tree.specs.declared.token.TokenKind.{TokenKind}
use Rattle.sr_lexer.specs.declared.piece.PieceKind.{PieceKind}
use Rattle.sr_lexer.specs.declared.piece.PieceKind.TheVariants as pieces
use Rattle.sr_lexer.specs.declared.reader.Reader.{Reader}
use Rattle.sr_lexer.specs.Separators.{Placed, is_token, is_newline, open_after, open_brackets, ends_line, line_may_end, after_last_token, separators, separators_where, token_of, tokens_at, tokens_after, tokens_of}
use Rattle.sr_lexer.specs.Reading.{after_piece, Tracks}

-- the tokens of two lists of pieces, one after the other
after-append : (before xs ys : List Placed) → tokens_after before (xs ++ ys) ≡ tokens_after before xs ++ tokens_after (before ++ xs) ys
after-append before [] ys = ap (λ all. tokens_after all ys) (sym (append-nil before))
after-append before (x ∷ xs) ys =
    ap (λ rest. tokens_at before x.kind x.text x.span ++ rest) (after-append (before ++ x ∷ []) xs ys)
    ∙ ap (λ all. tokens_at before x.kind x.text x.span ++ (tokens_after (before ++ x ∷ []) xs ++ tokens_after all ys)) (append_assoc before (x ∷ []) xs)
    ∙ sym (append_assoc (tokens_at before x.kind x.text x.span) (tokens_after (before ++ x ∷ []) xs) (tokens_after (before ++ x ∷ xs) ys))

-- one more piece adds what it adds
tokens_more : (before : List Placed) (p : Placed) → tokens_of (before ++ p ∷ []) ≡ tokens_of before ++ tokens_at before p.kind p.text p.span
unfolding tokens_of
tokens_more before p =
    after-append [] before (p ∷ []) ∙ ap (λ more. tokens_after [] before ++ more) (append-nil (tokens_at before p.kind p.text p.span))

open_more : (before : List Placed) (p : Placed) → open_brackets (before ++ p ∷ []) ≡ open_after (open_brackets before) p.kind
open_more before p = fold-append (λ depth piece. open_after depth piece.kind) 0 before (p ∷ [])

reverse_more : (before : List Placed) (p : Placed) → reverse (before ++ p ∷ []) ≡ p ∷ reverse before
reverse_more before p = reverse-append before (p ∷ [])

-- the last token of the pieces with one more
line_more : (before : List Placed) (p : Placed) → line_may_end (before ++ p ∷ []) ≡ ends_line (cond (is_token p) (Some p) (find is_token (reverse before)))
line_more before p = ap (λ all. ends_line (find is_token all)) (reverse_more before p)

-- the pieces after the last token with one more
stretch_more : (before : List Placed) (p : Placed) → after_last_token (before ++ p ∷ []) ≡ cond (not (is_token p)) (p ∷ after_last_token before) []
stretch_more before p =
    ap (λ all. take_while (λ piece. not (is_token piece)) all) (reverse_more before p)
    ∙ take_while-cons (λ piece. not (is_token piece)) p (reverse before)

-- the first newline of a stretch with one more piece
first_more : (stretch : List Placed) (p : Placed) → find is_newline (reverse (p ∷ stretch)) ≡ option_or (find is_newline (reverse stretch)) (find is_newline (p ∷ []))
first_more stretch p = ap (find is_newline) (reverse-append (p ∷ []) stretch) ∙ find-append is_newline (reverse stretch) (p ∷ [])

or_none : (o : Option Placed) → option_or o None ≡ o
or_none None = refl
or_none (Some p) = refl

or_some : (o : Option Placed) (p : Placed) → option_map (λ piece. piece.span) (option_or o (Some p)) ≡ Some (unwrap_or (option_map (λ piece. piece.span) o) p.span)
or_some None p = refl
or_some (Some q) p = refl

spans : List Placed → Option Span
spans stretch = option_map (λ piece. piece.span) (find is_newline (reverse stretch))

same_separators : (d e : ℕ) (m n : Bool) (o p : Option Span) (kind : TokenKind) → d ≡ e → m ≡ n → o ≡ p → separators_where d m o kind ≡ separators_where e n p kind
same_separators d e m n o p kind depth end newline =
    ap (λ x. separators_where x m o kind) depth ∙ ap (λ x. separators_where e x o kind) end ∙ ap (λ x. separators_where e n x kind) newline

-- after one more piece the reader has read one piece more
pub tracks_more : (before : List Placed) (reader : Reader) (kind : PieceKind) (text : List ℕ) (span : Span) → Tracks before reader → Tracks (before ++ record { kind = kind; text = text; span = span } ∷ []) (after_piece reader kind text span)
unfolding spans
tracks_more before reader pieces.Blank text span tracks =
    let p : Placed = record { kind = pieces.Blank; text = text; span = span } in
    record {
      tokens = tracks.tokens ∙ sym (append-nil (tokens_of before)) ∙ sym (tokens_more before p);
      depth = tracks.depth ∙ sym (open_more before p);
      may_end = tracks.may_end ∙ sym (line_more before p);
      newline = tracks.newline ∙ sym (ap spans (stretch_more before p) ∙ ap (option_map (λ piece. piece.span)) (first_more (after_last_token before) p ∙ or_none (find is_newline (reverse (after_last_token before)))));
    }
tracks_more before reader pieces.Comment text span tracks =
    let p : Placed = record { kind = pieces.Comment; text = text; span = span } in
    record {
      tokens = tracks.tokens ∙ sym (append-nil (tokens_of before)) ∙ sym (tokens_more before p);
      depth = tracks.depth ∙ sym (open_more before p);
      may_end = tracks.may_end ∙ sym (line_more before p);
      newline = tracks.newline ∙ sym (ap spans (stretch_more before p) ∙ ap (option_map (λ piece. piece.span)) (first_more (after_last_token before) p ∙ or_none (find is_newline (reverse (after_last_token before)))));
    }
tracks_more before reader pieces.Newline text span tracks =
    let p : Placed = record { kind = pieces.Newline; text = text; span = span } in
    record {
      tokens = tracks.tokens ∙ sym (append-nil (tokens_of before)) ∙ sym (tokens_more before p);
      depth = tracks.depth ∙ sym (open_more before p);
      may_end = tracks.may_end ∙ sym (line_more before p);
      newline = ap (λ o. Some (unwrap_or o span)) tracks.newline ∙ sym (ap spans (stretch_more before p) ∙ ap (option_map (λ piece. piece.span)) (first_more (after_last_token before) p) ∙ or_some (find is_newline (reverse (after_last_token before))) p);
    }
tracks_more before reader (pieces.Token kind) text span tracks =
    let p : Placed = record { kind = pieces.Token kind; text = text; span = span } in
    record {
      tokens = ap (λ all. (all ++ separators_where reader.depth reader.may_end reader.newline kind) ++ token_of kind text span ∷ []) tracks.tokens
          ∙ ap (λ more. (tokens_of before ++ more) ++ token_of kind text span ∷ []) (same_separators _ _ _ _ _ _ kind tracks.depth tracks.may_end tracks.newline)
          ∙ append_assoc (tokens_of before) (separators before kind) (token_of kind text span ∷ [])
          ∙ sym (tokens_more before p);
      depth = ap (λ depth. open_after depth (pieces.Token kind)) tracks.depth ∙ sym (open_more before p);
      may_end = sym (line_more before p);
      newline = sym (ap spans (stretch_more before p));
    }
