-- The tokens of a canonical text: those of its source told again, with separators where lines begin.
use Rattle.std.proofs.Common.{◌≡◌, ℕ, ◌*◌, ◌==◌, Bool, true, false, cond, not, ◌&&◌, List, [], ◌∷◌, ◌++◌, map, length, refl, ap, sym, subst, ◌∙◌, append_assoc, Option, Some, None, unwrap_or}
use Rattle.std.proofs.lemmas.List.{append-nil}
use Rattle.sr_value.specs.declared.place.Span.{Span}
use Rattle.sr_tree.specs.declared.token.Token.{Token}
use Rattle.sr_tree.specs.declared.token.TokenKind.{TokenKind}
use Rattle.sr_tree.specs.declared.token.TokenKind.TheVariants as kinds
use Rattle.sr_lexer.specs.declared.piece.PieceKind.{PieceKind}
use Rattle.sr_lexer.specs.declared.piece.PieceKind.TheVariants as pieces
use Rattle.sr_lexer.specs.declared.reader.Reader.{Reader}
use Rattle.sr_lexer.specs.Pieces.{first_passes}
use Rattle.sr_lexer.specs.Reading.{after_token, after_newline, after_piece, Tracks}
use Rattle.sr_lexer.specs.Roles.{may_end_line, continues_line}
use Rattle.sr_lexer.specs.Separators.{Placed, is_newline_kind, newline_separator, separators_where, token_of, tokens_at, tokens_of}
use Rattle.sr_lexer.specs.Tokens.{Chain}
use Rattle.sr_lexer.proofs.TrackLemmas.{tracks_more}
use Rattle.sr_fmt.specs.declared.pen.Pen.{Pen}
use Rattle.sr_fmt.specs.Blanks.{is_spaced}
use Rattle.sr_fmt.specs.Roles.{begins_component}
use Rattle.sr_fmt.specs.Gaps.{pen_past}
use Rattle.sr_fmt.specs.Layout.{begins_line, depth_after, level_of, spelled, first_kind, kind_of, is_comment, is_dropped, after_token as pen_after_token, pen_after, first_pen}
use Rattle.sr_fmt_laws.specs.Bits.{Bit, gap_bit, token_bit, end_bits, empty_bits, comment_bits, blank_bits, between_bits, start_bits, before_bits, piece_bits, held_after, layout_bits}
use Rattle.sr_fmt_laws.proofs.Chains.{AreBits}
use Rattle.sr_fmt_laws.proofs.KeptBits.{AllGaps, both_gaps, end_gaps, cond_gaps, comment_gaps, blank_gaps, start_gaps, past_depth}
use Rattle.sr_fmt_laws.proofs.ReadBits.{past_last}
use Rattle.sr_fmt_laws.proofs.TokenBits.{told_as}
use Rattle.sr_comes_back.proofs.Lines.{Marked, mark, ends_opt}
use Rattle.sr_comes_back.proofs.NewlinePieces.{begins_newline}
use Rattle.sr_comes_back.proofs.Source.{marked_with, marked_in}

-- ---- rows

-- where a token stands in the canonical text, and the separator before it
pub record Row : Type 0 where
  pub span : Span
  pub sep : Span

abbrev pub no_span : Span
no_span = record { file = 0; from = 0; to = 0; line = 0 }

abbrev pub sep_before : Span → Option TokenKind → TokenKind → List Token
sep_before span last kind = cond (ends_opt last && not (continues_line kind)) (record { kind = kinds.Separator; text = 10 ∷ []; span = span } ∷ []) []

abbrev pub retold : Span → Token → Token
retold span t = record { kind = t.kind; text = spelled t.kind t.text; span = span }

abbrev pub tell_rows : ℕ → Option TokenKind → List Marked → List Row → List Token
tell_rows depth last [] rows = []
tell_rows depth last (m ∷ ms) [] = []
tell_rows depth last (m ∷ ms) (w ∷ ws) =
    cond (begins_line depth m.begins m.token.kind) (sep_before w.sep last m.token.kind) [] ++ retold w.span m.token ∷ tell_rows (depth_after depth m.token.kind) (Some m.token.kind) ms ws

-- a row for each token
abbrev pub EachRow : List Marked → List Row → Type 0
EachRow [] [] = Unit {0}
EachRow (m ∷ ms) (w ∷ ws) = EachRow ms ws
EachRow _ _ = ⊥

-- ---- reading bits

abbrev pub after_bit : Reader → Option TokenKind → List ℕ → Span → Reader
after_bit r (Some kind) text span = after_token r kind text span
after_bit r None text span = cond (first_passes (λ b. b == 10) text) (after_newline r span) r

abbrev pub read_bits : Reader → List Bit → List Span → Reader
read_bits r [] spans = r
read_bits r (bit ∷ bits) [] = read_bits (after_bit r bit.kind bit.text no_span) bits []
read_bits r (bit ∷ bits) (span ∷ spans) = read_bits (after_bit r bit.kind bit.text span) bits spans

abbrev rest_spans : List Bit → List Span → List Span
rest_spans [] spans = spans
rest_spans (bit ∷ bits) [] = rest_spans bits []
rest_spans (bit ∷ bits) (span ∷ spans) = rest_spans bits spans

read-append : (a b : List Bit) (r : Reader) (spans : List Span) → read_bits r (a ++ b) spans ≡ read_bits (read_bits r a spans) b (rest_spans a spans)
read-append [] b r spans = refl
read-append (bit ∷ a) b r [] = read-append a b (after_bit r bit.kind bit.text no_span) []
read-append (bit ∷ a) b r (span ∷ spans) = read-append a b (after_bit r bit.kind bit.text span) spans

-- ---- reading pieces

abbrev pub read_all : Reader → List Placed → Reader
read_all r [] = r
read_all r (p ∷ ps) = read_all (after_piece r p.kind p.text p.span) ps

tracks_all : (before ps : List Placed) (r : Reader) → Tracks before r → Tracks (before ++ ps) (read_all r ps)
tracks_all before [] r t = subst (λ b. Tracks b r) (sym (append-nil before)) t
tracks_all before (p ∷ ps) r t =
    let next = after_piece r p.kind p.text p.span in
    subst (λ b. Tracks b (read_all next ps)) (append_assoc before (p ∷ []) ps) (tracks_all (before ++ p ∷ []) ps next (tracks_more before r p.kind p.text p.span t))

abbrev pub first_reader : Reader
first_reader = record { tokens = []; depth = 0; may_end = false; newline = None }

first_tracks : Tracks [] first_reader
unfolding tokens_of
first_tracks = record { tokens = refl; depth = refl; may_end = refl; newline = refl }

pub read_tokens : (ps : List Placed) → tokens_of ps ≡ (read_all first_reader ps).tokens
read_tokens ps = sym (tracks_all [] ps first_reader first_tracks).tokens

no_token : {t : Token} → [] ≡ t ∷ [] → ⊥
no_token e = cc

kinds_same : (k j : TokenKind) (text : List ℕ) (span : Span) → token_of k text span ∷ [] ≡ token_of j text span ∷ [] → k ≡ j
kinds_same k j text span e = let same : Some k ≡ Some j = ap first_kind e in cc

kind_step : (kind : PieceKind) (text : List ℕ) (span : Span) (bit_kind : Option TokenKind) → is_newline_kind kind ≡ first_passes (λ b. b == 10) text → ((before : List Placed) → tokens_at before kind text span ≡ told_as before bit_kind text span)
    → (r : Reader) → after_piece r kind text span ≡ after_bit r bit_kind text span
kind_step pieces.Blank text span None first told r = ap (λ b. cond b (after_newline r span) r) first
kind_step pieces.Comment text span None first told r = ap (λ b. cond b (after_newline r span) r) first
kind_step pieces.Newline text span None first told r = ap (λ b. cond b (after_newline r span) r) first
kind_step (pieces.Token k) text span None first told r = absurd (no_token (sym (told [])))
kind_step pieces.Blank text span (Some j) first told r = absurd (no_token (told []))
kind_step pieces.Comment text span (Some j) first told r = absurd (no_token (told []))
kind_step pieces.Newline text span (Some j) first told r = absurd (no_token (told []))
kind_step (pieces.Token k) text span (Some j) first told r = ap (λ kind. after_token r kind text span) (kinds_same k j text span (told []))

pub read_same : (file : ℕ) (source : List ℕ) (at to : ℕ) (ps : List Placed) (bits : List Bit) → Chain file source at ps to → AreBits ps bits → (r : Reader) → read_all r ps ≡ read_bits r bits (map (λ p. p.span) ps)
read_same file source at to [] [] chain are r = refl
read_same file source at to [] (bit ∷ bits) chain are r = absurd are
read_same file source at to (p ∷ ps) [] chain are r = absurd are
read_same file source at to (p ∷ ps) (bit ∷ bits) chain are r =
    ap (λ next. read_all next ps) (kind_step p.kind p.text p.span bit.kind (begins_newline file source at p chain.0) are.0.told r ∙ ap (λ text. after_bit r bit.kind text p.span) are.0.text)
    ∙ read_same file source p.span.to to ps bits chain.1 are.1 (after_bit r bit.kind bit.text p.span)

-- ---- gaps

abbrev with_newline : Reader → Option Span → Reader
with_newline r o = record r { newline = o }

gap_read : (r : Reader) (kind : Option TokenKind) (text : List ℕ) (span : Span) → kind ≡ None → (o : Option Span) × (after_bit r kind text span ≡ with_newline r o)
gap_read r kind text span e = by_test (first_passes (λ b. b == 10) text) refl
  where
    by_test : (b : Bool) → first_passes (λ b. b == 10) text ≡ b → (o : Option Span) × (after_bit r kind text span ≡ with_newline r o)
    by_test true f = (Some (unwrap_or r.newline span), ap (λ k. after_bit r k text span) e ∙ ap (λ b. cond b (after_newline r span) r) f)
    by_test false f = (r.newline, ap (λ k. after_bit r k text span) e ∙ ap (λ b. cond b (after_newline r span) r) f)

gaps_read : (bits : List Bit) → AllGaps bits → (r : Reader) (spans : List Span) → (o : Option Span) × (read_bits r bits spans ≡ with_newline r o)
gaps_read [] all r spans = (r.newline, refl)
gaps_read (bit ∷ bits) all r [] =
    let one = gap_read r bit.kind bit.text no_span all.0 in
    let more = gaps_read bits all.1 (with_newline r one.0) [] in
    (more.0, ap (λ next. read_bits next bits []) one.1 ∙ more.1)
gaps_read (bit ∷ bits) all r (span ∷ spans) =
    let one = gap_read r bit.kind bit.text span all.0 in
    let more = gaps_read bits all.1 (with_newline r one.0) spans in
    (more.0, ap (λ next. read_bits next bits spans) one.1 ∙ more.1)

-- a newline that waits stays the first
gap_stays : (r : Reader) (kind : Option TokenKind) (text : List ℕ) (span first : Span) → kind ≡ None → after_bit (with_newline r (Some first)) kind text span ≡ with_newline r (Some first)
gap_stays r kind text span first e = ap (λ k. after_bit (with_newline r (Some first)) k text span) e ∙ by_test (first_passes (λ b. b == 10) text)
  where
    by_test : (b : Bool) → cond b (after_newline (with_newline r (Some first)) span) (with_newline r (Some first)) ≡ with_newline r (Some first)
    by_test true = refl
    by_test false = refl

gaps_stay : (bits : List Bit) → AllGaps bits → (r : Reader) (first : Span) (spans : List Span) → read_bits (with_newline r (Some first)) bits spans ≡ with_newline r (Some first)
gaps_stay [] all r first spans = refl
gaps_stay (bit ∷ bits) all r first [] = ap (λ next. read_bits next bits []) (gap_stays r bit.kind bit.text no_span first all.0) ∙ gaps_stay bits all.1 r first []
gaps_stay (bit ∷ bits) all r first (span ∷ spans) = ap (λ next. read_bits next bits spans) (gap_stays r bit.kind bit.text span first all.0) ∙ gaps_stay bits all.1 r first spans

-- from a newline on
newline_read : (bits : List Bit) → AllGaps bits → (r : Reader) → r.newline ≡ None → (spans : List Span) → (first : Span) × (read_bits r (gap_bit (10 ∷ []) ∷ bits) spans ≡ with_newline r (Some first))
newline_read bits all r none [] = (no_span, ap (λ o. read_bits (with_newline r (Some (unwrap_or o no_span))) bits []) none ∙ gaps_stay bits all r no_span [])
newline_read bits all r none (span ∷ spans) = (span, ap (λ o. read_bits (with_newline r (Some (unwrap_or o span))) bits spans) none ∙ gaps_stay bits all r span spans)

-- between two tokens of a line
between_read : (last : Option TokenKind) (kind : TokenKind) (r : Reader) (spans : List Span) → read_bits r (between_bits last kind) spans ≡ r
between_read None kind r spans = refl
between_read (Some last) kind r spans = by_test (is_spaced last kind) spans
  where
    by_test : (b : Bool) (spans : List Span) → read_bits r (cond b (gap_bit (32 ∷ []) ∷ []) []) spans ≡ r
    by_test true [] = refl
    by_test true (span ∷ spans) = refl
    by_test false spans = refl

-- ---- what stands before a token

-- the reader knows what the pen knows
record Knows (pen : Pen) (r : Reader) : Type 0 where
  depth : r.depth ≡ pen.depth
  may_end : r.may_end ≡ ends_opt pen.last
  newline : r.newline ≡ None

-- reading up to a token, and the separators that this gives
record Reads (pen : Pen) (statement : Bool) (kind : TokenKind) (r after : Reader) : Type 0 where
  newline : Option Span
  sep : Span
  is : after ≡ with_newline r newline
  seps : separators_where r.depth r.may_end newline kind ≡ cond (begins_line pen.depth statement kind) (sep_before sep pen.last kind) []

left_of : (a b : Bool) → (a && b) ≡ true → a ≡ true
left_of true b e = refl
left_of false b e = absurd (cc)

no_end : (a c : Bool) (xs : List Token) → cond (a && false && c) xs [] ≡ []
no_end true c xs = refl
no_end false c xs = refl

none_seps : (depth : ℕ) (may_end : Bool) (kind : TokenKind) → separators_where depth may_end None kind ≡ []
none_seps depth may_end kind = by_test ((depth == 0) && may_end && not (continues_line kind))
  where
    by_test : (b : Bool) → cond b (newline_separator None) [] ≡ []
    by_test true = refl
    by_test false = refl

empty_gaps : (last : Option TokenKind) (kind : TokenKind) → AllGaps (empty_bits last kind)
empty_gaps last kind = cond_gaps (begins_component kind) (end_bits last) [] (end_gaps last) tt

line_reads : (pen : Pen) (held : List (List ℕ)) (statement : Bool) (kind : TokenKind) (r : Reader) (spans : List Span) (last : Option TokenKind) → pen.last ≡ last → begins_line pen.depth statement kind ≡ true → Knows pen r → Reads pen statement kind r (read_bits r (start_bits pen held kind) spans)
line_reads pen held statement kind r spans None e line knows =
    let found = gaps_read (start_bits pen held kind) (start_gaps pen held kind) r spans in
    record {
      newline = found.0;
      sep = no_span;
      is = found.1;
      seps =
          ap (λ b. separators_where r.depth b found.0 kind) (knows.may_end ∙ ap ends_opt e)
          ∙ no_end (r.depth == 0) (not (continues_line kind)) (newline_separator found.0)
          ∙ sym (ap (λ b. cond b (sep_before no_span pen.last kind) []) line ∙ ap (λ o. sep_before no_span o kind) e);
    }
line_reads pen held statement kind r spans (Some last) e line knows =
    let rest = empty_bits (Some last) kind ++ comment_bits held ++ blank_bits (2 * level_of pen.level kind) in
    let gaps : AllGaps rest =
    both_gaps (empty_bits (Some last) kind ++ comment_bits held) (blank_bits (2 * level_of pen.level kind))
    (both_gaps (empty_bits (Some last) kind) (comment_bits held) (empty_gaps (Some last) kind) (comment_gaps held)) (blank_gaps (2 * level_of pen.level kind)) in
    let found = newline_read rest gaps r knows.newline spans in
    let zero : (r.depth == 0) ≡ true = ap (λ n. n == 0) knows.depth ∙ left_of (pen.depth == 0) _ line in
    record {
      newline = Some found.0;
      sep = found.0;
      is = ap (λ o. read_bits r (((end_bits o ++ empty_bits o kind) ++ comment_bits held) ++ blank_bits (2 * level_of pen.level kind)) spans) e ∙ found.1;
      seps =
          ap (λ b. separators_where r.depth b (Some found.0) kind) (knows.may_end ∙ ap ends_opt e)
          ∙ ap (λ z. cond (z && may_end_line last && not (continues_line kind)) (newline_separator (Some found.0)) []) zero
          ∙ sym (ap (λ b. cond b (sep_before found.0 pen.last kind) []) line ∙ ap (λ o. sep_before found.0 o kind) e);
    }

before_reads : (pen : Pen) (held : List (List ℕ)) (statement : Bool) (kind : TokenKind) (r : Reader) (spans : List Span) → Knows pen r → Reads pen statement kind r (read_bits r (before_bits pen held statement kind) spans)
before_reads pen held statement kind r spans knows = by_test (begins_line pen.depth statement kind) refl
  where
    by_test : (b : Bool) → begins_line pen.depth statement kind ≡ b → Reads pen statement kind r (read_bits r (cond b (start_bits pen held kind) (between_bits pen.last kind)) spans)
    by_test true line = line_reads pen held statement kind r spans pen.last refl line knows
    by_test false line = record {
      newline = None;
      sep = no_span;
      is = between_read pen.last kind r spans ∙ ap (λ o. with_newline r o) knows.newline;
      seps = none_seps r.depth r.may_end kind ∙ sym (ap (λ b. cond b (sep_before no_span pen.last kind) []) line);
    }

-- ---- the tokens of the bits of a canonical text

abbrev HasRows : (ℕ → Bool) → Pen → List (List ℕ) → List Placed → Reader → List Span → Type 0
HasRows begins pen held ps r spans =
    (rows : List Row) × EachRow (marked_in begins pen.depth ps) rows
    × ((read_bits r (layout_bits begins pen held ps) spans).tokens ≡ r.tokens ++ tell_rows pen.depth pen.last (marked_in begins pen.depth ps) rows)

no_rows : (begins : ℕ → Bool) (pen : Pen) (held : List (List ℕ)) (r : Reader) (spans : List Span) → HasRows begins pen held [] r spans
no_rows begins pen held r spans =
    let found = gaps_read (end_bits pen.last ++ comment_bits held) (both_gaps (end_bits pen.last) (comment_bits held) (end_gaps pen.last) (comment_gaps held)) r spans in
    ([], tt, ap (λ next. next.tokens) found.1 ∙ sym (append-nil r.tokens))

-- one more row
one_row : (xs seps : List Token) (t : Token) (more : List Token) → ((xs ++ seps) ++ t ∷ []) ++ more ≡ xs ++ (seps ++ t ∷ more)
one_row xs seps t more = append_assoc (xs ++ seps) (t ∷ []) more ∙ append_assoc xs seps (t ∷ more)

-- the bits after a token that isn't left out
abbrev bits_after : (ℕ → Bool) → Pen → List (List ℕ) → Bool → TokenKind → List Placed → List Bit
bits_after begins pen held statement kind ps = layout_bits begins (pen_after_token pen statement kind) (cond (begins_line pen.depth statement kind) [] held) ps

dropped_rows : (begins : ℕ → Bool) (pen : Pen) (held : List (List ℕ)) (statement : Bool) (kind : TokenKind) (text : List ℕ) (span : Span) (ps : List Placed) (drop : Bool) → is_dropped pen.depth kind ≡ drop
    → ((next : Pen) (waiting : List (List ℕ)) (r : Reader) (spans : List Span) → Knows next r → HasRows begins next waiting ps r spans)
    → (r : Reader) (spans : List Span) → Knows pen r
    → (rows : List Row) × EachRow (cond drop (marked_in begins pen.depth ps) (mark statement (token_of kind text span) ∷ marked_in begins (depth_after pen.depth kind) ps)) rows
    × ((read_bits r (cond drop [] (before_bits pen held statement kind ++ token_bit kind (spelled kind text) ∷ []) ++ layout_bits begins (cond drop pen (pen_after_token pen statement kind)) (cond drop held (cond (begins_line pen.depth statement kind) [] held)) ps) spans).tokens
    ≡ r.tokens ++ tell_rows pen.depth pen.last (cond drop (marked_in begins pen.depth ps) (mark statement (token_of kind text span) ∷ marked_in begins (depth_after pen.depth kind) ps)) rows)
dropped_rows begins pen held statement kind text span ps true dropped more r spans knows = more pen held r spans knows
dropped_rows begins pen held statement kind text span ps false dropped more r spans knows = by_spans (rest_spans (before_bits pen held statement kind) spans) refl
  where
    found : Reads pen statement kind r (read_bits r (before_bits pen held statement kind) spans)
    found = before_reads pen held statement kind r spans knows

    at_span : (s : Span) (left : List Span) → read_bits (read_bits r (before_bits pen held statement kind) spans) (token_bit kind (spelled kind text) ∷ (bits_after begins pen held statement kind ps)) (rest_spans (before_bits pen held statement kind) spans) ≡ read_bits (after_token (read_bits r (before_bits pen held statement kind) spans) kind (spelled kind text) s) (bits_after begins pen held statement kind ps) left
        → (rows : List Row) × EachRow (mark statement (token_of kind text span) ∷ marked_in begins (depth_after pen.depth kind) ps) rows
        × ((read_bits r (((before_bits pen held statement kind) ++ token_bit kind (spelled kind text) ∷ []) ++ (bits_after begins pen held statement kind ps)) spans).tokens ≡ r.tokens ++ tell_rows pen.depth pen.last (mark statement (token_of kind text span) ∷ marked_in begins (depth_after pen.depth kind) ps) rows)
    at_span s left e =
        let next = after_token (with_newline r found.newline) kind (spelled kind text) s in
        let known : Knows (pen_after_token pen statement kind) next = record { depth = ap (λ d. depth_after d kind) knows.depth; may_end = refl; newline = refl } in
        let rest = more (pen_after_token pen statement kind) (cond (begins_line pen.depth statement kind) [] held) next left known in
        let seps = cond (begins_line pen.depth statement kind) (sep_before found.sep pen.last kind) [] in
        let t = token_of kind (spelled kind text) s in
        let told = tell_rows (depth_after pen.depth kind) (Some kind) (marked_in begins (depth_after pen.depth kind) ps) rest.0 in (
          record { span = s; sep = found.sep } ∷ rest.0,
          rest.1,
          ap (λ bits. (read_bits r bits spans).tokens) (append_assoc (before_bits pen held statement kind) (token_bit kind (spelled kind text) ∷ []) (bits_after begins pen held statement kind ps))
              ∙ ap (λ reader. reader.tokens) (read-append (before_bits pen held statement kind) (token_bit kind (spelled kind text) ∷ (bits_after begins pen held statement kind ps)) r spans ∙ e ∙ ap (λ reader. read_bits (after_token reader kind (spelled kind text) s) (bits_after begins pen held statement kind ps) left) found.is)
              ∙ rest.2
              ∙ ap (λ z. ((r.tokens ++ z) ++ t ∷ []) ++ told) found.seps
              ∙ one_row r.tokens seps t told,
        )

    by_spans : (left : List Span) → rest_spans (before_bits pen held statement kind) spans ≡ left
        → (rows : List Row) × EachRow (mark statement (token_of kind text span) ∷ marked_in begins (depth_after pen.depth kind) ps) rows
        × ((read_bits r (((before_bits pen held statement kind) ++ token_bit kind (spelled kind text) ∷ []) ++ (bits_after begins pen held statement kind ps)) spans).tokens ≡ r.tokens ++ tell_rows pen.depth pen.last (mark statement (token_of kind text span) ∷ marked_in begins (depth_after pen.depth kind) ps) rows)
    by_spans [] e = at_span no_span [] (ap (λ l. read_bits (read_bits r (before_bits pen held statement kind) spans) (token_bit kind (spelled kind text) ∷ (bits_after begins pen held statement kind ps)) l) e)
    by_spans (s ∷ left) e = at_span s left (ap (λ l. read_bits (read_bits r (before_bits pen held statement kind) spans) (token_bit kind (spelled kind text) ∷ (bits_after begins pen held statement kind ps)) l) e)

piece_rows : (begins : ℕ → Bool) (pen : Pen) (held : List (List ℕ)) (statement : Bool) (kind : Option TokenKind) (text : List ℕ) (span : Span) (ps : List Placed)
    → ((next : Pen) (waiting : List (List ℕ)) (r : Reader) (spans : List Span) → Knows next r → HasRows begins next waiting ps r spans)
    → (r : Reader) (spans : List Span) → Knows pen r
    → (rows : List Row) × EachRow (marked_with pen.depth kind text span statement (λ after. marked_in begins after ps)) rows
    × ((read_bits r (piece_bits pen held statement kind text ++ layout_bits begins (pen_after pen statement kind text) (held_after pen held statement kind text) ps) spans).tokens
    ≡ r.tokens ++ tell_rows pen.depth pen.last (marked_with pen.depth kind text span statement (λ after. marked_in begins after ps)) rows)
piece_rows begins pen held statement None text span ps more r spans knows =
    let next = pen_past (is_comment text) pen text in
    let depth = past_depth (is_comment text) pen text in
    let last = past_last (is_comment text) pen text in
    let rest = more next (held_after pen held statement None text) r spans (record { depth = knows.depth ∙ sym depth; may_end = knows.may_end ∙ ap ends_opt (sym last); newline = knows.newline }) in (
      rest.0,
      subst (λ d. EachRow (marked_in begins d ps) rest.0) depth rest.1,
      rest.2 ∙ ap (λ d. r.tokens ++ tell_rows d next.last (marked_in begins d ps) rest.0) depth ∙ ap (λ o. r.tokens ++ tell_rows pen.depth o (marked_in begins pen.depth ps) rest.0) last,
    )
piece_rows begins pen held statement (Some kind) text span ps more r spans knows = dropped_rows begins pen held statement kind text span ps (is_dropped pen.depth kind) refl more r spans knows

layout_rows : (begins : ℕ → Bool) (ps : List Placed) (pen : Pen) (held : List (List ℕ)) (r : Reader) (spans : List Span) → Knows pen r → HasRows begins pen held ps r spans
layout_rows begins [] pen held r spans knows = no_rows begins pen held r spans
layout_rows begins (p ∷ ps) pen held r spans knows = piece_rows begins pen held (begins p.span.from) (kind_of p) p.text p.span ps (λ next waiting r spans known. layout_rows begins ps next waiting r spans known) r spans knows

-- the tokens of the canonical text of some pieces, as rows
pub canonical_rows : (begins : ℕ → Bool) (pieces again : List Placed) (file : ℕ) (text : List ℕ) → Chain file text 0 again (length text) → AreBits again (layout_bits begins first_pen [] pieces)
    → (rows : List Row) × EachRow (marked_in begins 0 pieces) rows × (tokens_of again ≡ tell_rows 0 None (marked_in begins 0 pieces) rows)
canonical_rows begins pieces again file text chain are =
    let bits = layout_bits begins first_pen [] pieces in
    let found = layout_rows begins pieces first_pen [] first_reader (map (λ p. p.span) again) (record { depth = refl; may_end = refl; newline = refl }) in
    (found.0, found.1, read_tokens again ∙ ap (λ reader. reader.tokens) (read_same file text 0 (length text) again bits chain are first_reader) ∙ found.2)
