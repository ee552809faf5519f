-- The bits of a canonical text keep the tokens and comments of its source.
use Rattle.std.proofs.Common.{◌≡◌, ℕ, zero, suc, ◌*◌, Bool, true, false, cond, List, [], ◌∷◌, ◌++◌, length, refl, ap, sym, subst, ◌∙◌, append_assoc, Option, Some, None}
use Rattle.std.proofs.lemmas.List.{append-nil}
use Rattle.sr_tree.specs.declared.token.Sign.TheVariants.{NotEqual}
use Rattle.sr_tree.specs.declared.token.TokenKind.{TokenKind}
use Rattle.sr_tree.specs.declared.token.TokenKind.TheVariants as kinds
use Rattle.sr_lexer.specs.Separators.{Placed}
use Rattle.sr_lexer.specs.Tokens.{Chain}
use Rattle.sr_fmt.specs.declared.pen.Pen.{Pen}
use Rattle.sr_fmt.specs.Blanks.{is_spaced}
use Rattle.sr_fmt.specs.Canonical.{begins_at, IsCanonical}
use Rattle.sr_fmt.specs.Gaps.{pen_past}
use Rattle.sr_fmt.specs.Layout.{begins_line, depth_after, level_of, spelled, first_kind, kind_of, is_comment, is_dropped, after_token, pen_after, first_pen}
use Rattle.sr_fmt.specs.Roles.{begins_component}
use Rattle.sr_order.specs.Spans.{statement_spans}
use Rattle.sr_tree.specs.declared.component.File.{File}
use Rattle.sr_fmt.proofs.FrontLemmas.{along}
use Rattle.sr_fmt_laws.specs.Bits.{Bit, gap_bit, token_bit, end_bits, empty_bits, comment_bits, blank_bits, between_bits, start_bits, before_bits, piece_bits, held_after, layout_bits}
use Rattle.sr_fmt_laws.specs.Kept.{Spelled, kept_with, kept, comment_with, comments_in, SaysTheSame}
use Rattle.sr_fmt_laws.proofs.TokenBits.{told_as}
use Rattle.sr_fmt_laws.proofs.Chains.{IsBit, AreBits, canonical_chain}

-- ---- of bits

abbrev pub kept_bits : ℕ → List Bit → List Spelled
kept_bits depth [] = []
kept_bits depth (bit ∷ bits) = kept_with depth bit.kind bit.text (λ after. kept_bits after bits)

abbrev pub bit_comments : List Bit → List (List ℕ)
bit_comments [] = []
bit_comments (bit ∷ bits) = comment_with bit.kind bit.text (bit_comments bits)

-- pieces that are some bits
kind_is : (p : Placed) (bit : Bit) (kind : Option TokenKind) → bit.kind ≡ kind → IsBit p bit → kind_of p ≡ kind
kind_is p bit None e is = ap first_kind (is.told [] ∙ along e (λ (k : Option TokenKind). told_as [] k p.text p.span))
kind_is p bit (Some kind) e is = ap first_kind (is.told [] ∙ along e (λ (k : Option TokenKind). told_as [] k p.text p.span))

pub kind_of_bit : (p : Placed) (bit : Bit) → IsBit p bit → kind_of p ≡ bit.kind
kind_of_bit p bit is = kind_is p bit bit.kind refl is

kept_same : (depth : ℕ) (pieces : List Placed) (bits : List Bit) → AreBits pieces bits → kept depth pieces ≡ kept_bits depth bits
kept_same depth [] [] are = refl
kept_same depth [] (bit ∷ bits) are = absurd are
kept_same depth (p ∷ pieces) [] are = absurd are
kept_same depth (p ∷ pieces) (bit ∷ bits) are =
    along (kind_of_bit p bit are.0) (λ (k : Option TokenKind). kept_with depth k p.text (λ after. kept after pieces))
    ∙ along are.0.text (λ (text : List ℕ). kept_with depth bit.kind text (λ after. kept after pieces))
    ∙ kept_more depth bit.kind bit.text (λ after. kept after pieces) (λ after. kept_bits after bits) (λ after. kept_same after pieces bits are.1)
  where
    kept_more : (depth : ℕ) (kind : Option TokenKind) (text : List ℕ) (f g : ℕ → List Spelled) → ((after : ℕ) → f after ≡ g after) → kept_with depth kind text f ≡ kept_with depth kind text g
    kept_more depth None text f g e = e depth
    kept_more depth (Some kind) text f g e =
        ap (λ (xs : List Spelled). cond (is_dropped depth kind) xs (record { kind = kind; text = spelled kind text } ∷ f (depth_after depth kind))) (e depth)
        ∙ ap (λ (xs : List Spelled). cond (is_dropped depth kind) (g depth) (record { kind = kind; text = spelled kind text } ∷ xs)) (e (depth_after depth kind))

comments_same : (pieces : List Placed) (bits : List Bit) → AreBits pieces bits → comments_in pieces ≡ bit_comments bits
comments_same [] [] are = refl
comments_same [] (bit ∷ bits) are = absurd are
comments_same (p ∷ pieces) [] are = absurd are
comments_same (p ∷ pieces) (bit ∷ bits) are =
    along (kind_of_bit p bit are.0) (λ (k : Option TokenKind). comment_with k p.text (comments_in pieces))
    ∙ along are.0.text (λ (text : List ℕ). comment_with bit.kind text (comments_in pieces))
    ∙ ap (λ (more : List (List ℕ)). comment_with bit.kind bit.text more) (comments_same pieces bits are.1)

-- ---- gaps have no token

abbrev pub AllGaps : List Bit → Type 0
AllGaps [] = Unit {0}
AllGaps (bit ∷ bits) = (bit.kind ≡ None) × AllGaps bits

gaps_kept : (depth : ℕ) (a b : List Bit) → AllGaps a → kept_bits depth (a ++ b) ≡ kept_bits depth b
gaps_kept depth [] b all = refl
gaps_kept depth (bit ∷ a) b all =
    along all.0 (λ (k : Option TokenKind). kept_with depth k bit.text (λ after. kept_bits after (a ++ b))) ∙ gaps_kept depth a b all.1

pub both_gaps : (a b : List Bit) → AllGaps a → AllGaps b → AllGaps (a ++ b)
both_gaps [] b first second = second
both_gaps (bit ∷ a) b first second = (first.0, both_gaps a b first.1 second)

pub end_gaps : (last : Option TokenKind) → AllGaps (end_bits last)
end_gaps None = tt
end_gaps (Some last) = (refl, tt)

pub cond_gaps : (b : Bool) (bits other : List Bit) → AllGaps bits → AllGaps other → AllGaps (cond b bits other)
cond_gaps true bits other first second = first
cond_gaps false bits other first second = second

pub comment_gaps : (held : List (List ℕ)) → AllGaps (comment_bits held)
comment_gaps [] = tt
comment_gaps (comment ∷ held) = (refl, (refl, comment_gaps held))

pub blank_gaps : (n : ℕ) → AllGaps (blank_bits n)
blank_gaps zero = tt
blank_gaps (suc n) = (refl, blank_gaps n)

between_gaps : (last : Option TokenKind) (kind : TokenKind) → AllGaps (between_bits last kind)
between_gaps None kind = tt
between_gaps (Some last) kind = cond_gaps (is_spaced last kind) (gap_bit (32 ∷ []) ∷ []) [] (refl, tt) tt

pub start_gaps : (pen : Pen) (held : List (List ℕ)) (kind : TokenKind) → AllGaps (start_bits pen held kind)
start_gaps pen held kind =
    both_gaps ((end_bits pen.last ++ empty_bits pen.last kind) ++ comment_bits held) (blank_bits (2 * level_of pen.level kind))
    (both_gaps (end_bits pen.last ++ empty_bits pen.last kind) (comment_bits held)
    (both_gaps (end_bits pen.last) (empty_bits pen.last kind) (end_gaps pen.last) (cond_gaps (begins_component kind) (end_bits pen.last) [] (end_gaps pen.last) tt))
    (comment_gaps held))
    (blank_gaps (2 * level_of pen.level kind))

before_gaps : (pen : Pen) (held : List (List ℕ)) (statement : Bool) (kind : TokenKind) → AllGaps (before_bits pen held statement kind)
before_gaps pen held statement kind =
    cond_gaps (begins_line pen.depth statement kind) (start_bits pen held kind) (between_bits pen.last kind) (start_gaps pen held kind) (between_gaps pen.last kind)

-- ---- tokens

-- what is spelled in the one style stays as it is
pub spelled_twice : (kind : TokenKind) (text : List ℕ) → spelled kind (spelled kind text) ≡ spelled kind text
spelled_twice kinds.Name text = refl
spelled_twice kinds.Number text = refl
spelled_twice kinds.Char text = refl
spelled_twice kinds.Str text = refl
spelled_twice kinds.Separator text = refl
spelled_twice (kinds.Word word) text = refl
spelled_twice (kinds.Sign NotEqual) text = refl
spelled_twice (kinds.Sign sign) text = refl

pub past_depth : (b : Bool) (pen : Pen) (text : List ℕ) → (pen_past b pen text).depth ≡ pen.depth
past_depth true pen text = refl
past_depth false pen text = refl

dropped_kept : (pen : Pen) (held : List (List ℕ)) (statement : Bool) (kind : TokenKind) (text : List ℕ) (bits : List Bit) (more : ℕ → List Spelled) (b : Bool) → is_dropped pen.depth kind ≡ b
    → kept_bits (cond b pen (after_token pen statement kind)).depth bits ≡ more (cond b pen (after_token pen statement kind)).depth
    → kept_bits pen.depth (cond b [] (before_bits pen held statement kind ++ token_bit kind (spelled kind text) ∷ []) ++ bits) ≡ cond b (more pen.depth) (record { kind = kind; text = spelled kind text } ∷ more (depth_after pen.depth kind))
dropped_kept pen held statement kind text bits more true e same = same
dropped_kept pen held statement kind text bits more false e same =
    ap (kept_bits pen.depth) (append_assoc (before_bits pen held statement kind) (token_bit kind (spelled kind text) ∷ []) bits)
    ∙ gaps_kept pen.depth (before_bits pen held statement kind) (token_bit kind (spelled kind text) ∷ bits) (before_gaps pen held statement kind)
    ∙ along e (λ (b : Bool). cond b (kept_bits pen.depth bits) (record { kind = kind; text = spelled kind (spelled kind text) } ∷ kept_bits (depth_after pen.depth kind) bits))
    ∙ ap (λ (t : List ℕ). record { kind = kind; text = t } ∷ kept_bits (depth_after pen.depth kind) bits) (spelled_twice kind text)
    ∙ ap (λ (xs : List Spelled). record { kind = kind; text = spelled kind text } ∷ xs) same

piece_kept : (pen : Pen) (held : List (List ℕ)) (statement : Bool) (kind : Option TokenKind) (text : List ℕ) (bits : List Bit) (more : ℕ → List Spelled)
    → kept_bits (pen_after pen statement kind text).depth bits ≡ more (pen_after pen statement kind text).depth
    → kept_bits pen.depth (piece_bits pen held statement kind text ++ bits) ≡ kept_with pen.depth kind text more
piece_kept pen held statement None text bits more same =
    subst (λ (depth : ℕ). kept_bits depth bits ≡ more depth) (past_depth (is_comment text) pen text) same
piece_kept pen held statement (Some kind) text bits more same = dropped_kept pen held statement kind text bits more (is_dropped pen.depth kind) refl same

layout_kept : (begins : ℕ → Bool) (pen : Pen) (held : List (List ℕ)) (pieces : List Placed) → kept_bits pen.depth (layout_bits begins pen held pieces) ≡ kept pen.depth pieces
layout_kept begins pen held [] =
    ap (kept_bits pen.depth) (sym (append-nil (end_bits pen.last ++ comment_bits held)))
    ∙ gaps_kept pen.depth (end_bits pen.last ++ comment_bits held) [] (both_gaps (end_bits pen.last) (comment_bits held) (end_gaps pen.last) (comment_gaps held))
layout_kept begins pen held (p ∷ rest) =
    let statement = begins p.span.from in
    let next = pen_after pen statement (kind_of p) p.text in
    let waiting = held_after pen held statement (kind_of p) p.text in
    piece_kept pen held statement (kind_of p) p.text (layout_bits begins next waiting rest) (λ after. kept after rest) (layout_kept begins next waiting rest)

-- ---- comments

comments-append : (a b : List Bit) → bit_comments (a ++ b) ≡ bit_comments a ++ bit_comments b
comments-append [] b = refl
comments-append (bit ∷ a) b =
    ap (λ (more : List (List ℕ)). comment_with bit.kind bit.text more) (comments-append a b) ∙ with_more bit.kind bit.text (bit_comments a) (bit_comments b)
  where
    by_test : (c : Bool) (text : List ℕ) (xs ys : List (List ℕ)) → cond c (text ∷ (xs ++ ys)) (xs ++ ys) ≡ cond c (text ∷ xs) xs ++ ys
    by_test true text xs ys = refl
    by_test false text xs ys = refl

    with_more : (kind : Option TokenKind) (text : List ℕ) (xs ys : List (List ℕ)) → comment_with kind text (xs ++ ys) ≡ comment_with kind text xs ++ ys
    with_more None text xs ys = by_test (is_comment text) text xs ys
    with_more (Some kind) text xs ys = refl

end_comments : (last : Option TokenKind) → bit_comments (end_bits last) ≡ []
end_comments None = refl
end_comments (Some last) = refl

no_comments : (b : Bool) (bits : List Bit) → bit_comments bits ≡ [] → bit_comments (cond b bits []) ≡ []
no_comments true bits e = e
no_comments false bits e = refl

blank_comments : (n : ℕ) → bit_comments (blank_bits n) ≡ []
blank_comments zero = refl
blank_comments (suc n) = blank_comments n

between_comments : (last : Option TokenKind) (kind : TokenKind) → bit_comments (between_bits last kind) ≡ []
between_comments None kind = refl
between_comments (Some last) kind = no_comments (is_spaced last kind) (gap_bit (32 ∷ []) ∷ []) refl

-- the comments that wait are comments
abbrev pub AllWait : List (List ℕ) → Type 0
AllWait [] = Unit {0}
AllWait (comment ∷ held) = (is_comment comment ≡ true) × AllWait held

pub waiting_comments : (held : List (List ℕ)) → AllWait held → bit_comments (comment_bits held) ≡ held
waiting_comments [] all = refl
waiting_comments (comment ∷ held) all =
    along all.0 (λ (c : Bool). cond c (comment ∷ bit_comments (comment_bits held)) (bit_comments (comment_bits held))) ∙ ap (λ (more : List (List ℕ)). comment ∷ more) (waiting_comments held all.1)

four_comments : (a b c d : List Bit) (held : List (List ℕ)) → bit_comments a ≡ [] → bit_comments b ≡ [] → bit_comments c ≡ held → bit_comments d ≡ [] → bit_comments (((a ++ b) ++ c) ++ d) ≡ held
four_comments a b c d held e f g h =
    comments-append ((a ++ b) ++ c) d
    ∙ ap (λ (xs : List (List ℕ)). bit_comments ((a ++ b) ++ c) ++ xs) h
    ∙ append-nil (bit_comments ((a ++ b) ++ c))
    ∙ comments-append (a ++ b) c
    ∙ ap (λ (xs : List (List ℕ)). xs ++ bit_comments c) (comments-append a b)
    ∙ ap (λ (xs : List (List ℕ)). (xs ++ bit_comments b) ++ bit_comments c) e
    ∙ ap (λ (xs : List (List ℕ)). xs ++ bit_comments c) f
    ∙ g

start_comments : (pen : Pen) (held : List (List ℕ)) (kind : TokenKind) → AllWait held → bit_comments (start_bits pen held kind) ≡ held
start_comments pen held kind all =
    four_comments (end_bits pen.last) (empty_bits pen.last kind) (comment_bits held) (blank_bits (2 * level_of pen.level kind)) held
    (end_comments pen.last) (no_comments (begins_component kind) (end_bits pen.last) (end_comments pen.last)) (waiting_comments held all) (blank_comments (2 * level_of pen.level kind))

-- with the comments that still wait after a token all stay in order
before_by : (pen : Pen) (held : List (List ℕ)) (kind : TokenKind) (b : Bool) (more : List (List ℕ)) → AllWait held → bit_comments (cond b (start_bits pen held kind) (between_bits pen.last kind)) ++ (cond b [] held ++ more) ≡ held ++ more
before_by pen held kind true more all = ap (λ (xs : List (List ℕ)). xs ++ more) (start_comments pen held kind all)
before_by pen held kind false more all = ap (λ (xs : List (List ℕ)). xs ++ (held ++ more)) (between_comments pen.last kind)

dropped_comments : (pen : Pen) (held : List (List ℕ)) (statement : Bool) (kind : TokenKind) (text : List ℕ) (more : List (List ℕ)) (b : Bool) → AllWait held
    → bit_comments (cond b [] (before_bits pen held statement kind ++ token_bit kind (spelled kind text) ∷ [])) ++ (cond b held (cond (begins_line pen.depth statement kind) [] held) ++ more) ≡ held ++ more
dropped_comments pen held statement kind text more true all = refl
dropped_comments pen held statement kind text more false all =
    ap (λ (xs : List (List ℕ)). xs ++ (cond (begins_line pen.depth statement kind) [] held ++ more))
    (comments-append (before_bits pen held statement kind) (token_bit kind (spelled kind text) ∷ []) ∙ append-nil (bit_comments (before_bits pen held statement kind)))
    ∙ before_by pen held kind (begins_line pen.depth statement kind) more all

comment_by : (held : List (List ℕ)) (text : List ℕ) (more : List (List ℕ)) (c : Bool) → cond c (held ++ text ∷ []) held ++ more ≡ held ++ cond c (text ∷ more) more
comment_by held text more true = append_assoc held (text ∷ []) more
comment_by held text more false = refl

piece_comments : (pen : Pen) (held : List (List ℕ)) (statement : Bool) (kind : Option TokenKind) (text : List ℕ) (more : List (List ℕ)) → AllWait held
    → bit_comments (piece_bits pen held statement kind text) ++ (held_after pen held statement kind text ++ more) ≡ held ++ comment_with kind text more
piece_comments pen held statement None text more all = comment_by held text more (is_comment text)
piece_comments pen held statement (Some kind) text more all = dropped_comments pen held statement kind text more (is_dropped pen.depth kind) all

wait_more : (held : List (List ℕ)) (text : List ℕ) → AllWait held → is_comment text ≡ true → AllWait (held ++ text ∷ [])
wait_more [] text all e = (e, tt)
wait_more (comment ∷ held) text all e = (all.0, wait_more held text all.1 e)

comment_waits : (held : List (List ℕ)) (text : List ℕ) (b : Bool) → is_comment text ≡ b → AllWait held → AllWait (cond b (held ++ text ∷ []) held)
comment_waits held text true e all = wait_more held text all e
comment_waits held text false e all = all

line_waits : (held : List (List ℕ)) (dropped begins : Bool) → AllWait held → AllWait (cond dropped held (cond begins [] held))
line_waits held true begins all = all
line_waits held false true all = tt
line_waits held false false all = all

pub all_wait : (pen : Pen) (held : List (List ℕ)) (statement : Bool) (kind : Option TokenKind) (text : List ℕ) → AllWait held → AllWait (held_after pen held statement kind text)
all_wait pen held statement None text all = comment_waits held text (is_comment text) refl all
all_wait pen held statement (Some kind) text all = line_waits held (is_dropped pen.depth kind) (begins_line pen.depth statement kind) all

layout_comments : (begins : ℕ → Bool) (pen : Pen) (held : List (List ℕ)) (pieces : List Placed) → AllWait held → bit_comments (layout_bits begins pen held pieces) ≡ held ++ comments_in pieces
layout_comments begins pen held [] all =
    comments-append (end_bits pen.last) (comment_bits held)
    ∙ ap (λ (xs : List (List ℕ)). xs ++ bit_comments (comment_bits held)) (end_comments pen.last)
    ∙ waiting_comments held all
    ∙ sym (append-nil held)
layout_comments begins pen held (p ∷ rest) all =
    let statement = begins p.span.from in
    let next = pen_after pen statement (kind_of p) p.text in
    let waiting = held_after pen held statement (kind_of p) p.text in
    comments-append (piece_bits pen held statement (kind_of p) p.text) (layout_bits begins next waiting rest)
    ∙ ap (λ (xs : List (List ℕ)). bit_comments (piece_bits pen held statement (kind_of p) p.text) ++ xs) (layout_comments begins next waiting rest (all_wait pen held statement (kind_of p) p.text all))
    ∙ piece_comments pen held statement (kind_of p) p.text (comments_in rest) all

-- ---- the law

-- a canonical text has the tokens and comments of its source
pub same_text : (source : List ℕ) (tree : File) (text : List ℕ) → IsCanonical source tree text → SaysTheSame source text
same_text source tree text is =
    let begins = begins_at (statement_spans tree) in
    let found = canonical_chain 0 source is.pieces begins is.chain in
    record {
      pieces = is.pieces;
      again = found.0;
      chain = is.chain;
      chain_again = subst (λ (xs : List ℕ). Chain 0 xs 0 found.0 (length xs)) (sym is.told) found.1;
      tokens = kept_same 0 found.0 (layout_bits begins first_pen [] is.pieces) found.2 ∙ layout_kept begins first_pen [] is.pieces;
      comments = comments_same found.0 (layout_bits begins first_pen [] is.pieces) found.2 ∙ layout_comments begins first_pen [] is.pieces tt;
    }
