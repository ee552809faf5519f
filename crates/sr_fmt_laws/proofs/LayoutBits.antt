-- A canonical text is written bit by bit: newlines, blanks, comments and tokens.
use Rattle.std.proofs.Common.{◌≡◌, ℕ, zero, suc, ◌*◌, Bool, true, false, cond, List, [], ◌∷◌, ◌++◌, replicate, refl, ap, sym, ◌∙◌, append_assoc, Option, Some, None}
use Rattle.std.proofs.lemmas.List.{append-nil}
use Rattle.sr_tree.specs.declared.token.TokenKind.{TokenKind}
use Rattle.sr_lexer.specs.Separators.{Placed}
use Rattle.sr_fmt.specs.declared.pen.Pen.{Pen}
use Rattle.sr_fmt.specs.Blanks.{is_spaced}
use Rattle.sr_fmt.specs.Gaps.{pen_past}
use Rattle.sr_fmt.specs.Layout.{begins_line, level_of, line_end, empty_line, line_start, blank_between, spelled, before_token, after_token, kind_of, is_comment, is_dropped, written, pen_after, layout, first_pen}
use Rattle.sr_fmt.specs.Roles.{begins_component}
use Rattle.sr_fmt_laws.specs.Bits.{Bit, gap_bit, token_bit, text_of, end_bits, empty_bits, comment_bits, blank_bits, between_bits, start_bits, before_bits, piece_bits, held_after, layout_bits}

-- ---- together the bits are the text

pub text_of-append : (xs ys : List Bit) → text_of (xs ++ ys) ≡ text_of xs ++ text_of ys
text_of-append [] ys = refl
text_of-append (x ∷ xs) ys = ap (λ (more : List ℕ). x.text ++ more) (text_of-append xs ys) ∙ sym (append_assoc x.text (text_of xs) (text_of ys))

end_joined : (last : Option TokenKind) → text_of (end_bits last) ≡ line_end last
end_joined None = refl
end_joined (Some last) = refl

empty_joined : (last : Option TokenKind) (b : Bool) → text_of (cond b (end_bits last) []) ≡ cond b (line_end last) []
empty_joined last true = end_joined last
empty_joined last false = refl

blanks_joined : (n : ℕ) → text_of (blank_bits n) ≡ replicate n 32
blanks_joined zero = refl
blanks_joined (suc n) = ap (λ (more : List ℕ). 32 ∷ more) (blanks_joined n)

between_by : (b : Bool) → text_of (cond b (gap_bit (32 ∷ []) ∷ []) []) ≡ cond b (32 ∷ []) []
between_by true = refl
between_by false = refl

between_joined : (last : Option TokenKind) (kind : TokenKind) → text_of (between_bits last kind) ≡ blank_between last kind
between_joined None kind = refl
between_joined (Some last) kind = between_by (is_spaced last kind)

-- three parts and a fourth
four_joined : (a b c d : List Bit) → text_of (((a ++ b) ++ c) ++ d) ≡ ((text_of a ++ text_of b) ++ text_of c) ++ text_of d
four_joined a b c d =
    text_of-append ((a ++ b) ++ c) d
    ∙ ap (λ (xs : List ℕ). xs ++ text_of d) (text_of-append (a ++ b) c ∙ ap (λ (xs : List ℕ). xs ++ text_of c) (text_of-append a b))

start_joined : (pen : Pen) (held : List (List ℕ)) (kind : TokenKind) → text_of (comment_bits held) ≡ pen.held → text_of (start_bits pen held kind) ≡ line_start pen kind
start_joined pen held kind e =
    four_joined (end_bits pen.last) (empty_bits pen.last kind) (comment_bits held) (blank_bits (2 * level_of pen.level kind))
    ∙ ap (λ (xs : List ℕ). ((xs ++ text_of (empty_bits pen.last kind)) ++ text_of (comment_bits held)) ++ text_of (blank_bits (2 * level_of pen.level kind))) (end_joined pen.last)
    ∙ ap (λ (xs : List ℕ). ((line_end pen.last ++ xs) ++ text_of (comment_bits held)) ++ text_of (blank_bits (2 * level_of pen.level kind))) (empty_joined pen.last (begins_component kind))
    ∙ ap (λ (xs : List ℕ). ((line_end pen.last ++ empty_line pen.last kind) ++ xs) ++ text_of (blank_bits (2 * level_of pen.level kind))) e
    ∙ ap (λ (xs : List ℕ). ((line_end pen.last ++ empty_line pen.last kind) ++ pen.held) ++ xs) (blanks_joined (2 * level_of pen.level kind))

before_by : (pen : Pen) (held : List (List ℕ)) (kind : TokenKind) (b : Bool) → text_of (comment_bits held) ≡ pen.held → text_of (cond b (start_bits pen held kind) (between_bits pen.last kind)) ≡ cond b (line_start pen kind) (blank_between pen.last kind)
before_by pen held kind true e = start_joined pen held kind e
before_by pen held kind false e = between_joined pen.last kind

token_by : (pen : Pen) (held : List (List ℕ)) (statement : Bool) (kind : TokenKind) (text : List ℕ) (b : Bool) → text_of (comment_bits held) ≡ pen.held
    → text_of (cond b [] (before_bits pen held statement kind ++ token_bit kind (spelled kind text) ∷ [])) ≡ cond b [] (before_token pen statement kind ++ spelled kind text)
token_by pen held statement kind text true e = refl
token_by pen held statement kind text false e =
    text_of-append (before_bits pen held statement kind) (token_bit kind (spelled kind text) ∷ [])
    ∙ ap (λ (xs : List ℕ). xs ++ text_of (token_bit kind (spelled kind text) ∷ [])) (before_by pen held kind (begins_line pen.depth statement kind) e)
    ∙ ap (λ (xs : List ℕ). before_token pen statement kind ++ xs) (append-nil (spelled kind text))

piece_joined : (pen : Pen) (held : List (List ℕ)) (statement : Bool) (kind : Option TokenKind) (text : List ℕ) → text_of (comment_bits held) ≡ pen.held → text_of (piece_bits pen held statement kind text) ≡ written pen statement kind text
piece_joined pen held statement None text e = refl
piece_joined pen held statement (Some kind) text e = token_by pen held statement kind text (is_dropped pen.depth kind) e

comments-append : (held : List (List ℕ)) (comment : List ℕ) → text_of (comment_bits (held ++ comment ∷ [])) ≡ text_of (comment_bits held) ++ comment ++ 10 ∷ []
comments-append [] comment = refl
comments-append (first ∷ held) comment =
    ap (λ (more : List ℕ). first ++ 10 ∷ more) (comments-append held comment)
    ∙ ap (λ (more : List ℕ). first ++ 10 ∷ more) (append_assoc (text_of (comment_bits held)) comment (10 ∷ []))
    ∙ sym (append_assoc first (10 ∷ text_of (comment_bits held)) (comment ++ 10 ∷ []))
    ∙ sym (append_assoc (first ++ 10 ∷ text_of (comment_bits held)) comment (10 ∷ []))

-- the comments that wait stay those of the pen
comment_by : (pen : Pen) (held : List (List ℕ)) (text : List ℕ) (b : Bool) → text_of (comment_bits held) ≡ pen.held → text_of (comment_bits (cond b (held ++ text ∷ []) held)) ≡ (pen_past b pen text).held
comment_by pen held text true e = comments-append held text ∙ ap (λ (xs : List ℕ). xs ++ text ++ 10 ∷ []) e
comment_by pen held text false e = e

line_by : (pen : Pen) (held : List (List ℕ)) (b : Bool) → text_of (comment_bits held) ≡ pen.held → text_of (comment_bits (cond b [] held)) ≡ cond b [] pen.held
line_by pen held true e = refl
line_by pen held false e = e

dropped_by : (pen : Pen) (held : List (List ℕ)) (statement : Bool) (kind : TokenKind) (b : Bool) → text_of (comment_bits held) ≡ pen.held
    → text_of (comment_bits (cond b held (cond (begins_line pen.depth statement kind) [] held))) ≡ (cond b pen (after_token pen statement kind)).held
dropped_by pen held statement kind true e = e
dropped_by pen held statement kind false e = line_by pen held (begins_line pen.depth statement kind) e

pub held_joined : (pen : Pen) (held : List (List ℕ)) (statement : Bool) (kind : Option TokenKind) (text : List ℕ) → text_of (comment_bits held) ≡ pen.held → text_of (comment_bits (held_after pen held statement kind text)) ≡ (pen_after pen statement kind text).held
held_joined pen held statement None text e = comment_by pen held text (is_comment text) e
held_joined pen held statement (Some kind) text e = dropped_by pen held statement kind (is_dropped pen.depth kind) e

-- the bits of the pieces are their text
pub layout_joined : (begins : ℕ → Bool) (pen : Pen) (held : List (List ℕ)) (pieces : List Placed) → text_of (comment_bits held) ≡ pen.held → text_of (layout_bits begins pen held pieces) ≡ layout begins pen pieces
unfolding layout
layout_joined begins pen held [] e =
    text_of-append (end_bits pen.last) (comment_bits held)
    ∙ ap (λ (xs : List ℕ). xs ++ text_of (comment_bits held)) (end_joined pen.last)
    ∙ ap (λ (xs : List ℕ). line_end pen.last ++ xs) e
layout_joined begins pen held (p ∷ rest) e =
    let statement = begins p.span.from in
    text_of-append (piece_bits pen held statement (kind_of p) p.text) (layout_bits begins (pen_after pen statement (kind_of p) p.text) (held_after pen held statement (kind_of p) p.text) rest)
    ∙ ap (λ (xs : List ℕ). xs ++ text_of (layout_bits begins (pen_after pen statement (kind_of p) p.text) (held_after pen held statement (kind_of p) p.text) rest)) (piece_joined pen held statement (kind_of p) p.text e)
    ∙ ap (λ (xs : List ℕ). written pen statement (kind_of p) p.text ++ xs) (layout_joined begins (pen_after pen statement (kind_of p) p.text) (held_after pen held statement (kind_of p) p.text) rest (held_joined pen held statement (kind_of p) p.text e))

-- a canonical text by its bits
pub text_joined : (begins : ℕ → Bool) (pieces : List Placed) → text_of (layout_bits begins first_pen [] pieces) ≡ layout begins first_pen pieces
text_joined begins pieces = layout_joined begins first_pen [] pieces refl
