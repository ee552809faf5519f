-- The bits of a canonical text read as what they are.
use Rattle.std.proofs.Common.{◌≡◌, ℕ, zero, suc, ◌*◌, Bool, true, false, cond, List, [], ◌∷◌, ◌++◌, refl, ap, sym, subst, ◌∙◌, append_assoc, Option, Some, None}
use Rattle.std.proofs.lemmas.List.{append-nil}
use Rattle.sr_tree.specs.declared.token.TokenKind.{TokenKind}
use Rattle.sr_lexer.specs.Pieces.{piece_at}
use Rattle.sr_lexer.specs.Separators.{Placed}
use Rattle.sr_lexer.specs.Tokens.{Chain}
use Rattle.sr_fmt.specs.declared.pen.Pen.{Pen}
use Rattle.sr_fmt.specs.Blanks.{is_spaced}
use Rattle.sr_fmt.specs.Gaps.{pen_past}
use Rattle.sr_fmt.specs.Layout.{begins_line, level_of, line_end, empty_line, indentation, line_start, blank_between, spelled, before_token, after_token, kind_of, is_comment, is_dropped, written, pen_after, layout}
use Rattle.sr_fmt.specs.Roles.{begins_component}
use Rattle.sr_fmt.proofs.FrontLemmas.{along}
use Rattle.sr_fmt_laws.specs.Bits.{Bit, gap_bit, token_bit, text_of, newline_bit, end_bits, empty_bits, comment_bits, blank_bits, between_bits, start_bits, before_bits, piece_bits, held_after, layout_bits}
use Rattle.sr_fmt_laws.proofs.LayoutBits.{text_of-append, held_joined, layout_joined}
use Rattle.sr_fmt_laws.proofs.TokenBits.{ReadsAs, IsTokenBit, IsCommentBit, IsPieceOf, piece_of}
use Rattle.sr_fmt_laws.proofs.Touching.{touches_by, apart, before_blank, before_newline}

-- ---- bits one after the other

-- all bits read as what they are where `rest` stands after them
abbrev pub ReadBefore : List Bit → List ℕ → Type 0
ReadBefore [] rest = Unit {0}
ReadBefore (bit ∷ bits) rest = ReadsAs bit (text_of bits ++ rest) × ReadBefore bits rest

read_append : (a b : List Bit) (rest : List ℕ) → ReadBefore a (text_of b ++ rest) → ReadBefore b rest → ReadBefore (a ++ b) rest
read_append [] b rest first second = second
read_append (bit ∷ a) b rest first second =
    let same : text_of a ++ (text_of b ++ rest) ≡ text_of (a ++ b) ++ rest = sym (append_assoc (text_of a) (text_of b) rest) ∙ ap (λ (xs : List ℕ). xs ++ rest) (sym (text_of-append a b)) in
    (subst (ReadsAs bit) same first.0, read_append a b rest first.1 second)

-- they do so whatever follows
abbrev pub Free : List Bit → Type 0
Free bits = (rest : List ℕ) → ReadBefore bits rest

free_append : (a b : List Bit) → Free a → Free b → Free (a ++ b)
free_append a b first second = λ rest. read_append a b rest (first (text_of b ++ rest)) (second rest)

none_free : Free []
none_free = λ rest. tt

newline_reads : (rest : List ℕ) → ReadsAs (gap_bit (10 ∷ [])) rest
unfolding piece_at
newline_reads rest = record { ok = refl; len = refl; told = λ before text span. refl }

blank_reads : (rest : List ℕ) → ReadsAs (gap_bit (32 ∷ [])) rest
unfolding piece_at
blank_reads rest = record { ok = refl; len = refl; told = λ before text span. refl }

newline_free : Free newline_bit
newline_free = λ rest. (newline_reads rest, tt)

end_free : (last : Option TokenKind) → Free (end_bits last)
end_free None = none_free
end_free (Some last) = newline_free

cond_free : (b : Bool) (bits other : List Bit) → Free bits → Free other → Free (cond b bits other)
cond_free true bits other first second = first
cond_free false bits other first second = second

blanks_free : (n : ℕ) → Free (blank_bits n)
blanks_free zero = none_free
blanks_free (suc n) = λ rest. (blank_reads (text_of (blank_bits n) ++ rest), blanks_free n rest)

one_blank : Free (gap_bit (32 ∷ []) ∷ [])
one_blank = λ rest. (blank_reads rest, tt)

between_free : (last : Option TokenKind) (kind : TokenKind) → Free (between_bits last kind)
between_free None kind = none_free
between_free (Some last) kind = cond_free (is_spaced last kind) (gap_bit (32 ∷ []) ∷ []) [] one_blank none_free

-- ---- comments

abbrev pub AllComments : List (List ℕ) → Type 0
AllComments [] = Unit {0}
AllComments (comment ∷ comments) = IsCommentBit comment × AllComments comments

comments_free : (held : List (List ℕ)) → AllComments held → Free (comment_bits held)
comments_free [] all = none_free
comments_free (comment ∷ held) all = λ rest. (all.0 (text_of (comment_bits held) ++ rest), (newline_reads (text_of (comment_bits held) ++ rest), comments_free held all.1 rest))

comments_more : (held : List (List ℕ)) (comment : List ℕ) → AllComments held → IsCommentBit comment → AllComments (held ++ comment ∷ [])
comments_more [] comment all one = (one, tt)
comments_more (first ∷ held) comment all one = (all.0, comments_more held comment all.1 one)

comment_waits : (held : List (List ℕ)) (text : List ℕ) (b : Bool) → is_comment text ≡ b → AllComments held → (is_comment text ≡ true → IsCommentBit text) → AllComments (cond b (held ++ text ∷ []) held)
comment_waits held text true e all one = comments_more held text all (one e)
comment_waits held text false e all one = all

line_waits : (held : List (List ℕ)) (dropped begins : Bool) → AllComments held → AllComments (cond dropped held (cond begins [] held))
line_waits held true begins all = all
line_waits held false true all = tt
line_waits held false false all = all

held_waits : (pen : Pen) (held : List (List ℕ)) (statement : Bool) (kind : Option TokenKind) (text : List ℕ) → AllComments held → IsPieceOf kind text → AllComments (held_after pen held statement kind text)
held_waits pen held statement None text all piece = comment_waits held text (is_comment text) refl all piece
held_waits pen held statement (Some kind) text all piece = line_waits held (is_dropped pen.depth kind) (begins_line pen.depth statement kind) all

-- ---- what stands before a token

start_free : (pen : Pen) (held : List (List ℕ)) (kind : TokenKind) → AllComments held → Free (start_bits pen held kind)
start_free pen held kind all =
    free_append ((end_bits pen.last ++ empty_bits pen.last kind) ++ comment_bits held) (blank_bits (2 * level_of pen.level kind))
    (free_append (end_bits pen.last ++ empty_bits pen.last kind) (comment_bits held)
    (free_append (end_bits pen.last) (empty_bits pen.last kind) (end_free pen.last) (cond_free (begins_component kind) (end_bits pen.last) [] (end_free pen.last) none_free))
    (comments_free held all))
    (blanks_free (2 * level_of pen.level kind))

before_free : (pen : Pen) (held : List (List ℕ)) (statement : Bool) (kind : TokenKind) → AllComments held → Free (before_bits pen held statement kind)
before_free pen held statement kind all =
    cond_free (begins_line pen.depth statement kind) (start_bits pen held kind) (between_bits pen.last kind) (start_free pen held kind all) (between_free pen.last kind)

-- ---- what follows a token doesn't go on with it

abbrev pub AllPieces : List Placed → Type 0
AllPieces [] = Unit {0}
AllPieces (p ∷ pieces) = IsPieceOf (kind_of p) p.text × AllPieces pieces

pub past_last : (b : Bool) (pen : Pen) (text : List ℕ) → (pen_past b pen text).last ≡ pen.last
past_last true pen text = refl
past_last false pen text = refl

spaced_apart : (k kind : TokenKind) (text rest : List ℕ) (b : Bool) → is_spaced k kind ≡ b → IsTokenBit kind text → touches_by k ((cond b (32 ∷ []) [] ++ text) ++ rest) ≡ false
spaced_apart k kind text rest true e bit = before_blank k (text ++ rest)
spaced_apart k kind text rest false e bit = along bit.bytes (λ (xs : List ℕ). touches_by k (xs ++ rest)) ∙ apart k kind bit.byte (bit.more ++ rest) e bit.first

line_apart : (pen : Pen) (k kind : TokenKind) (text rest : List ℕ) (b : Bool) → pen.last ≡ Some k → IsTokenBit kind text → touches_by k ((cond b (line_start pen kind) (blank_between pen.last kind) ++ text) ++ rest) ≡ false
line_apart pen k kind text rest true e bit =
    along e (λ (o : Option TokenKind). touches_by k (((((line_end o ++ empty_line pen.last kind) ++ pen.held) ++ indentation (level_of pen.level kind)) ++ text) ++ rest))
    ∙ before_newline k (((((([] ++ empty_line pen.last kind)) ++ pen.held) ++ indentation (level_of pen.level kind)) ++ text) ++ rest)
line_apart pen k kind text rest false e bit =
    along e (λ (o : Option TokenKind). touches_by k ((blank_between o kind ++ text) ++ rest)) ∙ spaced_apart k kind text rest (is_spaced k kind) refl bit

drop_apart : (begins : ℕ → Bool) (pen : Pen) (k : TokenKind) (statement : Bool) (kind : TokenKind) (text : List ℕ) (rest : List Placed) (b : Bool) → pen.last ≡ Some k → IsTokenBit kind (spelled kind text)
    → ((next : Pen) → next.last ≡ Some k → touches_by k (layout begins next rest) ≡ false)
    → touches_by k (cond b [] (before_token pen statement kind ++ spelled kind text) ++ layout begins (cond b pen (after_token pen statement kind)) rest) ≡ false
drop_apart begins pen k statement kind text rest true e bit more = more pen e
drop_apart begins pen k statement kind text rest false e bit more = line_apart pen k kind (spelled kind text) (layout begins (after_token pen statement kind) rest) (begins_line pen.depth statement kind) e bit

piece_apart : (begins : ℕ → Bool) (pen : Pen) (k : TokenKind) (statement : Bool) (kind : Option TokenKind) (text : List ℕ) (rest : List Placed) → pen.last ≡ Some k → IsPieceOf kind text
    → ((next : Pen) → next.last ≡ Some k → touches_by k (layout begins next rest) ≡ false)
    → touches_by k (written pen statement kind text ++ layout begins (pen_after pen statement kind text) rest) ≡ false
piece_apart begins pen k statement None text rest e piece more = more (pen_past (is_comment text) pen text) (past_last (is_comment text) pen text ∙ e)
piece_apart begins pen k statement (Some kind) text rest e piece more = drop_apart begins pen k statement kind text rest (is_dropped pen.depth kind) e piece more

follows : (begins : ℕ → Bool) (pen : Pen) (k : TokenKind) (pieces : List Placed) → pen.last ≡ Some k → AllPieces pieces → touches_by k (layout begins pen pieces) ≡ false
unfolding layout
follows begins pen k [] e all = along e (λ (o : Option TokenKind). touches_by k (line_end o ++ pen.held)) ∙ before_newline k pen.held
follows begins pen k (p ∷ rest) e all =
    piece_apart begins pen k (begins p.span.from) (kind_of p) p.text rest e all.0 (λ next last. follows begins next k rest last all.1)

-- ---- all bits

dropped_reads : (pen : Pen) (held : List (List ℕ)) (statement : Bool) (kind : TokenKind) (text tail : List ℕ) (b : Bool) → AllComments held → IsTokenBit kind (spelled kind text)
    → ((k : TokenKind) → (cond b pen (after_token pen statement kind)).last ≡ Some k → touches_by k tail ≡ false)
    → ReadBefore (cond b [] (before_bits pen held statement kind ++ token_bit kind (spelled kind text) ∷ [])) tail
dropped_reads pen held statement kind text tail true all bit ends = tt
dropped_reads pen held statement kind text tail false all bit ends =
    read_append (before_bits pen held statement kind) (token_bit kind (spelled kind text) ∷ []) tail
    (before_free pen held statement kind all (text_of (token_bit kind (spelled kind text) ∷ []) ++ tail))
    (bit.reads tail (ends kind refl), tt)

piece_reads : (pen : Pen) (held : List (List ℕ)) (statement : Bool) (kind : Option TokenKind) (text tail : List ℕ) → AllComments held → IsPieceOf kind text
    → ((k : TokenKind) → (pen_after pen statement kind text).last ≡ Some k → touches_by k tail ≡ false)
    → ReadBefore (piece_bits pen held statement kind text) tail
piece_reads pen held statement None text tail all piece ends = tt
piece_reads pen held statement (Some kind) text tail all piece ends = dropped_reads pen held statement kind text tail (is_dropped pen.depth kind) all piece ends

pub layout_reads : (begins : ℕ → Bool) (pen : Pen) (held : List (List ℕ)) (pieces : List Placed) → text_of (comment_bits held) ≡ pen.held → AllComments held → AllPieces pieces → ReadBefore (layout_bits begins pen held pieces) []
layout_reads begins pen held [] e comments all = free_append (end_bits pen.last) (comment_bits held) (end_free pen.last) (comments_free held comments) []
layout_reads begins pen held (p ∷ rest) e comments all =
    let statement = begins p.span.from in
    let next = pen_after pen statement (kind_of p) p.text in
    let waiting = held_after pen held statement (kind_of p) p.text in
    let same = held_joined pen held statement (kind_of p) p.text e in
    let ends : (k : TokenKind) → next.last ≡ Some k → touches_by k (text_of (layout_bits begins next waiting rest) ++ []) ≡ false =
    λ k last. ap (touches_by k) (append-nil (text_of (layout_bits begins next waiting rest)) ∙ layout_joined begins next waiting rest same) ∙ follows begins next k rest last all.1 in
    read_append (piece_bits pen held statement (kind_of p) p.text) (layout_bits begins next waiting rest) []
    (piece_reads pen held statement (kind_of p) p.text (text_of (layout_bits begins next waiting rest) ++ []) comments all.0 ends)
    (layout_reads begins next waiting rest same (held_waits pen held statement (kind_of p) p.text comments all.0) all.1)

-- the pieces of a source
pub all_pieces : (file : ℕ) (source : List ℕ) (at : ℕ) (pieces : List Placed) (to : ℕ) → Chain file source at pieces to → AllPieces pieces
all_pieces file source at [] to chain = tt
all_pieces file source at (p ∷ rest) to chain = (piece_of file source at p chain.0, all_pieces file source p.span.to rest to chain.1)
