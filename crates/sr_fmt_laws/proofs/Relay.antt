-- The bits of a canonical text are laid out as they stand.
use Rattle.std.proofs.Common.{◌≡◌, ℕ, zero, suc, ◌*◌, Bool, true, false, cond, List, [], ◌∷◌, ◌++◌, length, refl, ap, sym, subst, ◌∙◌, append_assoc, Option, Some, None}
use Rattle.std.proofs.lemmas.List.{append-nil}
use Rattle.sr_tree.specs.declared.component.File.{File}
use Rattle.sr_tree.specs.declared.token.TokenKind.{TokenKind}
use Rattle.sr_lexer.specs.Separators.{Placed}
use Rattle.sr_lexer.specs.Tokens.{Chain}
use Rattle.sr_order.specs.Spans.{statement_spans}
use Rattle.sr_fmt.specs.declared.pen.Pen.{Pen}
use Rattle.sr_fmt.specs.Blanks.{is_spaced}
use Rattle.sr_fmt.specs.Canonical.{begins_at, IsCanonical}
use Rattle.sr_fmt.specs.Gaps.{pen_past}
use Rattle.sr_fmt.specs.Layout.{begins_line, depth_after, level_of, line_end, line_start, blank_between, spelled, before_token, after_token, kind_of, is_comment, is_dropped, written, pen_after, layout, first_pen}
use Rattle.sr_fmt.specs.Roles.{begins_component}
use Rattle.sr_fmt.proofs.FrontLemmas.{along}
use Rattle.sr_fmt_laws.specs.Bits.{Bit, gap_bit, token_bit, text_of, end_bits, empty_bits, comment_bits, blank_bits, between_bits, start_bits, before_bits, piece_bits, held_after, layout_bits}
use Rattle.sr_fmt_laws.specs.Kept.{starts_with, starts_in, StaysAsItIs}
use Rattle.sr_fmt_laws.proofs.Chains.{AreBits, canonical_chain}
use Rattle.sr_fmt_laws.proofs.KeptBits.{AllWait, all_wait, kind_of_bit, past_depth, spelled_twice}
use Rattle.sr_fmt_laws.proofs.LayoutBits.{held_joined}

-- ---- bits laid out, with whether statements begin with their tokens

abbrev pub take_mark : Pen → TokenKind → List ℕ → List Bool → (Pen → List Bool → List ℕ) → List ℕ
take_mark pen kind text [] more = (before_token pen false kind ++ spelled kind text) ++ more (after_token pen false kind) []
take_mark pen kind text (statement ∷ marks) more = (before_token pen statement kind ++ spelled kind text) ++ more (after_token pen statement kind) marks

abbrev pub relay_with : Pen → Option TokenKind → List ℕ → List Bool → (Pen → List Bool → List ℕ) → List ℕ
relay_with pen None text marks more = more (pen_past (is_comment text) pen text) marks
relay_with pen (Some kind) text marks more = cond (is_dropped pen.depth kind) (more pen marks) (take_mark pen kind text marks more)

abbrev pub relay : Pen → List Bit → List Bool → List ℕ
relay pen [] marks = line_end pen.last ++ pen.held
relay pen (bit ∷ bits) marks = relay_with pen bit.kind bit.text marks (λ next rest. relay next bits rest)

-- ---- pieces that are these bits are laid out so

piece_relay : (begins : ℕ → Bool) (pen : Pen) (statement : Bool) (kind : Option TokenKind) (text : List ℕ) (ps : List Placed) (bits : List Bit)
    → ((next : Pen) → layout begins next ps ≡ relay next bits (starts_in begins next.depth ps))
    → written pen statement kind text ++ layout begins (pen_after pen statement kind text) ps ≡ relay_with pen kind text (starts_with pen.depth kind statement (λ after. starts_in begins after ps)) (λ next rest. relay next bits rest)
piece_relay begins pen statement None text ps bits more =
    more (pen_past (is_comment text) pen text)
    ∙ ap (λ (depth : ℕ). relay (pen_past (is_comment text) pen text) bits (starts_in begins depth ps)) (past_depth (is_comment text) pen text)
piece_relay begins pen statement (Some kind) text ps bits more = by_test (is_dropped pen.depth kind)
  where
    by_test : (b : Bool) → cond b [] (before_token pen statement kind ++ spelled kind text) ++ layout begins (cond b pen (after_token pen statement kind)) ps
        ≡ cond b (relay pen bits (cond b (starts_in begins pen.depth ps) (statement ∷ starts_in begins (depth_after pen.depth kind) ps)))
        (take_mark pen kind text (cond b (starts_in begins pen.depth ps) (statement ∷ starts_in begins (depth_after pen.depth kind) ps)) (λ next rest. relay next bits rest))
    by_test true = more pen
    by_test false = ap (λ (xs : List ℕ). (before_token pen statement kind ++ spelled kind text) ++ xs) (more (after_token pen statement kind))

pub layout_relay : (begins : ℕ → Bool) (pen : Pen) (pieces : List Placed) (bits : List Bit) → AreBits pieces bits → layout begins pen pieces ≡ relay pen bits (starts_in begins pen.depth pieces)
unfolding layout
layout_relay begins pen [] [] are = refl
layout_relay begins pen [] (bit ∷ bits) are = absurd are
layout_relay begins pen (p ∷ ps) [] are = absurd are
layout_relay begins pen (p ∷ ps) (bit ∷ bits) are =
    piece_relay begins pen (begins p.span.from) (kind_of p) p.text ps bits (λ next. layout_relay begins next ps bits are.1)
    ∙ along (kind_of_bit p bit are.0) (λ (k : Option TokenKind). relay_with pen k p.text (starts_with pen.depth (kind_of p) (begins p.span.from) (λ after. starts_in begins after ps)) (λ next rest. relay next bits rest))
    ∙ along are.0.text (λ (text : List ℕ). relay_with pen bit.kind text (starts_with pen.depth (kind_of p) (begins p.span.from) (λ after. starts_in begins after ps)) (λ next rest. relay next bits rest))

-- ---- gaps

-- gaps that are no comments
abbrev pub AllBlank : List Bit → Type 0
AllBlank [] = Unit {0}
AllBlank (bit ∷ bits) = (bit.kind ≡ None) × (is_comment bit.text ≡ false) × AllBlank bits

blank_relay : (a b : List Bit) (pen : Pen) (marks : List Bool) → AllBlank a → relay pen (a ++ b) marks ≡ relay pen b marks
blank_relay [] b pen marks all = refl
blank_relay (bit ∷ a) b pen marks all =
    along all.0 (λ (k : Option TokenKind). relay_with pen k bit.text marks (λ next rest. relay next (a ++ b) rest))
    ∙ along all.1 (λ (c : Bool). relay (pen_past c pen bit.text) (a ++ b) marks)
    ∙ blank_relay a b pen marks all.2

both_blank : (a b : List Bit) → AllBlank a → AllBlank b → AllBlank (a ++ b)
both_blank [] b first second = second
both_blank (bit ∷ a) b first second = (first.0, first.1, both_blank a b first.2 second)

end_blank : (last : Option TokenKind) → AllBlank (end_bits last)
end_blank None = tt
end_blank (Some last) = (refl, refl, tt)

cond_blank : (b : Bool) (bits other : List Bit) → AllBlank bits → AllBlank other → AllBlank (cond b bits other)
cond_blank true bits other first second = first
cond_blank false bits other first second = second

spaces_blank : (n : ℕ) → AllBlank (blank_bits n)
spaces_blank zero = tt
spaces_blank (suc n) = (refl, refl, spaces_blank n)

between_blank : (last : Option TokenKind) (kind : TokenKind) → AllBlank (between_bits last kind)
between_blank None kind = tt
between_blank (Some last) kind = cond_blank (is_spaced last kind) (gap_bit (32 ∷ []) ∷ []) [] (refl, refl, tt) tt

-- comments wait
abbrev pub with_held : Pen → List ℕ → Pen
with_held pen held = record pen { held = held }

comments_relay : (held : List (List ℕ)) (b : List Bit) (pen : Pen) (marks : List Bool) → AllWait held → relay pen (comment_bits held ++ b) marks ≡ relay (with_held pen (pen.held ++ text_of (comment_bits held))) b marks
comments_relay [] b pen marks all = ap (λ (h : List ℕ). relay (with_held pen h) b marks) (sym (append-nil pen.held))
comments_relay (comment ∷ held) b pen marks all =
    along all.0 (λ (c : Bool). relay (pen_past c pen comment) (gap_bit (10 ∷ []) ∷ (comment_bits held ++ b)) marks)
    ∙ comments_relay held b (with_held pen ((pen.held ++ comment) ++ 10 ∷ [])) marks all.1
    ∙ ap (λ (h : List ℕ). relay (with_held pen h) b marks) (append_assoc (pen.held ++ comment) (10 ∷ []) (text_of (comment_bits held)) ∙ append_assoc pen.held comment (10 ∷ text_of (comment_bits held)))

-- ---- a canonical text

start_relay : (pen : Pen) (held : List (List ℕ)) (kind : TokenKind) (b : List Bit) (marks : List Bool) → text_of (comment_bits held) ≡ pen.held → AllWait held → relay (with_held pen []) (start_bits pen held kind ++ b) marks ≡ relay pen b marks
start_relay pen held kind b marks e all =
    let ends = end_bits pen.last ++ empty_bits pen.last kind in
    let spaces = blank_bits (2 * level_of pen.level kind) in
    let bare = with_held pen [] in
    ap (λ (bits : List Bit). relay bare bits marks) (append_assoc (ends ++ comment_bits held) spaces b ∙ append_assoc ends (comment_bits held) (spaces ++ b))
    ∙ blank_relay ends (comment_bits held ++ (spaces ++ b)) bare marks (both_blank (end_bits pen.last) (empty_bits pen.last kind) (end_blank pen.last) (cond_blank (begins_component kind) (end_bits pen.last) [] (end_blank pen.last) tt))
    ∙ comments_relay held (spaces ++ b) bare marks all
    ∙ blank_relay spaces b (with_held pen (text_of (comment_bits held))) marks (spaces_blank (2 * level_of pen.level kind))
    ∙ ap (λ (h : List ℕ). relay (with_held pen h) b marks) e

-- a token that isn't left out
token_relay : (pen : Pen) (statement : Bool) (kind : TokenKind) (text : List ℕ) (b : List Bit) (marks : List Bool) → is_dropped pen.depth kind ≡ false
    → relay pen (token_bit kind (spelled kind text) ∷ b) (statement ∷ marks) ≡ (before_token pen statement kind ++ spelled kind text) ++ relay (after_token pen statement kind) b marks
token_relay pen statement kind text b marks e =
    along e (λ (c : Bool). cond c (relay pen b (statement ∷ marks)) ((before_token pen statement kind ++ spelled kind (spelled kind text)) ++ relay (after_token pen statement kind) b marks))
    ∙ ap (λ (t : List ℕ). (before_token pen statement kind ++ t) ++ relay (after_token pen statement kind) b marks) (spelled_twice kind text)

kept_relay : (pen : Pen) (held : List (List ℕ)) (statement : Bool) (kind : TokenKind) (text : List ℕ) (b : List Bit) (marks : List Bool) (rest : List ℕ) (line : Bool) → begins_line pen.depth statement kind ≡ line → is_dropped pen.depth kind ≡ false → text_of (comment_bits held) ≡ pen.held → AllWait held
    → relay (with_held (after_token pen statement kind) []) b marks ≡ rest
    → relay (with_held pen []) (cond line (start_bits pen held kind) (between_bits pen.last kind) ++ (token_bit kind (spelled kind text) ∷ b)) (statement ∷ marks) ≡ (cond line (line_start pen kind) (blank_between pen.last kind) ++ spelled kind text) ++ rest
kept_relay pen held statement kind text b marks rest true line dropped e all more =
    start_relay pen held kind (token_bit kind (spelled kind text) ∷ b) (statement ∷ marks) e all
    ∙ token_relay pen statement kind text b marks dropped
    ∙ along line (λ (c : Bool). (cond c (line_start pen kind) (blank_between pen.last kind) ++ spelled kind text) ++ relay (with_held (after_token pen statement kind) (cond c [] pen.held)) b marks)
    ∙ ap (λ (xs : List ℕ). (line_start pen kind ++ spelled kind text) ++ xs) more
kept_relay pen held statement kind text b marks rest false line dropped e all more =
    let bare = with_held pen [] in
    blank_relay (between_bits pen.last kind) (token_bit kind (spelled kind text) ∷ b) bare (statement ∷ marks) (between_blank pen.last kind)
    ∙ token_relay bare statement kind text b marks dropped
    ∙ along line (λ (c : Bool). (cond c (line_start bare kind) (blank_between pen.last kind) ++ spelled kind text) ++ relay (with_held (after_token pen statement kind) (cond c [] [])) b marks)
    ∙ ap (λ (xs : List ℕ). (blank_between pen.last kind ++ spelled kind text) ++ xs) more

dropped_relay : (begins : ℕ → Bool) (pen : Pen) (held : List (List ℕ)) (statement : Bool) (kind : TokenKind) (text : List ℕ) (ps : List Placed) (drop : Bool) → is_dropped pen.depth kind ≡ drop → text_of (comment_bits held) ≡ pen.held → AllWait held
    → relay (with_held (cond drop pen (after_token pen statement kind)) []) (layout_bits begins (cond drop pen (after_token pen statement kind)) (cond drop held (cond (begins_line pen.depth statement kind) [] held)) ps) (starts_in begins (cond drop pen (after_token pen statement kind)).depth ps) ≡ layout begins (cond drop pen (after_token pen statement kind)) ps
    → relay (with_held pen []) (cond drop [] (before_bits pen held statement kind ++ token_bit kind (spelled kind text) ∷ []) ++ layout_bits begins (cond drop pen (after_token pen statement kind)) (cond drop held (cond (begins_line pen.depth statement kind) [] held)) ps)
    (cond drop (starts_in begins pen.depth ps) (statement ∷ starts_in begins (depth_after pen.depth kind) ps))
    ≡ cond drop [] (before_token pen statement kind ++ spelled kind text) ++ layout begins (cond drop pen (after_token pen statement kind)) ps
dropped_relay begins pen held statement kind text ps true dropped e all more = more
dropped_relay begins pen held statement kind text ps false dropped e all more =
    let after = layout_bits begins (after_token pen statement kind) (cond (begins_line pen.depth statement kind) [] held) ps in
    ap (λ (bits : List Bit). relay (with_held pen []) bits (statement ∷ starts_in begins (depth_after pen.depth kind) ps)) (append_assoc (before_bits pen held statement kind) (token_bit kind (spelled kind text) ∷ []) after)
    ∙ kept_relay pen held statement kind text after (starts_in begins (depth_after pen.depth kind) ps) (layout begins (after_token pen statement kind) ps) (begins_line pen.depth statement kind) refl dropped e all more

past_bare : (b : Bool) (pen : Pen) (text : List ℕ) → with_held (pen_past b pen text) [] ≡ with_held pen []
past_bare true pen text = refl
past_bare false pen text = refl

bits_relay : (begins : ℕ → Bool) (pen : Pen) (held : List (List ℕ)) (statement : Bool) (kind : Option TokenKind) (text : List ℕ) (ps : List Placed) → text_of (comment_bits held) ≡ pen.held → AllWait held
    → relay (with_held (pen_after pen statement kind text) []) (layout_bits begins (pen_after pen statement kind text) (held_after pen held statement kind text) ps) (starts_in begins (pen_after pen statement kind text).depth ps) ≡ layout begins (pen_after pen statement kind text) ps
    → relay (with_held pen []) (piece_bits pen held statement kind text ++ layout_bits begins (pen_after pen statement kind text) (held_after pen held statement kind text) ps) (starts_with pen.depth kind statement (λ after. starts_in begins after ps))
    ≡ written pen statement kind text ++ layout begins (pen_after pen statement kind text) ps
bits_relay begins pen held statement None text ps e all more =
    let next = pen_past (is_comment text) pen text in
    let bits = layout_bits begins next (held_after pen held statement None text) ps in
    ap (λ (bare : Pen). relay bare bits (starts_in begins pen.depth ps)) (sym (past_bare (is_comment text) pen text))
    ∙ ap (λ (depth : ℕ). relay (with_held next []) bits (starts_in begins depth ps)) (sym (past_depth (is_comment text) pen text))
    ∙ more
bits_relay begins pen held statement (Some kind) text ps e all more = dropped_relay begins pen held statement kind text ps (is_dropped pen.depth kind) refl e all more

pub canonical_relay : (begins : ℕ → Bool) (pen : Pen) (held : List (List ℕ)) (pieces : List Placed) → text_of (comment_bits held) ≡ pen.held → AllWait held → relay (with_held pen []) (layout_bits begins pen held pieces) (starts_in begins pen.depth pieces) ≡ layout begins pen pieces
unfolding layout
canonical_relay begins pen held [] e all =
    let bare = with_held pen [] in
    blank_relay (end_bits pen.last) (comment_bits held) bare [] (end_blank pen.last)
    ∙ ap (λ (bits : List Bit). relay bare bits []) (sym (append-nil (comment_bits held)))
    ∙ comments_relay held [] bare [] all
    ∙ ap (λ (xs : List ℕ). line_end pen.last ++ xs) e
canonical_relay begins pen held (p ∷ ps) e all =
    let statement = begins p.span.from in
    bits_relay begins pen held statement (kind_of p) p.text ps e all
    (canonical_relay begins (pen_after pen statement (kind_of p) p.text) (held_after pen held statement (kind_of p) p.text) ps (held_joined pen held statement (kind_of p) p.text e) (all_wait pen held statement (kind_of p) p.text all))

-- a canonical text that is laid out again stays as it is
pub stays_as_it_is : (source : List ℕ) (tree : File) (text : List ℕ) → IsCanonical source tree text → StaysAsItIs source tree text
stays_as_it_is source tree text is =
    let begins = begins_at (statement_spans tree) in
    let bits = layout_bits begins first_pen [] is.pieces in
    let found = canonical_chain 0 source is.pieces begins is.chain in
    record {
      pieces = is.pieces;
      again = found.0;
      chain = is.chain;
      chain_again = subst (λ (xs : List ℕ). Chain 0 xs 0 found.0 (length xs)) (sym is.told) found.1;
      stays = λ again same.
          layout_relay again first_pen found.0 bits found.2
          ∙ ap (λ (marks : List Bool). relay first_pen bits marks) same
          ∙ canonical_relay begins first_pen [] is.pieces refl tt
          ∙ sym is.told;
    }
