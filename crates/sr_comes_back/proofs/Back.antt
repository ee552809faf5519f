-- A canonical text comes back.
use Rattle.std.proofs.Common.{◌≡◌, ℕ, ◌==◌, Bool, true, false, cond, not, ◌&&◌, List, [], ◌∷◌, ◌++◌, map, length, refl, ap, sym, subst, ◌∙◌, Option, Some, None}
use Rattle.sr_value.specs.declared.place.Span.{Span}
use Rattle.sr_tree.specs.Components.{Spells}
use Rattle.sr_tree.specs.declared.component.File.{File}
use Rattle.sr_tree.specs.declared.token.Token.{Token}
use Rattle.sr_tree.specs.declared.token.TokenKind.{TokenKind}
use Rattle.sr_tree.specs.declared.token.TokenKind.TheVariants as kinds
use Rattle.sr_lexer.specs.Roles.{continues_line}
use Rattle.sr_lexer.specs.Separators.{Placed, token_of, tokens_of}
use Rattle.sr_lexer.specs.Tokens.{Chain, Lexes}
use Rattle.sr_lexer.proofs.OrderLemmas.{tokens-ascend}
use Rattle.sr_lexer.proofs.OutcomeLemmas.{one_list}
use Rattle.sr_order.specs.Order.{Ascend, token_spans}
use Rattle.sr_order.specs.Spans.{statement_spans}
use Rattle.sr_fmt.specs.Canonical.{begins_at, IsCanonical}
use Rattle.sr_fmt.specs.Layout.{begins_line, depth_after, is_dropped, kind_of, layout, first_pen}
use Rattle.sr_fmt_laws.specs.Bits.{layout_bits}
use Rattle.sr_fmt_laws.specs.Kept.{starts_with, starts_in}
use Rattle.sr_fmt_laws.proofs.Chains.{canonical_chain}
use Rattle.sr_fmt_laws.proofs.KeptBits.{same_text}
use Rattle.sr_fmt_laws.proofs.Relay.{relay, layout_relay, canonical_relay}
use Rattle.sr_comes_back.specs.Back.{ComesBack}
use Rattle.sr_comes_back.proofs.Lines.{Marked, mark, tokens_in, picked_in, kept_tokens, ends_opt, tell}
use Rattle.sr_comes_back.proofs.Marks.{remark, marks_are, kept_ascend}
use Rattle.sr_comes_back.proofs.Rows.{Row, canonical_rows}
use Rattle.sr_comes_back.proofs.Source.{marked_with, marked_in, source_kept}
use Rattle.sr_comes_back.proofs.Tables.{row_at, respan_by, retell_by, breaks_by, keeps_by, moves_by, breaks_are, tell_table}
use Rattle.sr_comes_back.proofs.Telling.{told}
use Rattle.sr_comes_back.proofs.ToldComponents.{told_file}

-- ---- the marks of pieces

one_remarked : (begins : ℕ → Bool) (drop : Bool) (t : Token) (xs ys : List Marked) → remark begins (tokens_in xs) ≡ xs → remark begins (tokens_in ys) ≡ ys → remark begins (tokens_in (cond drop xs (mark (begins t.span.from) t ∷ ys))) ≡ cond drop xs (mark (begins t.span.from) t ∷ ys)
one_remarked begins true t xs ys e f = e
one_remarked begins false t xs ys e f = ap (λ ms. mark (begins t.span.from) t ∷ ms) f

piece_remarked : (begins : ℕ → Bool) (depth : ℕ) (kind : Option TokenKind) (text : List ℕ) (span : Span) (more : ℕ → List Marked) → ((after : ℕ) → remark begins (tokens_in (more after)) ≡ more after) → remark begins (tokens_in (marked_with depth kind text span (begins span.from) more)) ≡ marked_with depth kind text span (begins span.from) more
piece_remarked begins depth None text span more e = e depth
piece_remarked begins depth (Some kind) text span more e = one_remarked begins (is_dropped depth kind) (token_of kind text span) (more depth) (more (depth_after depth kind)) (e depth) (e (depth_after depth kind))

remarked : (begins : ℕ → Bool) (depth : ℕ) (ps : List Placed) → remark begins (tokens_in (marked_in begins depth ps)) ≡ marked_in begins depth ps
remarked begins depth [] = refl
remarked begins depth (p ∷ ps) = piece_remarked begins depth (kind_of p) p.text p.span (λ after. marked_in begins after ps) (λ after. remarked begins after ps)

abbrev starts_of : List Marked → List Bool
starts_of ms = map (λ m. m.begins) ms

piece_starts : (depth : ℕ) (kind : Option TokenKind) (text : List ℕ) (span : Span) (statement : Bool) (more : ℕ → List Bool) (marked : ℕ → List Marked) → ((after : ℕ) → more after ≡ starts_of (marked after)) → starts_with depth kind statement more ≡ starts_of (marked_with depth kind text span statement marked)
piece_starts depth None text span statement more marked e = e depth
piece_starts depth (Some kind) text span statement more marked e = by_test (is_dropped depth kind)
  where
    by_test : (b : Bool) → cond b (more depth) (statement ∷ more (depth_after depth kind)) ≡ starts_of (cond b (marked depth) (mark statement (token_of kind text span) ∷ marked (depth_after depth kind)))
    by_test true = e depth
    by_test false = ap (λ bs. statement ∷ bs) (e (depth_after depth kind))

starts_are : (begins : ℕ → Bool) (depth : ℕ) (ps : List Placed) → starts_in begins depth ps ≡ starts_of (marked_in begins depth ps)
starts_are begins depth [] = refl
starts_are begins depth (p ∷ ps) = piece_starts depth (kind_of p) p.text p.span (begins p.span.from) (λ after. starts_in begins after ps) (λ after. marked_in begins after ps) (λ after. starts_are begins after ps)

-- ---- the kept tokens of a canonical text

-- none of the tokens is a separator outside of brackets
abbrev AllKept : ℕ → List Marked → Type 0
AllKept depth [] = Unit {0}
AllKept depth (m ∷ ms) = (is_dropped depth m.token.kind ≡ false) × AllKept (depth_after depth m.token.kind) ms

piece_all : (depth : ℕ) (kind : Option TokenKind) (text : List ℕ) (span : Span) (statement : Bool) (more : ℕ → List Marked) → ((after : ℕ) → AllKept after (more after)) → AllKept depth (marked_with depth kind text span statement more)
piece_all depth None text span statement more e = e depth
piece_all depth (Some kind) text span statement more e = by_test (is_dropped depth kind) refl
  where
    by_test : (b : Bool) → is_dropped depth kind ≡ b → AllKept depth (cond b (more depth) (mark statement (token_of kind text span) ∷ more (depth_after depth kind)))
    by_test true f = e depth
    by_test false f = (f, e (depth_after depth kind))

all_kept : (begins : ℕ → Bool) (depth : ℕ) (ps : List Placed) → AllKept depth (marked_in begins depth ps)
all_kept begins depth [] = tt
all_kept begins depth (p ∷ ps) = piece_all depth (kind_of p) p.text p.span (begins p.span.from) (λ after. marked_in begins after ps) (λ after. all_kept begins after ps)

left_of : (a b : Bool) → (a && b) ≡ true → a ≡ true
left_of true b e = refl
left_of false b e = absurd (cc)

seps_kept : (depth : ℕ) (line ends : Bool) (sep : Span) (ts : List Token) → (line ≡ true → (depth == 0) ≡ true) → kept_tokens depth (cond line (cond ends (record { kind = kinds.Separator; text = 10 ∷ []; span = sep } ∷ []) []) [] ++ ts) ≡ kept_tokens depth ts
seps_kept depth false ends sep ts zero = refl
seps_kept depth true false sep ts zero = refl
seps_kept depth true true sep ts zero = ap (λ b. cond (b && true) (kept_tokens depth ts) (record { kind = kinds.Separator; text = 10 ∷ []; span = sep } ∷ kept_tokens depth ts)) (zero refl)

-- tokens told again are kept as they were
tell_kept : (rows : ℕ → Row) (depth : ℕ) (last : Option TokenKind) (ms : List Marked) → AllKept depth ms → kept_tokens depth (tell (retell_by rows) (breaks_by rows) depth last ms) ≡ map (retell_by rows) (tokens_in ms)
tell_kept rows depth last [] all = refl
tell_kept rows depth last (m ∷ ms) all =
    let t = m.token in
    let rest = tell (retell_by rows) (breaks_by rows) (depth_after depth t.kind) (Some t.kind) ms in
    seps_kept depth (begins_line depth m.begins t.kind) (ends_opt last && not (continues_line t.kind)) (rows t.span.from).sep (retell_by rows t ∷ rest) (λ e. left_of (depth == 0) _ e)
    ∙ ap (λ b. cond b (kept_tokens depth rest) (retell_by rows t ∷ kept_tokens (depth_after depth t.kind) rest)) all.0
    ∙ ap (λ ts. retell_by rows t ∷ ts) (tell_kept rows (depth_after depth t.kind) (Some t.kind) ms all.1)

-- the marks go with them
abbrev retold_all : (ℕ → Row) → List Marked → List Marked
retold_all rows ms = map (λ m. mark m.begins (retell_by rows m.token)) ms

retold_tokens : (rows : ℕ → Row) (ms : List Marked) → tokens_in (retold_all rows ms) ≡ map (retell_by rows) (tokens_in ms)
retold_tokens rows [] = refl
retold_tokens rows (m ∷ ms) = ap (λ ts. retell_by rows m.token ∷ ts) (retold_tokens rows ms)

retold_starts : (rows : ℕ → Row) (ms : List Marked) → starts_of (retold_all rows ms) ≡ starts_of ms
retold_starts rows [] = refl
retold_starts rows (m ∷ ms) = ap (λ bs. m.begins ∷ bs) (retold_starts rows ms)

one_picked : (rows : ℕ → Row) (b : Bool) (span : Span) (xs : List Span) (ys : List Span) → xs ≡ map (respan_by rows) ys → cond b (respan_by rows span ∷ xs) xs ≡ map (respan_by rows) (cond b (span ∷ ys) ys)
one_picked rows true span xs ys e = ap (λ zs. respan_by rows span ∷ zs) e
one_picked rows false span xs ys e = e

retold_picked : (rows : ℕ → Row) (ms : List Marked) → picked_in (retold_all rows ms) ≡ map (respan_by rows) (picked_in ms)
retold_picked rows [] = refl
retold_picked rows (m ∷ ms) = one_picked rows m.begins m.token.span (picked_in (retold_all rows ms)) (picked_in ms) (retold_picked rows ms)

-- ---- the law

kept_of_pieces : (begins : ℕ → Bool) (ps : List Placed) → kept_tokens 0 (tokens_of ps) ≡ tokens_in (marked_in begins 0 ps)
unfolding tokens_of
kept_of_pieces begins ps = source_kept begins [] ps

-- the marks of pieces whose tokens are known are the known ones
marks_of : (begins : ℕ → Bool) (ps : List Placed) (ms : List Marked) → tokens_in (marked_in begins 0 ps) ≡ tokens_in ms → Ascend 0 0 (token_spans (tokens_in ms)) → begins ≡ begins_at (picked_in ms) → marked_in begins 0 ps ≡ ms
marks_of begins ps ms same ascend e =
    sym (remarked begins 0 ps) ∙ ap (remark begins) same ∙ ap (λ b. remark b (tokens_in ms)) e ∙ marks_are 0 0 ms ascend

pub comes_back : (source : List ℕ) (tree : File) (text : List ℕ) (tokens : List Token) → Lexes 0 source tokens → Spells tokens tree → IsCanonical source tree text → ComesBack source tree text
comes_back source tree text tokens lexed spelled is =
    let begins = begins_at (statement_spans tree) in
    let pieces = is.pieces in
    let laid = layout begins first_pen pieces in
    let found = canonical_chain 0 source pieces begins is.chain in
    let again = found.0 in
    let ms = marked_in begins 0 pieces in
    let tokens_are : tokens ≡ tokens_of pieces = one_list 0 source tokens (tokens_of pieces) lexed (record { pieces = pieces; chain = is.chain; told = refl }) in
    let kept : kept_tokens 0 tokens ≡ tokens_in ms = ap (kept_tokens 0) tokens_are ∙ kept_of_pieces begins pieces in
    let ascend : Ascend 0 0 (token_spans (tokens_in ms)) = subst (λ ts. Ascend 0 0 (token_spans ts)) kept (kept_ascend 0 0 0 tokens (tokens-ascend 0 source tokens lexed)) in
    let told_rows = canonical_rows begins pieces again 0 laid found.1 found.2 in
    let rows = row_at ms told_rows.0 in
    let grammar = told_file (retell_by rows) (keeps_by rows) (breaks_by rows) (breaks_are rows) (respan_by rows) (moves_by rows) spelled in
    let lines = grammar.1 in
    let same_tokens : tokens_in ms ≡ tokens_in grammar.0 = sym kept ∙ lines.kept in
    let marks : ms ≡ grammar.0 = marks_of begins pieces grammar.0 same_tokens (subst (λ ts. Ascend 0 0 (token_spans ts)) same_tokens ascend) (ap begins_at (sym lines.picks)) in
    let told_again : tokens_of again ≡ tell (retell_by rows) (breaks_by rows) 0 None ms = told_rows.2 ∙ sym (tell_table 0 0 ms told_rows.0 ascend told_rows.1 0 None) in
    let lexes : Lexes 0 laid (tokens_of again) = record { pieces = again; chain = found.1; told = refl } in
    let other = grammar.2 in
    let new_begins = begins_at (statement_spans other) in
    let new_marks = retold_all rows ms in
    let new_kept : kept_tokens 0 (tokens_of again) ≡ tokens_in new_marks = ap (kept_tokens 0) told_again ∙ tell_kept rows 0 None ms (all_kept begins 0 pieces) ∙ sym (retold_tokens rows ms) in
    let new_ascend : Ascend 0 0 (token_spans (tokens_in new_marks)) = subst (λ ts. Ascend 0 0 (token_spans ts)) new_kept (kept_ascend 0 0 0 (tokens_of again) (tokens-ascend 0 laid (tokens_of again) lexes)) in
    let new_picks : statement_spans other ≡ picked_in new_marks =
    grammar.5 ∙ ap (map (respan_by rows)) (sym lines.picks ∙ ap picked_in (sym marks)) ∙ sym (retold_picked rows ms) in
    let new_marked : marked_in new_begins 0 again ≡ new_marks =
    marks_of new_begins again new_marks (sym (kept_of_pieces new_begins again) ∙ new_kept) new_ascend (ap begins_at new_picks) in
    let starts : starts_in new_begins 0 again ≡ starts_in begins 0 pieces =
    starts_are new_begins 0 again ∙ ap starts_of new_marked ∙ retold_starts rows ms ∙ sym (starts_are begins 0 pieces) in
    let bits = layout_bits begins first_pen [] pieces in
    let stays : layout new_begins first_pen again ≡ laid =
    layout_relay new_begins first_pen again bits found.2 ∙ ap (relay first_pen bits) starts ∙ canonical_relay begins first_pen [] pieces refl tt in
    record {
      tokens = tokens_of again;
      other = other;
      lexes = subst (λ xs. Lexes 0 xs (tokens_of again)) (sym is.told) lexes;
      spells = subst (λ ts. Spells ts other) (sym (told_again ∙ ap (told (retell_by rows) (breaks_by rows) None) marks)) grammar.3;
      same = grammar.4;
      says = same_text source tree text is;
      own = record {
        pieces = again;
        chain = subst (λ xs. Chain 0 xs 0 again (length xs)) (sym is.told) found.1;
        told = is.told ∙ sym stays;
      };
    }
