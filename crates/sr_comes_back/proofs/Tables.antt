-- Tokens are told again by rows that are found by their places.
use Rattle.std.proofs.Common.{◌≡◌, ℕ, suc, ◌==◌, Bool, true, false, cond, not, ◌&&◌, List, [], ◌∷◌, ◌++◌, refl, ap, ◌∙◌, arith, Option, Some}
use Rattle.std.proofs.lemmas.Bool.{ne_eqb}
use Rattle.sr_value.specs.declared.place.Span.{Span}
use Rattle.sr_tree.specs.declared.token.Token.{Token}
use Rattle.sr_tree.specs.declared.token.TokenKind.{TokenKind}
use Rattle.sr_tree.specs.declared.token.TokenKind.TheVariants as kinds
use Rattle.sr_lexer.specs.Roles.{continues_line}
use Rattle.sr_order.specs.Order.{Ascend, one_more, token_spans}
use Rattle.sr_fmt.specs.Layout.{begins_line, depth_after, spelled}
use Rattle.sr_grammar_laws.specs.Retelling.{is_a_sign, AllSeparators, Keeps}
use Rattle.sr_comes_back.proofs.Lines.{Marked, tokens_in, ends_opt, tell}
use Rattle.sr_comes_back.proofs.Marks.{AllFrom, ascend_from, same_place}
use Rattle.sr_comes_back.proofs.Rows.{Row, no_span, sep_before, retold, tell_rows, EachRow}
use Rattle.sr_comes_back.proofs.Telling.{Breaks, HasSome}

abbrev pub row_at : List Marked → List Row → ℕ → Row
row_at [] ws at = record { span = no_span; sep = no_span }
row_at (m ∷ ms) [] at = record { span = no_span; sep = no_span }
row_at (m ∷ ms) (w ∷ ws) at = cond (m.token.span.from == at) w (row_at ms ws at)

abbrev pub respan_by : (ℕ → Row) → Span → Span
respan_by rows span = (rows span.from).span

abbrev pub retell_by : (ℕ → Row) → Token → Token
retell_by rows t = retold (respan_by rows t.span) t

abbrev pub breaks_by : (ℕ → Row) → Option TokenKind → Token → List Token
breaks_by rows last t = sep_before (rows t.span.from).sep last t.kind

spelled_text : (kind : TokenKind) (text : List ℕ) → is_a_sign kind ≡ false → spelled kind text ≡ text
spelled_text kinds.Name text e = refl
spelled_text kinds.Number text e = refl
spelled_text kinds.Char text e = refl
spelled_text kinds.Str text e = refl
spelled_text kinds.Separator text e = refl
spelled_text (kinds.Word word) text e = refl
spelled_text (kinds.Sign sign) text e = absurd (cc)

pub keeps_by : (rows : ℕ → Row) → Keeps (retell_by rows)
keeps_by rows = record { kind = λ t. refl; text = λ t e. spelled_text t.kind t.text e }

pub moves_by : (rows : ℕ → Row) (t : Token) → (retell_by rows t).span ≡ respan_by rows t.span
moves_by rows t = refl

one_separator : (b : Bool) (span : Span) → AllSeparators (cond b (record { kind = kinds.Separator; text = 10 ∷ []; span = span } ∷ []) [])
one_separator true span = (refl, tt)
one_separator false span = tt

some_separator : (a b : Bool) (span : Span) → a ≡ true → b ≡ false → HasSome (cond (a && not b) (record { kind = kinds.Separator; text = 10 ∷ []; span = span } ∷ []) [])
some_separator true false span e f = (record { kind = kinds.Separator; text = 10 ∷ []; span = span }, [], refl)
some_separator true true span e f = absurd (cc)
some_separator false b span e f = absurd (cc)

no_separator : (a b : Bool) (xs : List Token) → b ≡ true → cond (a && not b) xs [] ≡ []
no_separator true true xs e = refl
no_separator true false xs e = absurd (cc)
no_separator false b xs e = refl

pub breaks_are : (rows : ℕ → Row) → Breaks (breaks_by rows)
breaks_are rows = record {
  seps = λ last t. one_separator (ends_opt last && not (continues_line t.kind)) (rows t.span.from).sep;
  some = λ last t e f. some_separator (ends_opt last) (continues_line t.kind) (rows t.span.from).sep e f;
  none = λ last t e. no_separator (ends_opt last) (continues_line t.kind) _ e;
}

-- ---- the rows of tokens that ascend are found

abbrev AllAgree : (ℕ → Row) → List Marked → List Row → Type 0
AllAgree rows [] [] = Unit {0}
AllAgree rows (m ∷ ms) (w ∷ ws) = (rows m.token.span.from ≡ w) × AllAgree rows ms ws
AllAgree rows _ _ = ⊥

agree_later : (rows : ℕ → Row) (at : ℕ) (row : Row) (ms : List Marked) (ws : List Row) → AllFrom (suc at) (token_spans (tokens_in ms)) → AllAgree rows ms ws → AllAgree (λ n. cond (at == n) row (rows n)) ms ws
agree_later rows at row [] [] all agree = tt
agree_later rows at row [] (w ∷ ws) all agree = agree
agree_later rows at row (m ∷ ms) [] all agree = agree
agree_later rows at row (m ∷ ms) (w ∷ ws) all agree =
    (ap (λ b. cond b row (rows m.token.span.from)) (ne_eqb at m.token.span.from (λ same. omega (arith, all.0, same))) ∙ agree.0, agree_later rows at row ms ws all.1 agree.1)

rows_agree : (file n : ℕ) (ms : List Marked) (ws : List Row) → Ascend file n (token_spans (tokens_in ms)) → EachRow ms ws → AllAgree (row_at ms ws) ms ws
rows_agree file n [] [] ascend each = tt
rows_agree file n [] (w ∷ ws) ascend each = each
rows_agree file n (m ∷ ms) [] ascend each = each
rows_agree file n (m ∷ ms) (w ∷ ws) (one_more s f b more) each = (
  ap (λ c. cond c w (row_at ms ws m.token.span.from)) (same_place m.token.span.from),
  agree_later (row_at ms ws) m.token.span.from w ms ws (ascend_from file (suc m.token.span.from) (token_spans (tokens_in ms)) more) (rows_agree file (suc m.token.span.from) ms ws more each),
)

tell_agree : (rows : ℕ → Row) (ms : List Marked) (ws : List Row) (depth : ℕ) (last : Option TokenKind) → AllAgree rows ms ws → tell (retell_by rows) (breaks_by rows) depth last ms ≡ tell_rows depth last ms ws
tell_agree rows [] [] depth last agree = refl
tell_agree rows [] (w ∷ ws) depth last agree = absurd agree
tell_agree rows (m ∷ ms) [] depth last agree = absurd agree
tell_agree rows (m ∷ ms) (w ∷ ws) depth last agree =
    ap (λ r. cond (begins_line depth m.begins m.token.kind) (sep_before r.sep last m.token.kind) [] ++ retold r.span m.token ∷ tell (retell_by rows) (breaks_by rows) (depth_after depth m.token.kind) (Some m.token.kind) ms) agree.0
    ∙ ap (λ z. cond (begins_line depth m.begins m.token.kind) (sep_before w.sep last m.token.kind) [] ++ retold w.span m.token ∷ z) (tell_agree rows ms ws (depth_after depth m.token.kind) (Some m.token.kind) agree.1)

pub tell_table : (file n : ℕ) (ms : List Marked) (ws : List Row) → Ascend file n (token_spans (tokens_in ms)) → EachRow ms ws → (depth : ℕ) (last : Option TokenKind) → tell (retell_by (row_at ms ws)) (breaks_by (row_at ms ws)) depth last ms ≡ tell_rows depth last ms ws
tell_table file n ms ws ascend each depth last = tell_agree (row_at ms ws) ms ws depth last (rows_agree file n ms ws ascend each)
