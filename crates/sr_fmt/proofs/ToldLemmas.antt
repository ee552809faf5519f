-- The tokens of a chain of pieces without the separators that newlines are.
use Rattle.std.proofs.Common.{◌≡◌, ℕ, ◌<◌, Bool, true, false, cond, not, List, [], ◌∷◌, ◌++◌, length, take, drop, map, filter, refl, ap, sym, ◌∙◌, Option, Some, None, is_ok, nat_eq, inl, inr}
use Rattle.std.proofs.Math.ListN.{drop_of_length-le}
use Rattle.std.proofs.lemmas.Bool.{cases_lt}
use Rattle.std.proofs.lemmas.List.{map-append}
use Rattle.std.proofs.lemmas.List.Elements.{filter-append}
use lib.Pointwise.{pointwise}
use Rattle.sr_value.specs.declared.place.Span.{Span}
use Rattle.sr_tree.specs.declared.token.Token.{Token}
use Rattle.sr_tree.specs.declared.token.TokenKind.{TokenKind}
use Rattle.sr_lexer.specs.Pieces.{piece_at}
use Rattle.sr_lexer.specs.Separators.{Placed, newline_separator, separators, newline_after, token_of, tokens_at, tokens_after, tokens_of}
use Rattle.sr_lexer.specs.Tokens.{BeginsAt, Chain, Lexes}
use Rattle.sr_fmt.specs.declared.gap.Gap.{Gap}
use Rattle.sr_fmt.specs.declared.told.Told.{Told}
use Rattle.sr_fmt.specs.Gaps.{gap_at}
use Rattle.sr_fmt.specs.Layout.{kind_of, first_kind}
use Rattle.sr_fmt.specs.Told.{is_told, brief, all_told, told_at, told_in}
use Rattle.sr_fmt.specs.Printing.{IsToldOf}
use Rattle.sr_fmt.proofs.FrontLemmas.{on_ok, along, len_front, tokens_front, told_after, FrontIs, front_is, none_at_end}

-- ---- what a piece of a chain is

-- a piece begins within its source
pub begins_within : (file : ℕ) (source : List ℕ) (at : ℕ) (p : Placed) → BeginsAt file source at p → at < length source
begins_within file source at p begins =
    elim (cases_lt at (length source)) [
      | inl within ↦ within
      | inr past ↦ absurd (none_at_end (sym (ap (λ (rest : List ℕ). is_ok (piece_at rest)) (drop_of_length-le source past)) ∙ along begins.1 is_ok))
    ]

-- it is the gap that is found there, or a token
pub begins_front : (file : ℕ) (source : List ℕ) (at : ℕ) (p : Placed) → BeginsAt file source at p → FrontIs (drop at source) (gap_at (drop at source))
begins_front file source at p begins = front_is (drop at source) (along begins.1 is_ok)

-- the tokens that it adds are those of what is in front
pub begins_tokens : (file : ℕ) (source : List ℕ) (at : ℕ) (p : Placed) (before : List Placed) → BeginsAt file source at p → tokens_at before p.kind p.text p.span ≡ tokens_front (drop at source) before p.text p.span
begins_tokens file source at p before begins =
    along begins.2 (λ q. tokens_at before q.kind p.text p.span) ∙ sym (along begins.1 (λ r. on_ok r (λ piece. tokens_at before piece.kind p.text p.span) []))

-- and so are its bytes
pub begins_text : (file : ℕ) (source : List ℕ) (at : ℕ) (p : Placed) → BeginsAt file source at p → p.text ≡ take (len_front (drop at source)) (drop at source)
begins_text file source at p begins =
    along begins.2 (λ q. q.text) ∙ sym (along begins.1 (λ r. take (on_ok r (λ piece. piece.len) 0) (drop at source)))

-- ---- the tokens of a piece

told-append : (xs ys : List Token) → all_told (xs ++ ys) ≡ all_told xs ++ all_told ys
told-append xs ys = ap (map brief) (filter-append is_told xs ys) ∙ map-append brief (filter is_told xs) (filter is_told ys)

no_newline_told : (newline : Option Span) → all_told (newline_separator newline) ≡ []
no_newline_told None = refl
no_newline_told (Some span) = refl

separators_untold : (b : Bool) (newline : Option Span) → all_told (cond b (newline_separator newline) []) ≡ []
separators_untold true newline = no_newline_told newline
separators_untold false newline = refl

one_told : (token : Token) → pointwise nat_eq token.text (10 ∷ []) ≡ false → all_told (token ∷ []) ≡ brief token ∷ []
one_told token e = ap (λ b. map brief (cond (not b) (token ∷ []) [])) e

-- of a token and the separator before it
after_told : (before : List Placed) (kind : TokenKind) (text : List ℕ) (span : Span) → pointwise nat_eq text (10 ∷ []) ≡ false → all_told (told_after before kind text span) ≡ told_at (Some kind) text
after_told before kind text span e =
    told-append (separators before kind) (token_of kind text span ∷ [])
    ∙ ap (λ first. first ++ all_told (token_of kind text span ∷ [])) (separators_untold _ (newline_after before))
    ∙ one_told (token_of kind text span) e

-- a piece tells its kind and length, where it is a token
told_by_front : (file : ℕ) (source : List ℕ) (at : ℕ) (before : List Placed) (p : Placed) → BeginsAt file source at p → (found : Option Gap) → FrontIs (drop at source) found → all_told (tokens_at before p.kind p.text p.span) ≡ told_at (kind_of p) p.text
told_by_front file source at before p begins (Some g) front =
    let tokens : (b : List Placed) → tokens_at b p.kind p.text p.span ≡ [] = λ b. begins_tokens file source at p b begins ∙ front.tokens b p.text p.span in
    ap all_told (tokens before) ∙ sym (ap (λ (all : List Token). told_at (first_kind all) p.text) (tokens []))
told_by_front file source at before p begins None front =
    let tokens : (b : List Placed) → tokens_at b p.kind p.text p.span ≡ told_after b front.kind p.text p.span = λ b. begins_tokens file source at p b begins ∙ front.tokens b p.text p.span in
    let no : pointwise nat_eq p.text (10 ∷ []) ≡ false =
    ap (λ (text : List ℕ). pointwise nat_eq text (10 ∷ [])) (begins_text file source at p begins) ∙ front.no_newline (len_front (drop at source)) in
    ap all_told (tokens before) ∙ after_told before front.kind p.text p.span no ∙ sym (ap (λ (all : List Token). told_at (first_kind all) p.text) (tokens []))

all_after : (file : ℕ) (source : List ℕ) (before rest : List Placed) (at to : ℕ) → Chain file source at rest to → all_told (tokens_after before rest) ≡ told_in rest
all_after file source before [] at to chain = refl
all_after file source before (p ∷ rest) at to chain =
    told-append (tokens_at before p.kind p.text p.span) (tokens_after (before ++ p ∷ []) rest)
    ∙ ap (λ first. first ++ all_told (tokens_after (before ++ p ∷ []) rest)) (told_by_front file source at before p chain.0 (gap_at (drop at source)) (begins_front file source at p chain.0))
    ∙ ap (λ more. told_at (kind_of p) p.text ++ more) (all_after file source (before ++ p ∷ []) rest p.span.to to chain.1)

-- the tokens that a file has are those of its pieces
pub told_of_tokens : (source : List ℕ) (tokens : List Token) (told : List Told) → Lexes 0 source tokens → told ≡ all_told tokens → IsToldOf source told
unfolding tokens_of
told_of_tokens source tokens told lexed e = record {
  pieces = lexed.pieces;
  chain = lexed.chain;
  all = e ∙ ap all_told lexed.told ∙ all_after 0 source [] lexed.pieces 0 (length source) lexed.chain;
}
