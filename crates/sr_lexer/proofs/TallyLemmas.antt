-- Counting one more token.
use Rattle.std.proofs.Common.{◌≡◌, ℕ, ◌+◌, ◌<◌, Bool, true, false, cond, not, List, [], ◌∷◌, ◌++◌, reverse, length, get_or, take, refl, ap, sym, subst, ◌∙◌, arith, take_while, Some, None, slice_get}
use Rattle.std.proofs.lemmas.List.{reverse-append, take_more}
use Rattle.std.proofs.lemmas.List.Sums.{sum_by-append, sum_by-cons, take_while-cons}
use Rattle.std.proofs.lemmas.Option.{slice_get-get_or, get_or_from_slice_get}
use borrow.Author.Count.{below_more}
use Rattle.sr_text.specs.declared.refusal.Refusal.{Refusal}
use Rattle.sr_tree.specs.declared.token.Token.{Token}
use Rattle.sr_tree.specs.declared.token.TokenKind.{TokenKind}
use Rattle.sr_lexer.specs.declared.limits.Tally.{Tally}
use Rattle.sr_lexer.specs.Roles.{opens_level, closes_level, breaks_run, counts_in_run}
use Rattle.sr_lexer.specs.Limits.{count_of, run_of, fault_where, fault_of, IsWithinLimits, ExceedsLimits}
use Rattle.sr_lexer.specs.Tallies.{tally_of, tally_with}

plus_one : (b : Bool) (n : ℕ) → n + (0 + cond b 1 0) ≡ cond b (n + 1) n
plus_one true n = omega arith
plus_one false n = omega arith

one_plus : (b : Bool) (n : ℕ) → cond b 1 0 + n ≡ cond b (n + 1) n
one_plus true n = omega arith
one_plus false n = omega arith

count_more : (test : TokenKind → Bool) (tokens : List Token) (t : Token) → count_of test (tokens ++ t ∷ []) ≡ cond (test t.kind) (count_of test tokens + 1) (count_of test tokens)
count_more test tokens t = sum_by-append (λ token. cond (test token.kind) 1 0) tokens (t ∷ []) ∙ plus_one (test t.kind) (count_of test tokens)

run_count : (breaks : Bool) (t : Token) (run : List Token) → count_of counts_in_run (cond (not breaks) (t ∷ run) []) ≡ cond breaks 0 (cond (counts_in_run t.kind) (count_of counts_in_run run + 1) (count_of counts_in_run run))
run_count true t run = refl
run_count false t run = sum_by-cons (λ token. cond (counts_in_run token.kind) 1 0) t run ∙ one_plus (counts_in_run t.kind) (count_of counts_in_run run)

run_more : (tokens : List Token) (t : Token) → run_of (tokens ++ t ∷ []) ≡ cond (not (breaks_run t.kind)) (t ∷ run_of tokens) []
run_more tokens t =
    ap (take_while (λ token. not (breaks_run token.kind))) (reverse-append tokens (t ∷ []))
    ∙ take_while-cons (λ token. not (breaks_run token.kind)) t (reverse tokens)

a_tally : ℕ → ℕ → ℕ → Tally
a_tally openers closers run = record { openers = openers; closers = closers; run = run }

tally_snoc : (tokens : List Token) (t : Token) → tally_of (tokens ++ t ∷ []) ≡ tally_with (tally_of tokens) t.kind
unfolding a_tally
tally_snoc tokens t =
    let after = tokens ++ t ∷ [] in
    let counted = ap (count_of counts_in_run) (run_more tokens t) ∙ run_count (breaks_run t.kind) t (run_of tokens) in
    ap (λ n. a_tally n (count_of closes_level after) (count_of counts_in_run (run_of after))) (count_more opens_level tokens t)
    ∙ ap (λ n. a_tally (cond (opens_level t.kind) (count_of opens_level tokens + 1) (count_of opens_level tokens)) n (count_of counts_in_run (run_of after))) (count_more closes_level tokens t)
    ∙ ap (λ n. a_tally (cond (opens_level t.kind) (count_of opens_level tokens + 1) (count_of opens_level tokens)) (cond (closes_level t.kind) (count_of closes_level tokens + 1) (count_of closes_level tokens)) n) counted

-- what is counted up to and with a token
pub tally_more : (tokens : List Token) (at : ℕ) (t : Token) (tally : Tally) → at < length tokens → t ≡ get_or tokens at t → tally ≡ tally_of (take at tokens) → tally_with tally t.kind ≡ tally_of (take (at + 1) tokens)
tally_more tokens at t tally within is counted =
    ap (λ before. tally_with before t.kind) counted
    ∙ sym (tally_snoc (take at tokens) t)
    ∙ ap (λ last. tally_of (take at tokens ++ last ∷ [])) is
    ∙ ap tally_of (sym (take_more tokens at t within))

-- the token at a place is there
token_here : (tokens : List Token) (at : ℕ) (t : Token) → at < length tokens → t ≡ get_or tokens at t → slice_get tokens at ≡ Some t
token_here tokens at t within is = slice_get-get_or tokens at t within ∙ ap Some (sym is)

-- the fault of the last token by what was counted
pub fault_is : (tally : Tally) (tokens : List Token) (kind : TokenKind) → tally ≡ tally_of tokens → fault_where tally.openers tally.closers tally.run kind ≡ fault_of tokens kind
fault_is tally tokens kind counted = ap (λ (t : Tally). fault_where t.openers t.closers t.run kind) counted

-- one token more is within the limits
pub within_more : (tokens : List Token) (at : ℕ) (t : Token) → IsWithinLimits tokens at → t ≡ get_or tokens at t → fault_of (take (at + 1) tokens) t.kind ≡ None → IsWithinLimits tokens (at + 1)
within_more tokens at t before is fine = λ k token below here.
    below_more (λ (i : ℕ). (u : Token) → slice_get tokens i ≡ Some u → fault_of (take (i + 1) tokens) u.kind ≡ None) at
    (λ i h u e. before i u h e)
    (λ u e. subst (λ (v : Token). fault_of (take (at + 1) tokens) v.kind ≡ None) (is ∙ get_or_from_slice_get tokens at u t e) fine)
    k below token here

-- the token at a place is the first that is refused
pub exceeds : (tokens : List Token) (at : ℕ) (t : Token) (refusal : Refusal) → IsWithinLimits tokens at → at < length tokens → t ≡ get_or tokens at t → fault_of (take (at + 1) tokens) t.kind ≡ Some refusal.kind → refusal.place ≡ record { file = t.span.file; line = t.span.line } → ExceedsLimits tokens refusal
exceeds tokens at t refusal before within is fault place =
    record { at = at; token = t; here = token_here tokens at t within is; fault = fault; place = place; first = before }
