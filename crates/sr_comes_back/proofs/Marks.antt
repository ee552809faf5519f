-- Whether statements begin with the tokens of a source: by their places, and by the grammar.
use Rattle.std.proofs.Common.{◌≡◌, ℕ, suc, ◌<◌, ◌≤◌, ◌==◌, Bool, true, false, cond, ◌||◌, List, [], ◌∷◌, ◌++◌, map, refl, ap, sym, ◌∙◌, arith, append_assoc, eq-eqb}
use Rattle.std.proofs.lemmas.Bool.{ne_eqb}
use Rattle.std.proofs.lemmas.List.{append-nil}
use Rattle.sr_value.specs.declared.place.Span.{Span}
use Rattle.sr_tree.specs.declared.token.Token.{Token}
use Rattle.sr_order.specs.Order.{Picks, nothing, left_out, picked, Ascend, none_left, one_more, token_spans}
use Rattle.sr_order.proofs.Ordered.{picked-ascend}
use Rattle.sr_fmt.specs.Canonical.{begins_at}
use Rattle.sr_fmt.specs.Layout.{depth_after, is_dropped}
use Rattle.sr_comes_back.proofs.Lines.{Marked, mark, tokens_in, picked_in, kept_tokens}

-- ---- spans below and above a place

abbrev pub AllFrom : ℕ → List Span → Type 0
AllFrom n [] = Unit {0}
AllFrom n (span ∷ spans) = (n ≤ span.from) × AllFrom n spans

abbrev pub AllBelow : ℕ → List Span → Type 0
AllBelow n [] = Unit {0}
AllBelow n (span ∷ spans) = (span.from < n) × AllBelow n spans

from_lower : (n m : ℕ) (spans : List Span) → n ≤ m → AllFrom m spans → AllFrom n spans
from_lower n m [] h all = tt
from_lower n m (span ∷ spans) h all = (omega (arith, h, all.0), from_lower n m spans h all.1)

below_higher : (n m : ℕ) (spans : List Span) → n ≤ m → AllBelow n spans → AllBelow m spans
below_higher n m [] h all = tt
below_higher n m (span ∷ spans) h all = (omega (arith, h, all.0), below_higher n m spans h all.1)

below_append : (n : ℕ) (a b : List Span) → AllBelow n a → AllBelow n b → AllBelow n (a ++ b)
below_append n [] b first second = second
below_append n (span ∷ a) b first second = (first.0, below_append n a b first.1 second)

pub ascend_from : (file n : ℕ) (spans : List Span) → Ascend file n spans → AllFrom n spans
ascend_from file n [] none_left = tt
ascend_from file n (span ∷ spans) (one_more s f b more) = (b, from_lower n (suc span.from) spans (omega (arith, b)) (ascend_from file (suc span.from) spans more))

picked_step : (n : ℕ) (b : Bool) (span : Span) (spans : List Span) → n ≤ span.from → AllFrom n spans → AllFrom n (cond b (span ∷ spans) spans)
picked_step n true span spans h all = (h, all)
picked_step n false span spans h all = all

picked_from : (n : ℕ) (ms : List Marked) → AllFrom n (token_spans (tokens_in ms)) → AllFrom n (picked_in ms)
picked_from n [] all = tt
picked_from n (m ∷ ms) all = picked_step n m.begins m.token.span (picked_in ms) all.0 (picked_from n ms all.1)

-- nothing begins at a place before or after all
none_after : (n : ℕ) (spans : List Span) → AllFrom (suc n) spans → begins_at spans n ≡ false
none_after n [] all = refl
none_after n (span ∷ spans) all = ap (λ b. b || begins_at spans n) (ne_eqb span.from n (λ same. omega (arith, all.0, same))) ∙ none_after n spans all.1

none_before : (n at : ℕ) (earlier spans : List Span) → n ≤ at → AllBelow n earlier → begins_at (earlier ++ spans) at ≡ begins_at spans at
none_before n at [] spans h all = refl
none_before n at (span ∷ earlier) spans h all = ap (λ b. b || begins_at (earlier ++ spans) at) (ne_eqb span.from at (λ same. omega (arith, all.0, h, same))) ∙ none_before n at earlier spans h all.1

pub same_place : (n : ℕ) → (n == n) ≡ true
same_place n = eq-eqb n n refl

-- ---- marks by places

-- the tokens, each with whether a statement begins at its place
abbrev pub remark : (ℕ → Bool) → List Token → List Marked
remark begins tokens = map (λ t. mark (begins t.span.from) t) tokens

here_is : (b : Bool) (span : Span) (spans : List Span) → AllFrom (suc span.from) spans → begins_at (cond b (span ∷ spans) spans) span.from ≡ b
here_is true span spans all = ap (λ c. c || begins_at spans span.from) (same_place span.from)
here_is false span spans all = none_after span.from spans all

parted : (b : Bool) (earlier : List Span) (span : Span) (spans : List Span) → earlier ++ cond b (span ∷ spans) spans ≡ (earlier ++ cond b (span ∷ []) []) ++ spans
parted true earlier span spans = sym (append_assoc earlier (span ∷ []) spans)
parted false earlier span spans = ap (λ xs. xs ++ spans) (sym (append-nil earlier))

one_below : (b : Bool) (span : Span) → AllBelow (suc span.from) (cond b (span ∷ []) [])
one_below true span = (omega arith, tt)
one_below false span = tt

marks_after : (file n : ℕ) (ms : List Marked) (earlier : List Span) → Ascend file n (token_spans (tokens_in ms)) → AllBelow n earlier → remark (begins_at (earlier ++ picked_in ms)) (tokens_in ms) ≡ ms
marks_after file n [] earlier none_left below = refl
marks_after file n (m ∷ ms) earlier (one_more s f b more) below =
    let span = m.token.span in
    let after = picked_from (suc span.from) ms (ascend_from file (suc span.from) (token_spans (tokens_in ms)) more) in
    let here : begins_at (earlier ++ cond m.begins (span ∷ picked_in ms) (picked_in ms)) span.from ≡ m.begins =
    none_before n span.from earlier (cond m.begins (span ∷ picked_in ms) (picked_in ms)) b below ∙ here_is m.begins span (picked_in ms) after in
    let next = earlier ++ cond m.begins (span ∷ []) [] in
    let rest : remark (begins_at (next ++ picked_in ms)) (tokens_in ms) ≡ ms =
    marks_after file (suc span.from) ms next more
    (below_append (suc span.from) earlier (cond m.begins (span ∷ []) []) (below_higher n (suc span.from) earlier (omega (arith, b)) below) (one_below m.begins span)) in
    ap (λ begins. mark begins m.token ∷ remark (begins_at (earlier ++ cond m.begins (span ∷ picked_in ms) (picked_in ms))) (tokens_in ms)) here
    ∙ ap (λ spans. m ∷ remark (begins_at spans) (tokens_in ms)) (parted m.begins earlier span (picked_in ms))
    ∙ ap (λ more. m ∷ more) rest

-- where tokens ascend their marks are those of the places at which statements begin
pub marks_are : (file n : ℕ) (ms : List Marked) → Ascend file n (token_spans (tokens_in ms)) → remark (begins_at (picked_in ms)) (tokens_in ms) ≡ ms
marks_are file n ms ascend = marks_after file n ms [] ascend tt

-- ---- the tokens that are kept ascend

kept_picked : (b : Bool) (t : Token) (xs ys rest : List Token) → Picks (token_spans xs) rest → Picks (token_spans ys) rest → Picks (token_spans (cond b xs (t ∷ ys))) (t ∷ rest)
kept_picked true t xs ys rest first second = left_out t first
kept_picked false t xs ys rest first second = picked t second

kept_picks : (depth : ℕ) (tokens : List Token) → Picks (token_spans (kept_tokens depth tokens)) tokens
kept_picks depth [] = nothing
kept_picks depth (t ∷ ts) =
    kept_picked (is_dropped depth t.kind) t (kept_tokens depth ts) (kept_tokens (depth_after depth t.kind) ts) ts (kept_picks depth ts) (kept_picks (depth_after depth t.kind) ts)

pub kept_ascend : (file n depth : ℕ) (tokens : List Token) → Ascend file n (token_spans tokens) → Ascend file n (token_spans (kept_tokens depth tokens))
kept_ascend file n depth tokens ascend = picked-ascend file n (token_spans (kept_tokens depth tokens)) tokens ascend (kept_picks depth tokens)
