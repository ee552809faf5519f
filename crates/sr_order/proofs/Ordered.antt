-- What is picked in order is in order, and at different places.
use Rattle.std.proofs.Common.{◌≡◌, sym, subst, ℕ, suc, ◌<◌, ◌≤◌, false, List, [], ◌∷◌, ◌++◌, arith}
use Rattle.std.specs.Prelude.{◌==◌}
use Rattle.std.specs.List.{IsDistinct, AllByRecursion}
use Rattle.std.proofs.lemmas.Bool.{and_left, and_right, ne_eqb}
use Rattle.sr_value.specs.declared.place.Span.{Span}
use Rattle.sr_tree.specs.declared.token.Token.{Token}
use Rattle.sr_order.specs.Order.{Picks, nothing, left_out, picked, Ascend, none_left, one_more, token_spans, same_place}

-- a lower bound may be lower
pub ascend-lower : {file low high : ℕ} {spans : List Span} → low ≤ high → Ascend file high spans → Ascend file low spans
ascend-lower h none_left = none_left
ascend-lower h (one_more span f b more) = one_more span f (omega (arith, h, b)) more

pub picked-ascend : (file from : ℕ) (spans : List Span) (tokens : List Token) → Ascend file from (token_spans tokens) → Picks spans tokens → Ascend file from spans
picked-ascend file from [] [] none_left nothing = none_left
picked-ascend file from (span ∷ spans) [] a p = elim p [ ]
picked-ascend file from spans (token ∷ tokens) (one_more s f b more) (left_out t p) =
    picked-ascend file from spans tokens (ascend-lower (omega (arith, b)) more) p
picked-ascend file from (span ∷ spans) (token ∷ tokens) (one_more s f b more) (picked t p) =
    one_more token.span f b (picked-ascend file (suc token.span.from) spans tokens more p)

-- a span is at another place than those after it
apart : (file : ℕ) (span : Span) (spans : List Span) → Ascend file (suc span.from) spans → AllByRecursion (λ other. same_place span other ≡ false) spans
apart file span [] none_left = tt
apart file span (other ∷ spans) (one_more s f b more) = (and_right (span.file == other.file) (span.from == other.from) (ne_eqb span.from other.from (λ same. omega (arith, b, same))), apart file span spans (ascend-lower (omega (arith, b)) more))

pub ascend-distinct : (file from : ℕ) (spans : List Span) → Ascend file from spans → IsDistinct same_place spans
unfolding IsDistinct
ascend-distinct file from [] none_left = tt
ascend-distinct file from (span ∷ spans) (one_more s f b more) = (apart file span spans more, ascend-distinct file (suc span.from) spans more)

-- ---- several files

-- spans of files that all have greater numbers
abbrev pub After : ℕ → List Span → Type 0
After file spans = AllByRecursion (λ span. file < span.file) spans

-- those of one file stand after any file before it
pub ascend-after : (file before from : ℕ) (spans others : List Span) → before < file → Ascend file from spans → After before others → After before (spans ++ others)
ascend-after file before from [] others h none_left after = after
ascend-after file before from (span ∷ spans) others h (one_more s f b more) after =
    (omega (arith, h, f), ascend-after file before (suc span.from) spans others h more after)

-- a span is at another place than those of later files
apart-files : (span : Span) (others : List Span) → After span.file others → AllByRecursion (λ other. same_place span other ≡ false) others
apart-files span [] after = tt
apart-files span (other ∷ others) after =
    (and_left (span.file == other.file) (span.from == other.from) (ne_eqb span.file other.file (λ same. omega (arith, after.0, same))), apart-files span others after.1)

all-append : (P : Span → Type 0) (xs ys : List Span) → AllByRecursion P xs → AllByRecursion P ys → AllByRecursion P (xs ++ ys)
all-append P [] ys p q = q
all-append P (x ∷ xs) ys p q = (p.0, all-append P xs ys p.1 q)

-- those of a file and of later ones are at different places
pub files-distinct : (file from : ℕ) (spans others : List Span) → Ascend file from spans → After file others → IsDistinct same_place others → IsDistinct same_place (spans ++ others)
unfolding IsDistinct
files-distinct file from [] others none_left after distinct = distinct
files-distinct file from (span ∷ spans) others (one_more s f b more) after distinct = (
  all-append (λ other. same_place span other ≡ false) spans others (apart file span spans more) (apart-files span others (subst (λ n. After n others) (sym f) after)),
  files-distinct file (suc span.from) spans others more after distinct,
)
