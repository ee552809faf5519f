-- Numbers, digit by digit, and how long pieces are.
use Rattle.std.proofs.Common.{◌≡◌, ℕ, zero, suc, ◌+◌, ◌-◌, ◌*◌, ◌<◌, ◌≤◌, Bool, true, false, cond, not, ◌==◌, nat_lt, ◌&&◌, List, [], ◌∷◌, length, get_or, take, drop, refl, ap, subst, ◌∙◌, arith, fold, find, position, take_while, Option, Some, None, Result, nat_eq, codes, slice_index, length-take, length-drop, zero-add, lit<}
use Rattle.std.proofs.lemmas.Bool.Decides.{nat_tests}
use Rattle.sr_text.specs.declared.refusal.Kind.TheVariants.{BadToken}
use Rattle.sr_lexer.specs.declared.piece.PieceKind.TheVariants.{Token}
use Rattle.std.specs.List.{starts_with, list_all, range_with_len}
use lib.Pointwise.{pointwise}
use Rattle.std.proofs.lemmas.List.Sums.{fold_more, take_while-cons}
use Rattle.std.proofs.lemmas.List.Quantifiers.{position-Some}
use Rattle.std.proofs.lemmas.List.FromFn.{get_or-range_with_len, length-range_with_len}
use Rattle.sr_tree.specs.declared.token.Sign.{Sign}
use Rattle.sr_tree.specs.declared.token.Sign.TheVariants.{NotEqual}
use Rattle.sr_tree.specs.declared.token.TokenKind.{TokenKind}
use Rattle.sr_tree.specs.declared.token.TokenKind.TheVariants as kinds
use Rattle.sr_lexer.specs.declared.byte.Class.{Class}
use Rattle.sr_lexer.specs.declared.byte.Class.TheVariants as classes
use Rattle.sr_lexer.specs.declared.piece.Piece.{Piece}
use Rattle.sr_lexer.specs.declared.piece.Fault.{Fault}
use Rattle.sr_lexer.specs.Bytes.{class_of, is_blank, is_digit, is_letter, is_name_byte, is_text_byte}
use Rattle.sr_lexer.specs.Symbols.{signs, sign_at, listed_sign, sign_spelling}
use Rattle.sr_lexer.specs.Literals.{has_wrong_escape}
use Rattle.sr_lexer.specs.Pieces.{number_of, is_number, has_right_count, found, broken, FitsIn, run_len, first_passes, is_close, close_of, closed_comment, block_comment, number_piece, quoted_piece, signed_piece, sign_piece, is_literal, piece_of_class, piece_at}

-- more digits make no smaller number
grows : (digits : List ℕ) (start : ℕ) → start ≤ fold (λ number digit. 10 * number + (digit - 48)) start digits
grows [] start = omega arith
grows (digit ∷ digits) start = let more = grows digits (10 * start + (digit - 48)) in omega (arith, more)

from_part : (digits : List ℕ) (start at : ℕ) → fold (λ number digit. 10 * number + (digit - 48)) start (take at digits) ≤ fold (λ number digit. 10 * number + (digit - 48)) start digits
from_part digits start zero = grows digits start
from_part [] start (suc at) = omega arith
from_part (digit ∷ digits) start (suc at) = from_part digits (10 * start + (digit - 48)) at

-- a number that is too great with fewer digits is too great with all
pub number_over : (digits : List ℕ) (at bound : ℕ) → at < length digits → bound < 10 * number_of (take at digits) + (get_or digits at 0 - 48) → bound < number_of digits
number_over digits at bound h over =
    let step = fold_more (λ number digit. 10 * number + (digit - 48)) 0 digits at 0 h in
    let part = from_part digits 0 (at + 1) in
    omega (arith, step, part)

pub and_left : (a b : Bool) → (a && b) ≡ true → a ≡ true
and_left true b e = refl
and_left false b e = e

pub and_right : (a b : Bool) → (a && b) ≡ true → b ≡ true
and_right true b e = e
and_right false b e = absurd (cc)

-- what begins with some bytes has as many
has_prefix : (needle xs : List ℕ) → pointwise nat_eq needle (take (length needle) xs) ≡ true → length needle ≤ length xs
has_prefix [] xs e = omega arith
has_prefix (n ∷ ns) [] e = absurd (cc)
has_prefix (n ∷ ns) (x ∷ xs) e = let rest = has_prefix ns xs (and_right (nat_eq n x) (pointwise nat_eq ns (take (length ns) xs)) e) in omega (arith, rest)

-- the first of the items is found, or one of the rest
pick_both : {X : Type 0} (p q : X → Bool) (y x : X) (rest : Option X) (b c : Bool) → p y ≡ b → (q y && c) ≡ true → cond b (Some y) rest ≡ Some x → (rest ≡ Some x → (p x ≡ true) × (q x ≡ true)) → (p x ≡ true) × (q x ≡ true)
pick_both p q y x rest true c passes all e more =
    let same : y ≡ x = cc in
    subst (λ z. (p z ≡ true) × (q z ≡ true)) same (passes, and_left (q y) c all)
pick_both p q y x rest false c passes all e more = more e

-- what is found passes the test, and whatever all items pass
find_both : {X : Type 0} (p q : X → Bool) (xs : List X) (x : X) → list_all q xs ≡ true → find p xs ≡ Some x → (p x ≡ true) × (q x ≡ true)
find_both p q [] x all e = absurd (cc)
find_both p q (y ∷ xs) x all e =
    pick_both p q y x (find p xs) (p y) (list_all q xs) refl all e (λ more. find_both p q xs x (and_right (q y) (list_all q xs) all) more)

run_within : (test : ℕ → Bool) (xs : List ℕ) → run_len test xs ≤ length xs
run_within test xs = simp length-take (omega arith)

run_first : (test : ℕ → Bool) (xs : List ℕ) → 0 < length xs → test (slice_index xs 0) ≡ true → 0 < run_len test xs
run_first test [] h e = absurd (omega arith)
run_first test (x ∷ xs) h e = let l = ap length (take_while-cons test x xs ∙ ap (λ b. cond b (x ∷ take_while test xs) []) e) in omega (arith, l)

first_some : (test : ℕ → Bool) (xs : List ℕ) → first_passes test xs ≡ true → 0 < length xs
first_some test [] e = absurd (cc)
first_some test (x ∷ xs) e = omega arith

-- what fits in both cases fits
fits_if : (bytes : List ℕ) (b : Bool) (x y : Result Piece Fault) → (b ≡ true → FitsIn bytes x) → (b ≡ false → FitsIn bytes y) → FitsIn bytes (cond b x y)
fits_if bytes true x y f g = f refl
fits_if bytes false x y f g = g refl

fits_closed : (bytes : List ℕ) (o : Option ℕ) → close_of (drop 2 bytes) ≡ o → 2 ≤ length bytes → FitsIn bytes (closed_comment o)
unfolding close_of
fits_closed bytes None e h = omega arith
fits_closed bytes (Some at) e h =
    let rest = drop 2 bytes in
    let closed = position-Some (is_close rest) (range_with_len 0 (length rest)) at 0 e in
    let below : at < length rest = omega (arith, closed.0, length-range_with_len 0 (length rest)) in
    let here : is_close rest at ≡ true = subst (λ n. is_close rest n ≡ true) (get_or-range_with_len 0 (length rest) at 0 below ∙ zero-add at) closed.1 in
    let long = has_prefix (codes "*/") (drop at rest) here in
    (omega arith, omega (arith, long, length-drop at rest, length-drop 2 bytes))

fits_number : (bytes : List ℕ) → 0 < length bytes → is_digit (slice_index bytes 0) ≡ true → FitsIn bytes (number_piece bytes)
fits_number bytes h digit =
    fits_if bytes (is_number (take (run_len is_digit bytes) bytes) (drop (run_len is_digit bytes) bytes)) (found (Token kinds.Number) (run_len is_digit bytes)) (broken BadToken 0)
    (λ _. (run_first is_digit bytes h digit, run_within is_digit bytes)) (λ _. h)

fits_quoted : (kind : TokenKind) (quote : ℕ) (bytes : List ℕ) (len : ℕ) (o : Option ℕ) → 0 < length bytes → position (λ byte. not (is_text_byte byte)) (take len (drop 1 bytes)) ≡ o → FitsIn bytes (quoted_piece kind quote (take len (drop 1 bytes)) (drop len (drop 1 bytes)) o)
fits_quoted kind quote bytes len (Some at) h e =
    let bad = position-Some (λ byte. not (is_text_byte byte)) (take len (drop 1 bytes)) at 0 e in
    omega (arith, bad.0, length-take len (drop 1 bytes), length-drop 1 bytes)
fits_quoted kind quote bytes len None h e =
    let inner = take len (drop 1 bytes) in
    let rest = drop len (drop 1 bytes) in
    fits_if bytes (is_literal kind quote inner rest) (found (Token kind) (length inner + 2)) (broken BadToken 0)
    (λ whole. let closed = first_some (λ byte. byte == quote) (drop len (drop 1 bytes)) (and_left _ (not (has_wrong_escape inner)) (and_left _ (has_right_count kind inner) whole)) in
    (omega arith, omega (arith, closed, length-take len (drop 1 bytes), length-drop len (drop 1 bytes), length-drop 1 bytes)))
    (λ _. h)

sign_fits : (bytes : List ℕ) (b : Bool) (sign : Sign) → starts_with nat_eq bytes (codes "~=") ≡ b → cond b (Some NotEqual) (listed_sign bytes) ≡ Some sign → (0 < length (sign_spelling sign)) × (length (sign_spelling sign) ≤ length bytes)
unfolding listed_sign
sign_fits bytes true sign starts e =
    let same : NotEqual ≡ sign = cc in
    subst (λ s. (0 < length (sign_spelling s)) × (length (sign_spelling s) ≤ length bytes)) same (lit< tt, has_prefix (codes "~=") bytes starts)
sign_fits bytes false sign starts e =
    let both = find_both (λ s. starts_with nat_eq bytes (sign_spelling s)) (λ s. nat_lt 0 (length (sign_spelling s))) signs sign refl e in
    (grind (arith, nat_tests, both.1), has_prefix (sign_spelling sign) bytes both.0)

fits_signed : (bytes : List ℕ) (o : Option Sign) → 0 < length bytes → sign_at bytes ≡ o → FitsIn bytes (signed_piece o)
fits_signed bytes None h e = h
fits_signed bytes (Some sign) h e = sign_fits bytes _ sign refl e

pub fits_sign : (bytes : List ℕ) → 0 < length bytes → FitsIn bytes (sign_piece bytes)
fits_sign bytes h =
    fits_if bytes (starts_with nat_eq bytes (codes "/*")) (block_comment bytes) (cond (starts_with nat_eq bytes (codes ";")) (found (Token kinds.Separator) 1) (signed_piece (sign_at bytes)))
    (λ starts. fits_closed bytes _ refl (has_prefix (codes "/*") bytes starts))
    (λ _. fits_if bytes (starts_with nat_eq bytes (codes ";")) (found (Token kinds.Separator) 1) (signed_piece (sign_at bytes)) (λ _. (lit< tt, h)) (λ _. fits_signed bytes _ h refl))

fits_class : (class : Class) (bytes : List ℕ) → 0 < length bytes → (class ≡ classes.Digit → is_digit (slice_index bytes 0) ≡ true) → FitsIn bytes (piece_of_class class bytes)
fits_class classes.Blank bytes h digit = (omega arith, h)
fits_class classes.Newline bytes h digit = (omega arith, h)
fits_class classes.Hash bytes h digit = (omega arith, omega (arith, run_within (λ byte. not (byte == 10)) (drop 1 bytes), length-drop 1 bytes))
fits_class classes.Apostrophe bytes h digit = fits_quoted kinds.Char 39 bytes _ _ h refl
fits_class classes.Quote bytes h digit = fits_quoted kinds.Str 34 bytes _ _ h refl
fits_class classes.Digit bytes h digit = fits_number bytes h (digit refl)
fits_class classes.Letter bytes h digit = (omega arith, omega (arith, run_within is_name_byte (drop 1 bytes), length-drop 1 bytes))
fits_class classes.Other bytes h digit = fits_sign bytes h

-- the class of digits has no other bytes
digit_class : (byte : ℕ) → class_of byte ≡ classes.Digit → is_digit byte ≡ true
digit_class byte e = at_digit (is_blank byte) (byte == 10) (byte == 35) (byte == 39) (byte == 34) (is_digit byte) (is_letter byte) e
  where
    at_digit : (a b c d e f g : Bool) → cond a classes.Blank (cond b classes.Newline (cond c classes.Hash (cond d classes.Apostrophe (cond e classes.Quote (cond f classes.Digit (cond g classes.Letter classes.Other)))))) ≡ classes.Digit → f ≡ true
    at_digit true b c d e f g h = absurd (cc)
    at_digit false true c d e f g h = absurd (cc)
    at_digit false false true d e f g h = absurd (cc)
    at_digit false false false true e f g h = absurd (cc)
    at_digit false false false false true f g h = absurd (cc)
    at_digit false false false false false true g h = refl
    at_digit false false false false false false true h = absurd (cc)
    at_digit false false false false false false false h = absurd (cc)

-- what begins at the front of some bytes fits in them
pub piece_fits : (bytes : List ℕ) → 0 < length bytes → FitsIn bytes (piece_at bytes)
unfolding piece_at
piece_fits bytes h = fits_class (class_of (slice_index bytes 0)) bytes h (digit_class (slice_index bytes 0))
