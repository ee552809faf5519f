-- A literal reads the same whatever follows it, and so does a comment up to `*/`.
use Rattle.std.proofs.Common.{◌≡◌, ℕ, zero, suc, ◌+◌, ◌-◌, ◌<◌, ◌≤◌, ◌==◌, Bool, true, false, cond, not, List, [], ◌∷◌, ◌++◌, length, take, drop, get_or, refl, ap, sym, ◌∙◌, arith, Option, Some, None, position, nat_eq, nat_lt, codes, zero-add, length-append, length-drop}
use Rattle.std.specs.List.{prefix_len, range_with_len, starts_with}
use lib.Pointwise.{pointwise}
use Rattle.std.proofs.lemmas.Bool.{lt-ltb}
use Rattle.std.proofs.Math.Seq.{take-append_seam, drop-append_seam}
use Rattle.std.proofs.lemmas.List.{drop-append-le}
use Rattle.std.proofs.lemmas.List.FromFn.{get_or-range_with_len, length-range_with_len}
use Rattle.std.proofs.lemmas.List.Quantifiers.{position-Some}
use Rattle.std.proofs.lemmas.List.Sums.{prefix_len_is}
use Rattle.sr_tree.specs.declared.token.TokenKind.{TokenKind}
use Rattle.sr_tree.specs.declared.token.TokenKind.TheVariants as kinds
use Rattle.sr_lexer.specs.Bytes.{is_text_byte}
use Rattle.sr_lexer.specs.Literals.{escapes_next, marked, is_inside, quoted_len}
use Rattle.sr_lexer.specs.Pieces.{is_close, close_of, closed_comment, quoted_piece, literal_piece, piece_at}
use Rattle.sr_spelling.proofs.Alone.{along, one_longer}

-- ---- literals

none_inside : (b : Bool) (p q : ℕ) → cond b (1 + p) 0 ≡ 0 → cond b (1 + q) 0 ≡ 0
none_inside true p q e = absurd (omega (arith, e))
none_inside false p q e = refl

-- the closing quote is found before whatever follows it
pub inside_alone : (quote : ℕ) (escaped : Bool) (inner r s : List ℕ) → prefix_len (is_inside quote) (marked escaped (inner ++ quote ∷ r)) ≡ length inner → prefix_len (is_inside quote) (marked escaped (inner ++ quote ∷ s)) ≡ length inner
inside_alone quote escaped [] r s e = none_inside (is_inside quote (record { byte = quote; escaped = escaped })) (prefix_len (is_inside quote) (marked (escapes_next escaped quote) r)) (prefix_len (is_inside quote) (marked (escapes_next escaped quote) s)) e
inside_alone quote escaped (x ∷ inner) r s e =
    one_longer (is_inside quote (record { byte = x; escaped = escaped }))
    (prefix_len (is_inside quote) (marked (escapes_next escaped x) (inner ++ quote ∷ r)))
    (prefix_len (is_inside quote) (marked (escapes_next escaped x) (inner ++ quote ∷ s)))
    (length inner) e (inside_alone quote (escapes_next escaped x) inner r s)

len_alone : (quote : ℕ) (inner rest : List ℕ) → quoted_len quote (inner ++ quote ∷ []) ≡ length inner → quoted_len quote (inner ++ quote ∷ rest) ≡ length inner
unfolding quoted_len
len_alone quote inner rest e = inside_alone quote false inner [] rest e

-- a literal by what stands between its quotes
pub literal_is : (kind : TokenKind) (quote : ℕ) (inner rest : List ℕ) → quoted_len quote (inner ++ quote ∷ rest) ≡ length inner → literal_piece kind quote (inner ++ quote ∷ rest) ≡ quoted_piece kind quote inner (quote ∷ rest) (position (λ byte. not (is_text_byte byte)) inner)
literal_is kind quote inner rest e =
    along e (λ (n : ℕ). quoted_piece kind quote (take n (inner ++ quote ∷ rest)) (drop n (inner ++ quote ∷ rest)) (position (λ byte. not (is_text_byte byte)) (take n (inner ++ quote ∷ rest))))
    ∙ along (take-append_seam inner (quote ∷ rest)) (λ (text : List ℕ). quoted_piece kind quote text (drop (length inner) (inner ++ quote ∷ rest)) (position (λ byte. not (is_text_byte byte)) text))
    ∙ along (drop-append_seam inner (quote ∷ rest)) (λ (after : List ℕ). quoted_piece kind quote inner after (position (λ byte. not (is_text_byte byte)) inner))

same_after : (kind : TokenKind) (quote : ℕ) (inner rest : List ℕ) (bad : Option ℕ) → quoted_piece kind quote inner (quote ∷ rest) bad ≡ quoted_piece kind quote inner (quote ∷ []) bad
same_after kind quote inner rest (Some at) = refl
same_after kind quote inner rest None = refl

pub literal_alone : (kind : TokenKind) (quote : ℕ) (inner rest : List ℕ) → quoted_len quote (inner ++ quote ∷ []) ≡ length inner → literal_piece kind quote (inner ++ quote ∷ rest) ≡ literal_piece kind quote (inner ++ quote ∷ [])
literal_alone kind quote inner rest e =
    literal_is kind quote inner rest (len_alone quote inner rest e)
    ∙ same_after kind quote inner rest (position (λ byte. not (is_text_byte byte)) inner)
    ∙ sym (literal_is kind quote inner [] e)

pub char_alone : (inner rest : List ℕ) → quoted_len 39 (inner ++ 39 ∷ []) ≡ length inner → piece_at (39 ∷ (inner ++ 39 ∷ rest)) ≡ piece_at (39 ∷ (inner ++ 39 ∷ []))
unfolding piece_at
char_alone inner rest e = literal_alone kinds.Char 39 inner rest e

pub string_alone : (inner rest : List ℕ) → quoted_len 34 (inner ++ 34 ∷ []) ≡ length inner → piece_at (34 ∷ (inner ++ 34 ∷ rest)) ≡ piece_at (34 ∷ (inner ++ 34 ∷ []))
unfolding piece_at
string_alone inner rest e = literal_alone kinds.Str 34 inner rest e

-- ---- comments up to `*/`

two_alone : (ys r s : List ℕ) → take 2 (ys ++ 42 ∷ 47 ∷ r) ≡ take 2 (ys ++ 42 ∷ 47 ∷ s)
two_alone [] r s = refl
two_alone (y ∷ []) r s = refl
two_alone (y ∷ z ∷ ys) r s = refl

-- up to the end of the comment it closes at the same places
close_alone : (inner r s : List ℕ) (at : ℕ) → at ≤ length inner → is_close (inner ++ 42 ∷ 47 ∷ r) at ≡ is_close (inner ++ 42 ∷ 47 ∷ s) at
close_alone inner r s at h =
    along (drop-append-le at inner (42 ∷ 47 ∷ r) h) (λ (bytes : List ℕ). starts_with nat_eq bytes (codes "*/"))
    ∙ along (two_alone (drop at inner) r s) (λ (two : List ℕ). pointwise nat_eq (codes "*/") two)
    ∙ sym (along (drop-append-le at inner (42 ∷ 47 ∷ s) h) (λ (bytes : List ℕ). starts_with nat_eq bytes (codes "*/")))

-- the place in the range of places
place_at : (bytes : List ℕ) (at : ℕ) → at < length bytes → get_or (range_with_len 0 (length bytes)) at 0 ≡ at
place_at bytes at h = get_or-range_with_len 0 (length bytes) at 0 h ∙ zero-add at

position_from : (p : ℕ → Bool) (xs : List ℕ) (n : ℕ) → prefix_len (λ x. not (p x)) xs ≡ n → n < length xs → position p xs ≡ Some n
position_from p xs n e h =
    along e (λ (m : ℕ). cond (nat_lt m (length xs)) (Some m) None)
    ∙ along (lt-ltb n (length xs) h) (λ (b : Bool). cond b (Some n) None)

pub block_close : (inner r s : List ℕ) → close_of (inner ++ 42 ∷ 47 ∷ r) ≡ Some (length inner) → close_of (inner ++ 42 ∷ 47 ∷ s) ≡ Some (length inner)
unfolding close_of
block_close inner r s e =
    let short = inner ++ 42 ∷ 47 ∷ r in
    let full = inner ++ 42 ∷ 47 ∷ s in
    let short_len = length-append inner (42 ∷ 47 ∷ r) in
    let full_len = length-append inner (42 ∷ 47 ∷ s) in
    let range_len = length-range_with_len 0 (length full) in
    let found = position-Some (is_close short) (range_with_len 0 (length short)) (length inner) 0 e in
    let same : (k : ℕ) → k ≤ length inner → is_close full (get_or (range_with_len 0 (length full)) k 0) ≡ is_close short (get_or (range_with_len 0 (length short)) k 0) =
    λ k h. along (place_at full k (omega (arith, full_len, h))) (λ (at : ℕ). is_close full at) ∙ close_alone inner s r k h ∙ sym (along (place_at short k (omega (arith, short_len, h))) (λ (at : ℕ). is_close short at)) in
    position_from (is_close full) (range_with_len 0 (length full)) (length inner)
    (prefix_len_is (λ at. not (is_close full at)) (range_with_len 0 (length full)) (length inner) 0 (omega (arith, full_len, range_len))
    (λ k h. along (same k (omega (arith, h)) ∙ found.2 k h) (λ (b : Bool). not b))
    (λ h. along (same (length inner) (omega arith) ∙ found.1) (λ (b : Bool). not b)))
    (omega (arith, full_len, range_len))

pub block_at : (more : List ℕ) → piece_at (47 ∷ 42 ∷ more) ≡ closed_comment (close_of more)
unfolding piece_at
block_at more = refl

pub block_comment_alone : (inner rest : List ℕ) → close_of (inner ++ 42 ∷ 47 ∷ []) ≡ Some (length inner) → piece_at (47 ∷ 42 ∷ (inner ++ 42 ∷ 47 ∷ rest)) ≡ piece_at (47 ∷ 42 ∷ (inner ++ 42 ∷ 47 ∷ []))
block_comment_alone inner rest e =
    block_at (inner ++ 42 ∷ 47 ∷ rest)
    ∙ along (block_close inner [] rest e ∙ sym e) (λ (o : Option ℕ). closed_comment o)
    ∙ sym (block_at (inner ++ 42 ∷ 47 ∷ []))
