-- A literal or a comment up to `*/` that is cut out of a source reads as it did there, whatever follows it.
use Rattle.std.proofs.Common.{◌≡◌, ℕ, zero, suc, ◌+◌, ◌-◌, ◌<◌, ◌≤◌, ◌==◌, Bool, true, false, cond, not, ◌&&◌, List, [], ◌∷◌, ◌++◌, length, take, drop, refl, ap, sym, subst, ◌∙◌, arith, append_assoc, Option, Some, None, is_ok, nat_eq, codes, position, ◌⊎◌, inl, inr, eqb-true, zero-add, length-take, length-drop}
use Rattle.std.specs.List.{prefix_len, starts_with, range_with_len}
use lib.Pointwise.{pointwise}
use Rattle.std.proofs.Math.Seq.{take-append-add}
use Rattle.std.proofs.lemmas.List.{take-append-drop}
use Rattle.std.proofs.lemmas.List.FromFn.{get_or-range_with_len, length-range_with_len}
use Rattle.std.proofs.lemmas.List.Quantifiers.{position-Some}
use Rattle.std.proofs.lemmas.Bool.{and_parts as both_of}
use Rattle.sr_tree.specs.declared.token.TokenKind.{TokenKind}
use Rattle.sr_tree.specs.declared.token.TokenKind.TheVariants as kinds
use Rattle.sr_lexer.specs.Bytes.{is_text_byte}
use Rattle.sr_lexer.specs.Literals.{quoted_len, has_wrong_escape}
use Rattle.sr_lexer.specs.Pieces.{first_passes, is_close, close_of, closed_comment, has_right_count, is_literal, quoted_piece, literal_piece, piece_at}
use Rattle.sr_spelling.proofs.Alone.{along, split}
use Rattle.sr_spelling.proofs.Quoted.{inside_alone, literal_is, literal_alone, block_close, block_at}
use Rattle.sr_spelling.proofs.Own.{on_ok, len_front, Own}

-- ---- literals

-- a literal that is found is closed, and so long
closed_of : (kind : TokenKind) (quote : ℕ) (inner rest : List ℕ) (bad : Option ℕ) → is_ok (quoted_piece kind quote inner rest bad) ≡ true → first_passes (λ byte. byte == quote) rest ≡ true
closed_of kind quote inner rest (Some at) ok = absurd (cc)
closed_of kind quote inner rest None ok =
    elim (split (is_literal kind quote inner rest)) [
      | inl e ↦ (both_of (first_passes (λ byte. byte == quote) rest) (not (has_wrong_escape inner)) (both_of (first_passes (λ byte. byte == quote) rest && not (has_wrong_escape inner)) (has_right_count kind inner) e).0).0
      | inr e ↦ (let bad : false ≡ true = rw e at ok in absurd (cc))
    ]

quoted_size : (kind : TokenKind) (quote : ℕ) (inner rest : List ℕ) (bad : Option ℕ) → is_ok (quoted_piece kind quote inner rest bad) ≡ true → on_ok (quoted_piece kind quote inner rest bad) (λ piece. piece.len) 0 ≡ length inner + 2
quoted_size kind quote inner rest (Some at) ok = absurd (cc)
quoted_size kind quote inner rest None ok =
    elim (split (is_literal kind quote inner rest)) [
      | inl e ↦ rw e refl
      | inr e ↦ (let bad : false ≡ true = rw e at ok in absurd (cc))
    ]

head_of : (quote : ℕ) (rest : List ℕ) → first_passes (λ byte. byte == quote) rest ≡ true → (tail : List ℕ) × (rest ≡ quote ∷ tail)
head_of quote [] e = absurd (cc)
head_of quote (byte ∷ rest) e = (rest, ap (λ (b : ℕ). b ∷ rest) (eqb-true byte quote e))

-- the text between the quotes, and what follows it
pub parts_of : (kind : TokenKind) (quote : ℕ) (after : List ℕ) → is_ok (literal_piece kind quote after) ≡ true → (inner : List ℕ) × (tail : List ℕ) × (after ≡ inner ++ quote ∷ tail) × (quoted_len quote after ≡ length inner)
parts_of kind quote after ok =
    let len = quoted_len quote after in
    let closed = head_of quote (drop len after) (closed_of kind quote (take len after) (drop len after) (position (λ byte. not (is_text_byte byte)) (take len after)) ok) in
    let long = ap (λ (xs : List ℕ). length xs) closed.1 in (
      take len after,
      closed.0,
      sym (take-append-drop len after) ∙ ap (λ (xs : List ℕ). take len after ++ xs) closed.1,
      omega (arith, long, length-drop len after, length-take len after),
    )

short_quoted : (quote : ℕ) (inner tail : List ℕ) → quoted_len quote (inner ++ quote ∷ tail) ≡ length inner → quoted_len quote (inner ++ quote ∷ []) ≡ length inner
unfolding quoted_len
short_quoted quote inner tail e = inside_alone quote false inner tail [] e

cut_quoted : (quote : ℕ) (inner tail rest : List ℕ) → take (length inner + 2) (quote ∷ (inner ++ quote ∷ tail)) ++ rest ≡ quote ∷ (inner ++ quote ∷ rest)
cut_quoted quote inner tail rest =
    let len : length inner + 2 ≡ suc (length inner + 1) = omega arith in
    ap (λ (n : ℕ). take n (quote ∷ (inner ++ quote ∷ tail)) ++ rest) len
    ∙ ap (λ (xs : List ℕ). quote ∷ (xs ++ rest)) (take-append-add inner (quote ∷ tail) 1)
    ∙ ap (λ (xs : List ℕ). quote ∷ xs) (append_assoc inner (quote ∷ []) rest)

-- what the lexer finds after an opening quote
Finds : TokenKind → ℕ → Type 0
Finds kind quote = (after : List ℕ) → piece_at (quote ∷ after) ≡ literal_piece kind quote after

own_parts : (kind : TokenKind) (quote : ℕ) (finds : Finds kind quote) (inner tail rest : List ℕ) → quoted_len quote (inner ++ quote ∷ tail) ≡ length inner → is_ok (literal_piece kind quote (inner ++ quote ∷ tail)) ≡ true → piece_at (take (len_front (quote ∷ (inner ++ quote ∷ tail))) (quote ∷ (inner ++ quote ∷ tail)) ++ rest) ≡ piece_at (quote ∷ (inner ++ quote ∷ tail))
unfolding Finds
own_parts kind quote finds inner tail rest e ok =
    let short = short_quoted quote inner tail e in
    let is = literal_is kind quote inner tail e in
    let size : len_front (quote ∷ (inner ++ quote ∷ tail)) ≡ length inner + 2 =
    along (finds (inner ++ quote ∷ tail) ∙ is) (λ r. on_ok r (λ piece. piece.len) 0)
    ∙ quoted_size kind quote inner (quote ∷ tail) (position (λ byte. not (is_text_byte byte)) inner) (sym (along is is_ok) ∙ ok) in
    along size (λ (n : ℕ). piece_at (take n (quote ∷ (inner ++ quote ∷ tail)) ++ rest))
    ∙ along (cut_quoted quote inner tail rest) (λ (text : List ℕ). piece_at text)
    ∙ finds (inner ++ quote ∷ rest)
    ∙ literal_alone kind quote inner rest short
    ∙ sym (literal_alone kind quote inner tail short)
    ∙ sym (finds (inner ++ quote ∷ tail))

own_literal : (kind : TokenKind) (quote : ℕ) (finds : Finds kind quote) (after rest : List ℕ) → is_ok (literal_piece kind quote after) ≡ true → piece_at (take (len_front (quote ∷ after)) (quote ∷ after) ++ rest) ≡ piece_at (quote ∷ after)
own_literal kind quote finds after rest ok =
    let parts = parts_of kind quote after ok in
    let goal : List ℕ → Type 0 = λ xs. quoted_len quote xs ≡ length parts.0 → is_ok (literal_piece kind quote xs) ≡ true → piece_at (take (len_front (quote ∷ xs)) (quote ∷ xs) ++ rest) ≡ piece_at (quote ∷ xs) in
    subst goal (sym parts.2) (own_parts kind quote finds parts.0 parts.1 rest) parts.3 ok

char_found : Finds kinds.Char 39
unfolding Finds piece_at
char_found after = refl

string_found : Finds kinds.Str 34
unfolding Finds piece_at
string_found after = refl

pub own_char : (after rest : List ℕ) → is_ok (piece_at (39 ∷ after)) ≡ true → piece_at (take (len_front (39 ∷ after)) (39 ∷ after) ++ rest) ≡ piece_at (39 ∷ after)
unfolding Finds
own_char after rest ok = own_literal kinds.Char 39 char_found after rest (sym (along (char_found after) is_ok) ∙ ok)

pub own_string : (after rest : List ℕ) → is_ok (piece_at (34 ∷ after)) ≡ true → piece_at (take (len_front (34 ∷ after)) (34 ∷ after) ++ rest) ≡ piece_at (34 ∷ after)
unfolding Finds
own_string after rest ok = own_literal kinds.Str 34 string_found after rest (sym (along (string_found after) is_ok) ∙ ok)

-- ---- comments up to `*/`

and_false : (b : Bool) → (b && false) ≡ false
and_false true = refl
and_false false = refl

-- what begins with `*/`
closing_of : (bytes : List ℕ) → starts_with nat_eq bytes (codes "*/") ≡ true → (tail : List ℕ) × (bytes ≡ 42 ∷ 47 ∷ tail)
closing_of [] e = absurd (cc)
closing_of (a ∷ []) e = absurd (cc (sym (and_false (nat_eq 42 a)) ∙ e))
closing_of (a ∷ b ∷ bytes) e =
    let first = both_of (nat_eq 42 a) (nat_eq 47 b && true) e in
    let second = both_of (nat_eq 47 b) true first.1 in
    (bytes, ap (λ (x : ℕ). x ∷ b ∷ bytes) (sym (eqb-true 42 a first.0)) ∙ ap (λ (x : ℕ). 42 ∷ x ∷ bytes) (sym (eqb-true 47 b second.0)))

-- the text of a comment, and what follows it
comment_parts : (more : List ℕ) (o : Option ℕ) → close_of more ≡ o → is_ok (closed_comment o) ≡ true → (inner : List ℕ) × (tail : List ℕ) × (more ≡ inner ++ 42 ∷ 47 ∷ tail) × (close_of more ≡ Some (length inner))
unfolding close_of
comment_parts more None e ok = absurd (cc)
comment_parts more (Some at) e ok =
    let found = position-Some (is_close more) (range_with_len 0 (length more)) at 0 e in
    let below : at < length more = omega (arith, found.0, length-range_with_len 0 (length more)) in
    let place = get_or-range_with_len 0 (length more) at 0 below ∙ zero-add at in
    let closes = closing_of (drop at more) (sym (ap (λ (k : ℕ). is_close more k) place) ∙ found.1) in
    let inner_len : length (take at more) ≡ at = omega (arith, below, length-take at more) in (
      take at more,
      closes.0,
      sym (take-append-drop at more) ∙ ap (λ (xs : List ℕ). take at more ++ xs) closes.1,
      e ∙ ap (λ (n : ℕ). Some n) (sym inner_len),
    )

cut_comment : (inner tail rest : List ℕ) → take (length inner + 4) (47 ∷ 42 ∷ (inner ++ 42 ∷ 47 ∷ tail)) ++ rest ≡ 47 ∷ 42 ∷ (inner ++ 42 ∷ 47 ∷ rest)
cut_comment inner tail rest =
    let len : length inner + 4 ≡ suc (suc (length inner + 2)) = omega arith in
    ap (λ (n : ℕ). take n (47 ∷ 42 ∷ (inner ++ 42 ∷ 47 ∷ tail)) ++ rest) len
    ∙ ap (λ (xs : List ℕ). 47 ∷ 42 ∷ (xs ++ rest)) (take-append-add inner (42 ∷ 47 ∷ tail) 2)
    ∙ ap (λ (xs : List ℕ). 47 ∷ 42 ∷ xs) (append_assoc inner (42 ∷ 47 ∷ []) rest)

own_comment_parts : (inner tail rest : List ℕ) → close_of (inner ++ 42 ∷ 47 ∷ tail) ≡ Some (length inner) → piece_at (take (len_front (47 ∷ 42 ∷ (inner ++ 42 ∷ 47 ∷ tail))) (47 ∷ 42 ∷ (inner ++ 42 ∷ 47 ∷ tail)) ++ rest) ≡ piece_at (47 ∷ 42 ∷ (inner ++ 42 ∷ 47 ∷ tail))
own_comment_parts inner tail rest e =
    let is = block_at (inner ++ 42 ∷ 47 ∷ tail) ∙ along e (λ (o : Option ℕ). closed_comment o) in
    along (along is (λ r. on_ok r (λ piece. piece.len) 0)) (λ (n : ℕ). piece_at (take n (47 ∷ 42 ∷ (inner ++ 42 ∷ 47 ∷ tail)) ++ rest))
    ∙ along (cut_comment inner tail rest) (λ (text : List ℕ). piece_at text)
    ∙ block_at (inner ++ 42 ∷ 47 ∷ rest)
    ∙ along (block_close inner tail rest e) (λ (o : Option ℕ). closed_comment o)
    ∙ sym is

pub own_comment : (more rest : List ℕ) → is_ok (piece_at (47 ∷ 42 ∷ more)) ≡ true → piece_at (take (len_front (47 ∷ 42 ∷ more)) (47 ∷ 42 ∷ more) ++ rest) ≡ piece_at (47 ∷ 42 ∷ more)
own_comment more rest ok =
    let parts = comment_parts more (close_of more) refl (sym (along (block_at more) is_ok) ∙ ok) in
    let goal : List ℕ → Type 0 = λ xs. close_of xs ≡ Some (length parts.0) → piece_at (take (len_front (47 ∷ 42 ∷ xs)) (47 ∷ 42 ∷ xs) ++ rest) ≡ piece_at (47 ∷ 42 ∷ xs) in
    subst goal (sym parts.2) (own_comment_parts parts.0 parts.1 rest) parts.3
