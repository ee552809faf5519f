-- A sign that is cut out of a source reads as it did there, unless what follows lengthens it; and so for all pieces.
use Rattle.std.proofs.Common.{◌≡◌, ℕ, ◌+◌, ◌==◌, Bool, true, false, cond, not, ◌&&◌, ◌||◌, List, [], ◌∷◌, ◌++◌, length, take, drop, refl, ap, sym, subst, ◌∙◌, find, Option, Some, None, is_ok, nat_eq, codes, ◌⊎◌, inl, inr, eqb-true}
use Rattle.std.specs.List.{starts_with}
use Rattle.std.proofs.Math.Seq.{take-append_seam}
use Rattle.std.proofs.lemmas.List.{append-nil}
use Rattle.std.proofs.lemmas.Bool.{and_parts as both_of, or_cases as either_of}
use Rattle.sr_tree.specs.declared.token.Sign.{Sign}
use Rattle.sr_tree.specs.declared.token.Sign.TheVariants.{Exchange, Assign, Colon, Arrow, Decrement, Minus, Increment, Plus, Star, Parallel, Slash, Percent, Join, Equal, NotEqual, LessEqual, Less, GreaterEqual, Greater, OpenParen, CloseParen, Alternative, OpenBracket, CloseBracket, OpenBrace, CloseBrace, Comma, Point, Query}
use Rattle.sr_lexer.specs.Bytes.{class_of, is_blank, is_digit, is_letter, is_name_byte}
use Rattle.sr_lexer.specs.Symbols.{signs, sign_spelling, begins_with_sign, listed_sign, sign_at}
use Rattle.sr_lexer.specs.Pieces.{first_passes, signed_piece, sign_piece, piece_of_class, piece_at}
use Rattle.sr_spelling.specs.Longer.{lengthens, lengthens_found, touches, touches_comment, touches_sign}
use Rattle.sr_spelling.proofs.Alone.{along, split, not_blank}
use Rattle.sr_spelling.proofs.Signs.{sign_alone}
use Rattle.sr_spelling.proofs.Own.{on_ok, len_front, Own, own_name, own_line, own_number}
use Rattle.sr_spelling.proofs.OwnQuoted.{own_char, own_string, own_comment}

-- ---- the sign in front

-- what begins with some bytes is these and more
pub front_is : (a bytes : List ℕ) → starts_with nat_eq bytes a ≡ true → (tail : List ℕ) × (bytes ≡ a ++ tail)
front_is [] bytes e = (bytes, refl)
front_is (x ∷ a) [] e = absurd (cc)
front_is (x ∷ a) (z ∷ bytes) e =
    let both = both_of (nat_eq x z) (starts_with nat_eq bytes a) e in
    let rest = front_is a bytes both.1 in
    (rest.0, ap (λ (b : ℕ). b ∷ bytes) (sym (eqb-true x z both.0)) ∙ ap (λ (xs : List ℕ). x ∷ xs) rest.1)

found_step : (p : Sign → Bool) (x g : Sign) (rest : Option Sign) (b : Bool) → p x ≡ b → cond b (Some x) rest ≡ Some g → (rest ≡ Some g → p g ≡ true) → p g ≡ true
found_step p x g rest true e f more = let same : x ≡ g = cc in ap p (sym same) ∙ e
found_step p x g rest false e f more = more f

found_passes : (p : Sign → Bool) (xs : List Sign) (g : Sign) → find p xs ≡ Some g → p g ≡ true
found_passes p [] g e = absurd (cc)
found_passes p (x ∷ xs) g e = found_step p x g (find p xs) (p x) refl e (found_passes p xs g)

pub listed_front : (bytes : List ℕ) (sign : Sign) → listed_sign bytes ≡ Some sign → (tail : List ℕ) × (bytes ≡ sign_spelling sign ++ tail)
unfolding listed_sign
listed_front bytes sign e = front_is (sign_spelling sign) bytes (found_passes (begins_with_sign bytes) signs sign e)

-- each sign reads as itself
pub sign_reads : (sign : Sign) → piece_at (sign_spelling sign) ≡ signed_piece (Some sign)
unfolding piece_at listed_sign
sign_reads Exchange = refl
sign_reads Assign = refl
sign_reads Colon = refl
sign_reads Arrow = refl
sign_reads Decrement = refl
sign_reads Minus = refl
sign_reads Increment = refl
sign_reads Plus = refl
sign_reads Star = refl
sign_reads Parallel = refl
sign_reads Slash = refl
sign_reads Percent = refl
sign_reads Join = refl
sign_reads Equal = refl
sign_reads NotEqual = refl
sign_reads LessEqual = refl
sign_reads Less = refl
sign_reads GreaterEqual = refl
sign_reads Greater = refl
sign_reads OpenParen = refl
sign_reads CloseParen = refl
sign_reads Alternative = refl
sign_reads OpenBracket = refl
sign_reads CloseBracket = refl
sign_reads OpenBrace = refl
sign_reads CloseBrace = refl
sign_reads Comma = refl
sign_reads Point = refl
sign_reads Query = refl

pub sign_before : (sign : Sign) (rest : List ℕ) → first_passes (lengthens sign) rest ≡ false → piece_at (sign_spelling sign ++ rest) ≡ piece_at (sign_spelling sign)
sign_before sign [] e = ap piece_at (append-nil (sign_spelling sign))
sign_before sign (byte ∷ rest) e = sign_alone sign byte rest e

-- a sign as it is listed
own_listed : (bytes tail : List ℕ) (sign : Sign) (rest : List ℕ) → bytes ≡ sign_spelling sign ++ tail → piece_at bytes ≡ signed_piece (Some sign) → first_passes (lengthens sign) rest ≡ false → piece_at (take (len_front bytes) bytes ++ rest) ≡ piece_at bytes
own_listed bytes tail sign rest e is ends =
    along (along is (λ r. on_ok r (λ piece. piece.len) 0)) (λ (n : ℕ). piece_at (take n bytes ++ rest))
    ∙ along (ap (λ (xs : List ℕ). take (length (sign_spelling sign)) xs) e ∙ take-append_seam (sign_spelling sign) tail) (λ (text : List ℕ). piece_at (text ++ rest))
    ∙ sign_before sign rest ends
    ∙ sign_reads sign
    ∙ sym is

own_tilde : (tail rest : List ℕ) → piece_at (take (len_front (126 ∷ 61 ∷ tail)) (126 ∷ 61 ∷ tail) ++ rest) ≡ piece_at (126 ∷ 61 ∷ tail)
unfolding piece_at
own_tilde tail rest = refl

own_found : (bytes rest : List ℕ) (o : Option Sign) → sign_at bytes ≡ o → piece_at bytes ≡ signed_piece o → is_ok (signed_piece o) ≡ true → lengthens_found o rest ≡ false → piece_at (take (len_front bytes) bytes ++ rest) ≡ piece_at bytes
own_found bytes rest None e is ok ends = absurd (cc)
own_found bytes rest (Some sign) e is ok ends =
    elim (split (starts_with nat_eq bytes (codes "~="))) [
      | inl tilde ↦
          (let front = front_is (codes "~=") bytes tilde in
          subst (λ (xs : List ℕ). piece_at (take (len_front xs) xs ++ rest) ≡ piece_at xs) (sym front.1) (own_tilde front.0 rest))
      | inr none ↦
          (let listed : listed_sign bytes ≡ Some sign = sym (along none (λ (b : Bool). cond b (Some NotEqual) (listed_sign bytes))) ∙ e in
          let front = listed_front bytes sign listed in
          own_listed bytes front.0 sign rest front.1 is ends)
    ]

-- ---- all pieces

-- by the class of the first byte
pub other_class : (byte : ℕ) → is_blank byte ≡ false → (byte == 10) ≡ false → (byte == 35) ≡ false → (byte == 39) ≡ false → (byte == 34) ≡ false → is_digit byte ≡ false → is_letter byte ≡ false → class_of byte ≡ class_of 33
other_class byte a b c d e f g = rw (a, b, c, d, e, f, g) refl

pub other_is : (byte : ℕ) (more : List ℕ) → class_of byte ≡ class_of 33 → piece_at (byte ∷ more) ≡ sign_piece (byte ∷ more)
unfolding piece_at
other_is byte more e = along e (λ class. piece_of_class class (byte ∷ more))

-- neither a comment nor `;`
pub signed_is : (bytes : List ℕ) → starts_with nat_eq bytes (codes "/*") ≡ false → starts_with nat_eq bytes (codes ";") ≡ false → sign_piece bytes ≡ signed_piece (sign_at bytes)
signed_is bytes comment separator = rw (comment, separator) refl

own_separator : (more rest : List ℕ) → piece_at (take (len_front (59 ∷ more)) (59 ∷ more) ++ rest) ≡ piece_at (59 ∷ more)
unfolding piece_at
own_separator more rest = refl

-- nothing begins at the end
none_at_end : is_ok (piece_at []) ≡ true → ⊥
unfolding piece_at listed_sign
none_at_end e = cc

-- a blank or a newline
own_tab : (more : List ℕ) → Own (9 ∷ more)
unfolding piece_at
own_tab more = λ rest ends. refl

own_return : (more : List ℕ) → Own (13 ∷ more)
unfolding piece_at
own_return more = λ rest ends. refl

own_blank : (more : List ℕ) → Own (32 ∷ more)
unfolding piece_at
own_blank more = λ rest ends. refl

own_newline : (more : List ℕ) → Own (10 ∷ more)
unfolding piece_at
own_newline more = λ rest ends. refl

pub where_true : (c a b : Bool) → c ≡ true → cond c a b ≡ false → a ≡ false
where_true true a b e f = f
where_true false a b e f = absurd (cc)

pub where_false : (c a b : Bool) → c ≡ false → cond c a b ≡ false → b ≡ false
where_false true a b e f = absurd (cc)
where_false false a b e f = f

-- by the first byte
here : (byte known : ℕ) (more : List ℕ) → (byte == known) ≡ true → (is_ok (piece_at (known ∷ more)) ≡ true → Own (known ∷ more)) → is_ok (piece_at (byte ∷ more)) ≡ true → Own (byte ∷ more)
here byte known more e own = let at : ℕ → Type 0 = λ b. is_ok (piece_at (b ∷ more)) ≡ true → Own (b ∷ more) in subst at (sym (eqb-true byte known e)) own

-- a sign, a separator or a comment up to `*/`
own_other : (byte : ℕ) (more : List ℕ) → class_of byte ≡ class_of 33 → (is_letter byte || is_digit byte) ≡ false → (byte == 35) ≡ false → is_ok (piece_at (byte ∷ more)) ≡ true → Own (byte ∷ more)
own_other byte more class word hash ok =
    elim (split (starts_with nat_eq (byte ∷ more) (codes "/*"))) [
      | inl comment ↦
          (let front = front_is (codes "/*") (byte ∷ more) comment in
          let at : List ℕ → Type 0 = λ xs. is_ok (piece_at xs) ≡ true → Own xs in
          subst at (sym front.1) (λ ok rest ends. own_comment front.0 rest ok) ok)
      | inr comment ↦
          elim (split (starts_with nat_eq (byte ∷ more) (codes ";"))) [
            | inl separator ↦
                (let front = front_is (codes ";") (byte ∷ more) separator in
                subst Own (sym front.1) (λ rest ends. own_separator front.0 rest))
            | inr separator ↦
                (let is = other_is byte more class ∙ signed_is (byte ∷ more) comment separator in
                λ rest ends.
                let left = where_false (is_letter byte || is_digit byte) (first_passes is_name_byte rest) (touches_comment (byte ∷ more) rest) word ends in
                let last = where_false (byte == 35) (first_passes (λ b. not (b == 10)) rest) (touches_sign (byte ∷ more) rest) hash left in
                let found = where_false (starts_with nat_eq (byte ∷ more) (codes "/*")) false (lengthens_found (sign_at (byte ∷ more)) rest) comment last in
                own_found (byte ∷ more) rest (sign_at (byte ∷ more)) refl is (sym (along is is_ok) ∙ ok) found)
          ]
    ]

own_quotes : (byte : ℕ) (more : List ℕ) → is_blank byte ≡ false → (byte == 10) ≡ false → (byte == 35) ≡ false → is_digit byte ≡ false → is_letter byte ≡ false → is_ok (piece_at (byte ∷ more)) ≡ true → Own (byte ∷ more)
own_quotes byte more blank newline hash digit letter ok =
    elim (split (byte == 39)) [
      | inl e ↦ here byte 39 more e (λ ok rest ends. own_char more rest ok) ok
      | inr apostrophe ↦
          elim (split (byte == 34)) [
            | inl e ↦ here byte 34 more e (λ ok rest ends. own_string more rest ok) ok
            | inr quote ↦
                (let word : (is_letter byte || is_digit byte) ≡ false = along letter (λ (b : Bool). b || is_digit byte) ∙ digit in
                own_other byte more (other_class byte blank newline hash apostrophe quote digit letter) word hash ok)
          ]
    ]

own_gaps : (byte : ℕ) (more : List ℕ) → is_digit byte ≡ false → is_letter byte ≡ false → is_ok (piece_at (byte ∷ more)) ≡ true → Own (byte ∷ more)
own_gaps byte more digit letter ok =
    elim (split (byte == 9)) [
      | inl e ↦ here byte 9 more e (λ _. own_tab more) ok
      | inr a ↦
          elim (split (byte == 13)) [
            | inl e ↦ here byte 13 more e (λ _. own_return more) ok
            | inr b ↦
                elim (split (byte == 32)) [
                  | inl e ↦ here byte 32 more e (λ _. own_blank more) ok
                  | inr c ↦
                      elim (split (byte == 10)) [
                        | inl e ↦ here byte 10 more e (λ _. own_newline more) ok
                        | inr newline ↦
                            elim (split (byte == 35)) [
                              | inl e ↦ here byte 35 more e (λ _ rest ends. own_line more rest ends) ok
                              | inr hash ↦ own_quotes byte more (not_blank byte a b c) newline hash digit letter ok
                            ]
                      ]
                ]
          ]
    ]

-- a piece that is cut out of a source reads as it did there, whatever follows it, unless that goes on with it
pub own_text : (bytes : List ℕ) → is_ok (piece_at bytes) ≡ true → Own bytes
own_text [] ok = absurd (none_at_end ok)
own_text (byte ∷ more) ok =
    elim (split (is_letter byte)) [
      | inl letter ↦
          (let word : (is_letter byte || is_digit byte) ≡ true = along letter (λ (b : Bool). b || is_digit byte) in
          λ rest ends. own_name byte more rest letter (where_true (is_letter byte || is_digit byte) (first_passes is_name_byte rest) (touches_comment (byte ∷ more) rest) word ends))
      | inr letter ↦
          elim (split (is_digit byte)) [
            | inl digit ↦
                (let word : (is_letter byte || is_digit byte) ≡ true = along letter (λ (b : Bool). b || is_digit byte) ∙ digit in
                λ rest ends. own_number byte more rest digit ok (where_true (is_letter byte || is_digit byte) (first_passes is_name_byte rest) (touches_comment (byte ∷ more) rest) word ends))
            | inr digit ↦ own_gaps byte more digit letter ok
          ]
    ]
