-- What begins at the front of some bytes: a gap, or a token.
use Rattle.std.proofs.Common.{◌≡◌, ℕ, zero, suc, ◌+◌, ◌==◌, Bool, true, false, cond, ◌&&◌, ◌||◌, List, [], ◌∷◌, ◌++◌, take, drop, refl, ap, sym, subst, ◌∙◌, Option, Some, None, Result, Ok, Err, is_ok, nat_eq, codes, ◌⊎◌, inl, inr, eqb-true}
use Rattle.std.specs.List.{starts_with}
use lib.Pointwise.{pointwise}
use Rattle.sr_value.specs.declared.place.Span.{Span}
use Rattle.sr_tree.specs.declared.token.Sign.{Sign}
use Rattle.sr_tree.specs.declared.token.Token.{Token}
use Rattle.sr_tree.specs.declared.token.TokenKind.{TokenKind}
use Rattle.sr_tree.specs.declared.token.TokenKind.TheVariants as kinds
use Rattle.sr_lexer.specs.Bytes.{class_of, is_blank, is_digit, is_letter, is_name_byte}
use Rattle.sr_lexer.specs.Symbols.{word_of, listed_sign, sign_at}
use Rattle.sr_lexer.specs.Pieces.{run_len, close_of, closed_comment, name_kind, name_piece, is_number, number_piece, is_literal, quoted_piece, literal_piece, signed_piece, sign_piece, piece_of_class, piece_at}
use Rattle.sr_lexer.specs.Separators.{Placed, separators, token_of, tokens_at}
use Rattle.sr_fmt.specs.declared.gap.Gap.{Gap}
use Rattle.sr_fmt.specs.Gaps.{closed_gap, gap_at}
use Rattle.sr_fmt.specs.Layout.{is_comment}

-- ---- words for results

abbrev pub on_ok : {A E B : Type 0} → Result A E → (A → B) → B → B
on_ok (Ok x) f d = f x
on_ok (Err e) f d = d

pub along : {A B : Type 0} {x y : A} → x ≡ y → (f : A → B) → f x ≡ f y
along e f = ap f e

split : (b : Bool) → (b ≡ true) ⊎ (b ≡ false)
split true = inl refl
split false = inr refl

-- how many bytes the piece in front has
abbrev pub len_front : List ℕ → ℕ
len_front bytes = on_ok (piece_at bytes) (λ piece. piece.len) 0

-- the tokens that it adds
abbrev pub tokens_front : List ℕ → List Placed → List ℕ → Span → List Token
tokens_front bytes before text span = on_ok (piece_at bytes) (λ piece. tokens_at before piece.kind text span) []

-- the token of this kind, after the separator before it
abbrev pub told_after : List Placed → TokenKind → List ℕ → Span → List Token
told_after before kind text span = separators before kind ++ token_of kind text span ∷ []

pub record GapFront (bytes : List ℕ) (g : Gap) : Type 0 where
  pub len : len_front bytes ≡ g.len
  pub comment : (n : ℕ) → is_comment (take (suc n) bytes) ≡ g.is_comment
  pub tokens : (before : List Placed) (text : List ℕ) (span : Span) → tokens_front bytes before text span ≡ []

pub record TokenFront (bytes : List ℕ) : Type 0 where
  pub kind : TokenKind
  pub tokens : (before : List Placed) (text : List ℕ) (span : Span) → tokens_front bytes before text span ≡ told_after before kind text span
  pub no_newline : (n : ℕ) → pointwise nat_eq (take n bytes) (10 ∷ []) ≡ false

abbrev pub FrontIs : List ℕ → Option Gap → Type 0
FrontIs bytes (Some g) = GapFront bytes g
FrontIs bytes None = TokenFront bytes

-- ---- gaps

-- one byte that is no comment
space_front : (byte : ℕ) (more : List ℕ) → len_front (byte ∷ more) ≡ 1 → (byte == 35 || byte == 47) ≡ false → ((before : List Placed) (text : List ℕ) (span : Span) → tokens_front (byte ∷ more) before text span ≡ []) → GapFront (byte ∷ more) (record { is_comment = false; len = 1 })
space_front byte more len comment tokens = record { len = len; comment = λ _. comment; tokens = tokens }

tab_front : (more : List ℕ) → FrontIs (9 ∷ more) (gap_at (9 ∷ more))
unfolding piece_at
tab_front more = space_front 9 more refl refl (λ _ _ _. refl)

return_front : (more : List ℕ) → FrontIs (13 ∷ more) (gap_at (13 ∷ more))
unfolding piece_at
return_front more = space_front 13 more refl refl (λ _ _ _. refl)

blank_front : (more : List ℕ) → FrontIs (32 ∷ more) (gap_at (32 ∷ more))
unfolding piece_at
blank_front more = space_front 32 more refl refl (λ _ _ _. refl)

newline_front : (more : List ℕ) → FrontIs (10 ∷ more) (gap_at (10 ∷ more))
unfolding piece_at
newline_front more = space_front 10 more refl refl (λ _ _ _. refl)

hash_front : (more : List ℕ) → FrontIs (35 ∷ more) (gap_at (35 ∷ more))
unfolding piece_at
hash_front more = record { len = refl; comment = λ _. refl; tokens = λ _ _ _. refl }

-- `/*`
pub block_is : (more : List ℕ) → starts_with nat_eq (47 ∷ more) (codes "/*") ≡ true → piece_at (47 ∷ more) ≡ closed_comment (close_of (drop 2 (47 ∷ more)))
unfolding piece_at
block_is more e = rw e refl

block_front : (more : List ℕ) (o : Option ℕ) → close_of (drop 2 (47 ∷ more)) ≡ o → starts_with nat_eq (47 ∷ more) (codes "/*") ≡ true → is_ok (piece_at (47 ∷ more)) ≡ true → FrontIs (47 ∷ more) (closed_gap o)
block_front more None f e ok =
    let bad : false ≡ true = sym (along (block_is more e) is_ok ∙ along f (λ (o : Option ℕ). is_ok (closed_comment o))) ∙ ok in
    absurd (cc)
block_front more (Some at) f e ok = record {
  len = along (block_is more e) (λ r. on_ok r (λ piece. piece.len) 0) ∙ along f (λ (o : Option ℕ). on_ok (closed_comment o) (λ piece. piece.len) 0);
  comment = λ _. refl;
  tokens = λ before text span. along (block_is more e) (λ r. on_ok r (λ piece. tokens_at before piece.kind text span) []) ∙ along f (λ (o : Option ℕ). on_ok (closed_comment o) (λ piece. tokens_at before piece.kind text span) []);
}

-- ---- tokens

-- the text of a token doesn't begin with a newline
no_newline : (byte : ℕ) (more : List ℕ) → (byte == 10) ≡ false → (n : ℕ) → pointwise nat_eq (take n (byte ∷ more)) (10 ∷ []) ≡ false
no_newline byte more e zero = refl
no_newline byte more e (suc n) = along e (λ (b : Bool). b && pointwise nat_eq (take n more) [])

quoted_tokens : (kind : TokenKind) (quote : ℕ) (inner rest : List ℕ) (bad : Option ℕ) → is_ok (quoted_piece kind quote inner rest bad) ≡ true → (before : List Placed) (text : List ℕ) (span : Span) → on_ok (quoted_piece kind quote inner rest bad) (λ piece. tokens_at before piece.kind text span) [] ≡ told_after before kind text span
quoted_tokens kind quote inner rest (Some at) ok before text span = absurd (cc)
quoted_tokens kind quote inner rest None ok before text span =
    elim (split (is_literal kind quote inner rest)) [
      | inl e ↦ rw e refl
      | inr e ↦ (let bad : false ≡ true = rw e at ok in absurd (cc))
    ]

pub literal_tokens : (kind : TokenKind) (quote : ℕ) (after : List ℕ) → is_ok (literal_piece kind quote after) ≡ true → (before : List Placed) (text : List ℕ) (span : Span) → on_ok (literal_piece kind quote after) (λ piece. tokens_at before piece.kind text span) [] ≡ told_after before kind text span
literal_tokens kind quote after ok before text span = quoted_tokens kind quote _ _ _ ok before text span

pub number_tokens : (bytes : List ℕ) → is_ok (number_piece bytes) ≡ true → (before : List Placed) (text : List ℕ) (span : Span) → on_ok (number_piece bytes) (λ piece. tokens_at before piece.kind text span) [] ≡ told_after before kinds.Number text span
number_tokens bytes ok before text span =
    elim (split (is_number (take (run_len is_digit bytes) bytes) (drop (run_len is_digit bytes) bytes))) [
      | inl e ↦ rw e refl
      | inr e ↦ (let bad : false ≡ true = rw e at ok in absurd (cc))
    ]

signed_token : (found : Option Sign) → is_ok (signed_piece found) ≡ true → (kind : TokenKind) × ((before : List Placed) (text : List ℕ) (span : Span) → on_ok (signed_piece found) (λ piece. tokens_at before piece.kind text span) [] ≡ told_after before kind text span)
signed_token None ok = absurd (cc)
signed_token (Some sign) ok = (kinds.Sign sign, λ _ _ _. refl)

-- the class of the first byte: that of `0`, of `a`, or of `!`
digit_class : (byte : ℕ) → is_blank byte ≡ false → (byte == 10) ≡ false → (byte == 35) ≡ false → (byte == 39) ≡ false → (byte == 34) ≡ false → is_digit byte ≡ true → class_of byte ≡ class_of 48
digit_class byte a b c d e f = rw (a, b, c, d, e, f) refl

letter_class : (byte : ℕ) → is_blank byte ≡ false → (byte == 10) ≡ false → (byte == 35) ≡ false → (byte == 39) ≡ false → (byte == 34) ≡ false → is_digit byte ≡ false → is_letter byte ≡ true → class_of byte ≡ class_of 97
letter_class byte a b c d e f g = rw (a, b, c, d, e, f, g) refl

other_class : (byte : ℕ) → is_blank byte ≡ false → (byte == 10) ≡ false → (byte == 35) ≡ false → (byte == 39) ≡ false → (byte == 34) ≡ false → is_digit byte ≡ false → is_letter byte ≡ false → class_of byte ≡ class_of 33
other_class byte a b c d e f g = rw (a, b, c, d, e, f, g) refl

-- the piece by the first byte
digit_is : (byte : ℕ) (more : List ℕ) → is_blank byte ≡ false → (byte == 10) ≡ false → (byte == 35) ≡ false → (byte == 39) ≡ false → (byte == 34) ≡ false → is_digit byte ≡ true → piece_at (byte ∷ more) ≡ number_piece (byte ∷ more)
unfolding piece_at
digit_is byte more a b c d e f = along (digit_class byte a b c d e f) (λ class. piece_of_class class (byte ∷ more))

name_is : (byte : ℕ) (more : List ℕ) → is_blank byte ≡ false → (byte == 10) ≡ false → (byte == 35) ≡ false → (byte == 39) ≡ false → (byte == 34) ≡ false → is_digit byte ≡ false → is_letter byte ≡ true → piece_at (byte ∷ more) ≡ Ok (name_piece (byte ∷ more))
unfolding piece_at
name_is byte more a b c d e f g = along (letter_class byte a b c d e f g) (λ class. piece_of_class class (byte ∷ more))

sign_is : (byte : ℕ) (more : List ℕ) → is_blank byte ≡ false → (byte == 10) ≡ false → (byte == 35) ≡ false → (byte == 39) ≡ false → (byte == 34) ≡ false → is_digit byte ≡ false → is_letter byte ≡ false → piece_at (byte ∷ more) ≡ sign_piece (byte ∷ more)
unfolding piece_at
sign_is byte more a b c d e f g = along (other_class byte a b c d e f g) (λ class. piece_of_class class (byte ∷ more))

-- a sign or a separator
sign_front : (byte : ℕ) (more : List ℕ) → (byte == 10) ≡ false → piece_at (byte ∷ more) ≡ sign_piece (byte ∷ more) → starts_with nat_eq (byte ∷ more) (codes "/*") ≡ false → is_ok (piece_at (byte ∷ more)) ≡ true → TokenFront (byte ∷ more)
sign_front byte more newline is comment ok =
    elim (split (starts_with nat_eq (byte ∷ more) (codes ";"))) [
      | inl e ↦
          record {
            kind = kinds.Separator;
            tokens = λ before text span. along is (λ r. on_ok r (λ piece. tokens_at before piece.kind text span) []) ∙ rw (comment, e) refl;
            no_newline = no_newline byte more newline;
          }
      | inr e ↦
          (let signed : sign_piece (byte ∷ more) ≡ signed_piece (sign_at (byte ∷ more)) = rw (comment, e) refl in
          let token = signed_token (sign_at (byte ∷ more)) (sym (along (is ∙ signed) is_ok) ∙ ok) in
          record {
            kind = token.0;
            tokens = λ before text span. along (is ∙ signed) (λ r. on_ok r (λ piece. tokens_at before piece.kind text span) []) ∙ token.1 before text span;
            no_newline = no_newline byte more newline;
          })
    ]

char_front : (more : List ℕ) → is_ok (piece_at (39 ∷ more)) ≡ true → TokenFront (39 ∷ more)
unfolding piece_at
char_front more ok = record {
  kind = kinds.Char;
  tokens = literal_tokens kinds.Char 39 (drop 1 (39 ∷ more)) ok;
  no_newline = no_newline 39 more refl;
}

string_front : (more : List ℕ) → is_ok (piece_at (34 ∷ more)) ≡ true → TokenFront (34 ∷ more)
unfolding piece_at
string_front more ok = record {
  kind = kinds.Str;
  tokens = literal_tokens kinds.Str 34 (drop 1 (34 ∷ more)) ok;
  no_newline = no_newline 34 more refl;
}

slash_front : (more : List ℕ) → is_ok (piece_at (47 ∷ more)) ≡ true → FrontIs (47 ∷ more) (gap_at (47 ∷ more))
slash_front more ok =
    elim (split (starts_with nat_eq (47 ∷ more) (codes "/*"))) [
      | inl e ↦
          subst (FrontIs (47 ∷ more)) (sym (along e (λ (b : Bool). cond b (closed_gap (close_of (drop 2 (47 ∷ more)))) None)))
          (block_front more (close_of (drop 2 (47 ∷ more))) refl e ok)
      | inr e ↦
          subst (FrontIs (47 ∷ more)) (sym (along e (λ (b : Bool). cond b (closed_gap (close_of (drop 2 (47 ∷ more)))) None)))
          (sign_front 47 more refl (sign_is 47 more refl refl refl refl refl refl refl) e ok)
    ]

-- any other byte
other_front : (byte : ℕ) (more : List ℕ) → is_blank byte ≡ false → (byte == 10) ≡ false → (byte == 35) ≡ false → nat_eq 47 byte ≡ false → (byte == 39) ≡ false → (byte == 34) ≡ false → is_ok (piece_at (byte ∷ more)) ≡ true → TokenFront (byte ∷ more)
other_front byte more a b c slash d e ok =
    elim (split (is_digit byte)) [
      | inl f ↦
          (let is = digit_is byte more a b c d e f in
          record {
            kind = kinds.Number;
            tokens = λ before text span. along is (λ r. on_ok r (λ piece. tokens_at before piece.kind text span) []) ∙ number_tokens (byte ∷ more) (sym (along is is_ok) ∙ ok) before text span;
            no_newline = no_newline byte more b;
          })
      | inr f ↦
          elim (split (is_letter byte)) [
            | inl g ↦
                record {
                  kind = name_kind (word_of (take (run_len is_name_byte more + 1) (byte ∷ more)));
                  tokens = λ before text span. along (name_is byte more a b c d e f g) (λ r. on_ok r (λ piece. tokens_at before piece.kind text span) []);
                  no_newline = no_newline byte more b;
                }
            | inr g ↦
                sign_front byte more b (sign_is byte more a b c d e f g) (along slash (λ (first : Bool). first && pointwise nat_eq (42 ∷ []) (take 1 more))) ok
          ]
    ]

not_blank : (byte : ℕ) → (byte == 9) ≡ false → (byte == 13) ≡ false → (byte == 32) ≡ false → is_blank byte ≡ false
not_blank byte a b c = rw (a, b, c) refl

no_gap : (byte : ℕ) (more : List ℕ) → is_blank byte ≡ false → (byte == 10) ≡ false → (byte == 35) ≡ false → nat_eq 47 byte ≡ false → None ≡ gap_at (byte ∷ more)
no_gap byte more a b c slash = rw (a, b, c, slash) refl

-- by the first byte
here : (byte : ℕ) (more : List ℕ) (known : ℕ) → (byte == known) ≡ true → (is_ok (piece_at (known ∷ more)) ≡ true → FrontIs (known ∷ more) (gap_at (known ∷ more))) → is_ok (piece_at (byte ∷ more)) ≡ true → FrontIs (byte ∷ more) (gap_at (byte ∷ more))
here byte more known e front =
    let at : ℕ → Type 0 = λ b. is_ok (piece_at (b ∷ more)) ≡ true → FrontIs (b ∷ more) (gap_at (b ∷ more)) in
    subst at (sym (eqb-true byte known e)) front

after_gaps : (byte : ℕ) (more : List ℕ) → is_blank byte ≡ false → (byte == 10) ≡ false → (byte == 35) ≡ false → nat_eq 47 byte ≡ false → is_ok (piece_at (byte ∷ more)) ≡ true → FrontIs (byte ∷ more) (gap_at (byte ∷ more))
after_gaps byte more a b c slash ok =
    subst (FrontIs (byte ∷ more)) (no_gap byte more a b c slash)
    (elim (split (byte == 39)) [
      | inl e ↦ subst (λ (n : ℕ). is_ok (piece_at (n ∷ more)) ≡ true → TokenFront (n ∷ more)) (sym (eqb-true byte 39 e)) (char_front more) ok
      | inr d ↦
          elim (split (byte == 34)) [
            | inl e ↦ subst (λ (n : ℕ). is_ok (piece_at (n ∷ more)) ≡ true → TokenFront (n ∷ more)) (sym (eqb-true byte 34 e)) (string_front more) ok
            | inr e ↦ other_front byte more a b c slash d e ok
          ]
    ])

after_blanks : (byte : ℕ) (more : List ℕ) → is_blank byte ≡ false → is_ok (piece_at (byte ∷ more)) ≡ true → FrontIs (byte ∷ more) (gap_at (byte ∷ more))
after_blanks byte more blank ok =
    elim (split (byte == 10)) [
      | inl e ↦ here byte more 10 e (λ _. newline_front more) ok
      | inr newline ↦
          elim (split (byte == 35)) [
            | inl e ↦ here byte more 35 e (λ _. hash_front more) ok
            | inr hash ↦
                elim (split (nat_eq 47 byte)) [
                  | inl e ↦ (let at : ℕ → Type 0 = λ b. is_ok (piece_at (b ∷ more)) ≡ true → FrontIs (b ∷ more) (gap_at (b ∷ more)) in subst at (eqb-true 47 byte e) (slash_front more) ok)
                  | inr slash ↦ after_gaps byte more blank newline hash slash ok
                ]
          ]
    ]

by_byte : (byte : ℕ) (more : List ℕ) → is_ok (piece_at (byte ∷ more)) ≡ true → FrontIs (byte ∷ more) (gap_at (byte ∷ more))
by_byte byte more ok =
    elim (split (byte == 9)) [
      | inl e ↦ here byte more 9 e (λ _. tab_front more) ok
      | inr a ↦
          elim (split (byte == 13)) [
            | inl e ↦ here byte more 13 e (λ _. return_front more) ok
            | inr b ↦
                elim (split (byte == 32)) [
                  | inl e ↦ here byte more 32 e (λ _. blank_front more) ok
                  | inr c ↦ after_blanks byte more (not_blank byte a b c) ok
                ]
          ]
    ]

-- nothing begins at the end
pub none_at_end : is_ok (piece_at []) ≡ true → ⊥
unfolding piece_at listed_sign
none_at_end e = cc

-- where a piece begins it is the gap that is found, or a token
pub front_is : (bytes : List ℕ) → is_ok (piece_at bytes) ≡ true → FrontIs bytes (gap_at bytes)
front_is [] ok = absurd (none_at_end ok)
front_is (byte ∷ more) ok = by_byte byte more ok
