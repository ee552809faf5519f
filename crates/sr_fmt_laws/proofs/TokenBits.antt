-- Each token and comment of a source reads in its canonical text as it did in the source.
use Rattle.std.proofs.Common.{◌≡◌, ℕ, zero, suc, ◌+◌, ◌<◌, ◌≤◌, ◌==◌, Bool, true, false, cond, ◌||◌, List, [], ◌∷◌, ◌++◌, length, take, drop, refl, ap, sym, subst, ◌∙◌, arith, Option, Some, None, is_ok, nat_eq, codes, ◌⊎◌, inl, inr, eqb-true}
use Rattle.std.specs.List.{starts_with}
use Rattle.std.proofs.Math.Seq.{take-append_seam}
use Rattle.std.proofs.lemmas.List.{length-take}
use Rattle.sr_value.specs.declared.place.Span.{Span}
use Rattle.sr_tree.specs.declared.token.Sign.{Sign}
use Rattle.sr_tree.specs.declared.token.Sign.TheVariants.{Exchange, Assign, Colon, Arrow, Decrement, Minus, Increment, Plus, Star, Parallel, Slash, Percent, Join, Equal, NotEqual, LessEqual, Less, GreaterEqual, Greater, OpenParen, CloseParen, Alternative, OpenBracket, CloseBracket, OpenBrace, CloseBrace, Comma, Point, Query}
use Rattle.sr_tree.specs.declared.token.Token.{Token}
use Rattle.sr_tree.specs.declared.token.TokenKind.{TokenKind}
use Rattle.sr_tree.specs.declared.token.TokenKind.TheVariants as kinds
use Rattle.sr_tree.specs.declared.token.Word.{Word}
use Rattle.sr_lexer.specs.Bytes.{is_blank, is_digit, is_letter, is_name_byte}
use Rattle.sr_lexer.specs.Symbols.{word_of, sign_spelling, listed_sign, sign_at}
use Rattle.sr_lexer.specs.Pieces.{first_passes, run_len, close_of, closed_comment, name_kind, signed_piece, sign_piece, piece_at, FitsIn}
use Rattle.sr_lexer.specs.Separators.{Placed, tokens_at}
use Rattle.sr_lexer.specs.Tokens.{BeginsAt}
use Rattle.sr_lexer.proofs.PieceLemmas.{piece_fits}
use Rattle.sr_fmt.specs.Layout.{spelled, kind_of, first_kind, is_comment}
use Rattle.sr_fmt.proofs.FrontLemmas.{on_ok, along, len_front, tokens_front, told_after, block_is, number_tokens, literal_tokens, none_at_end}
use Rattle.sr_fmt.proofs.ToldLemmas.{begins_tokens, begins_text}
use Rattle.sr_spelling.specs.Longer.{lengthens_found, touches, touches_comment}
use Rattle.sr_spelling.proofs.Alone.{split, not_blank, name_at, number_at}
use Rattle.sr_spelling.proofs.Bits.{ok_of}
use Rattle.sr_spelling.proofs.OwnSigns.{front_is as starts_as, listed_front, sign_reads, sign_before, other_class, other_is, signed_is, own_text}
use Rattle.sr_fmt_laws.specs.Bits.{Bit, gap_bit, token_bit}
use Rattle.sr_fmt_laws.proofs.Touching.{touches_by, sign_byte, FirstIs}

-- ---- what a bit reads as

abbrev pub told_as : List Placed → Option TokenKind → List ℕ → Span → List Token
told_as before None text span = []
told_as before (Some kind) text span = told_after before kind text span

-- before these bytes the bit reads as what it is
pub record ReadsAs (bit : Bit) (rest : List ℕ) : Type 0 where
  pub ok : is_ok (piece_at (bit.text ++ rest)) ≡ true
  pub len : len_front (bit.text ++ rest) ≡ length bit.text
  pub told : (before : List Placed) (text : List ℕ) (span : Span) → tokens_front (bit.text ++ rest) before text span ≡ told_as before bit.kind text span

-- a token reads as itself before all that it doesn't go on with
pub record IsTokenBit (kind : TokenKind) (text : List ℕ) : Type 0 where
  pub byte : ℕ
  pub more : List ℕ
  pub bytes : text ≡ byte ∷ more
  pub first : FirstIs kind byte
  pub reads : (rest : List ℕ) → touches_by kind rest ≡ false → ReadsAs (token_bit kind text) rest

-- a comment before a newline
abbrev pub IsCommentBit : List ℕ → Type 0
IsCommentBit text = (rest : List ℕ) → ReadsAs (gap_bit text) (10 ∷ rest)

-- ---- what is cut out of a source

pub fits_len : (bytes : List ℕ) → 0 < length bytes → is_ok (piece_at bytes) ≡ true → (0 < len_front bytes) × (len_front bytes ≤ length bytes)
fits_len bytes some ok =
    let found = ok_of (piece_at bytes) ok in
    let fits = subst (FitsIn bytes) found.1 (piece_fits bytes some) in
    let len : len_front bytes ≡ found.0.len = along found.1 (λ r. on_ok r (λ piece. piece.len) 0) in
    omega (arith, fits, len)

-- a first byte and the rest of what is cut out
cut_of : (byte : ℕ) (more : List ℕ) (n : ℕ) → 0 < n → (rest : List ℕ) × (take n (byte ∷ more) ≡ byte ∷ rest)
cut_of byte more zero h = absurd (omega arith)
cut_of byte more (suc n) h = (take n more, refl)

cut_len : (n : ℕ) (bytes : List ℕ) → n ≤ length bytes → length (take n bytes) ≡ n
cut_len n bytes h = omega (arith, length-take n bytes)

cut_reads : (byte : ℕ) (more : List ℕ) (kind : Option TokenKind) (rest : List ℕ) → is_ok (piece_at (byte ∷ more)) ≡ true
    → ((before : List Placed) (text : List ℕ) (span : Span) → tokens_front (byte ∷ more) before text span ≡ told_as before kind text span)
    → touches (byte ∷ more) rest ≡ false
    → ReadsAs (record { kind = kind; text = take (len_front (byte ∷ more)) (byte ∷ more) }) rest
cut_reads byte more kind rest ok told ends =
    let same = own_text (byte ∷ more) ok rest ends in
    let fits = fits_len (byte ∷ more) (omega arith) ok in
    record {
      ok = along same is_ok ∙ ok;
      len = along same (λ r. on_ok r (λ piece. piece.len) 0) ∙ sym (cut_len (len_front (byte ∷ more)) (byte ∷ more) fits.1);
      told = λ before text span. along same (λ r. on_ok r (λ piece. tokens_at before piece.kind text span) []) ∙ told before text span;
    }

-- a token that is written as it stands there
abbrev pub AsItStands : List ℕ → TokenKind → Type 0
AsItStands bytes kind = (before : List Placed) (text : List ℕ) (span : Span) → tokens_front bytes before text span ≡ told_after before kind text span

cut_token : (byte : ℕ) (more : List ℕ) (kind : TokenKind) → is_ok (piece_at (byte ∷ more)) ≡ true → AsItStands (byte ∷ more) kind → FirstIs kind byte
    → ((rest : List ℕ) → touches (byte ∷ more) rest ≡ touches_by kind rest) → IsTokenBit kind (take (len_front (byte ∷ more)) (byte ∷ more))
cut_token byte more kind ok told first touch =
    let fits = fits_len (byte ∷ more) (omega arith) ok in
    let cut = cut_of byte more (len_front (byte ∷ more)) fits.0 in
    record { byte = byte; more = cut.0; bytes = cut.1; first = first; reads = λ rest ends. cut_reads byte more (Some kind) rest ok told (touch rest ∙ ends) }

-- ---- signs

sign_first : (sign : Sign) → (more : List ℕ) × (sign_spelling sign ≡ sign_byte sign ∷ more)
sign_first Exchange = (61 ∷ 58 ∷ [], refl)
sign_first Assign = (61 ∷ [], refl)
sign_first Colon = ([], refl)
sign_first Arrow = (62 ∷ [], refl)
sign_first Decrement = (45 ∷ [], refl)
sign_first Minus = ([], refl)
sign_first Increment = (43 ∷ [], refl)
sign_first Plus = ([], refl)
sign_first Star = ([], refl)
sign_first Parallel = (47 ∷ [], refl)
sign_first Slash = ([], refl)
sign_first Percent = ([], refl)
sign_first Join = (124 ∷ [], refl)
sign_first Equal = ([], refl)
sign_first NotEqual = (61 ∷ [], refl)
sign_first LessEqual = (61 ∷ [], refl)
sign_first Less = ([], refl)
sign_first GreaterEqual = (61 ∷ [], refl)
sign_first Greater = ([], refl)
sign_first OpenParen = ([], refl)
sign_first CloseParen = ([], refl)
sign_first Alternative = (93 ∷ [], refl)
sign_first OpenBracket = ([], refl)
sign_first CloseBracket = ([], refl)
sign_first OpenBrace = ([], refl)
sign_first CloseBrace = ([], refl)
sign_first Comma = ([], refl)
sign_first Point = ([], refl)
sign_first Query = ([], refl)

-- a sign in its own spelling
sign_bit : (sign : Sign) → IsTokenBit (kinds.Sign sign) (sign_spelling sign)
sign_bit sign = record {
  byte = sign_byte sign;
  more = (sign_first sign).0;
  bytes = (sign_first sign).1;
  first = refl;
  reads = λ rest ends.
      let same = sign_before sign rest ends ∙ sign_reads sign in
      record {
        ok = along same is_ok;
        len = along same (λ r. on_ok r (λ piece. piece.len) 0);
        told = λ before text span. along same (λ r. on_ok r (λ piece. tokens_at before piece.kind text span) []);
      };
}

same_spelling : (sign : Sign) (text : List ℕ) → text ≡ sign_spelling sign → spelled (kinds.Sign sign) text ≡ sign_spelling sign
same_spelling Exchange text e = e
same_spelling Assign text e = e
same_spelling Colon text e = e
same_spelling Arrow text e = e
same_spelling Decrement text e = e
same_spelling Minus text e = e
same_spelling Increment text e = e
same_spelling Plus text e = e
same_spelling Star text e = e
same_spelling Parallel text e = e
same_spelling Slash text e = e
same_spelling Percent text e = e
same_spelling Join text e = e
same_spelling Equal text e = e
same_spelling NotEqual text e = refl
same_spelling LessEqual text e = e
same_spelling Less text e = e
same_spelling GreaterEqual text e = e
same_spelling Greater text e = e
same_spelling OpenParen text e = e
same_spelling CloseParen text e = e
same_spelling Alternative text e = e
same_spelling OpenBracket text e = e
same_spelling CloseBracket text e = e
same_spelling OpenBrace text e = e
same_spelling CloseBrace text e = e
same_spelling Comma text e = e
same_spelling Point text e = e
same_spelling Query text e = e

-- a sign in front, cut out and spelled
sign_text : (bytes : List ℕ) (sign : Sign) (b : Bool) → starts_with nat_eq bytes (codes "~=") ≡ b → cond b (Some NotEqual) (listed_sign bytes) ≡ Some sign → len_front bytes ≡ length (sign_spelling sign) → spelled (kinds.Sign sign) (take (len_front bytes) bytes) ≡ sign_spelling sign
sign_text bytes sign true starts e len = let same : NotEqual ≡ sign = cc in subst (λ (s : Sign). spelled (kinds.Sign s) (take (len_front bytes) bytes) ≡ sign_spelling s) same refl
sign_text bytes sign false starts e len =
    let front = listed_front bytes sign e in
    same_spelling sign (take (len_front bytes) bytes)
    (along len (λ (n : ℕ). take n bytes) ∙ ap (λ (xs : List ℕ). take (length (sign_spelling sign)) xs) front.1 ∙ take-append_seam (sign_spelling sign) front.0)

-- ---- tokens by their first byte

-- the token at the front of some bytes, as it is spelled
pub record IsSpelled (bytes : List ℕ) : Type 0 where
  pub kind : TokenKind
  pub told : AsItStands bytes kind
  pub bit : IsTokenBit kind (spelled kind (take (len_front bytes) bytes))

-- a byte that passes a test that `]` fails
no_bracket : (test : ℕ → Bool) (byte : ℕ) → test byte ≡ true → test 93 ≡ false → nat_eq 93 byte ≡ false
no_bracket test byte e f =
    elim (split (nat_eq 93 byte)) [
      | inl same ↦ (let clash : true ≡ false = sym e ∙ sym (ap test (eqb-true 93 byte same)) ∙ f in absurd (cc))
      | inr other ↦ other
    ]

word_touch : (byte : ℕ) (more rest : List ℕ) → (is_letter byte || is_digit byte) ≡ true → touches (byte ∷ more) rest ≡ first_passes is_name_byte rest
word_touch byte more rest e = along e (λ (b : Bool). cond b (first_passes is_name_byte rest) (touches_comment (byte ∷ more) rest))

spelled_number : (byte : ℕ) (more : List ℕ) → is_digit byte ≡ true → is_letter byte ≡ false → is_ok (piece_at (byte ∷ more)) ≡ true → IsSpelled (byte ∷ more)
spelled_number byte more digit letter ok =
    let is = number_at byte more digit in
    let told : AsItStands (byte ∷ more) kinds.Number =
    λ before text span. along is (λ r. on_ok r (λ piece. tokens_at before piece.kind text span) []) ∙ number_tokens (byte ∷ more) (sym (along is is_ok) ∙ ok) before text span in
    let word : (is_letter byte || is_digit byte) ≡ true = along letter (λ (b : Bool). b || is_digit byte) ∙ digit in
    record { kind = kinds.Number; told = told; bit = cut_token byte more kinds.Number ok told (no_bracket is_digit byte digit refl) (λ rest. word_touch byte more rest word) }

-- names and words
name_touch : (w : Option Word) (rest : List ℕ) → first_passes is_name_byte rest ≡ touches_by (name_kind w) rest
name_touch None rest = refl
name_touch (Some word) rest = refl

name_first : (w : Option Word) (byte : ℕ) → nat_eq 93 byte ≡ false → FirstIs (name_kind w) byte
name_first None byte e = e
name_first (Some word) byte e = e

name_spelled : (w : Option Word) (text : List ℕ) → text ≡ spelled (name_kind w) text
name_spelled None text = refl
name_spelled (Some word) text = refl

spelled_name : (byte : ℕ) (more : List ℕ) → is_letter byte ≡ true → is_ok (piece_at (byte ∷ more)) ≡ true → IsSpelled (byte ∷ more)
spelled_name byte more letter ok =
    let w = word_of (take (run_len is_name_byte more + 1) (byte ∷ more)) in
    let told : AsItStands (byte ∷ more) (name_kind w) = λ before text span. along (name_at byte more letter) (λ r. on_ok r (λ piece. tokens_at before piece.kind text span) []) in
    let word : (is_letter byte || is_digit byte) ≡ true = along letter (λ (b : Bool). b || is_digit byte) in
    let bit : IsTokenBit (name_kind w) (take (len_front (byte ∷ more)) (byte ∷ more)) =
    cut_token byte more (name_kind w) ok told (name_first w byte (no_bracket is_letter byte letter refl)) (λ rest. word_touch byte more rest word ∙ name_touch w rest) in
    record { kind = name_kind w; told = told; bit = subst (IsTokenBit (name_kind w)) (name_spelled w (take (len_front (byte ∷ more)) (byte ∷ more))) bit }

char_told : (more : List ℕ) → is_ok (piece_at (39 ∷ more)) ≡ true → AsItStands (39 ∷ more) kinds.Char
unfolding piece_at
char_told more ok = literal_tokens kinds.Char 39 (drop 1 (39 ∷ more)) ok

string_told : (more : List ℕ) → is_ok (piece_at (34 ∷ more)) ≡ true → AsItStands (34 ∷ more) kinds.Str
unfolding piece_at
string_told more ok = literal_tokens kinds.Str 34 (drop 1 (34 ∷ more)) ok

separator_told : (more : List ℕ) → AsItStands (59 ∷ more) kinds.Separator
unfolding piece_at
separator_told more = λ before text span. refl

-- nothing goes on with these
char_touch : (more rest : List ℕ) → touches (39 ∷ more) rest ≡ false
unfolding listed_sign
char_touch more rest = refl

string_touch : (more rest : List ℕ) → touches (34 ∷ more) rest ≡ false
unfolding listed_sign
string_touch more rest = refl

separator_touch : (more rest : List ℕ) → touches (59 ∷ more) rest ≡ false
unfolding listed_sign
separator_touch more rest = refl

spelled_char : (more : List ℕ) → is_ok (piece_at (39 ∷ more)) ≡ true → IsSpelled (39 ∷ more)
spelled_char more ok = record { kind = kinds.Char; told = char_told more ok; bit = cut_token 39 more kinds.Char ok (char_told more ok) refl (char_touch more) }

spelled_string : (more : List ℕ) → is_ok (piece_at (34 ∷ more)) ≡ true → IsSpelled (34 ∷ more)
spelled_string more ok = record { kind = kinds.Str; told = string_told more ok; bit = cut_token 34 more kinds.Str ok (string_told more ok) refl (string_touch more) }

spelled_separator : (more : List ℕ) → is_ok (piece_at (59 ∷ more)) ≡ true → IsSpelled (59 ∷ more)
spelled_separator more ok = record { kind = kinds.Separator; told = separator_told more; bit = cut_token 59 more kinds.Separator ok (separator_told more) refl (separator_touch more) }

spelled_sign : (bytes : List ℕ) (o : Option Sign) → sign_at bytes ≡ o → piece_at bytes ≡ signed_piece o → is_ok (signed_piece o) ≡ true → IsSpelled bytes
spelled_sign bytes None e is ok = absurd (cc)
spelled_sign bytes (Some sign) e is ok =
    let len : len_front bytes ≡ length (sign_spelling sign) = along is (λ r. on_ok r (λ piece. piece.len) 0) in
    record {
      kind = kinds.Sign sign;
      told = λ before text span. along is (λ r. on_ok r (λ piece. tokens_at before piece.kind text span) []);
      bit = subst (IsTokenBit (kinds.Sign sign)) (sym (sign_text bytes sign (starts_with nat_eq bytes (codes "~=")) refl e len)) (sign_bit sign);
    }

-- ---- gaps

pub record IsGap (bytes : List ℕ) : Type 0 where
  pub told : (before : List Placed) (text : List ℕ) (span : Span) → tokens_front bytes before text span ≡ []
  pub comment : is_comment (take (len_front bytes) bytes) ≡ true → IsCommentBit (take (len_front bytes) bytes)

tab_gap : (more : List ℕ) → IsGap (9 ∷ more)
unfolding piece_at
tab_gap more = record { told = λ before text span. refl; comment = λ e. absurd (cc) }

return_gap : (more : List ℕ) → IsGap (13 ∷ more)
unfolding piece_at
return_gap more = record { told = λ before text span. refl; comment = λ e. absurd (cc) }

blank_gap : (more : List ℕ) → IsGap (32 ∷ more)
unfolding piece_at
blank_gap more = record { told = λ before text span. refl; comment = λ e. absurd (cc) }

newline_gap : (more : List ℕ) → IsGap (10 ∷ more)
unfolding piece_at
newline_gap more = record { told = λ before text span. refl; comment = λ e. absurd (cc) }

comment_gap : (byte : ℕ) (more : List ℕ) → is_ok (piece_at (byte ∷ more)) ≡ true → ((before : List Placed) (text : List ℕ) (span : Span) → tokens_front (byte ∷ more) before text span ≡ [])
    → ((rest : List ℕ) → touches (byte ∷ more) (10 ∷ rest) ≡ false) → IsGap (byte ∷ more)
comment_gap byte more ok told ends = record { told = told; comment = λ e rest. cut_reads byte more None (10 ∷ rest) ok told (ends rest) }

hash_told : (more : List ℕ) (before : List Placed) (text : List ℕ) (span : Span) → tokens_front (35 ∷ more) before text span ≡ []
unfolding piece_at
hash_told more before text span = refl

block_told : (more : List ℕ) (o : Option ℕ) → piece_at (47 ∷ more) ≡ closed_comment o → is_ok (closed_comment o) ≡ true → (before : List Placed) (text : List ℕ) (span : Span) → tokens_front (47 ∷ more) before text span ≡ []
block_told more None is ok before text span = absurd (cc)
block_told more (Some at) is ok before text span = along is (λ r. on_ok r (λ piece. tokens_at before piece.kind text span) [])

block_touch : (more rest : List ℕ) → starts_with nat_eq (47 ∷ more) (codes "/*") ≡ true → touches (47 ∷ more) rest ≡ false
block_touch more rest e = along e (λ (b : Bool). cond b false (lengthens_found (sign_at (47 ∷ more)) rest))

block_gap : (more : List ℕ) → starts_with nat_eq (47 ∷ more) (codes "/*") ≡ true → is_ok (piece_at (47 ∷ more)) ≡ true → IsGap (47 ∷ more)
block_gap more e ok =
    let is = block_is more e in
    comment_gap 47 more ok (block_told more (close_of (drop 2 (47 ∷ more))) is (sym (along is is_ok) ∙ ok)) (λ rest. block_touch more (10 ∷ rest) e)

-- ---- by the first byte

abbrev pub IsFront : List ℕ → Type 0
IsFront bytes = IsSpelled bytes ⊎ IsGap bytes

here : (byte known : ℕ) (more : List ℕ) → (byte == known) ≡ true → (is_ok (piece_at (known ∷ more)) ≡ true → IsFront (known ∷ more)) → is_ok (piece_at (byte ∷ more)) ≡ true → IsFront (byte ∷ more)
here byte known more e front = let at : ℕ → Type 0 = λ b. is_ok (piece_at (b ∷ more)) ≡ true → IsFront (b ∷ more) in subst at (sym (eqb-true byte known e)) front

other_front : (byte : ℕ) (more : List ℕ) → piece_at (byte ∷ more) ≡ sign_piece (byte ∷ more) → is_ok (piece_at (byte ∷ more)) ≡ true → IsFront (byte ∷ more)
other_front byte more is ok =
    elim (split (starts_with nat_eq (byte ∷ more) (codes "/*"))) [
      | inl comment ↦
          (let front = starts_as (codes "/*") (byte ∷ more) comment in
          let at : List ℕ → Type 0 = λ xs. is_ok (piece_at xs) ≡ true → IsFront xs in
          subst at (sym front.1) (λ ok. inr (block_gap (42 ∷ front.0) refl ok)) ok)
      | inr comment ↦
          elim (split (starts_with nat_eq (byte ∷ more) (codes ";"))) [
            | inl separator ↦
                (let front = starts_as (codes ";") (byte ∷ more) separator in
                let at : List ℕ → Type 0 = λ xs. is_ok (piece_at xs) ≡ true → IsFront xs in
                subst at (sym front.1) (λ ok. inl (spelled_separator front.0 ok)) ok)
            | inr separator ↦
                (let signed = is ∙ signed_is (byte ∷ more) comment separator in
                inl (spelled_sign (byte ∷ more) (sign_at (byte ∷ more)) refl signed (sym (along signed is_ok) ∙ ok)))
          ]
    ]

quotes_front : (byte : ℕ) (more : List ℕ) → is_blank byte ≡ false → (byte == 10) ≡ false → (byte == 35) ≡ false → is_digit byte ≡ false → is_letter byte ≡ false → is_ok (piece_at (byte ∷ more)) ≡ true → IsFront (byte ∷ more)
quotes_front byte more blank newline hash digit letter ok =
    elim (split (byte == 39)) [
      | inl e ↦ here byte 39 more e (λ ok. inl (spelled_char more ok)) ok
      | inr apostrophe ↦
          elim (split (byte == 34)) [
            | inl e ↦ here byte 34 more e (λ ok. inl (spelled_string more ok)) ok
            | inr quote ↦ other_front byte more (other_is byte more (other_class byte blank newline hash apostrophe quote digit letter)) ok
          ]
    ]

gaps_front : (byte : ℕ) (more : List ℕ) → is_digit byte ≡ false → is_letter byte ≡ false → is_ok (piece_at (byte ∷ more)) ≡ true → IsFront (byte ∷ more)
gaps_front byte more digit letter ok =
    elim (split (byte == 9)) [
      | inl e ↦ here byte 9 more e (λ _. inr (tab_gap more)) ok
      | inr a ↦
          elim (split (byte == 13)) [
            | inl e ↦ here byte 13 more e (λ _. inr (return_gap more)) ok
            | inr b ↦
                elim (split (byte == 32)) [
                  | inl e ↦ here byte 32 more e (λ _. inr (blank_gap more)) ok
                  | inr c ↦
                      elim (split (byte == 10)) [
                        | inl e ↦ here byte 10 more e (λ _. inr (newline_gap more)) ok
                        | inr newline ↦
                            elim (split (byte == 35)) [
                              | inl e ↦ here byte 35 more e (λ ok. inr (comment_gap 35 more ok (hash_told more) (λ rest. refl))) ok
                              | inr hash ↦ quotes_front byte more (not_blank byte a b c) newline hash digit letter ok
                            ]
                      ]
                ]
          ]
    ]

-- where a piece begins it is a token, which reads in its spelling as itself, or a gap
pub front_of : (bytes : List ℕ) → is_ok (piece_at bytes) ≡ true → IsFront bytes
front_of [] ok = absurd (none_at_end ok)
front_of (byte ∷ more) ok =
    elim (split (is_letter byte)) [
      | inl letter ↦ inl (spelled_name byte more letter ok)
      | inr letter ↦
          elim (split (is_digit byte)) [
            | inl digit ↦ inl (spelled_number byte more digit letter ok)
            | inr digit ↦ gaps_front byte more digit letter ok
          ]
    ]

-- ---- pieces of a chain

-- a token that is read in its spelling, or a gap that may be a comment
abbrev pub IsPieceOf : Option TokenKind → List ℕ → Type 0
IsPieceOf None text = is_comment text ≡ true → IsCommentBit text
IsPieceOf (Some kind) text = IsTokenBit kind (spelled kind text)

token_piece : (file : ℕ) (source : List ℕ) (at : ℕ) (p : Placed) → BeginsAt file source at p → IsSpelled (drop at source) → IsPieceOf (kind_of p) p.text
token_piece file source at p begins front =
    let kind : kind_of p ≡ Some front.kind = ap first_kind (begins_tokens file source at p [] begins ∙ front.told [] p.text p.span) in
    let bit : IsTokenBit front.kind (spelled front.kind p.text) = subst (λ (text : List ℕ). IsTokenBit front.kind (spelled front.kind text)) (sym (begins_text file source at p begins)) front.bit in
    subst (λ (o : Option TokenKind). IsPieceOf o p.text) (sym kind) bit

gap_piece : (file : ℕ) (source : List ℕ) (at : ℕ) (p : Placed) → BeginsAt file source at p → IsGap (drop at source) → IsPieceOf (kind_of p) p.text
gap_piece file source at p begins front =
    let kind : kind_of p ≡ None = ap first_kind (begins_tokens file source at p [] begins ∙ front.told [] p.text p.span) in
    let comment = subst (λ (text : List ℕ). is_comment text ≡ true → IsCommentBit text) (sym (begins_text file source at p begins)) front.comment in
    subst (λ (o : Option TokenKind). IsPieceOf o p.text) (sym kind) comment

pub piece_of : (file : ℕ) (source : List ℕ) (at : ℕ) (p : Placed) → BeginsAt file source at p → IsPieceOf (kind_of p) p.text
piece_of file source at p begins =
    elim (front_of (drop at source) (along begins.1 is_ok)) [
      | inl front ↦ token_piece file source at p begins front
      | inr front ↦ gap_piece file source at p begins front
    ]
