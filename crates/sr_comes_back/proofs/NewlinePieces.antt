-- A piece is a newline exactly where its first byte is one.
use Rattle.std.proofs.Common.{◌≡◌, ℕ, zero, suc, ◌+◌, ◌<◌, ◌==◌, Bool, true, false, cond, not, List, [], ◌∷◌, length, take, drop, refl, ap, sym, subst, ◌∙◌, arith, position, Option, Some, None, Result, is_ok, nat_eq, codes, eqb-true}
use Rattle.std.specs.List.{starts_with}
use Rattle.sr_text.specs.declared.refusal.Kind.{Kind}
use Rattle.sr_text.specs.declared.refusal.Kind.TheVariants.{BadToken}
use Rattle.sr_tree.specs.declared.token.Sign.{Sign}
use Rattle.sr_tree.specs.declared.token.TokenKind.{TokenKind}
use Rattle.sr_tree.specs.declared.token.TokenKind.TheVariants as kinds
use Rattle.sr_lexer.specs.declared.byte.Class.{Class}
use Rattle.sr_lexer.specs.declared.byte.Class.TheVariants as classes
use Rattle.sr_lexer.specs.declared.piece.Piece.{Piece}
use Rattle.sr_lexer.specs.declared.piece.PieceKind.TheVariants as pieces
use Rattle.sr_lexer.specs.declared.piece.Fault.{Fault}
use Rattle.sr_lexer.specs.Bytes.{class_of, is_blank, is_digit, is_letter, is_text_byte}
use Rattle.sr_lexer.specs.Literals.{quoted_len}
use Rattle.sr_lexer.specs.Symbols.{sign_at}
use Rattle.sr_lexer.specs.Pieces.{first_passes, run_len, close_of, closed_comment, found, broken, is_number, is_literal, quoted_piece, literal_piece, signed_piece, piece_of_class, piece_at}
use Rattle.sr_lexer.specs.Separators.{Placed, is_newline_kind}
use Rattle.sr_lexer.specs.Tokens.{BeginsAt}
use Rattle.sr_fmt.proofs.FrontLemmas.{on_ok, along, len_front, none_at_end}
use Rattle.sr_fmt.proofs.ToldLemmas.{begins_text}
use Rattle.sr_fmt_laws.proofs.TokenBits.{fits_len}

-- whether the piece in front is a newline
abbrev newline_front : Result Piece Fault → Bool
newline_front r = on_ok r (λ piece. is_newline_kind piece.kind) false

abbrev is_newline_class : Class → Bool
is_newline_class classes.Newline = true
is_newline_class _ = false

token_if : (b : Bool) (kind : TokenKind) (len : ℕ) (fault : Kind) (at : ℕ) → newline_front (cond b (found (pieces.Token kind) len) (broken fault at)) ≡ false
token_if true kind len fault at = refl
token_if false kind len fault at = refl

quoted_no : (kind : TokenKind) (quote : ℕ) (inner rest : List ℕ) (bad : Option ℕ) → newline_front (quoted_piece kind quote inner rest bad) ≡ false
quoted_no kind quote inner rest (Some at) = refl
quoted_no kind quote inner rest None = token_if (is_literal kind quote inner rest) kind (length inner + 2) BadToken 0

literal_no : (kind : TokenKind) (quote : ℕ) (after : List ℕ) → newline_front (literal_piece kind quote after) ≡ false
literal_no kind quote after =
    let inner = take (quoted_len quote after) after in
    quoted_no kind quote inner (drop (quoted_len quote after) after) (position (λ byte. not (is_text_byte byte)) inner)

closed_no : (o : Option ℕ) → newline_front (closed_comment o) ≡ false
closed_no None = refl
closed_no (Some at) = refl

signed_no : (o : Option Sign) → newline_front (signed_piece o) ≡ false
signed_no None = refl
signed_no (Some sign) = refl

cond_no : (b : Bool) (x y : Result Piece Fault) → newline_front x ≡ false → newline_front y ≡ false → newline_front (cond b x y) ≡ false
cond_no true x y e f = e
cond_no false x y e f = f

class_no : (class : Class) (bytes : List ℕ) → is_newline_class class ≡ false → newline_front (piece_of_class class bytes) ≡ false
class_no classes.Blank bytes e = refl
class_no classes.Newline bytes e = absurd (cc)
class_no classes.Hash bytes e = refl
class_no classes.Apostrophe bytes e = literal_no kinds.Char 39 (drop 1 bytes)
class_no classes.Quote bytes e = literal_no kinds.Str 34 (drop 1 bytes)
class_no classes.Digit bytes e = token_if (is_number (take (run_len is_digit bytes) bytes) (drop (run_len is_digit bytes) bytes)) kinds.Number (run_len is_digit bytes) BadToken 0
class_no classes.Letter bytes e = refl
class_no classes.Other bytes e =
    cond_no (starts_with nat_eq bytes (codes "/*")) (closed_comment (close_of (drop 2 bytes))) (cond (starts_with nat_eq bytes (codes ";")) (found (pieces.Token kinds.Separator) 1) (signed_piece (sign_at bytes)))
    (closed_no (close_of (drop 2 bytes)))
    (cond_no (starts_with nat_eq bytes (codes ";")) (found (pieces.Token kinds.Separator) 1) (signed_piece (sign_at bytes)) refl (signed_no (sign_at bytes)))

by_class : (blank hash apostrophe quote digit letter : Bool) → is_newline_class (cond blank classes.Blank (cond false classes.Newline (cond hash classes.Hash (cond apostrophe classes.Apostrophe (cond quote classes.Quote (cond digit classes.Digit (cond letter classes.Letter classes.Other))))))) ≡ false
by_class true hash apostrophe quote digit letter = refl
by_class false true apostrophe quote digit letter = refl
by_class false false true quote digit letter = refl
by_class false false false true digit letter = refl
by_class false false false false true letter = refl
by_class false false false false false true = refl
by_class false false false false false false = refl

class_is : (byte : ℕ) → (byte == 10) ≡ false → is_newline_class (class_of byte) ≡ false
class_is byte e =
    ap (λ b. is_newline_class (cond (is_blank byte) classes.Blank (cond b classes.Newline (cond (byte == 35) classes.Hash (cond (byte == 39) classes.Apostrophe (cond (byte == 34) classes.Quote (cond (is_digit byte) classes.Digit (cond (is_letter byte) classes.Letter classes.Other)))))))) e
    ∙ by_class (is_blank byte) (byte == 35) (byte == 39) (byte == 34) (is_digit byte) (is_letter byte)

newline_here : (more : List ℕ) → newline_front (piece_at (10 ∷ more)) ≡ true
unfolding piece_at
newline_here more = refl

other_here : (byte : ℕ) (more : List ℕ) → (byte == 10) ≡ false → newline_front (piece_at (byte ∷ more)) ≡ false
unfolding piece_at
other_here byte more e = class_no (class_of byte) (byte ∷ more) (class_is byte e)

by_byte : (byte : ℕ) (more : List ℕ) → newline_front (piece_at (byte ∷ more)) ≡ (byte == 10)
by_byte byte more = by_test (byte == 10) refl
  where
    by_test : (b : Bool) → (byte == 10) ≡ b → newline_front (piece_at (byte ∷ more)) ≡ (byte == 10)
    by_test true e = subst (λ n. newline_front (piece_at (n ∷ more)) ≡ true) (sym (eqb-true byte 10 e)) (newline_here more) ∙ sym e
    by_test false e = other_here byte more e ∙ sym e

first_byte : (byte : ℕ) (more : List ℕ) (n : ℕ) → 0 < n → first_passes (λ b. b == 10) (take n (byte ∷ more)) ≡ (byte == 10)
first_byte byte more zero h = absurd (omega arith)
first_byte byte more (suc n) h = refl

front_newline : (bytes : List ℕ) → is_ok (piece_at bytes) ≡ true → newline_front (piece_at bytes) ≡ first_passes (λ b. b == 10) (take (len_front bytes) bytes)
front_newline [] ok = absurd (none_at_end ok)
front_newline (byte ∷ more) ok = by_byte byte more ∙ sym (first_byte byte more (len_front (byte ∷ more)) (fits_len (byte ∷ more) (omega arith) ok).0)

-- of a piece of a chain
pub begins_newline : (file : ℕ) (source : List ℕ) (at : ℕ) (p : Placed) → BeginsAt file source at p → is_newline_kind p.kind ≡ first_passes (λ b. b == 10) p.text
begins_newline file source at p begins =
    along begins.2 (λ q. is_newline_kind q.kind)
    ∙ sym (along begins.1 newline_front)
    ∙ front_newline (drop at source) (along begins.1 is_ok)
    ∙ ap (first_passes (λ b. b == 10)) (sym (begins_text file source at p begins))
