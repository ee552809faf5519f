-- Two tokens that touch in a canonical text read as they do apart.
use Rattle.std.proofs.Common.{◌≡◌, ℕ, zero, suc, Bool, true, false, not, ◌||◌, List, [], ◌∷◌, refl, ap, sym, ◌∙◌, Some, nat_eq, slice_get}
use Rattle.std.specs.List.{list_all}
use Rattle.std.proofs.lemmas.Bool.{and_parts as both_of}
use Rattle.sr_tree.specs.declared.token.Sign.{Sign}
use Rattle.sr_tree.specs.declared.token.Sign.TheVariants.{Exchange, Assign, Colon, Arrow, Decrement, Minus, Increment, Plus, Star, Parallel, Slash, Percent, Join, Equal, NotEqual, LessEqual, Less, GreaterEqual, Greater, OpenParen, CloseParen, Alternative, OpenBracket, CloseBracket, OpenBrace, CloseBrace, Comma, Point, Query}
use Rattle.sr_tree.specs.declared.token.TokenKind.{TokenKind}
use Rattle.sr_tree.specs.declared.token.TokenKind.TheVariants as kinds
use Rattle.sr_tree.specs.declared.token.Word.{Word}
use Rattle.sr_lexer.specs.Bytes.{is_name_byte}
use Rattle.sr_lexer.specs.Pieces.{first_passes}
use Rattle.sr_lexer.specs.Symbols.{signs}
use Rattle.sr_fmt.specs.Blanks.{joins_after, is_spaced}
use Rattle.sr_spelling.specs.Longer.{lengthens}

-- whether a token goes on with what stands after it
abbrev pub touches_by : TokenKind → List ℕ → Bool
touches_by kinds.Name rest = first_passes is_name_byte rest
touches_by kinds.Number rest = first_passes is_name_byte rest
touches_by (kinds.Word word) rest = first_passes is_name_byte rest
touches_by (kinds.Sign sign) rest = first_passes (lengthens sign) rest
touches_by _ rest = false

-- the first byte of a sign
abbrev pub sign_byte : Sign → ℕ
sign_byte Exchange = 58
sign_byte Assign = 58
sign_byte Colon = 58
sign_byte Arrow = 45
sign_byte Decrement = 45
sign_byte Minus = 45
sign_byte Increment = 43
sign_byte Plus = 43
sign_byte Star = 42
sign_byte Parallel = 47
sign_byte Slash = 47
sign_byte Percent = 37
sign_byte Join = 124
sign_byte Equal = 61
sign_byte NotEqual = 33
sign_byte LessEqual = 60
sign_byte Less = 60
sign_byte GreaterEqual = 62
sign_byte Greater = 62
sign_byte OpenParen = 40
sign_byte CloseParen = 41
sign_byte Alternative = 91
sign_byte OpenBracket = 91
sign_byte CloseBracket = 93
sign_byte OpenBrace = 123
sign_byte CloseBrace = 125
sign_byte Comma = 44
sign_byte Point = 46
sign_byte Query = 63

-- how a token of a kind begins: a separator with `;`, a sign as it is written, and no other with `]`
abbrev pub FirstIs : TokenKind → ℕ → Type 0
FirstIs kinds.Separator byte = byte ≡ 59
FirstIs (kinds.Sign sign) byte = byte ≡ sign_byte sign
FirstIs _ byte = nat_eq 93 byte ≡ false

-- ---- tables

listed : (sign : Sign) → (at : ℕ) × (slice_get signs at ≡ Some sign)
listed Exchange = (0, refl)
listed Assign = (1, refl)
listed Colon = (2, refl)
listed Arrow = (3, refl)
listed Decrement = (4, refl)
listed Minus = (5, refl)
listed Increment = (6, refl)
listed Plus = (7, refl)
listed Star = (8, refl)
listed Parallel = (9, refl)
listed Slash = (10, refl)
listed Percent = (11, refl)
listed Join = (12, refl)
listed Equal = (13, refl)
listed NotEqual = (14, refl)
listed LessEqual = (15, refl)
listed Less = (16, refl)
listed GreaterEqual = (17, refl)
listed Greater = (18, refl)
listed OpenParen = (19, refl)
listed CloseParen = (20, refl)
listed Alternative = (21, refl)
listed OpenBracket = (22, refl)
listed CloseBracket = (23, refl)
listed OpenBrace = (24, refl)
listed CloseBrace = (25, refl)
listed Comma = (26, refl)
listed Point = (27, refl)
listed Query = (28, refl)

all_at : (test : Sign → Bool) (xs : List Sign) (at : ℕ) (sign : Sign) → list_all test xs ≡ true → slice_get xs at ≡ Some sign → test sign ≡ true
all_at test [] at sign e here = absurd (cc)
all_at test (x ∷ xs) zero sign e here = let same : x ≡ sign = cc in ap test (sym same) ∙ (both_of (test x) (list_all test xs) e).0
all_at test (x ∷ xs) (suc at) sign e here = all_at test xs at sign (both_of (test x) (list_all test xs) e).1 here

-- a test that all signs pass
each_sign : (test : Sign → Bool) → list_all test signs ≡ true → (sign : Sign) → test sign ≡ true
each_sign test e sign = all_at test signs (listed sign).0 sign e (listed sign).1

-- no sign begins as a name goes on
no_name_byte : (sign : Sign) → not (is_name_byte (sign_byte sign)) ≡ true
no_name_byte = each_sign (λ sign. not (is_name_byte (sign_byte sign))) refl

-- two signs without a blank between them
abbrev pair_test : Sign → Sign → Bool
pair_test a b = is_spaced (kinds.Sign a) (kinds.Sign b) || not (lengthens a (sign_byte b))

pairs : (a b : Sign) → pair_test a b ≡ true
pairs a = each_sign (pair_test a) (each_sign (λ sign. list_all (pair_test sign) signs) refl a)

-- a sign and `;`
before_separator : (sign : Sign) → (is_spaced (kinds.Sign sign) kinds.Separator || not (lengthens sign 59)) ≡ true
before_separator = each_sign (λ sign. is_spaced (kinds.Sign sign) kinds.Separator || not (lengthens sign 59)) refl

-- a sign that the next token follows directly
joined_sign : (sign : Sign) (byte : ℕ) → joins_after (kinds.Sign sign) ≡ true → nat_eq 93 byte ≡ false → lengthens sign byte ≡ false
joined_sign Exchange byte e f = absurd (cc)
joined_sign Assign byte e f = absurd (cc)
joined_sign Colon byte e f = absurd (cc)
joined_sign Arrow byte e f = absurd (cc)
joined_sign Decrement byte e f = absurd (cc)
joined_sign Minus byte e f = absurd (cc)
joined_sign Increment byte e f = absurd (cc)
joined_sign Plus byte e f = absurd (cc)
joined_sign Star byte e f = absurd (cc)
joined_sign Parallel byte e f = absurd (cc)
joined_sign Slash byte e f = absurd (cc)
joined_sign Percent byte e f = absurd (cc)
joined_sign Join byte e f = absurd (cc)
joined_sign Equal byte e f = absurd (cc)
joined_sign NotEqual byte e f = absurd (cc)
joined_sign LessEqual byte e f = absurd (cc)
joined_sign Less byte e f = absurd (cc)
joined_sign GreaterEqual byte e f = absurd (cc)
joined_sign Greater byte e f = absurd (cc)
joined_sign OpenParen byte e f = refl
joined_sign CloseParen byte e f = absurd (cc)
joined_sign Alternative byte e f = absurd (cc)
joined_sign OpenBracket byte e f = f
joined_sign CloseBracket byte e f = absurd (cc)
joined_sign OpenBrace byte e f = refl
joined_sign CloseBrace byte e f = absurd (cc)
joined_sign Comma byte e f = absurd (cc)
joined_sign Point byte e f = refl
joined_sign Query byte e f = refl

is_no : (b : Bool) → not b ≡ true → b ≡ false
is_no true e = absurd (cc)
is_no false e = refl

or_no : (spaced long : Bool) → (spaced || not long) ≡ true → spaced ≡ false → long ≡ false
or_no true long e f = absurd (cc)
or_no false long e f = is_no long e

-- a sign and a name, word, number or literal: a table for each, since what reads otherwise goes by the sign
before_name : (sign : Sign) → (is_spaced (kinds.Sign sign) kinds.Name || joins_after (kinds.Sign sign)) ≡ true
before_name = each_sign (λ sign. is_spaced (kinds.Sign sign) kinds.Name || joins_after (kinds.Sign sign)) refl

before_number : (sign : Sign) → (is_spaced (kinds.Sign sign) kinds.Number || joins_after (kinds.Sign sign)) ≡ true
before_number = each_sign (λ sign. is_spaced (kinds.Sign sign) kinds.Number || joins_after (kinds.Sign sign)) refl

before_char : (sign : Sign) → (is_spaced (kinds.Sign sign) kinds.Char || joins_after (kinds.Sign sign)) ≡ true
before_char = each_sign (λ sign. is_spaced (kinds.Sign sign) kinds.Char || joins_after (kinds.Sign sign)) refl

before_string : (sign : Sign) → (is_spaced (kinds.Sign sign) kinds.Str || joins_after (kinds.Sign sign)) ≡ true
before_string = each_sign (λ sign. is_spaced (kinds.Sign sign) kinds.Str || joins_after (kinds.Sign sign)) refl

before_word : (word : Word) (sign : Sign) → (is_spaced (kinds.Sign sign) (kinds.Word word) || joins_after (kinds.Sign sign)) ≡ true
before_word word = each_sign (λ sign. is_spaced (kinds.Sign sign) (kinds.Word word) || joins_after (kinds.Sign sign)) refl

then_joins : (spaced joins : Bool) → (spaced || joins) ≡ true → spaced ≡ false → joins ≡ true
then_joins true joins e f = absurd (cc)
then_joins false joins e f = e

-- ---- the law

-- after a sign
after_sign : (sign : Sign) (b : TokenKind) (byte : ℕ) → is_spaced (kinds.Sign sign) b ≡ false → FirstIs b byte → lengthens sign byte ≡ false
after_sign sign kinds.Separator byte e f = ap (lengthens sign) f ∙ or_no (is_spaced (kinds.Sign sign) kinds.Separator) (lengthens sign 59) (before_separator sign) e
after_sign sign (kinds.Sign other) byte e f = ap (lengthens sign) f ∙ or_no (is_spaced (kinds.Sign sign) (kinds.Sign other)) (lengthens sign (sign_byte other)) (pairs sign other) e
after_sign sign kinds.Name byte e f = joined_sign sign byte (then_joins (is_spaced (kinds.Sign sign) kinds.Name) (joins_after (kinds.Sign sign)) (before_name sign) e) f
after_sign sign kinds.Number byte e f = joined_sign sign byte (then_joins (is_spaced (kinds.Sign sign) kinds.Number) (joins_after (kinds.Sign sign)) (before_number sign) e) f
after_sign sign kinds.Char byte e f = joined_sign sign byte (then_joins (is_spaced (kinds.Sign sign) kinds.Char) (joins_after (kinds.Sign sign)) (before_char sign) e) f
after_sign sign kinds.Str byte e f = joined_sign sign byte (then_joins (is_spaced (kinds.Sign sign) kinds.Str) (joins_after (kinds.Sign sign)) (before_string sign) e) f
after_sign sign (kinds.Word word) byte e f = joined_sign sign byte (then_joins (is_spaced (kinds.Sign sign) (kinds.Word word)) (joins_after (kinds.Sign sign)) (before_word word sign) e) f

-- after a name, number or word nothing but a sign or `;` stands without a blank between
after_name : (b : TokenKind) (byte : ℕ) → is_spaced kinds.Name b ≡ false → FirstIs b byte → is_name_byte byte ≡ false
after_name kinds.Separator byte e f = ap is_name_byte f
after_name (kinds.Sign other) byte e f = ap is_name_byte f ∙ is_no (is_name_byte (sign_byte other)) (no_name_byte other)
after_name kinds.Name byte e f = absurd (cc)
after_name kinds.Number byte e f = absurd (cc)
after_name kinds.Char byte e f = absurd (cc)
after_name kinds.Str byte e f = absurd (cc)
after_name (kinds.Word other) byte e f = absurd (cc)

after_number : (b : TokenKind) (byte : ℕ) → is_spaced kinds.Number b ≡ false → FirstIs b byte → is_name_byte byte ≡ false
after_number kinds.Separator byte e f = ap is_name_byte f
after_number (kinds.Sign other) byte e f = ap is_name_byte f ∙ is_no (is_name_byte (sign_byte other)) (no_name_byte other)
after_number kinds.Name byte e f = absurd (cc)
after_number kinds.Number byte e f = absurd (cc)
after_number kinds.Char byte e f = absurd (cc)
after_number kinds.Str byte e f = absurd (cc)
after_number (kinds.Word other) byte e f = absurd (cc)

after_word : (word : Word) (b : TokenKind) (byte : ℕ) → is_spaced (kinds.Word word) b ≡ false → FirstIs b byte → is_name_byte byte ≡ false
after_word word kinds.Separator byte e f = ap is_name_byte f
after_word word (kinds.Sign other) byte e f = ap is_name_byte f ∙ is_no (is_name_byte (sign_byte other)) (no_name_byte other)
after_word word kinds.Name byte e f = absurd (cc)
after_word word kinds.Number byte e f = absurd (cc)
after_word word kinds.Char byte e f = absurd (cc)
after_word word kinds.Str byte e f = absurd (cc)
after_word word (kinds.Word other) byte e f = absurd (cc)

-- where no blank stands between two tokens, the first doesn't go on with the second
pub apart : (a b : TokenKind) (byte : ℕ) (more : List ℕ) → is_spaced a b ≡ false → FirstIs b byte → touches_by a (byte ∷ more) ≡ false
apart kinds.Name b byte more e f = after_name b byte e f
apart kinds.Number b byte more e f = after_number b byte e f
apart (kinds.Word word) b byte more e f = after_word word b byte e f
apart (kinds.Sign sign) b byte more e f = after_sign sign b byte e f
apart kinds.Char b byte more e f = refl
apart kinds.Str b byte more e f = refl
apart kinds.Separator b byte more e f = refl

-- no token goes on with a blank or a newline
pub before_blank : (a : TokenKind) (more : List ℕ) → touches_by a (32 ∷ more) ≡ false
before_blank kinds.Name more = refl
before_blank kinds.Number more = refl
before_blank (kinds.Word word) more = refl
before_blank (kinds.Sign sign) more = is_no (lengthens sign 32) (each_sign (λ s. not (lengthens s 32)) refl sign)
before_blank kinds.Char more = refl
before_blank kinds.Str more = refl
before_blank kinds.Separator more = refl

pub before_newline : (a : TokenKind) (more : List ℕ) → touches_by a (10 ∷ more) ≡ false
before_newline kinds.Name more = refl
before_newline kinds.Number more = refl
before_newline (kinds.Word word) more = refl
before_newline (kinds.Sign sign) more = is_no (lengthens sign 10) (each_sign (λ s. not (lengthens s 10)) refl sign)
before_newline kinds.Char more = refl
before_newline kinds.Str more = refl
before_newline kinds.Separator more = refl
