-- A sign reads the same whatever follows it, unless both are a longer sign or begin a comment.
use Rattle.std.proofs.Common.{◌≡◌, ℕ, false, List, ◌∷◌, ◌++◌, refl, nat_eq}
use Rattle.std.proofs.lemmas.Bool.{or_parts as neither}
use Rattle.sr_tree.specs.declared.token.Sign.{Sign}
use Rattle.sr_tree.specs.declared.token.Sign.TheVariants.{Exchange, Assign, Colon, Arrow, Decrement, Minus, Increment, Plus, Star, Parallel, Slash, Percent, Join, Equal, NotEqual, LessEqual, Less, GreaterEqual, Greater, OpenParen, CloseParen, Alternative, OpenBracket, CloseBracket, OpenBrace, CloseBrace, Comma, Point, Query}
use Rattle.sr_lexer.specs.Symbols.{listed_sign, sign_spelling}
use Rattle.sr_lexer.specs.Pieces.{piece_at}
use Rattle.sr_spelling.specs.Longer.{lengthens}

pub sign_alone : (sign : Sign) (byte : ℕ) (rest : List ℕ) → lengthens sign byte ≡ false → piece_at (sign_spelling sign ++ byte ∷ rest) ≡ piece_at (sign_spelling sign)
unfolding piece_at listed_sign
sign_alone Exchange byte rest e = refl
sign_alone Assign byte rest e = rw e refl
sign_alone Colon byte rest e = rw e refl
sign_alone Arrow byte rest e = refl
sign_alone Decrement byte rest e = refl
sign_alone Minus byte rest e = let both = neither (nat_eq 62 byte) (nat_eq 45 byte) e in rw (both.0, both.1) refl
sign_alone Increment byte rest e = refl
sign_alone Plus byte rest e = rw e refl
sign_alone Star byte rest e = refl
sign_alone Parallel byte rest e = refl
sign_alone Slash byte rest e = let both = neither (nat_eq 47 byte) (nat_eq 42 byte) e in rw (both.0, both.1) refl
sign_alone Percent byte rest e = refl
sign_alone Join byte rest e = refl
sign_alone Equal byte rest e = refl
sign_alone NotEqual byte rest e = refl
sign_alone LessEqual byte rest e = refl
sign_alone Less byte rest e = rw e refl
sign_alone GreaterEqual byte rest e = refl
sign_alone Greater byte rest e = rw e refl
sign_alone OpenParen byte rest e = refl
sign_alone CloseParen byte rest e = refl
sign_alone Alternative byte rest e = refl
sign_alone OpenBracket byte rest e = rw e refl
sign_alone CloseBracket byte rest e = refl
sign_alone OpenBrace byte rest e = refl
sign_alone CloseBrace byte rest e = refl
sign_alone Comma byte rest e = refl
sign_alone Point byte rest e = refl
sign_alone Query byte rest e = refl
