-- Tokens that are told again: with other spans, and signs in other spellings.
use Rattle.std.specs.Prelude.{◌≡◌, Bool, true, false, List, [], ◌∷◌}
use Rattle.sr_tree.specs.declared.token.Token.{Token}
use Rattle.sr_tree.specs.declared.token.TokenKind.{TokenKind}
use Rattle.sr_tree.specs.declared.token.TokenKind.TheVariants as kinds
use Rattle.sr_tree.specs.Tables.{IsSeparator}

abbrev pub is_a_sign : TokenKind → Bool
is_a_sign (kinds.Sign sign) = true
is_a_sign _ = false

-- each token keeps its kind, and its text too if it is no sign
pub record Keeps (retell : Token → Token) : Type 0 where
  pub kind : (token : Token) → (retell token).kind ≡ token.kind
  pub text : (token : Token) → is_a_sign token.kind ≡ false → (retell token).text ≡ token.text

abbrev pub AllSeparators : List Token → Type 0
AllSeparators [] = Unit {0}
AllSeparators (t ∷ ts) = IsSeparator t × AllSeparators ts
