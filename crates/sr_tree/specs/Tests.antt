-- Tests of tokens.
use Rattle.std.specs.Prelude.{Bool, true, false}
use denote.Enum.Bare.{sameb}
use Rattle.sr_tree.specs.contracts.token.Sign as signs
use Rattle.sr_tree.specs.contracts.token.Word as words
use Rattle.sr_tree.specs.declared.token.Sign.{Sign}
use Rattle.sr_tree.specs.declared.token.TokenKind.{TokenKind}
use Rattle.sr_tree.specs.declared.token.TokenKind.TheVariants as kind
use Rattle.sr_tree.specs.declared.token.Word.{Word}

abbrev pub is_sign : Sign → TokenKind → Bool
is_sign s (kind.Sign found) = sameb signs.the_type found s
is_sign s _ = false

abbrev pub is_word : Word → TokenKind → Bool
is_word w (kind.Word found) = sameb words.the_type found w
is_word w _ = false

abbrev pub is_name : TokenKind → Bool
is_name kind.Name = true
is_name _ = false
