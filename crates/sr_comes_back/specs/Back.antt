-- A canonical text comes back: read again it is its own canonical text.
use Rattle.std.specs.Prelude.{ℕ, List}
use Rattle.sr_tree.specs.Components.{Spells}
use Rattle.sr_tree.specs.declared.component.File.{File}
use Rattle.sr_tree.specs.declared.token.Token.{Token}
use Rattle.sr_lexer.specs.Tokens.{Lexes}
use Rattle.sr_fmt.specs.Canonical.{IsCanonical}
use Rattle.sr_fmt_laws.specs.Kept.{SaysTheSame}
use Rattle.sr_grammar_laws.specs.SameComponents.{SameFile}

-- the text has tokens, which spell a tree that is the same but for spans; its comments are those of the source in order;
-- and it is its own canonical text
pub record ComesBack (source : List ℕ) (tree : File) (text : List ℕ) : Type 0 where
  pub tokens : List Token
  pub other : File
  pub lexes : Lexes 0 text tokens
  pub spells : Spells tokens other
  pub same : SameFile tree other
  pub says : SaysTheSame source text
  pub own : IsCanonical text other text
