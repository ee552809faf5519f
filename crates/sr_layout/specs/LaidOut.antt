-- A source file in the one style, or why it isn't laid out.
use Rattle.std.specs.Prelude.{◌≡◌, ℕ, ◌<◌, ◌≤◌, List, length}
use Rattle.sr_fmt.specs.Canonical.{IsCanonical}
use Rattle.sr_lexer.specs.Limits.{ExceedsLimits, IsWithinLimits}
use Rattle.sr_lexer.specs.Tokens.{Lexes, RefusesToLex}
use Rattle.sr_parse_expr.specs.Refused.{IsDeadAt}
use Rattle.sr_program_reader.specs.Files.{SpellsFile}
use Rattle.sr_text.specs.declared.refusal.FrontFail.{FrontFail}
use Rattle.sr_text.specs.declared.refusal.FrontFail.TheVariants.{Refused, NoMemory}
use Rattle.sr_text.specs.declared.refusal.Kind.TheVariants.{Large}
use Rattle.sr_text.specs.declared.refusal.Refusal.{Refusal}
use Rattle.sr_tree.specs.Components.{Spells}
use Rattle.sr_tree.specs.declared.component.File.{File}
use Rattle.sr_tree.specs.declared.token.Token.{Token}

-- a source of at most 1,048,576 bytes that has these tokens
pub record HasTokens (source : List ℕ) (tokens : List Token) : Type 0 where
  pub small : length source ≤ 1048576
  pub lexed : Lexes 0 source tokens

-- the source has tokens within the limits and a tree, and this is its text in the one style
pub record IsLaidOut (source text : List ℕ) : Type 0 where
  pub tokens : List Token
  pub has : HasTokens source tokens
  pub within : IsWithinLimits tokens (length tokens)
  pub tree : File
  pub spelled : Spells tokens tree
  pub is : IsCanonical source tree text

-- The refusal of a source: it is too large; or it has no tokens; or they are past a limit; or they spell no tree, and
-- unless the place of the refusal is the last token, no list of tokens with a tree begins with those up to it and with it.
pub data IsRefused (source : List ℕ) (refusal : Refusal) : Type 0 where
  too_large : 1048576 < length source → refusal ≡ record { kind = Large; place = record { file = 0; line = 1 } } → IsRefused source refusal
  no_tokens : length source ≤ 1048576 → RefusesToLex 0 source refusal → IsRefused source refusal
  past_limits : {tokens : List Token} → HasTokens source tokens → ExceedsLimits tokens refusal → IsRefused source refusal
  no_tree : {tokens : List Token} → HasTokens source tokens → IsWithinLimits tokens (length tokens) → ((tree : File) → Spells tokens tree → ⊥)
      → IsDeadAt SpellsFile tokens 0 refusal → IsRefused source refusal

-- the source is refused, or memory ran out
abbrev pub IsNotLaidOut : List ℕ → FrontFail → Type 0
IsNotLaidOut source (Refused refusal) = IsRefused source refusal
IsNotLaidOut source NoMemory = Unit {0}
