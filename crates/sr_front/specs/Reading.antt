-- The phases in which the files of a program are read: the size of each, its tokens, the limits on them, its tree.
use Rattle.std.specs.Prelude.{◌≡◌, ℕ, ◌<◌, ◌≤◌, List, length, map}
use Rattle.sr_text.specs.declared.refusal.FrontFail.{FrontFail}
use Rattle.sr_text.specs.declared.refusal.FrontFail.TheVariants.{Refused, NoMemory}
use Rattle.sr_text.specs.declared.refusal.Kind.TheVariants.{Large}
use Rattle.sr_text.specs.declared.refusal.Refusal.{Refusal}
use Rattle.sr_tree.specs.declared.component.File.{File}
use Rattle.sr_tree.specs.declared.token.Token.{Token}
use Rattle.sr_tree.specs.declared.token.Tokens.{Tokens}
use Rattle.sr_tree.specs.Components.{Spells}
use Rattle.sr_lexer.specs.Limits.{IsWithinLimits, ExceedsLimits}
use Rattle.sr_lexer.specs.Tokens.{Lexes, RefusesToLex}
use Rattle.sr_parse_expr.specs.Refused.{IsDeadAt}
use Rattle.sr_program_reader.specs.Files.{SpellsFile}
use Rattle.sr_front.specs.Phases.{AllPass, FirstRefused}

-- the contents of files with names
abbrev pub contents_of : List (List ℕ × List ℕ) → List (List ℕ)
contents_of files = map (λ file. file.1) files

-- the tokens of each file
abbrev pub tokens_of : List Tokens → List (List Token)
tokens_of files = map (λ file. file.items) files

-- a file has at most so many bytes
abbrev pub most_bytes : ℕ
most_bytes = 1048576

-- the content of a file of at most that size, which stays as it is
pub record HasItsSize (number : ℕ) (bytes same : List ℕ) : Type 0 where
  pub unchanged : same ≡ bytes
  pub small : length bytes ≤ most_bytes

-- a larger file is refused on its first line
pub record IsTooLarge (number : ℕ) (bytes : List ℕ) (refusal : Refusal) : Type 0 where
  pub large : most_bytes < length bytes
  pub told : refusal ≡ record { kind = Large; place = record { file = number; line = 1 } }

-- no token is too deep, in too long a run or a word that is left out
pub record KeepsLimits (number : ℕ) (tokens same : List Token) : Type 0 where
  pub unchanged : same ≡ tokens
  pub within : IsWithinLimits tokens (length tokens)

abbrev pub BreaksLimits : ℕ → List Token → Refusal → Type 0
BreaksLimits number tokens refusal = ExceedsLimits tokens refusal

abbrev pub HasTree : ℕ → List Token → File → Type 0
HasTree number tokens file = Spells tokens file

-- no tree has these tokens; and unless the place of the refusal is the last token, no list of tokens with a tree
-- begins with those up to it and with it
pub record HasNoTree (number : ℕ) (tokens : List Token) (refusal : Refusal) : Type 0 where
  pub no_tree : (file : File) → Spells tokens file → ⊥
  pub dead : IsDeadAt SpellsFile tokens 0 refusal

-- the files pass all phases, and these are their trees
pub record AreRead (contents : List (List ℕ)) (trees : List File) : Type 0 where
  pub sizes : AllPass HasItsSize 0 contents contents
  pub tokens : List (List Token)
  pub lexed : AllPass Lexes 0 contents tokens
  pub limited : AllPass KeepsLimits 0 tokens tokens
  pub parsed : AllPass HasTree 0 tokens trees

-- the first phase that a file doesn't pass refuses the first such file
pub data AreRefused (contents : List (List ℕ)) (refusal : Refusal) : Type 0 where
  in_size : FirstRefused HasItsSize IsTooLarge 0 contents refusal → AreRefused contents refusal
  in_tokens : AllPass HasItsSize 0 contents contents → FirstRefused Lexes RefusesToLex 0 contents refusal → AreRefused contents refusal
  in_limits : {tokens : List (List Token)} → AllPass HasItsSize 0 contents contents → AllPass Lexes 0 contents tokens
      → FirstRefused KeepsLimits BreaksLimits 0 tokens refusal → AreRefused contents refusal
  in_grammar : {tokens : List (List Token)} → AllPass HasItsSize 0 contents contents → AllPass Lexes 0 contents tokens
      → AllPass KeepsLimits 0 tokens tokens → FirstRefused HasTree HasNoTree 0 tokens refusal → AreRefused contents refusal

-- the failure is a refusal with this property, or out of memory
abbrev pub IsRefusal : (Refusal → Type 0) → FrontFail → Type 0
IsRefusal holds (Refused refusal) = holds refusal
IsRefusal holds NoMemory = Unit {0}
