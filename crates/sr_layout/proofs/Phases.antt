-- From what each phase gives to the text or the refusal of the source.
use Rattle.std.proofs.Common.{◌≡◌, ℕ, ◌≤◌, List, length, subst, sym}
use Rattle.std.specs.Prelude.{Result, Ok, Err, IfErr, IfOk}
use Rattle.sr_fmt.specs.Canonical.{IsCanonical}
use Rattle.sr_layout.specs.LaidOut.{HasTokens, IsLaidOut, IsNotLaidOut, no_tokens, no_tree}
use Rattle.sr_lexer.specs.Limits.{IsWithinLimits}
use Rattle.sr_lexer.specs.Tokens.{FailsToLex}
use Rattle.sr_parse_expr.specs.Refused.{IsRefusedIn}
use Rattle.sr_parser.specs.Programs.{SpellsNoFile}
use Rattle.sr_program_reader.specs.Files.{SpellsFile}
use Rattle.sr_text.specs.declared.refusal.FrontFail.{FrontFail}
use Rattle.sr_text.specs.declared.refusal.FrontFail.TheVariants.{Refused, NoMemory}
use Rattle.sr_tree.specs.Components.{Spells}
use Rattle.sr_tree.specs.declared.component.File.{File}
use Rattle.sr_tree.specs.declared.token.Token.{Token}

-- the source has no tokens
pub unlexed : (source : List ℕ) (fail : FrontFail) → length source ≤ 1048576 → FailsToLex 0 source fail → IsNotLaidOut source fail
unlexed source (Refused refusal) small fails = no_tokens small fails
unlexed source NoMemory small fails = tt

module _ (source : List ℕ) (tokens : List Token) (has : HasTokens source tokens) (within : IsWithinLimits tokens (length tokens)) where
  -- the tokens have no tree
  pub unparsed : (fail : FrontFail) → SpellsNoFile tokens fail → IsRefusedIn SpellsFile tokens 0 fail → IsNotLaidOut source fail
  unparsed (Refused refusal) none dead = no_tree has within none dead
  unparsed NoMemory none dead = tt

  -- they have one
  pub laid_out_as : (tree : File) (result : Result (List ℕ) FrontFail) → Spells tokens tree → IfOk result (IsCanonical source tree) → IfOk result (IsLaidOut source)
  laid_out_as tree (Ok text) spelled is = record { tokens = tokens; has = has; within = within; tree = tree; spelled = spelled; is = is }
  laid_out_as tree (Err fail) spelled is = tt

-- memory ran out
pub failed_as : (source : List ℕ) (result : Result (List ℕ) FrontFail) → IfErr result (λ fail. fail ≡ NoMemory) → IfErr result (IsNotLaidOut source)
failed_as source (Ok text) is = tt
failed_as source (Err fail) is = subst (IsNotLaidOut source) (sym is) tt
