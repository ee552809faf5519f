-- The phases that refuse a program: its files are read, then its names are looked up, and then its kinds and types.
use Rattle.std.specs.Prelude.{◌≡◌, ℕ, List, Result, Ok, Err}
use Rattle.sr_text.specs.declared.refusal.FrontFail.{FrontFail}
use Rattle.sr_text.specs.declared.refusal.FrontFail.TheVariants.{Refused, NoMemory}
use Rattle.sr_text.specs.declared.refusal.Refusal.{Refusal}
use Rattle.sr_tree.specs.declared.component.File.{File}
use Rattle.sr_scope.specs.declared.program.Names.{Names}
use Rattle.sr_scope.specs.Resolved.{resolved}
use Rattle.sr_check_expr.specs.declared.facts.Facts.{Facts}
use Rattle.sr_check.specs.Checked.{verdict}
use Rattle.sr_front.specs.declared.program.Checked.{Checked}
use Rattle.sr_front.specs.Reading.{AreRead, AreRefused, in_grammar, in_limits, in_size, in_tokens}

-- the files are read, each use of a name in their trees has its meaning, and no rule of kinds and types is broken
pub record IsAccepted (contents : List (List ℕ)) (accepted : Checked) : Type 0 where
  pub read : AreRead contents accepted.trees
  pub names : Names
  pub named : resolved accepted.trees ≡ Ok names
  pub checked : verdict names.uses names.specs accepted.trees ≡ Ok accepted.facts

-- a phase of reading refuses the files; or they are read and the first broken rule of names refuses them; or their
-- names have meanings, and the first broken rule of kinds and types refuses them
pub data IsRefused (contents : List (List ℕ)) (refusal : Refusal) : Type 0 where
  in_reading : AreRefused contents refusal → IsRefused contents refusal
  in_names : {trees : List File} → AreRead contents trees → resolved trees ≡ Err refusal → IsRefused contents refusal
  in_types : {trees : List File} {names : Names} → AreRead contents trees → resolved trees ≡ Ok names
      → verdict names.uses names.specs trees ≡ Err refusal → IsRefused contents refusal

-- ---- the phase that refuses

pub data Phase : Type 0 where
  InSizes : Phase
  InTokens : Phase
  InLimits : Phase
  InGrammar : Phase
  InNames : Phase
  InTypes : Phase

abbrev pub reading_phase : {contents : List (List ℕ)} {refusal : Refusal} → AreRefused contents refusal → Phase
reading_phase (in_size refused) = InSizes
reading_phase (in_tokens sizes refused) = InTokens
reading_phase (in_limits sizes lexed refused) = InLimits
reading_phase (in_grammar sizes lexed limited refused) = InGrammar

abbrev pub phase_of : {contents : List (List ℕ)} {refusal : Refusal} → IsRefused contents refusal → Phase
phase_of (in_reading refused) = reading_phase refused
phase_of (in_names read broken) = InNames
phase_of (in_types read named broken) = InTypes

-- what becomes of trees with this verdict
abbrev pub IsChecked : List File → Result Facts Refusal → Result Checked FrontFail → Type 0
IsChecked trees meant (Ok accepted) = (accepted.trees ≡ trees) × (meant ≡ Ok accepted.facts)
IsChecked trees meant (Err (Refused refusal)) = meant ≡ Err refusal
IsChecked trees meant (Err NoMemory) = Unit {0}
