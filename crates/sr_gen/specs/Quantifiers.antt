-- Quantifiers: what stands before their turns, and what follows their inside.
use Rattle.std.specs.Prelude.{◌≡◌, ℕ, zero, suc, List, ◌∷◌, length, slice_get, Option, Some}
use Rattle.sr_value.specs.declared.place.Place.{Place}
use Rattle.sr_core.specs.declared.component.Core.{Core}
use Rattle.sr_core.specs.declared.statement.Quantifier.{Quantifier}
use Rattle.sr_code.specs.Stretches.{Emits}
use Rattle.sr_code.specs.declared.code.Coded.{Coded}
use Rattle.sr_code.specs.declared.instruction.Instruction.TheVariants.{Each, Jump}
use Rattle.sr_meaning.specs.declared.ending.Ending.{Ending}
use Rattle.sr_meaning.specs.Expressions.{Meaning}
use Rattle.sr_meaning.specs.Statements.{quantified}
use Rattle.sr_gen.specs.Doing.{Acts, Drops, pad_ways}
use Rattle.sr_gen.specs.declared.turns.Turns.{Turns}
use Rattle.sr_gen.specs.declared.ways.Ways.{Ways}

-- Before the turns: where the service around the inside ends, or the loop is left, the quantifier's values are dropped; after its last value the code goes on below. Then the next value is taken.
pub record Opens (line : Place) (var : ℕ) (ways : Ways) (turns : Turns) (old new : List Coded) : Type 0 where
  pub returned : List Coded
  pub left : List Coded
  pub past : List Coded
  pub drops_returned : Drops ways.returned old returned
  pub drops_left : Drops ways.left returned left
  pub jumps : Emits line (Jump (length old)) left past
  pub takes : Emits line (Each var 0) past new
  pub each : turns.each ≡ length past
  pub inner : turns.inner ≡ pad_ways (length left) (length new) (length returned)

-- the same of a quantifier and turns that are there; `inner` are the ways of its inside
abbrev pub OpensAt : Place → Option Quantifier → Option Turns → Ways → Ways → List Coded → List Coded → Type 0
OpensAt line (Some quantifier) (Some turns) ways inner old new = Opens line quantifier.var ways turns old new × (inner ≡ turns.inner)
OpensAt line quantifier turns ways inner old new = ⊥

-- So many of the first quantifiers are open, each inside the one before; `inner` are the ways of what is inside them.
abbrev pub Opened : Place → List Quantifier → List Turns → Ways → List Coded → ℕ → Ways → List Coded → Type 0
Opened line quantifiers turns ways old zero inner new = (inner ≡ ways) × (new ≡ old)
Opened line quantifiers turns ways old (suc at) inner new =
    (outer : Ways) × (code : List Coded) × Opened line quantifiers turns ways old at outer code × OpensAt line (slice_get quantifiers at) (slice_get turns at) outer inner code new

-- What follows the inside: with what stands before the turns the code does what the quantifier and those after it mean.
pub record Encloses (core : Core) (line : Place) (quantifier : Quantifier) (turns : Turns) (old new : List Coded) : Type 0 where
  pub acts : (ways : Ways) (rest : List Quantifier) (meaning : Meaning Ending) (first mid : List Coded) → Opens line quantifier.var ways turns first mid
      → Acts turns.inner core line (quantified rest meaning) mid old → Acts ways core line (quantified (quantifier ∷ rest) meaning) first new
