-- Stretches of code: where they stand, and what follows them.
use Rattle.std.specs.Prelude.{◌≡◌, ℕ, ◌≤◌, ◌<◌, List, [], ◌∷◌, ◌++◌, length, slice_get}
use Rattle.sr_value.specs.declared.place.Place.{Place}
use Rattle.sr_ask.specs.Behaviors.{Stage, Doing}
use Rattle.sr_ask.specs.declared.ask.Asks.{Asks}
use Rattle.sr_code.specs.Runs.{then_asks}
use Rattle.sr_code.specs.declared.code.Coded.{Coded}
use Rattle.sr_code.specs.declared.instruction.Instruction.{Instruction}

-- `whole` has the stretch of `code` between two addresses at the same addresses.
pub record Has (code : List Coded) (from to : ℕ) (whole : List Coded) : Type 0 where
  pub same : (at : ℕ) → from ≤ at → at < to → slice_get whole at ≡ slice_get code at

-- `longer` has all of `code` at the same addresses, and perhaps more above it.
pub record Extends (code longer : List Coded) : Type 0 where
  pub above : length code ≤ length longer
  pub kept : Has code 0 (length code) longer

-- `longer` has one instruction more, above the code.
pub record Emits (line : Place) (instruction : Instruction) (code longer : List Coded) : Type 0 where
  pub is : longer ≡ code ++ record { place = line; instruction = instruction } ∷ []

-- What is asked from the start on is what the work asks, and then what comes next.
pub record Follows {A : Type 0} (start : Stage → Asks) (doing : Doing A) (next : A → Stage → Asks) : Type 0 where
  pub same : (stage : Stage) → start stage ≡ then_asks (doing stage) next
