-- Variables in buckets, by the part of the block.
use Rattle.std.specs.Prelude.{◌≡◌, List, length}
use Rattle.sr_buckets.specs.Parts.{AreInPlace, gathered}
use Rattle.sr_store.specs.Variables.{Stored}

-- what all buckets have
abbrev pub all_in : List Stored → Stored
all_in buckets = record { variables = gathered (λ b. b.variables) buckets; room = gathered (λ b. b.room) buckets }

-- there are 32, and each has the variables of its part alone
pub record AreBuckets (buckets : List Stored) : Type 0 where
  pub all : length buckets ≡ 32
  pub variables : AreInPlace (λ b. b.variables) buckets
