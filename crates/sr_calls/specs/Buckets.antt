-- Calls in buckets, by the part of the process.
use Rattle.std.specs.Prelude.{◌≡◌, List, length}
use Rattle.sr_buckets.specs.Parts.{AreInPlace, gathered}
use Rattle.sr_calls.specs.Calls.{Called}

-- what all buckets have
abbrev pub called_in : List Called → Called
called_in buckets = record { held = gathered (λ b. b.held) buckets; replies = gathered (λ b. b.replies) buckets; room = gathered (λ b. b.room) buckets }

-- there are 32, and each has what is of its part alone
pub record AreBuckets (buckets : List Called) : Type 0 where
  pub all : length buckets ≡ 32
  pub held : AreInPlace (λ b. b.held) buckets
  pub replies : AreInPlace (λ b. b.replies) buckets
