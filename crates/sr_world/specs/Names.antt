-- The numbers that a run gives out, in the order of their giving.
use Rattle.std.specs.Prelude.{◌==◌, ◌<◌, ◌≤◌, ℕ, zero, suc, List, [], ◌∷◌, length, position, unwrap_or, if◌then◌else◌}
use Rattle.std.specs.List.{All, Contains}
use Rattle.sr_processes.specs.Living.{is_among}
use Rattle.sr_world.specs.Worlds.{World}

-- the least number from 1 on that wasn't given out
pub record IsLeastUnused (used : List ℕ) (name : ℕ) : Type 0 where
  pub positive : 0 < name
  pub unused : ¬ Contains used name
  pub least : (k : ℕ) → 0 < k → k < name → Contains used k

-- every number was given out
pub record AreAllUsed (used : List ℕ) : Type 0 where
  pub each : (k : ℕ) → 0 < k → k < 4294967296 → Contains used k

-- the greatest number that was given out, or 0
pub record IsGreatest (used : List ℕ) (name : ℕ) : Type 0 where
  pub bound : All (λ n. n ≤ name) used
  pub found : 0 < name → Contains used name

-- what was given out after a number
abbrev pub names_after : List ℕ → ℕ → List ℕ
names_after [] name = []
names_after (n ∷ ns) name = if n == name then ns else names_after ns name

-- the place of the first living process that was made after this one, whether this one lives or not; all were made after 0
abbrev pub made_after : World → ℕ → ℕ
made_after world zero = 0
made_after world (suc n) = unwrap_or (position (is_among (names_after world.used (suc n))) world.live) (length world.live)
