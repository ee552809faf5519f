-- Which numbers were given out, as a replay keeps them, and which number a step may have.
use Rattle.std.specs.Prelude.{◌≡◌, ◌==◌, ◌&&◌, ◌||◌, ℕ, Bool, not, nat_eq}
use Rattle.std.specs.HashSet.{HashSet, contains}
use Rattle.sr_world.specs.Does.{Does, Makes}
use Rattle.sr_world.specs.Runs.{is_new, is_used}
use Rattle.sr_world.specs.Sound.{HasSoundNumbers}
use Rattle.sr_world.specs.Worlds.{World}

-- whether a number is kept
abbrev pub is_kept : {S : Type 0} → HashSet ℕ S → ℕ → Bool
is_kept names name = contains nat_eq names name

-- the numbers that were given out are kept, and no others
pub record KnowsNames {S : Type 0} (names : HashSet ℕ S) (world : World) : Type 0 where
  pub given : (name : ℕ) → is_kept names name ≡ is_used world name
  pub sound : HasSoundNumbers world

-- one number more is kept; 0 is none
pub record Notes {S : Type 0} (name : ℕ) (old new : HashSet ℕ S) : Type 0 where
  pub kept : (other : ℕ) → is_kept new other ≡ (is_kept old other || (not (name == 0) && (name == other)))

-- a step that makes something gets a number that wasn't given out, and not 0; any other has 0
abbrev pub is_named : World → ℕ → Does → Bool
is_named world name (Makes later answer) = is_new world name
is_named world name _ = name == 0
