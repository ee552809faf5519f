-- What guards read of one world, as another holds it, and among what is watched.
use Rattle.std.specs.Prelude.{◌≡◌, ℕ, true, List, [], ◌∷◌, Ok}
use Rattle.sr_value.specs.declared.value.Value.{Value}
use Rattle.sr_ask.specs.declared.entry.Seen.{Seen}
use Rattle.sr_ask.specs.declared.entry.Seen.TheVariants.{Cell, Pending as pending_count}
use Rattle.sr_core.specs.declared.owner.Home.{Home}
use Rattle.sr_core.specs.declared.owner.Me.{Me}
use Rattle.sr_core.specs.declared.site.Site.{Site}
use Rattle.sr_select.specs.declared.choice.Choice.{Choice}
use Rattle.sr_select.specs.declared.choice.Choice.TheVariants.{Bad}
use Rattle.sr_select.specs.Guards.{guard_block, home_seen}
use Rattle.sr_select.specs.Readings.{Reading}
use Rattle.sr_select.specs.Worlds.{Watched}

-- each of the cells and counts that were read is such a one
abbrev pub EachSeen : (Seen → Type 0) → List Seen → Type 0
EachSeen Is [] = Unit {0}
EachSeen Is (one ∷ others) = Is one × EachSeen Is others

-- a world holds what was read: the variable has this value, so many invocations are pending
abbrev pub Shows : Reading → Seen → Type 0
Shows reading (Cell block var path value) = reading.load block var path ≡ Ok value
Shows reading (pending_count op count) = reading.count op ≡ count

abbrev pub ShowsAll : Reading → List Seen → Type 0
ShowsAll reading seen = EachSeen (Shows reading) seen

-- a variable that is watched stands in this block
pub record StandsIn (watched : Watched) (site : Site) (me : Me) (env : List Value) (block var : ℕ) : Type 0 where
  pub home : Home
  pub variable : watched.variable home var ≡ true
  pub stands : guard_block me (home_seen site.names env) home ≡ Ok block

-- what was read is watched
abbrev pub IsWatched : Watched → Site → Me → List Value → Seen → Type 0
IsWatched watched site me env (Cell block var path value) = StandsIn watched site me env block var
IsWatched watched site me env (pending_count op count) = watched.operation op ≡ true

-- a choice that no fault ended
abbrev pub IsMade : Choice → Type 0
IsMade (Bad found number) = ⊥
IsMade _ = Unit {0}
