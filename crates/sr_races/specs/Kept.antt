-- The links that a search keeps, and rows by them.
use Rattle.std.specs.Prelude.{◌≡◌, ◌<◌, ℕ, true, false}
use Rattle.sr_clock_rows.specs.Rows.{AreClocks, count_of}
use Rattle.sr_clock_rows.specs.declared.clocks.Clocks.{Clocks}
use Rattle.sr_clocks.specs.Clocks.{AreRows}
use Rattle.sr_races.specs.Items.{Run, actors}
use Rattle.sr_races.specs.Links.{Linked, ends_all}
use Rattle.sr_races.specs.declared.link.LinkKind.TheVariants as kind

-- the last item before another that ended all
pub record IsLastEnding (r : Run) (j i : ℕ) : Type 0 where
  pub earlier : i < j
  pub ends : ends_all r i ≡ true
  pub none : (k : ℕ) → i < k → k < j → ends_all r k ≡ false

-- of the items that ended all before an item, the last alone is linked to it
pub record IsKept (r : Run) (i j : ℕ) : Type 0 where
  pub link : Linked r i j
  pub last : link.kind ≡ kind.Begins → IsLastEnding r j i

-- rows of the first items of a run, so many
pub record HasRows (r : Run) (count : ℕ) (clocks : Clocks) : Type 0 where
  pub are : AreClocks (actors r) count clocks
  pub rows : AreRows (IsKept r) (actors r) count (count_of clocks)
