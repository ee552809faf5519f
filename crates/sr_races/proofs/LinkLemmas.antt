-- Links go forward, and rows of counts tell what is before what.
use Rattle.std.proofs.Common.{◌↔◌, ◌+◌, ◌<◌, ◌≤◌, ℕ, zero, suc, List, [], ◌∷◌, length, map, arith}
use Rattle.std.specs.Prelude.{slice_index}
use Rattle.sr_ask.specs.Items.{actor_of}
use Rattle.sr_ask.specs.declared.item.Item.{Item}
use Rattle.sr_clocks.proofs.ClockLemmas.{before_forward, rows_tell}
use Rattle.sr_clocks.specs.Clocks.{AreInLine, AreRows, IsNext, Rows, made}
use Rattle.sr_races.specs.Items.{Run, actors}
use Rattle.sr_races.specs.Links.{IsBefore, Linked}
use Rattle.sr_races.specs.declared.link.LinkKind.TheVariants as kind

-- a process makes an item only where there is one
pub within : (items : List Item) (j : ℕ) → 0 < slice_index (map actor_of items) j → j < length items
within [] j some = absurd (omega arith)
within (item ∷ items) zero some = omega arith
within (item ∷ items) (suc j) some = omega (arith, within items j some)

pub next_linked : (r : Run) (i j : ℕ) → IsNext (actors r) i j → Linked r i j
next_linked r i j next = record { kind = kind.Next; link = record { later = next.later; second = within r.items j next.some; is = next } }

pub in_line : (r : Run) → AreInLine (Linked r) (actors r)
in_line r = record { forward = λ i j linked. linked.link.later; in_line = next_linked r }

-- what is before an item comes earlier
pub before_is_earlier : (r : Run) (i j : ℕ) → IsBefore r i j → i < j
before_is_earlier r i j before = before_forward (in_line r).forward i j before

-- the law of clocks, for a run
pub clocks_tell : (r : Run) (count : ℕ) (row : Rows) → AreRows (Linked r) (actors r) count row → (k j : ℕ) → 0 < slice_index (actors r) k → k < j → j < count
    → IsBefore r k j ↔ (made (actors r) (slice_index (actors r) k) (k + 1) ≤ row j (slice_index (actors r) k))
clocks_tell r count row rows k j some less inside = rows_tell (Linked r) (actors r) count row (in_line r) rows k j some less inside
