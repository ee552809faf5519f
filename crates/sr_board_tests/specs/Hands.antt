-- Which parts a seat has in hand.
use Rattle.std.specs.Prelude.{◌≡◌, ◌≤◌, ℕ, List, [], ◌∷◌, map}
use Rattle.atomic_table.specs.Seated.{TableId}
use Rattle.sr_board.specs.declared.seat.BoardSeat.{BoardSeat}
use Rattle.sr_board.specs.declared.view.Held.{Held}
use Rattle.sr_board.specs.Views.{IsIdle}
use Rattle.sr_board_tests.specs.declared.parts.Entry.{Entry}
use Rattle.sr_board_tests.specs.declared.parts.Part.{Part}
use Rattle.sr_board_tests.specs.declared.slots.Slot.{Slot}
use Rattle.sr_board_tests.specs.declared.slots.Slot.TheVariants.{Away}

abbrev pub held_of : Part → Held Entry
held_of part = record { part = part.number; journal = part.journal.items }

-- the place of a part that was taken out
abbrev pub away_of : Part → ℕ × Slot
away_of part = (part.number, Away)

-- the seat has these parts in hand, the last taken first
pub record IsInHand (seat : BoardSeat Slot Entry) (parts : List Part) : Type 0 where
  pub held : seat.token.me.0.held ≡ map held_of parts
  pub carried : seat.token.me.1 ≡ map away_of parts

-- the part was taken last
pub record IsFirst (seat : BoardSeat Slot Entry) (part : Part) : Type 0 where
  pub others : List (Held Entry)
  pub places : List (ℕ × Slot)
  pub held : seat.token.me.0.held ≡ held_of part ∷ others
  pub carried : seat.token.me.1 ≡ away_of part ∷ places

-- the seat is at the same board, with the same number, and has let the same seats split off and join
pub record IsSame (old new : BoardSeat Slot Entry) : Type 0 where
  pub board : new.token.table_id ≡ old.token.table_id
  pub number : new.number ≡ old.number
  pub next : new.next ≡ old.next
  pub joined : new.token.me.0.joined ≡ old.token.me.0.joined

-- the seat of this number is at the board, with nothing in hand
pub record IsSeated (table : TableId) (number : ℕ) (seat : BoardSeat Slot Entry) : Type 0 where
  pub board : seat.token.table_id ≡ table
  pub number_is : seat.number ≡ number
  pub idle : IsIdle seat.token.me

-- two seats are at a board of 32 parts, with nothing in hand
pub record AtBoard (table : TableId) (one two : BoardSeat Slot Entry) : Type 0 where
  pub wide : 32 ≤ table.slots
  pub first : (one.token.table_id ≡ table) × IsIdle one.token.me
  pub second : (two.token.table_id ≡ table) × IsIdle two.token.me

-- the first seat, and all that were split off
pub record IsTeam (table : TableId) (one two three four : BoardSeat Slot Entry) : Type 0 where
  pub first : IsSeated table 1 one
  pub second : IsSeated table 2 two
  pub third : IsSeated table 3 three
  pub fourth : IsSeated table 4 four
  pub next : one.next ≡ 5
  pub joined : one.token.me.0.joined ≡ []
