-- What is known of a board that was closed.
use Rattle.std.specs.Prelude.{◌≡◌, ℕ, ◌+◌, ◌≤◌, Bool, List, [], AllPairs, filter}
use mathlib.Core.Option.{some}
use lib.ListN.{get_elem?}
use Rattle.sr_board.specs.declared.view.View.{View}
use Rattle.sr_board.specs.Rule.{Ascend, IsPart, is_of}

-- two entries of one seat with one stamp
abbrev pub SameNumber : {E : Type 0} → (E → ℕ) → (E → ℕ) → E → E → Type 0
SameNumber seat stamp e f = (seat e ≡ seat f) × (stamp e ≡ stamp f)

module _ {S E : Type 0} (journal : S → List E) (belongs : ℕ → S → Type 0) (seat stamp : E → ℕ) (touches : ℕ → E → Bool) where
  -- There is one history. Each part is at its place with what it has of that part, and each seat has made what it has of that seat
  pub record IsHistory (own : View E) (parts : List S) : Type 0 where
    pub history : List E
    pub at_place : (k : ℕ) (x : S) → get_elem? parts k ≡ some x → IsPart journal belongs touches history k x
    pub own_entries : filter (is_of seat own.number) history ≡ own.made
    pub joined_entries : (k : ℕ) (es : List E) → get_elem? own.joined k ≡ some es → filter (is_of seat (k + 2)) history ≡ es
    pub none_before : filter (is_of seat 0) history ≡ []
    pub none_after : (who : ℕ) → own.next ≤ who → filter (is_of seat who) history ≡ []
    pub seats_ascend : (who : ℕ) → Ascend stamp (filter (is_of seat who) history)
    pub parts_ascend : (k : ℕ) → Ascend stamp (filter (touches k) history)
    pub numbers_differ : AllPairs (λ e f. ¬ SameNumber seat stamp e f) history
