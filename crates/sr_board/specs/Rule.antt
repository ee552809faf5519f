-- The rule of a board: there is one history, the journal of each part at its place is what the history has of that part, and each seat's entries are what it has of that seat.
use Rattle.std.specs.Prelude.{◌≡◌, ◌==◌, ℕ, ◌+◌, ◌*◌, ◌<◌, ◌≤◌, Bool, true, List, [], All, AllPairs, length, filter, slice_index}
use mathlib.Core.Option as maybe
use mathlib.Core.Option.{some, none}
use lib.ListN.{get_elem?}
use Rattle.atomic_table.specs.Table.{State}
use Rattle.sr_board.specs.declared.view.Held.{Held}
use Rattle.sr_board.specs.declared.view.View.{View}
use Rattle.sr_board.specs.Views.{HasPart}

-- the word of a part: 0, or the number of the seat that has its turn
abbrev pub turn_of : List ℕ → ℕ → ℕ
turn_of words k = slice_index words (k * 16)

-- a seat that is still there has the part in hand
pub record IsTaken {E : Type 0} (views : List (View E)) (k : ℕ) : Type 0 where
  pub id : ℕ
  pub view : View E
  pub there : get_elem? views id ≡ some view
  pub live : view.live ≡ true
  pub has : HasPart view.held k

-- no part is twice in hand
abbrev pub Once : {E : Type 0} → List (Held E) → Type 0
Once held = (i j : ℕ) (g h : Held _) → get_elem? held i ≡ some g → get_elem? held j ≡ some h → g.part ≡ h.part → i ≡ j

module _ {E : Type 0} where
  -- the seat has made the entry
  abbrev pub is_of : (E → ℕ) → ℕ → E → Bool
  is_of seat who e = seat e == who

  -- each stamp is below all later ones
  abbrev pub Ascend : (E → ℕ) → List E → Type 0
  Ascend stamp es = AllPairs (λ e f. stamp e < stamp f) es

  -- nobody has this number now, and these entries have it in the history
  abbrev pub IsFree : (E → ℕ) → (ℕ → maybe.Option ℕ) → List E → ℕ → List E → Type 0
  IsFree seat sits history who es = (sits who ≡ none) × (filter (is_of seat who) history ≡ es)

  -- what a seat's view says of the history: of its own entries, of those of the seats that joined it, and that there are no others of later seats
  pub record Knows (seat stamp : E → ℕ) (sits : ℕ → maybe.Option ℕ) (history : List E) (main id : ℕ) (v : View E) : Type 0 where
    pub own : sits v.number ≡ some id
    pub numbered : (0 < v.number) × (v.number ≤ 16)
    pub entries : v.made ≡ filter (is_of seat v.number) history
    pub ticked : All (λ e. stamp e ≤ v.clock) v.made
    pub once : Once v.held
    pub earlier : (k : ℕ) (es : List E) → get_elem? v.joined k ≡ some es → IsFree seat sits history (k + 2) es
    pub before : (k : ℕ) (es : List E) → get_elem? v.joined k ≡ some es → k + 2 < v.next
    pub most : v.next ≤ 17
    pub only : 0 < v.next → id ≡ main
    pub later : 0 < v.next → (who : ℕ) → v.next ≤ who → IsFree seat sits history who []

  -- a part in hand: its turn is this seat's, and its journal is what the history has of it
  pub record Holds (touches : ℕ → E → Bool) (words : List ℕ) (parts : ℕ) (history : List E) (who : ℕ) (h : Held E) : Type 0 where
    pub turn : turn_of words h.part ≡ who
    pub entries : h.journal ≡ filter (touches h.part) history
    pub within : h.part < parts

  abbrev pub HoldsAll : (ℕ → E → Bool) → List ℕ → ℕ → List E → View E → Type 0
  HoldsAll touches words parts history v = (i : ℕ) (h : Held E) → get_elem? v.held i ≡ some h → Holds touches words parts history v.number h

module _ {S E : Type 0} (journal : S → List E) (belongs : ℕ → S → Type 0) where
  -- a part at its place, with what the history has of it
  abbrev pub IsPart : (ℕ → E → Bool) → List E → ℕ → S → Type 0
  IsPart touches history k x = belongs k x × (journal x ≡ filter (touches k) history)

  -- each part belongs at its place and has no entry yet
  abbrev pub AreNew : List S → Type 0
  AreNew parts = (k : ℕ) (x : S) → get_elem? parts k ≡ some x → belongs k x × (journal x ≡ [])

  pub record Kept (seat stamp : E → ℕ) (touches : ℕ → E → Bool) (s : State S (View E)) : Type 0 where
    pub history : List E
    pub wide : length s.words ≡ length s.homes * 16
    pub home : (k : ℕ) (x : S) → get_elem? s.homes k ≡ some (some x) → IsPart touches history k x
    pub free : (k : ℕ) → k < length s.homes → turn_of s.words k ≡ 0 → (x : S) × (get_elem? s.homes k ≡ some (some x))
    pub at_home : (k : ℕ) (x : S) → get_elem? s.homes k ≡ some (some x) → turn_of s.words k ≡ 0
    pub taken : (k : ℕ) → k < length s.homes → 0 < turn_of s.words k → IsTaken s.views k
    pub sits : ℕ → maybe.Option ℕ
    pub main : ℕ
    pub nobody : IsFree seat sits history 0 []
    pub knows : (id : ℕ) (v : View E) → get_elem? s.views id ≡ some v → v.live ≡ true → Knows seat stamp sits history main id v
    pub held : (id : ℕ) (v : View E) → get_elem? s.views id ≡ some v → v.live ≡ true → HoldsAll touches s.words (length s.homes) history v
    pub seats_ascend : (who : ℕ) → Ascend stamp (filter (is_of seat who) history)
    pub parts_ascend : (k : ℕ) → Ascend stamp (filter (touches k) history)
