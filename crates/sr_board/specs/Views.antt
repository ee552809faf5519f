-- What a seat knows, what each step makes of it, and what a step asks of it.
use Rattle.std.specs.Prelude.{◌≡◌, ℕ, ◌+◌, ◌<◌, Bool, true, false, List, [], ◌∷◌, ◌++◌, All, length, map, if◌then◌else◌}
use mathlib.Core.Option.{some}
use lib.ListN.{get_elem?}
use Rattle.atomic_table.specs.Table.{Me}
use Rattle.sr_board.specs.declared.view.Held.{Held}
use Rattle.sr_board.specs.declared.view.View.{View}

module _ {E : Type 0} where
  -- the first seat of a board
  abbrev pub first_view : View E
  first_view = record { number = 1; next = 2; clock = 0; live = true; made = []; held = []; joined = []; refused = [] }

  -- the seat that is split off, and the one that it is split from
  abbrev pub split_off : View E → View E
  split_off v = record { number = v.next; next = 0; clock = 0; live = true; made = []; held = []; joined = []; refused = [] }

  abbrev pub splitting : View E → View E
  splitting v = record v { next = v.next + 1 }

  -- a seat that takes in another, and what is left of that one
  abbrev pub joining : View E → View E → View E
  joining v w = record v { joined = v.joined ++ w.made ∷ [] }

  abbrev pub spent_view : View E
  spent_view = record { number = 0; next = 0; clock = 0; live = false; made = []; held = []; joined = []; refused = [] }

  -- one part more in hand
  abbrev pub with_part : View E → ℕ → List E → View E
  with_part v k journal = record v { held = record { part = k; journal = journal } ∷ v.held }

  -- a turn was refused
  abbrev pub with_refusal : View E → ℕ → ℕ → View E
  with_refusal v k holder = record v { refused = v.refused ++ record { part = k; holder = holder } ∷ [] }

  abbrev pub rest_held : List (Held E) → List (Held E)
  rest_held [] = []
  rest_held (h ∷ hs) = hs

  -- without the part that was taken last
  abbrev pub without_last : View E → View E
  without_last v = record v { held = rest_held v.held }

  -- an entry goes into the journal of a part that it touches
  abbrev pub held_after : (ℕ → E → Bool) → E → Held E → Held E
  held_after touches e h = record h { journal = h.journal ++ (if touches h.part e then e ∷ [] else []) }

  -- one entry more
  abbrev pub with_entry : (E → ℕ) → (ℕ → E → Bool) → E → View E → View E
  with_entry stamp touches e v = record v { clock = stamp e; made = v.made ++ e ∷ []; held = map (held_after touches e) v.held }

  -- the part is among those in hand
  abbrev pub HasPart : List (Held E) → ℕ → Type 0
  HasPart held k = (i : ℕ) × (h : Held E) × (get_elem? held i ≡ some h) × (h.part ≡ k)

  -- every part that the entry touches is in hand
  abbrev pub HasTouched : (ℕ → E → Bool) → View E → E → Type 0
  HasTouched touches v e = (k : ℕ) → touches k e ≡ true → HasPart v.held k

  -- a stamp above those of all entries of the seat and of the parts in hand
  pub record IsAfter (stamp : E → ℕ) (v : View E) (n : ℕ) : Type 0 where
    pub own : v.clock < n
    pub in_hand : (i : ℕ) (h : Held E) → get_elem? v.held i ≡ some h → All (λ e. stamp e < n) h.journal

  -- w was split off right after those that have joined
  abbrev pub IsNext : View E → View E → Type 0
  IsNext v w = (w.number ≡ length v.joined + 2) × (w.number < v.next)

  -- each seat that was split off has joined the first one
  abbrev pub AllJoined : View E → Type 0
  AllJoined v = (v.number ≡ 1) × (length v.joined + 2 ≡ v.next)

module _ {S E : Type 0} where
  -- nothing is in hand
  abbrev pub IsIdle : Me S (View E) → Type 0
  IsIdle me = (me.0.held ≡ []) × (me.1 ≡ [])

  -- the part was taken last, and lies at its place with the journal that the history has of it
  pub record IsReady (journal : S → List E) (belongs : ℕ → S → Type 0) (me : Me S (View E)) (k : ℕ) : Type 0 where
    pub value : S
    pub values : List (ℕ × S)
    pub first : Held E
    pub others : List (Held E)
    pub held : me.0.held ≡ first ∷ others
    pub carried : me.1 ≡ (k, value) ∷ values
    pub same_part : first.part ≡ k
    pub at_place : belongs k value
    pub same_journal : journal value ≡ first.journal
