-- What one more event adds to what events make, give and close.
use Rattle.std.proofs.Common.{◌≡◌, ◌||◌, ℕ, Bool, true, false, List, [], ◌∷◌, ◌++◌, refl, ap, sym, ◌∙◌, append-nil, append_assoc}
use Rattle.std.specs.Prelude.{fold, map}
use Rattle.sr_ask.specs.declared.item.Item.{Item}
use Rattle.sr_core.specs.declared.component.Core.{Core}
use Rattle.sr_plain.specs.Engine.{last_by, last_in}
use Rattle.sr_plain.specs.Turns.{last_after}
use Rattle.sr_world.specs.Laws.{closes}
use Rattle.sr_world.specs.Runs.{Event, Makes_item, Gives, Closes, Next, Goes, State, after, after_event, and_then, bytes_in, first, item_in, items_in, led}

abbrev pub bytes_of : Event → List ℕ
bytes_of (Gives bytes) = bytes
bytes_of _ = []

abbrev pub is_close : Event → Bool
is_close Closes = true
is_close _ = false

pub items-more : (events : List Event) (event : Event) → items_in (events ++ event ∷ []) ≡ items_in events ++ item_in event
items-more [] event = append-nil (item_in event)
items-more (e ∷ es) event = ap (λ items. item_in e ++ items) (items-more es event) ∙ sym (append_assoc (item_in e) (items_in es) (item_in event))

pub bytes-more : (events : List Event) (event : Event) → bytes_in (events ++ event ∷ []) ≡ bytes_in events ++ bytes_of event
bytes-more [] (Makes_item item) = refl
bytes-more [] (Gives bytes) = append-nil bytes
bytes-more [] Closes = refl
bytes-more (Makes_item item ∷ es) event = bytes-more es event
bytes-more (Gives bytes ∷ es) event = ap (λ bs. bytes ++ bs) (bytes-more es event) ∙ sym (append_assoc bytes (bytes_in es) (bytes_of event))
bytes-more (Closes ∷ es) event = bytes-more es event

pub or-false : (b : Bool) → (b || false) ≡ b
or-false true = refl
or-false false = refl

pub or-true : (b : Bool) → (b || true) ≡ true
or-true true = refl
or-true false = refl

pub closes-more : (events : List Event) (event : Event) → closes (events ++ event ∷ []) ≡ (closes events || is_close event)
closes-more [] (Makes_item item) = refl
closes-more [] (Gives bytes) = refl
closes-more [] Closes = refl
closes-more (Makes_item item ∷ es) event = closes-more es event
closes-more (Gives bytes ∷ es) event = closes-more es event
closes-more (Closes ∷ es) event = refl

-- ---- items alone

items-made : (items : List Item) → items_in (map Makes_item items) ≡ items
items-made [] = refl
items-made (item ∷ items) = ap (λ is. item ∷ is) (items-made items)

pub items-along : (events : List Event) (items : List Item) → items_in (events ++ map Makes_item items) ≡ items_in events ++ items
items-along [] items = items-made items
items-along (e ∷ es) items = ap (λ is. item_in e ++ is) (items-along es items) ∙ sym (append_assoc (item_in e) (items_in es) items)

bytes-made : (items : List Item) → bytes_in (map Makes_item items) ≡ []
bytes-made [] = refl
bytes-made (item ∷ items) = bytes-made items

pub bytes-along : (events : List Event) (items : List Item) → bytes_in (events ++ map Makes_item items) ≡ bytes_in events
bytes-along [] items = bytes-made items
bytes-along (Makes_item item ∷ es) items = bytes-along es items
bytes-along (Gives bytes ∷ es) items = ap (λ bs. bytes ++ bs) (bytes-along es items)
bytes-along (Closes ∷ es) items = bytes-along es items

pub closes-along : (events : List Event) (items : List Item) → closes (events ++ map Makes_item items) ≡ closes events
closes-along [] [] = refl
closes-along [] (item ∷ items) = closes-along [] items
closes-along (Makes_item item ∷ es) items = closes-along es items
closes-along (Gives bytes ∷ es) items = closes-along es items
closes-along (Closes ∷ es) items = refl

-- ---- the last actor

last-from : (last : ℕ) (events : List Event) → fold last_by last events ≡ fold last_after last (items_in events)
last-from last [] = refl
last-from last (Makes_item item ∷ es) = last-from (last_after last item) es
last-from last (Gives bytes ∷ es) = last-from last es
last-from last (Closes ∷ es) = last-from last es

-- who made the last step is known from the items
pub last-items : (events : List Event) → last_in events ≡ fold last_after 0 (items_in events)
last-items events = last-from 0 events

module _ (core : Core) (limit : ℕ) where
  after-append : (now : Next) (events more : List Event) → after core limit now (events ++ more) ≡ after core limit (after core limit now events) more
  after-append now [] more = refl
  after-append now (event ∷ events) more = after-append (and_then now (λ state. after_event core limit state event)) events more

  pub led-more : (events : List Event) (event : Event) (state : State) (now : Next) → led core limit events ≡ Goes state → after_event core limit state event ≡ now → led core limit (events ++ event ∷ []) ≡ now
  led-more events event state now leads goes = after-append (Goes first) events (event ∷ []) ∙ ap (λ n. after core limit n (event ∷ [])) leads ∙ goes
