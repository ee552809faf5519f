-- A run, and what stands before and after each of its items. Items are counted from 0 here, and from 1 where they are shown.
use Rattle.std.specs.Prelude.{◌≡◌, ◌≤◌, ◌<◌, ℕ, Bool, true, false, List, map, slice_get, slice_index, take, Option, Some, None}
use Rattle.sr_ask.specs.Items.{actor_of, number_of}
use Rattle.sr_ask.specs.declared.ask.Ask.{Ask}
use Rattle.sr_ask.specs.declared.item.Item.{Item}
use Rattle.sr_ask.specs.declared.item.Item.TheVariants.{Step}
use Rattle.sr_ask.specs.declared.request.Request.{Request}
use Rattle.sr_core.specs.declared.component.Core.{Core}
use Rattle.sr_replay.specs.Naming.{asked_in, named_at}
use Rattle.sr_world.specs.Runs.{Next, Goes, run}
use Rattle.sr_world.specs.Worlds.{World}

-- a program, how many statements a process may begin between two answers, the input, and the items
pub record Run : Type 0 where
  pub core : Core
  pub limit : ℕ
  pub input : List ℕ
  pub items : List Item

-- where the run is after its first items, so many
abbrev pub stands_after : Run → ℕ → Next
stands_after r count = run r.core r.limit r.input (take count r.items)

-- ---- who makes an item, and under which number

abbrev pub actors : Run → List ℕ
actors r = map actor_of r.items

-- the number of the process that makes an item
abbrev pub actor_at : Run → ℕ → ℕ
actor_at r i = slice_index (actors r) i

abbrev pub numbers : Run → List ℕ
numbers r = map number_of r.items

abbrev pub number_at : Run → ℕ → ℕ
number_at r i = slice_index (numbers r) i

-- ---- what it asks, and what is answered

abbrev pub asked_by : Core → ℕ → Next → Option Item → Option Ask
asked_by core limit (Goes state) (Some (Step process name)) = asked_in core limit state process
asked_by core limit now item = None

-- what the process asks that makes an item
abbrev pub asked_at : Run → ℕ → Option Ask
asked_at r i = asked_by r.core r.limit (stands_after r i) (slice_get r.items i)

abbrev pub asks : (Request → Bool) → Option Ask → Bool
asks test None = false
asks test (Some ask) = test ask.request

-- the process that makes an item asks so
abbrev pub asks_at : Run → ℕ → (Request → Bool) → Bool
asks_at r i test = asks test (asked_at r i)

abbrev pub answered_by : Core → ℕ → Next → Option Item → ℕ
answered_by core limit (Goes state) (Some item) = named_at core limit state item
answered_by core limit now item = 0

-- the number of the invocation that its answer names: one that it services, or to which it takes a reply; else 0
abbrev pub answered_at : Run → ℕ → ℕ
answered_at r i = answered_by r.core r.limit (stands_after r i) (slice_get r.items i)

-- ---- what stands before it

abbrev pub passes : Next → (World → Bool) → Bool
passes (Goes state) test = test state.world
passes now test = false

-- what is tested stands in the world after the first items, so many
abbrev pub passes_at : Run → ℕ → (World → Bool) → Bool
passes_at r count test = passes (stands_after r count) test

-- it comes to stand with one item, and stands from then on up to another
pub record Since (r : Run) (i j : ℕ) (test : World → Bool) : Type 0 where
  pub before : passes_at r i test ≡ false
  pub after : (k : ℕ) → i < k → k ≤ j → passes_at r k test ≡ true
