-- Which items are linked, and which are before which. A link is told by what its two items ask and by what stands between
-- them: there are no clocks here.
use Rattle.std.specs.Prelude.{◌≡◌, ◌≢◌, ◌==◌, ◌&&◌, ◌<◌, ℕ, Bool, true, false, length, not, slice_get, Option, Some, None}
use Rattle.std.specs.List.{list_any}
use Rattle.sr_ask.specs.declared.ask.Ask.{Ask}
use Rattle.sr_ask.specs.declared.item.Item.{Item}
use Rattle.sr_ask.specs.declared.item.Item.TheVariants.{Step, Quiesce, Tick}
use Rattle.sr_ask.specs.declared.request.Request.{Request}
use Rattle.sr_ask.specs.declared.request.Request.TheVariants as request
use Rattle.sr_calls.specs.Calls.{items_of}
use Rattle.sr_clocks.specs.Clocks.{Before, IsNext}
use Rattle.sr_instances.specs.Instances.{global_in, state_of}
use Rattle.sr_value.specs.declared.capability.Cap.{Cap}
use Rattle.sr_value.specs.declared.capability.Cap.TheVariants.{Vm}
use Rattle.sr_world.specs.Deciding.{is_select}
use Rattle.sr_world.specs.Making.{is_ready}
use Rattle.sr_world.specs.Runs.{Next, Goes}
use Rattle.sr_world.specs.Worlds.{World}
use Rattle.sr_races.specs.Items.{Run, Since, actor_at, actors, answered_at, asked_at, asks, asks_at, number_at, stands_after}
use Rattle.sr_races.specs.declared.link.LinkKind.{LinkKind}
use Rattle.sr_races.specs.declared.link.LinkKind.TheVariants as kind

-- ---- requests

abbrev pub is_take : Request → Bool
is_take (request.Take ids) = true
is_take _ = false

abbrev pub is_stop : Request → Bool
is_stop (request.Stop status) = true
is_stop _ = false

-- ---- what stands in a world

-- a reply to a call of the process waits to be taken
abbrev pub has_reply : ℕ → ℕ → World → Bool
has_reply process id world = list_any (λ reply. reply.id == id) (items_of world.replies process)

abbrev pub instance_ready : ℕ → World → Bool
instance_ready instance world = is_ready (state_of world.places instance)

-- ---- the kinds of links

-- An item makes a process, which has its number, and that one makes its first item. An invocation makes a process so where
-- its operation has a proc, and so do `create`, the import of a global, and `destroy` where there is final code.
pub record IsMaking (r : Run) (i j : ℕ) : Type 0 where
  pub some : 0 < actor_at r j
  pub makes : number_at r i ≡ actor_at r j
  pub first : (k : ℕ) → k < j → actor_at r k ≢ actor_at r j

-- an item makes an invocation, which has its number, and a process services that
pub record IsService (r : Run) (i j : ℕ) : Type 0 where
  pub some : 0 < answered_at r j
  pub makes : number_at r i ≡ answered_at r j
  pub services : asks_at r j is_select ≡ true

-- an item makes a reply, which waits from then on until its caller takes it
pub record IsAnswer (r : Run) (i j : ℕ) : Type 0 where
  pub takes : asks_at r j is_take ≡ true
  pub waits : Since r i j (has_reply (actor_at r j) (answered_at r j))

-- the instance of a global on a machine
abbrev pub global_on : World → ℕ → Cap → Option ℕ
global_on world global (Vm machine) = global_in world.places global machine
global_on world global _ = None

-- the instance of a global that a process asks for
abbrev pub global_asked : World → Request → Option ℕ
global_asked world (request.EnsureGlobal global vm) = global_on world global vm
global_asked world _ = None

abbrev pub global_by : Next → Option Ask → Option ℕ
global_by (Goes state) (Some ask) = global_asked state.world ask.request
global_by now ask = None

abbrev pub global_at : Run → ℕ → Option ℕ
global_at r j = global_by (stands_after r j) (asked_at r j)

-- an instance becomes ready with an item, and is ready from then on until a process asks for it as a global
pub record IsReadiness (r : Run) (i j : ℕ) : Type 0 where
  pub instance : ℕ
  pub asked : global_at r j ≡ Some instance
  pub ready : Since r i j (instance_ready instance)

-- A `stop` and a rest that begin main's final code have the number of its process.
abbrev pub begins_final : Option Item → Option Ask → Bool
begins_final None ask = false
begins_final (Some (Step actor name)) ask = not (name == 0) && asks is_stop ask
begins_final (Some (Quiesce name)) ask = not (name == 0)
begins_final (Some (Tick to)) ask = false

-- main's final code begins with an item; all that ran before ends
abbrev pub ends_all : Run → ℕ → Bool
ends_all r i = begins_final (slice_get r.items i) (asked_at r i)

-- ---- links

-- an item is linked to a later one as this kind says
abbrev pub IsOfKind : Run → ℕ → ℕ → LinkKind → Type 0
IsOfKind r i j kind.Next = IsNext (actors r) i j
IsOfKind r i j kind.Makes = IsMaking r i j
IsOfKind r i j kind.Services = IsService r i j
IsOfKind r i j kind.Answers = IsAnswer r i j
IsOfKind r i j kind.Readies = IsReadiness r i j
-- every item is before one that ends all, and that one is before every later item
IsOfKind r i j kind.Ends = ends_all r j ≡ true
IsOfKind r i j kind.Begins = ends_all r i ≡ true

pub record IsLink (r : Run) (kind : LinkKind) (i j : ℕ) : Type 0 where
  pub later : i < j
  pub second : j < length r.items
  pub is : IsOfKind r i j kind

-- they are linked, in whichever way
pub record Linked (r : Run) (i j : ℕ) : Type 0 where
  pub kind : LinkKind
  pub link : IsLink r kind i j

-- ---- before

-- the least transitive relation that has the links
abbrev pub IsBefore : Run → ℕ → ℕ → Type 0
IsBefore r = Before (Linked r)
