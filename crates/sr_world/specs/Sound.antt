-- What every state of a run keeps.
use Rattle.std.specs.Prelude.{◌≡◌, ℕ, zero, suc, ◌<◌, ◌≤◌, ◌==◌, ◌&&◌, Bool, false, List, [], ◌∷◌, count_by, flat_map}
use Rattle.std.specs.List.{list_any}
use Rattle.sr_ask.specs.declared.item.Item.{Item}
use Rattle.sr_ask.specs.declared.item.Item.TheVariants.{Step, Quiesce, Tick}
use Rattle.sr_calls.specs.Calls.{items_of}
use Rattle.sr_world.specs.Worlds.{World, is_live}
use Rattle.sr_world.specs.Runs.{State}
use Rattle.sr_world.specs.Spots.{Calls, Spot, Thing, astray, number_of, stands, tests_of}

-- how often a number was given out
abbrev pub times_used : World → ℕ → ℕ
times_used world name = count_by (λ used. used == name) world.used

-- ---- what steps made

abbrev pub is_step : ℕ → ℕ → Item → Bool
is_step actor name (Step a n) = (a == actor) && (n == name)
is_step actor name (Quiesce n) = false
is_step actor name (Tick to) = false

-- a process made a step that made something with this number
abbrev pub is_call : List Item → Calls
is_call items actor name = list_any (is_step actor name) items

-- the number that an item gives out
abbrev pub given_out : ℕ → List ℕ
given_out zero = []
given_out (suc n) = suc n ∷ []

abbrev pub name_in : Item → List ℕ
name_in (Step actor name) = given_out name
name_in (Quiesce name) = given_out name
name_in (Tick to) = []

abbrev pub names_in : List Item → List ℕ
names_in items = flat_map name_in items

-- ---- numbers

-- Numbers come from one space, and each is given out once; 0 never is. What has a number got one that was given out,
-- and no two processes, instances or machines have one number.
pub record HasSoundNumbers (world : World) : Type 0 where
  pub once : (name : ℕ) → times_used world name ≤ 1
  pub zero_never : times_used world 0 ≡ 0
  pub processes : (name : ℕ) → count_by (λ start. start.process == name) world.live ≤ times_used world name
  pub instances : (name : ℕ) → count_by (λ i. i.name == name) world.places.instances ≤ times_used world name
  pub machines : (name : ℕ) → count_by (λ machine. machine == name) world.places.machines ≤ times_used world name

-- ---- processes

-- only a process that lives holds invocations or has replies, and only one that was made has got answers
pub record HasSoundProcesses (state : State) : Type 0 where
  pub holders : (process : ℕ) → is_live state.world process ≡ false → items_of state.world.held process ≡ []
  pub callers : (process : ℕ) → is_live state.world process ≡ false → items_of state.world.replies process ≡ []
  pub hearers : (process : ℕ) → times_used state.world process ≡ 0 → state.given process ≡ []

-- ---- duties and invocations

-- each duty, each invocation and each service stands in at most one place, under a number that was given out; and
-- each duty is to a process that made the call
pub record HasSoundDuties (calls : Calls) (state : State) : Type 0 where
  pub numbers : (thing : Thing) (spot : Spot) → stands (tests_of thing) state spot ≤ times_used state.world (number_of thing)
  pub places : (thing : Thing) (spot other : Spot) → 0 < stands (tests_of thing) state spot → 0 < stands (tests_of thing) state other → spot ≡ other
  pub callers : (spot : Spot) → stands (astray calls) state spot ≡ 0

-- what every state keeps to which these items lead
pub record IsSound (items : List Item) (state : State) : Type 0 where
  -- the numbers are those that the items gave out, after that of the boot process
  pub used : state.world.used ≡ 1 ∷ names_in items
  pub numbers : HasSoundNumbers state.world
  pub processes : HasSoundProcesses state
  pub duties : HasSoundDuties (is_call items) state
