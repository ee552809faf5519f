-- Which parts of shared variables an item reads and writes.
use Rattle.std.specs.Prelude.{◌≡◌, ◌||◌, ◌⊎◌, ℕ, Bool, true, false, Contains, List, [], ◌∷◌, ◌++◌, filter_map, Option, Some, None}
use Rattle.sr_ask.specs.declared.ask.Ask.{Ask}
use Rattle.sr_ask.specs.declared.entry.Seen.{Seen}
use Rattle.sr_ask.specs.declared.entry.Seen.TheVariants as seen
use Rattle.sr_ask.specs.declared.request.Request.{Request}
use Rattle.sr_ask.specs.declared.request.Request.TheVariants as request
use Rattle.sr_core.specs.declared.component.Core.{Core}
use Rattle.sr_value.specs.declared.shape.Sel.{Sel}
use Rattle.sr_world.specs.Runs.{Next, Goes}
use Rattle.sr_world.specs.Seeing.{seen_by}
use Rattle.sr_world.specs.Worlds.{World}
use Rattle.sr_races.specs.declared.access.Access.{Access}
use Rattle.sr_races.specs.Items.{Run, actor_at, asked_at, stands_after}

-- a part of a shared variable, by its instance and its number there and the way to the part, and whether it is written
abbrev pub part : ℕ → ℕ → List Sel → Bool → Access
part block var path writes = record { block = block; var = var; path = path; writes = writes }

-- a choice that reads a cell reads that part; one that counts invocations reads no variable
abbrev pub cell_in : Seen → Option Access
cell_in (seen.Cell block var path value) = Some (part block var path false)
cell_in (seen.Pending op count) = None

-- what a request of a process accesses in a world
abbrev pub accesses_by : Core → World → ℕ → Request → List Access
accesses_by core world process (request.Declare block var shape) = part block var [] true ∷ []
accesses_by core world process (request.Load block var path) = part block var path false ∷ []
accesses_by core world process (request.Store block var path value) = part block var path true ∷ []
accesses_by core world process (request.Select site env) = filter_map cell_in (seen_by core world process (request.Select site env))
accesses_by core world process _ = []

-- An item accesses what its request names, whether it is done or its fault ends the run.
abbrev pub accesses_in : Core → Next → ℕ → Option Ask → List Access
accesses_in core (Goes state) process (Some ask) = accesses_by core state.world process ask.request
accesses_in core now process ask = []

abbrev pub accesses_at : Run → ℕ → List Access
accesses_at r i = accesses_in r.core (stands_after r i) (actor_at r i) (asked_at r i)

-- ---- conflicts

-- a way that goes on from where another ends, or ends there
pub record LeadsOn (path longer : List Sel) : Type 0 where
  pub rest : List Sel
  pub is : path ++ rest ≡ longer

-- the same variable, one writes at least, and one part is within the other
pub record Conflict (one other : Access) : Type 0 where
  pub block : one.block ≡ other.block
  pub var : one.var ≡ other.var
  pub writes : (one.writes || other.writes) ≡ true
  pub within : LeadsOn one.path other.path ⊎ LeadsOn other.path one.path

-- an access conflicts with one of these
pub record ConflictWith (one : Access) (others : List Access) : Type 0 where
  pub other : Access
  pub among : Contains others other
  pub conflict : Conflict one other

-- one of these conflicts with one of the others
pub record SomeConflict (ones others : List Access) : Type 0 where
  pub one : Access
  pub among : Contains ones one
  pub conflict : ConflictWith one others
