-- Variables and places: the process's own, and those that it shares.
use Rattle.std.specs.Prelude.{ℕ, List, unwrap_or, slice_get}
use Rattle.sr_value.specs.declared.shape.Sel.{Sel}
use Rattle.sr_value.specs.declared.value.Value.{Value}
use Rattle.sr_ask.specs.Behaviors.{Doing}
use Rattle.sr_ask.specs.Places.{own_load as own_load_at, own_store as own_store_at, load_at as spot_load, load_place as place_load, store_at as spot_store, store_place as place_store, store_results as results_store}
use Rattle.sr_ask.specs.declared.environment.Located.{Located}
use Rattle.sr_ask.specs.declared.environment.Spot.{Spot}
use Rattle.sr_core.specs.declared.owner.Home.{Home}
use Rattle.sr_core.specs.declared.owner.Home.TheVariants.{Mine, Imported}
use Rattle.sr_core.specs.declared.owner.Root.{Root}
use Rattle.sr_meaning.specs.Here.{Here, asker}

-- the instance whose shared variables are meant; a process of an accepted program has a home for each import of its component
abbrev pub block_of : Home → Here → ℕ
block_of Mine here = here.start.instance
block_of (Imported at) here = unwrap_or (slice_get here.start.homes at) 0

abbrev pub spot_of : Root → Here → Spot
spot_of (Root.Own var) here = Spot.Own var
spot_of (Root.Shared home var) here = Spot.Shared (block_of home here) var

abbrev pub own_load : ℕ → List Sel → Here → Doing Value
own_load var path here = own_load_at var path (asker here)

abbrev pub own_store : ℕ → List Sel → Value → Here → Doing (Unit {0})
own_store var path value here = own_store_at var path value (asker here)

abbrev pub load_at : Spot → List Sel → Here → Doing Value
load_at spot path here = spot_load spot path (asker here)

abbrev pub load_place : Located → Here → Doing Value
load_place place here = place_load place (asker here)

abbrev pub store_at : Spot → List Sel → Value → Here → Doing (Unit {0})
store_at spot path value here = spot_store spot path value (asker here)

abbrev pub store_place : Located → Value → Here → Doing (Unit {0})
store_place place value here = place_store place value (asker here)

abbrev pub store_results : List Located → List Value → Here → Doing (List Value)
store_results places values here = results_store places values (asker here)
