-- Whether a request can be done now.
use Rattle.std.proofs.Common.{◌≡◌, ℕ, Bool, true, false, not, List, Option, None, Some, Result, Ok, Err, is_some, refl}
use Rattle.std.specs.Prelude.{◌&&◌, if◌then◌else◌, nat_lt, slice_get}
use Rattle.sr_ask.specs.declared.ask.Role.{Role}
use Rattle.sr_ask.specs.declared.request.Request.{Request}
use Rattle.sr_ask.specs.declared.request.Request.TheVariants as request
use Rattle.sr_calls.specs.Calls.{earliest_reply}
use Rattle.sr_core.specs.declared.component.Core.{Core}
use Rattle.sr_core.specs.declared.site.Site.{Site}
use Rattle.sr_instances.specs.Instances.{Instance, global_in, state_of}
use Rattle.sr_select.specs.declared.choice.Choice.{Choice}
use Rattle.sr_select.specs.declared.choice.Choice.TheVariants as chosen
use Rattle.sr_store.specs.Variables.{declared_in, loaded_in, stored_in}
use Rattle.sr_value.specs.declared.capability.Cap.{Cap}
use Rattle.sr_value.specs.declared.capability.Cap.TheVariants as cap
use Rattle.sr_value.specs.declared.fault.Fault.{Fault}
use Rattle.sr_value.specs.declared.place.Place.{Place}
use Rattle.sr_value.specs.declared.value.Value.{Value}
use Rattle.sr_world.specs.Deciding.{can_choose, can_create, can_destroy, can_do, can_ensure, can_invoke, can_select, can_select_in, can_where, is_none_or_ready}
use Rattle.sr_world.specs.Does.{Does, comes_to, done_or, is_possible, where_some}
use Rattle.sr_world.specs.Endings.{close_or, destroy, main_instance, may_close, status_in, stop_with}
use Rattle.sr_world.specs.Inputs.{is_decided}
use Rattle.sr_world.specs.Invoking.{invoke, is_gone}
use Rattle.sr_world.specs.Making.{component_at, has_final_code, is_open, is_ready, needs_ready}
use Rattle.sr_world.specs.Selecting.{by_choice, choice_of, select, select_at}
use Rattle.sr_world.specs.Steps.{create, done_by, ensure_found, ensure_global, on_machine}
use Rattle.sr_world.specs.Updates.{release}
use Rattle.sr_world.specs.Worlds.{World}
use Rattle.sr_world.specs.declared.duty.Duty.{Duty}
use Rattle.sr_world.specs.declared.ends.End.{End}
use Rattle.sr_world.specs.declared.ends.End.TheVariants as end

abbrev pub possible : Does → Bool
possible does = is_possible (comes_to does)

module _ {A : Type 0} where
  can_some : (o : Option A) (next : A → Does) → ((a : A) → possible (next a) ≡ true) → possible (where_some o next) ≡ is_some o
  can_some None next h = refl
  can_some (Some a) next h = h a

  can_some_and : (o : Option A) (next : A → Does) (b : Bool) → ((a : A) → possible (next a) ≡ b) → possible (where_some o next) ≡ (is_some o && b)
  can_some_and None next b h = refl
  can_some_and (Some a) next b h = h a

  can_done : (place : Place) (meant : Result A Fault) (next : A → Does) → ((a : A) → possible (next a) ≡ true) → possible (done_or place meant next) ≡ true
  can_done place (Ok a) next h = h a
  can_done place (Err fault) next h = refl

can_if : (b : Bool) (x y : Does) → possible x ≡ true → possible y ≡ true → possible (if b then x else y) ≡ true
can_if true x y hx hy = hx
can_if false x y hx hy = hy

can_where_if : (b : Bool) (x y : Does) → possible x ≡ true → possible y ≡ false → possible (if b then x else y) ≡ b
can_where_if true x y hx hy = hx
can_where_if false x y hx hy = hy

can_unless_if : (b : Bool) (x y : Does) → possible x ≡ false → possible y ≡ true → possible (if b then x else y) ≡ not b
can_unless_if true x y hx hy = hx
can_unless_if false x y hx hy = hy

module _ (core : Core) (place : Place) (name : ℕ) where
  can_call : (target : Cap) (args : List Value) (duty : Duty) (world : World) → possible (invoke core place name target args duty world) ≡ can_invoke core target
  can_call cap.Null args duty world = refl
  can_call cap.Noop args duty world = refl
  can_call (cap.Op owner op) args duty world = can_some (slice_get core.operations op) _ (λ operation. can_if (is_gone world owner) _ _ refl refl)
  can_call (cap.Res instance) args duty world = refl
  can_call (cap.Vm machine) args duty world = refl

  can_machine : (target : Cap) (next : ℕ → Does) (ready : ℕ → Bool) → ((machine : ℕ) → possible (next machine) ≡ ready machine) → possible (on_machine place target next) ≡ can_where target ready
  can_machine cap.Null next ready h = refl
  can_machine cap.Noop next ready h = refl
  can_machine (cap.Op owner op) next ready h = refl
  can_machine (cap.Res instance) next ready h = refl
  can_machine (cap.Vm machine) next ready h = h machine

  module _ (world : World) where
    can_find : (global machine : ℕ) (found : Option ℕ) → possible (ensure_found core name global world machine found) ≡ is_none_or_ready world found
    can_find global machine None = refl
    can_find global machine (Some instance) = can_where_if (is_ready (state_of world.places instance)) _ _ refl refl

    can_globally : (global : ℕ) (vm : Cap) → possible (ensure_global core place name global vm world) ≡ can_ensure core world global vm
    can_globally global vm =
        can_some_and (slice_get core.components global) _ (can_where vm (λ machine. is_none_or_ready world (global_in world.places global machine)))
        (λ component. can_machine vm _ (λ machine. is_none_or_ready world (global_in world.places global machine)) (λ machine. can_find global machine (global_in world.places global machine)))

    can_make : (actor resource : ℕ) (args : List Value) (vm : Cap) → possible (create core place actor name resource args vm world) ≡ can_create core world resource vm
    can_make actor resource args vm =
        can_some_and (slice_get core.components resource) _ (can_where vm (needs_ready core world resource))
        (λ component. can_machine vm _ (needs_ready core world resource) (λ machine. can_where_if (needs_ready core world resource machine) _ _ refl refl))

    can_end : (target : Cap) (duty : Duty) → possible (destroy core place name target duty world) ≡ can_destroy target
    can_end cap.Null duty = refl
    can_end cap.Noop duty = refl
    can_end (cap.Op owner op) duty = refl
    can_end (cap.Res instance) duty =
        can_if (is_open (state_of world.places instance)) _ _ (can_if (has_final_code core (component_at world instance)) _ _ refl refl) refl
    can_end (cap.Vm machine) duty = refl

    can_close_or : (status : Option ℕ) (ending : End) (main : Option Instance) → possible (close_or core name status ending world main) ≡ true
    can_close_or status ending None = refl
    can_close_or status ending (Some main) = can_if (may_close core main) _ _ refl refl

    can_stop : (status : Option ℕ) → possible (stop_with core place name status world) ≡ true
    can_stop None = refl
    can_stop (Some n) = can_close_or (Some n) (end.Stopped n) (main_instance core world)

    can_choice : (actor : ℕ) (site : Site) (choice : Choice) → possible (by_choice world actor site choice) ≡ can_choose world site choice
    can_choice actor site (chosen.Service at arm) = can_some (slice_get world.pending at) _ (λ invocation. refl)
    can_choice actor site chosen.Else = refl
    can_choice actor site chosen.Nothing = refl
    can_choice actor site (chosen.Bad fault arm) = can_some (slice_get site.arms arm) _ (λ a. refl)

    can_selecting : (actor site : ℕ) (env : List Value) → possible (select core world actor site env) ≡ can_select core world actor site env
    can_selecting actor site env = by (slice_get core.sites site)
      where
        by : (o : Option Site) → possible (where_some o (select_at core world actor env)) ≡ can_select_in core world actor env o
        by None = refl
        by (Some s) = can_choice actor s (choice_of core world actor env s)

    pub can_is : (actor : ℕ) (role : Role) (r : Request) → possible (done_by core world actor name place role r) ≡ can_do core world actor r
    can_is actor role (request.Declare block var shape) = can_done place (declared_in world.variables block var shape) _ (λ variables. refl)
    can_is actor role (request.Load block var path) = can_done place (loaded_in world.variables block var path) _ (λ value. refl)
    can_is actor role (request.Store block var path value) = can_done place (stored_in world.variables block var path value) _ (λ variables. refl)
    can_is actor role (request.Invoke target args wants) = can_call target args _ world
    can_is actor role (request.Select site env) = can_selecting actor site env
    can_is actor role (request.Take ids) = can_some (earliest_reply world.replies actor ids) _ (λ reply. refl)
    can_is actor role (request.Reply held back results) = refl
    can_is actor role (request.Forward held back target args) = can_call target args _ (release actor held world)
    can_is actor role (request.Count op) = can_some (slice_get core.operations op) _ (λ operation. refl)
    can_is actor role (request.Write bytes) = refl
    can_is actor role (request.Read kind) = can_if (is_decided kind world.rest world.ended) _ _ refl refl
    can_is actor role (request.EnsureGlobal global vm) = can_globally global vm
    can_is actor role (request.Create resource args vm) = can_make actor resource args vm
    can_is actor role request.MakeVm = refl
    can_is actor role (request.Destroy target) = can_end target _
    can_is actor role (request.Finish answered back results) = refl
    can_is actor role (request.Stop status) = can_stop (status_in status)
    can_is actor role (request.Fail fault) = refl
    can_is actor role request.Age = refl
    can_is actor role (request.Wake until) = can_unless_if (nat_lt world.moment until) _ _ refl refl
