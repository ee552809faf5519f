-- Whether the step of a request makes something.
use Rattle.std.proofs.Common.{◌≡◌, ℕ, ℤ, Bool, true, false, not, List, Option, None, Some, Result, Ok, Err, is_some, refl}
use Rattle.std.specs.Option.{is_none}
use Rattle.std.specs.Prelude.{◌&&◌, if◌then◌else◌, nat_lt, slice_get}
use Rattle.sr_ask.specs.declared.ask.Role.{Role}
use Rattle.sr_ask.specs.declared.request.Request.{Request}
use Rattle.sr_ask.specs.declared.request.Request.TheVariants as request
use Rattle.sr_calls.specs.Calls.{earliest_reply}
use Rattle.sr_core.specs.declared.component.Core.{Core}
use Rattle.sr_core.specs.declared.site.Site.{Site}
use Rattle.sr_instances.specs.Instances.{Instance, global_in, state_of}
use Rattle.sr_select.specs.declared.choice.Choice.{Choice}
use Rattle.sr_select.specs.declared.choice.Choice.TheVariants as choice
use Rattle.sr_store.specs.Variables.{declared_in, loaded_in, stored_in}
use Rattle.sr_value.specs.declared.capability.Cap.{Cap}
use Rattle.sr_value.specs.declared.capability.Cap.TheVariants as cap
use Rattle.sr_value.specs.declared.capability.Owner.{Owner}
use Rattle.sr_value.specs.declared.fault.Fault.{Fault}
use Rattle.sr_value.specs.declared.place.Place.{Place}
use Rattle.sr_value.specs.declared.value.Value.{Value}
use Rattle.sr_world.specs.Deciding.{awaits_input, makes_call, makes_end, makes_global, makes_instance, makes_some}
use Rattle.sr_world.specs.Does.{Does, Did, Undecided, comes_to, done_or, is_made, is_undecided, where_some}
use Rattle.sr_world.specs.Endings.{close_or, destroy, main_instance, may_close, status_in, stop, stop_with}
use Rattle.sr_world.specs.Inputs.{is_decided, item_read}
use Rattle.sr_world.specs.Invoking.{invoke, is_gone}
use Rattle.sr_world.specs.Making.{component_at, has_final_code, is_open, is_ready, needs_ready}
use Rattle.sr_world.specs.Parts.{can_close}
use Rattle.sr_world.specs.Selecting.{by_choice, choice_of, select}
use Rattle.sr_world.specs.Steps.{create, done_by, ensure_found, ensure_global, on_machine}
use Rattle.sr_world.specs.Updates.{release, with_rest}
use Rattle.sr_world.specs.Worlds.{World}
use Rattle.sr_world.specs.declared.duty.Duty.{Duty}
use Rattle.sr_world.specs.declared.ends.End.{End}
use Rattle.sr_world.specs.declared.ends.End.TheVariants as end

abbrev pub makes : Does → Bool
makes does = is_made (comes_to does)

module _ {A : Type 0} where
  made_where : (o : Option A) (next : A → Does) (b : Bool) → ((a : A) → makes (next a) ≡ b) → makes (where_some o next) ≡ (is_some o && b)
  made_where None next b h = refl
  made_where (Some a) next b h = h a

  pub never_where : (o : Option A) (next : A → Does) → ((a : A) → makes (next a) ≡ false) → makes (where_some o next) ≡ false
  never_where None next h = refl
  never_where (Some a) next h = h a

  pub never_done : (place : Place) (meant : Result A Fault) (next : A → Does) → ((a : A) → makes (next a) ≡ false) → makes (done_or place meant next) ≡ false
  never_done place (Ok a) next h = h a
  never_done place (Err fault) next h = refl

both_if : (b p : Bool) (x y : Does) → makes x ≡ p → makes y ≡ p → makes (if b then x else y) ≡ p
both_if true p x y hx hy = hx
both_if false p x y hx hy = hy

where_if : (b : Bool) (x y : Does) → makes x ≡ true → makes y ≡ false → makes (if b then x else y) ≡ b
where_if true x y hx hy = hx
where_if false x y hx hy = hy

unless_if : (b : Bool) (x y : Does) → makes x ≡ false → makes y ≡ true → makes (if b then x else y) ≡ not b
unless_if true x y hx hy = hx
unless_if false x y hx hy = hy

pub never_if : (b : Bool) (x y : Does) → makes x ≡ false → makes y ≡ false → makes (if b then x else y) ≡ false
never_if b x y hx hy = both_if b false x y hx hy

module _ (core : Core) (world : World) (place : Place) (name : ℕ) where
  pub made_invoke : (owner : Owner) (op : ℕ) (args : List Value) (duty : Duty)
      → makes (invoke core place name (cap.Op owner op) args duty world) ≡ (is_some (slice_get core.operations op) && not (is_gone world owner))
  made_invoke owner op args duty =
      made_where (slice_get core.operations op) _ (not (is_gone world owner)) (λ operation. unless_if (is_gone world owner) _ _ refl refl)

  made_found : (global machine : ℕ) (found : Option ℕ) → makes (ensure_found core name global world machine found) ≡ is_none found
  made_found global machine None = refl
  made_found global machine (Some instance) = both_if (is_ready (state_of world.places instance)) false _ _ refl refl

  pub made_ensure : (global machine : ℕ)
      → makes (ensure_global core place name global (cap.Vm machine) world) ≡ (is_some (slice_get core.components global) && is_none (global_in world.places global machine))
  made_ensure global machine =
      made_where (slice_get core.components global) _ (is_none (global_in world.places global machine)) (λ component. made_found global machine (global_in world.places global machine))

  pub made_create : (actor resource machine : ℕ) (args : List Value)
      → makes (create core place actor name resource args (cap.Vm machine) world) ≡ (is_some (slice_get core.components resource) && needs_ready core world resource machine)
  made_create actor resource machine args =
      made_where (slice_get core.components resource) _ (needs_ready core world resource machine) (λ component. where_if (needs_ready core world resource machine) _ _ refl refl)

  pub made_destroy : (instance : ℕ) (duty : Duty) → makes (destroy core place name (cap.Res instance) duty world) ≡ is_open (state_of world.places instance)
  made_destroy instance duty =
      where_if (is_open (state_of world.places instance)) _ _ (both_if (has_final_code core (component_at world instance)) true _ _ refl refl) refl

  made_close : (status : Option ℕ) (ending : End) (main : Option Instance) → makes (close_or core name status ending world main) ≡ can_close core main
  made_close status ending None = refl
  made_close status ending (Some main) = where_if (may_close core main) _ _ refl refl

  pub made_stop : (status : ℤ) → makes (stop core place name status world) ≡ (is_some (status_in status) && can_close core (main_instance core world))
  made_stop status = by (status_in status)
    where
      by : (s : Option ℕ) → makes (stop_with core place name s world) ≡ (is_some s && can_close core (main_instance core world))
      by None = refl
      by (Some n) = made_close (Some n) (end.Stopped n) (main_instance core world)

  never_choice : (actor : ℕ) (site : Site) (chosen : Choice) → makes (by_choice world actor site chosen) ≡ false
  never_choice actor site (choice.Service at arm) = never_where (slice_get world.pending at) _ (λ invocation. refl)
  never_choice actor site choice.Else = refl
  never_choice actor site choice.Nothing = refl
  never_choice actor site (choice.Bad fault arm) = never_where (slice_get site.arms arm) _ (λ a. refl)

  pub never_select : (actor site : ℕ) (env : List Value) → makes (select core world actor site env) ≡ false
  never_select actor site env = never_where (slice_get core.sites site) _ (λ s. never_choice actor s (choice_of core world actor env s))

-- ---- input

abbrev pub waits : Does → Bool
waits does = is_undecided (comes_to does)

module _ {A : Type 0} where
  sure_where : (o : Option A) (next : A → Does) → ((a : A) → waits (next a) ≡ false) → waits (where_some o next) ≡ false
  sure_where None next h = refl
  sure_where (Some a) next h = h a

  sure_done : (place : Place) (meant : Result A Fault) (next : A → Does) → ((a : A) → waits (next a) ≡ false) → waits (done_or place meant next) ≡ false
  sure_done place (Ok a) next h = h a
  sure_done place (Err fault) next h = refl

sure_if : (b : Bool) (x y : Does) → waits x ≡ false → waits y ≡ false → waits (if b then x else y) ≡ false
sure_if true x y hx hy = hx
sure_if false x y hx hy = hy

module _ (core : Core) (place : Place) (name : ℕ) where
  sure_invoke : (target : Cap) (args : List Value) (duty : Duty) (world : World) → waits (invoke core place name target args duty world) ≡ false
  sure_invoke cap.Null args duty world = refl
  sure_invoke cap.Noop args duty world = refl
  sure_invoke (cap.Op owner op) args duty world = sure_where (slice_get core.operations op) _ (λ operation. sure_if (is_gone world owner) _ _ refl refl)
  sure_invoke (cap.Res instance) args duty world = refl
  sure_invoke (cap.Vm machine) args duty world = refl

  sure_machine : (target : Cap) (next : ℕ → Does) → ((machine : ℕ) → waits (next machine) ≡ false) → waits (on_machine place target next) ≡ false
  sure_machine cap.Null next h = refl
  sure_machine cap.Noop next h = refl
  sure_machine (cap.Op owner op) next h = refl
  sure_machine (cap.Res instance) next h = refl
  sure_machine (cap.Vm machine) next h = h machine

  module _ (world : World) where
    sure_found : (global machine : ℕ) (found : Option ℕ) → waits (ensure_found core name global world machine found) ≡ false
    sure_found global machine None = refl
    sure_found global machine (Some instance) = sure_if (is_ready (state_of world.places instance)) _ _ refl refl

    sure_destroy : (target : Cap) (duty : Duty) → waits (destroy core place name target duty world) ≡ false
    sure_destroy cap.Null duty = refl
    sure_destroy cap.Noop duty = refl
    sure_destroy (cap.Op owner op) duty = refl
    sure_destroy (cap.Res instance) duty =
        sure_if (is_open (state_of world.places instance)) _ _ (sure_if (has_final_code core (component_at world instance)) _ _ refl refl) refl
    sure_destroy (cap.Vm machine) duty = refl

    sure_close : (status : Option ℕ) (ending : End) (main : Option Instance) → waits (close_or core name status ending world main) ≡ false
    sure_close status ending None = refl
    sure_close status ending (Some main) = sure_if (may_close core main) _ _ refl refl

    sure_stop : (status : Option ℕ) → waits (stop_with core place name status world) ≡ false
    sure_stop None = refl
    sure_stop (Some n) = sure_close (Some n) (end.Stopped n) (main_instance core world)

    sure_choice : (actor : ℕ) (site : Site) (chosen : Choice) → waits (by_choice world actor site chosen) ≡ false
    sure_choice actor site (choice.Service at arm) = sure_where (slice_get world.pending at) _ (λ invocation. refl)
    sure_choice actor site choice.Else = refl
    sure_choice actor site choice.Nothing = refl
    sure_choice actor site (choice.Bad fault arm) = sure_where (slice_get site.arms arm) _ (λ a. refl)

    sure_select : (actor site : ℕ) (env : List Value) → waits (select core world actor site env) ≡ false
    sure_select actor site env = sure_where (slice_get core.sites site) _ (λ s. sure_choice actor s (choice_of core world actor env s))

    pub waits_is : (actor : ℕ) (role : Role) (r : Request) → waits (done_by core world actor name place role r) ≡ awaits_input world r
    waits_is actor role (request.Declare block var shape) = sure_done place (declared_in world.variables block var shape) _ (λ variables. refl)
    waits_is actor role (request.Load block var path) = sure_done place (loaded_in world.variables block var path) _ (λ value. refl)
    waits_is actor role (request.Store block var path value) = sure_done place (stored_in world.variables block var path value) _ (λ variables. refl)
    waits_is actor role (request.Invoke target args wants) = sure_invoke target args _ world
    waits_is actor role (request.Select site env) = sure_select actor site env
    waits_is actor role (request.Take ids) = sure_where (earliest_reply world.replies actor ids) _ (λ reply. refl)
    waits_is actor role (request.Reply held back results) = refl
    waits_is actor role (request.Forward held back target args) = sure_invoke target args _ (release actor held world)
    waits_is actor role (request.Count op) = sure_where (slice_get core.operations op) _ (λ operation. refl)
    waits_is actor role (request.Write bytes) = refl
    waits_is actor role (request.Read kind) = by (is_decided kind world.rest world.ended)
      where
        by : (b : Bool) → waits (if b then Did (with_rest (item_read kind world.rest).rest world) (item_read kind world.rest).answer else Undecided) ≡ not b
        by true = refl
        by false = refl
    waits_is actor role (request.EnsureGlobal global vm) =
        sure_where (slice_get core.components global) _ (λ component. sure_machine vm _ (λ machine. sure_found global machine (global_in world.places global machine)))
    waits_is actor role (request.Create resource args vm) =
        sure_where (slice_get core.components resource) _ (λ component. sure_machine vm _ (λ machine. sure_if (needs_ready core world resource machine) _ _ refl refl))
    waits_is actor role request.MakeVm = refl
    waits_is actor role (request.Destroy target) = sure_destroy target _
    waits_is actor role (request.Finish answered back results) = refl
    waits_is actor role (request.Stop status) = sure_stop (status_in status)
    waits_is actor role (request.Fail fault) = refl
    waits_is actor role request.Age = refl
    waits_is actor role (request.Wake until) = sure_if (nat_lt world.moment until) _ _ refl refl

-- ---- what a request makes

module _ (core : Core) (place : Place) (name : ℕ) where
  makes_called : (target : Cap) (args : List Value) (duty : Duty) (world : World) → makes (invoke core place name target args duty world) ≡ makes_call core world target
  makes_called cap.Null args duty world = refl
  makes_called cap.Noop args duty world = refl
  makes_called (cap.Op owner op) args duty world = made_invoke core world place name owner op args duty
  makes_called (cap.Res instance) args duty world = refl
  makes_called (cap.Vm machine) args duty world = refl

  module _ (world : World) where
    makes_globally : (global : ℕ) (vm : Cap) → makes (ensure_global core place name global vm world) ≡ makes_global core world global vm
    makes_globally global cap.Null = never_where (slice_get core.components global) _ (λ component. refl)
    makes_globally global cap.Noop = never_where (slice_get core.components global) _ (λ component. refl)
    makes_globally global (cap.Op owner op) = never_where (slice_get core.components global) _ (λ component. refl)
    makes_globally global (cap.Res instance) = never_where (slice_get core.components global) _ (λ component. refl)
    makes_globally global (cap.Vm machine) = made_ensure core world place name global machine

    makes_created : (actor resource : ℕ) (args : List Value) (vm : Cap) → makes (create core place actor name resource args vm world) ≡ makes_instance core world resource vm
    makes_created actor resource args cap.Null = never_where (slice_get core.components resource) _ (λ component. refl)
    makes_created actor resource args cap.Noop = never_where (slice_get core.components resource) _ (λ component. refl)
    makes_created actor resource args (cap.Op owner op) = never_where (slice_get core.components resource) _ (λ component. refl)
    makes_created actor resource args (cap.Res instance) = never_where (slice_get core.components resource) _ (λ component. refl)
    makes_created actor resource args (cap.Vm machine) = made_create core world place name actor resource machine args

    makes_ended : (target : Cap) (duty : Duty) → makes (destroy core place name target duty world) ≡ makes_end world target
    makes_ended cap.Null duty = refl
    makes_ended cap.Noop duty = refl
    makes_ended (cap.Op owner op) duty = refl
    makes_ended (cap.Res instance) duty = made_destroy core world place name instance duty
    makes_ended (cap.Vm machine) duty = refl

    pub makes_is : (actor : ℕ) (role : Role) (r : Request) → makes (done_by core world actor name place role r) ≡ makes_some core world r
    makes_is actor role (request.Declare block var shape) = never_done place (declared_in world.variables block var shape) _ (λ variables. refl)
    makes_is actor role (request.Load block var path) = never_done place (loaded_in world.variables block var path) _ (λ value. refl)
    makes_is actor role (request.Store block var path value) = never_done place (stored_in world.variables block var path value) _ (λ variables. refl)
    makes_is actor role (request.Invoke target args wants) = makes_called target args _ world
    makes_is actor role (request.Select site env) = never_select core world place name actor site env
    makes_is actor role (request.Take ids) = never_where (earliest_reply world.replies actor ids) _ (λ reply. refl)
    makes_is actor role (request.Reply held back results) = refl
    makes_is actor role (request.Forward held back target args) = makes_called target args _ (release actor held world)
    makes_is actor role (request.Count op) = never_where (slice_get core.operations op) _ (λ operation. refl)
    makes_is actor role (request.Write bytes) = refl
    makes_is actor role (request.Read kind) = never_if (is_decided kind world.rest world.ended) _ _ refl refl
    makes_is actor role (request.EnsureGlobal global vm) = makes_globally global vm
    makes_is actor role (request.Create resource args vm) = makes_created actor resource args vm
    makes_is actor role request.MakeVm = refl
    makes_is actor role (request.Destroy target) = makes_ended target _
    makes_is actor role (request.Finish answered back results) = refl
    makes_is actor role (request.Stop status) = made_stop core world place name status
    makes_is actor role (request.Fail fault) = refl
    makes_is actor role request.Age = refl
    makes_is actor role (request.Wake until) = never_if (nat_lt world.moment until) _ _ refl refl
