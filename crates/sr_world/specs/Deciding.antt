-- What is known of a request before it is carried out.
use Rattle.std.specs.Prelude.{ℕ, Bool, true, false, not, ◌&&◌, List, Option, None, Some, is_some, nat_lt, slice_get}
use Rattle.std.specs.Option.{is_none}
use Rattle.sr_ask.specs.declared.request.Request.{Request}
use Rattle.sr_ask.specs.declared.request.Request.TheVariants as request
use Rattle.sr_calls.specs.Calls.{earliest_reply}
use Rattle.sr_core.specs.declared.component.Core.{Core}
use Rattle.sr_core.specs.declared.site.Site.{Site}
use Rattle.sr_instances.specs.Instances.{global_in, state_of}
use Rattle.sr_select.specs.declared.choice.Choice.{Choice}
use Rattle.sr_select.specs.declared.choice.Choice.TheVariants as chosen
use Rattle.sr_value.specs.declared.capability.Cap.{Cap}
use Rattle.sr_value.specs.declared.capability.Cap.TheVariants as cap
use Rattle.sr_value.specs.declared.value.Value.{Value}
use Rattle.sr_world.specs.Endings.{main_instance, status_in}
use Rattle.sr_world.specs.Inputs.{is_decided}
use Rattle.sr_world.specs.Invoking.{is_gone}
use Rattle.sr_world.specs.Making.{is_open, is_ready, needs_ready}
use Rattle.sr_world.specs.Parts.{can_close}
use Rattle.sr_world.specs.Selecting.{choice_of}
use Rattle.sr_world.specs.Worlds.{World}

-- ---- whether the step makes something

abbrev pub makes_call : Core → World → Cap → Bool
makes_call core world cap.Noop = true
makes_call core world (cap.Op owner op) = is_some (slice_get core.operations op) && not (is_gone world owner)
makes_call core world _ = false

abbrev pub makes_global : Core → World → ℕ → Cap → Bool
makes_global core world global (cap.Vm machine) = is_some (slice_get core.components global) && is_none (global_in world.places global machine)
makes_global core world global _ = false

abbrev pub makes_instance : Core → World → ℕ → Cap → Bool
makes_instance core world resource (cap.Vm machine) = is_some (slice_get core.components resource) && needs_ready core world resource machine
makes_instance core world resource _ = false

abbrev pub makes_end : World → Cap → Bool
makes_end world cap.Noop = true
makes_end world (cap.Res instance) = is_open (state_of world.places instance)
makes_end world _ = false

abbrev pub makes_some : Core → World → Request → Bool
makes_some core world (request.Invoke target args wants) = makes_call core world target
makes_some core world (request.Forward held back target args) = makes_call core world target
makes_some core world (request.EnsureGlobal global vm) = makes_global core world global vm
makes_some core world (request.Create resource args vm) = makes_instance core world resource vm
makes_some core world request.MakeVm = true
makes_some core world (request.Destroy target) = makes_end world target
makes_some core world (request.Stop status) = is_some (status_in status) && can_close core (main_instance core world)
makes_some core world _ = false

-- ---- input

-- only a `read` waits for input
abbrev pub awaits_input : World → Request → Bool
awaits_input world (request.Read kind) = not (is_decided kind world.rest world.ended)
awaits_input world _ = false

-- ---- whether it can be done now

-- an operation that is in the program; `null` and an owner that is gone end the run
abbrev pub can_invoke : Core → Cap → Bool
can_invoke core cap.Null = true
can_invoke core cap.Noop = true
can_invoke core (cap.Op owner op) = is_some (slice_get core.operations op)
can_invoke core _ = false

-- a capability that isn't one of a machine ends the run where it is `null` or `noop`
abbrev pub can_where : Cap → (ℕ → Bool) → Bool
can_where cap.Null ready = true
can_where cap.Noop ready = true
can_where (cap.Vm machine) ready = ready machine
can_where _ ready = false

-- whether no instance of a global is on a machine, or one that is ready
abbrev pub is_none_or_ready : World → Option ℕ → Bool
is_none_or_ready world None = true
is_none_or_ready world (Some instance) = is_ready (state_of world.places instance)

abbrev pub can_ensure : Core → World → ℕ → Cap → Bool
can_ensure core world global vm =
    is_some (slice_get core.components global) && can_where vm (λ machine. is_none_or_ready world (global_in world.places global machine))

abbrev pub can_create : Core → World → ℕ → Cap → Bool
can_create core world resource vm = is_some (slice_get core.components resource) && can_where vm (needs_ready core world resource)

abbrev pub can_destroy : Cap → Bool
can_destroy cap.Null = true
can_destroy cap.Noop = true
can_destroy (cap.Res instance) = true
can_destroy _ = false

-- what an `in` statement chooses can be done
abbrev pub can_choose : World → Site → Choice → Bool
can_choose world site (chosen.Service place arm) = is_some (slice_get world.pending place)
can_choose world site chosen.Else = true
can_choose world site chosen.Nothing = false
can_choose world site (chosen.Bad fault arm) = is_some (slice_get site.arms arm)

abbrev pub can_select_at : Core → World → ℕ → List Value → Site → Bool
can_select_at core world actor env site = can_choose world site (choice_of core world actor env site)

abbrev pub can_select_in : Core → World → ℕ → List Value → Option Site → Bool
can_select_in core world actor env None = false
can_select_in core world actor env (Some site) = can_select_at core world actor env site

abbrev pub can_select : Core → World → ℕ → ℕ → List Value → Bool
can_select core world actor site env = can_select_in core world actor env (slice_get core.sites site)

abbrev pub can_do : Core → World → ℕ → Request → Bool
can_do core world actor (request.Invoke target args wants) = can_invoke core target
can_do core world actor (request.Select site env) = can_select core world actor site env
can_do core world actor (request.Take ids) = is_some (earliest_reply world.replies actor ids)
can_do core world actor (request.Forward held back target args) = can_invoke core target
can_do core world actor (request.Count op) = is_some (slice_get core.operations op)
can_do core world actor (request.EnsureGlobal global vm) = can_ensure core world global vm
can_do core world actor (request.Create resource args vm) = can_create core world resource vm
can_do core world actor (request.Destroy target) = can_destroy target
can_do core world actor (request.Wake until) = not (nat_lt world.moment until)
can_do core world actor _ = true

-- only the guards of an `in` statement take memory to look at
abbrev pub is_select : Request → Bool
is_select (request.Select site env) = true
is_select _ = false
