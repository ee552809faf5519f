-- What each request comes to doesn't depend on the number of its step.
use Rattle.std.proofs.Common.{◌≡◌, ℕ, List, Option, None, Some, refl}
use Rattle.std.specs.Prelude.{slice_get}
use Rattle.sr_ask.specs.declared.ask.Role.{Role}
use Rattle.sr_ask.specs.declared.request.Request.{Request}
use Rattle.sr_ask.specs.declared.request.Request.TheVariants as request
use Rattle.sr_core.specs.declared.component.Core.{Core}
use Rattle.sr_instances.specs.Instances.{Instance, global_in, state_of}
use Rattle.sr_value.specs.declared.capability.Cap.{Cap}
use Rattle.sr_value.specs.declared.capability.Cap.TheVariants as cap
use Rattle.sr_value.specs.declared.place.Place.{Place}
use Rattle.sr_value.specs.declared.value.Value.{Value}
use Rattle.sr_world.specs.Does.{Does, comes_to}
use Rattle.sr_world.specs.Endings.{close_or, destroy, main_instance, may_close, status_in, stop_with}
use Rattle.sr_world.specs.Invoking.{invoke, is_gone}
use Rattle.sr_world.specs.Making.{component_at, has_final_code, is_open, needs_ready}
use Rattle.sr_world.specs.Steps.{done_by, ensure_found, on_machine}
use Rattle.sr_world.specs.Updates.{release}
use Rattle.sr_world.specs.Worlds.{World}
use Rattle.sr_world.specs.declared.ends.End.{End}
use Rattle.sr_world.specs.declared.ends.End.TheVariants as end
use Rattle.sr_world.proofs.NameLemmas.{same-if, same-where}
use Rattle.sr_world.specs.declared.duty.Duty.{Duty}

module _ (core : Core) (world : World) (place : Place) (name other : ℕ) where
  same-invoke : (at : World) (target : Cap) (args : List Value) (duty duty' : Duty)
      → comes_to (invoke core place name target args duty at) ≡ comes_to (invoke core place other target args duty' at)
  same-invoke at cap.Null args duty duty' = refl
  same-invoke at cap.Noop args duty duty' = refl
  same-invoke at (cap.Op owner op) args duty duty' =
      same-where (slice_get core.operations op) _ _ (λ operation. same-if (is_gone at owner) _ _ _ _ refl refl)
  same-invoke at (cap.Res instance) args duty duty' = refl
  same-invoke at (cap.Vm machine) args duty duty' = refl

  same-machine : (target : Cap) (f g : ℕ → Does) → ((machine : ℕ) → comes_to (f machine) ≡ comes_to (g machine))
      → comes_to (on_machine place target f) ≡ comes_to (on_machine place target g)
  same-machine cap.Null f g same = refl
  same-machine cap.Noop f g same = refl
  same-machine (cap.Op owner op) f g same = refl
  same-machine (cap.Res instance) f g same = refl
  same-machine (cap.Vm machine) f g same = same machine

  same-found : (global machine : ℕ) (found : Option ℕ)
      → comes_to (ensure_found core name global world machine found) ≡ comes_to (ensure_found core other global world machine found)
  same-found global machine None = refl
  same-found global machine (Some instance) = refl

  same-destroy : (target : Cap) (duty duty' : Duty) → comes_to (destroy core place name target duty world) ≡ comes_to (destroy core place other target duty' world)
  same-destroy cap.Null duty duty' = refl
  same-destroy cap.Noop duty duty' = refl
  same-destroy (cap.Op owner op) duty duty' = refl
  same-destroy (cap.Res instance) duty duty' =
      same-if (is_open (state_of world.places instance)) _ _ _ _ (same-if (has_final_code core (component_at world instance)) _ _ _ _ refl refl) refl
  same-destroy (cap.Vm machine) duty duty' = refl

  same-close : (status : Option ℕ) (ending : End) (main : Option Instance)
      → comes_to (close_or core name status ending world main) ≡ comes_to (close_or core other status ending world main)
  same-close status ending None = refl
  same-close status ending (Some main) = same-if (may_close core main) _ _ _ _ refl refl

  same-stop : (status : Option ℕ) → comes_to (stop_with core place name status world) ≡ comes_to (stop_with core place other status world)
  same-stop None = refl
  same-stop (Some status) = same-close (Some status) (end.Stopped status) (main_instance core world)

  pub same-step : (actor : ℕ) (role : Role) (r : Request)
      → comes_to (done_by core world actor name place role r) ≡ comes_to (done_by core world actor other place role r)
  same-step actor role (request.Declare block var shape) = refl
  same-step actor role (request.Load block var path) = refl
  same-step actor role (request.Store block var path value) = refl
  same-step actor role (request.Invoke target args wants) = same-invoke world target args _ _
  same-step actor role (request.Select site env) = refl
  same-step actor role (request.Take ids) = refl
  same-step actor role (request.Reply held back results) = refl
  same-step actor role (request.Forward held back target args) = same-invoke (release actor held world) target args _ _
  same-step actor role (request.Count op) = refl
  same-step actor role (request.Write bytes) = refl
  same-step actor role (request.Read kind) = refl
  same-step actor role (request.EnsureGlobal global vm) =
      same-where (slice_get core.components global) _ _
      (λ component. same-machine vm _ _ (λ machine. same-found global machine (global_in world.places global machine)))
  same-step actor role (request.Create resource args vm) =
      same-where (slice_get core.components resource) _ _
      (λ component. same-machine vm _ _ (λ machine. same-if (needs_ready core world resource machine) _ _ _ _ refl refl))
  same-step actor role request.MakeVm = refl
  same-step actor role (request.Destroy target) = same-destroy target _ _
  same-step actor role (request.Finish answered back results) = refl
  same-step actor role (request.Stop status) = same-stop (status_in status)
  same-step actor role (request.Fail fault) = refl
  same-step actor role request.Age = refl
  same-step actor role (request.Wake until) = refl
