-- What the initial process of a new instance is started with.
use Rattle.std.proofs.Common.{◌≡◌, ℕ, ◌==◌, ◌&&◌, Bool, true, false, cond, List, [], ◌∷◌, Option, None, Some, IsSome, unwrap_or, map, refl, ap, sym, ◌∙◌, eq-eqb}
use Rattle.std.proofs.lemmas.List.Folds.{find-append}
use Rattle.std.specs.Option.{option_map, option_or}
use Rattle.std.specs.Prelude.{find}
use Rattle.sr_ask.specs.declared.ask.Role.TheVariants.{Initial}
use Rattle.sr_ask.specs.declared.start.Start.{Start}
use Rattle.sr_core.specs.declared.component.Core.{Core}
use Rattle.sr_instances.specs.Instances.{Instance, IsAdded, Placed, global_in, instance_of, is_global, with_instance}
use Rattle.sr_instances.specs.declared.state.State.TheVariants.{Starting}
use Rattle.sr_value.specs.declared.value.Value.{Value}
use Rattle.sr_world.specs.Making.{imports_at, start_in}
use Rattle.sr_world.specs.Parts.{component_in, home_in, machine_in}
use Rattle.sr_world.specs.Updates.{add_instance}
use Rattle.sr_world.specs.Worlds.{World}

module _ (places : Placed) (name component machine : ℕ) where
  abbrev new : Instance
  new = record { name = name; component = component; machine = machine; state = Starting }

  -- a new instance is the home of its own component, where there was none
  pub home_new : (global : ℕ)
      → home_in (with_instance places name component machine) machine global
      ≡ unwrap_or (option_or (global_in places global machine) (cond (global == component) (Some name) None)) 0
  home_new global =
      ap (λ o. unwrap_or (option_map (λ (i : Instance). i.name) o) 0) (find-append (is_global global machine) places.instances (new ∷ []))
      ∙ by (find (is_global global machine) places.instances) (global == component) (machine == machine) (eq-eqb machine machine refl)
    where
      by : (found : Option Instance) (is same : Bool) → same ≡ true
          → unwrap_or (option_map (λ (i : Instance). i.name) (option_or found (cond (is && same) (Some new) None))) 0
          ≡ unwrap_or (option_or (option_map (λ (i : Instance). i.name) found) (cond is (Some name) None)) 0
      by (Some i) is same e = refl
      by None true same e = ap (λ b. unwrap_or (option_map (λ (i : Instance). i.name) (cond b (Some new) None)) 0) e
      by None false same e = refl

  module _ (added : IsAdded places name → ⊥) where
    none : instance_of places name ≡ None
    none = by (instance_of places name) added
      where
        by : (o : Option Instance) → (IsSome o → ⊥) → o ≡ None
        by None not = refl
        by (Some i) not = absurd (not refl)

    found : instance_of (with_instance places name component machine) name ≡ Some new
    found =
        find-append (λ (i : Instance). name == i.name) places.instances (new ∷ [])
        ∙ ap (λ o. option_or o (cond (name == name) (Some new) None)) none
        ∙ ap (λ b. cond b (Some new) None) (eq-eqb name name refl)

    pub machine_new : machine_in (with_instance places name component machine) name ≡ machine
    machine_new = ap (λ o. unwrap_or (option_map (λ (i : Instance). i.machine) o) 0) found

    pub component_new : component_in (with_instance places name component machine) name ≡ component
    component_new = ap (λ o. unwrap_or (option_map (λ (i : Instance). i.component) o) 0) found

abbrev start_at : Core → Placed → ℕ → ℕ → List Value → ℕ → ℕ → ℕ → Start
start_at core made name code args back machine component =
    record { process = name; instance = name; vm = machine; homes = map (home_in made machine) (imports_at core component); role = Initial; code = code; args = args; back = back }

abbrev start_with : ℕ → ℕ → ℕ → ℕ → List ℕ → List Value → Start
start_with name component machine back homes args = record { process = name; instance = name; vm = machine; homes = homes; role = Initial; code = component; args = args; back = back }

start_new : (core : Core) (world : World) (name component machine : ℕ) (args : List Value) (back : ℕ) → (IsAdded world.places name → ⊥)
    → start_in core (add_instance name component machine world) name name Initial component args back
    ≡ start_at core (with_instance world.places name component machine) name component args back machine component
start_new core world name component machine args back added =
    let made = with_instance world.places name component machine in
    ap (λ m. start_at core made name component args back m (component_in made name)) (machine_new world.places name component machine added)
    ∙ ap (start_at core made name component args back machine) (component_new world.places name component machine added)

-- as the code puts it together
pub start_as : (core : Core) (view world : World) (name component machine : ℕ) (args args' : List Value) (back : ℕ) (homes imports : List ℕ)
    → view ≡ world → (IsAdded world.places name → ⊥) → homes ≡ map (home_in (with_instance view.places name component machine) machine) imports → imports ≡ imports_at core component → args' ≡ args
    → start_with name component machine back homes args' ≡ start_in core (add_instance name component machine world) name name Initial component args back
start_as core view world name component machine args args' back homes imports same added at at_imports same_args =
    ap (λ hs. start_with name component machine back hs args')
    (at
    ∙ ap (map (home_in (with_instance view.places name component machine) machine)) at_imports
    ∙ ap (λ (w : World). map (home_in (with_instance w.places name component machine) machine) (imports_at core component)) same)
    ∙ ap (start_with name component machine back (map (home_in (with_instance world.places name component machine) machine) (imports_at core component))) same_args
    ∙ sym (start_new core world name component machine args back added)
