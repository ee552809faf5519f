-- Instances that were never added.
use Rattle.std.proofs.Common.{◌≡◌, ℕ, ◌==◌, Bool, true, false, cond, List, [], ◌∷◌, Some, IsSome, map, refl, ap}
use Rattle.std.specs.Prelude.{find}
use Rattle.sr_instances.specs.Instances.{Instance, IsAdded, Placed, in_state, with_state}
use Rattle.sr_instances.specs.declared.state.State.{State}

module _ (name : ℕ) (state : State) where
  unset : (is : List Instance) → (IsSome (find (λ (i : Instance). name == i.name) is) → ⊥) → map (in_state name state) is ≡ is
  unset [] not = refl
  unset (i ∷ is) not = by (name == i.name) not (unset is)
    where
      by : (b : Bool) → (IsSome (cond b (Some i) (find (λ (j : Instance). name == j.name) is)) → ⊥)
          → ((IsSome (find (λ (j : Instance). name == j.name) is) → ⊥) → map (in_state name state) is ≡ is)
          → cond b (record i { state = state }) i ∷ map (in_state name state) is ≡ i ∷ is
      by true not more = absurd (not refl)
      by false not more = ap (λ js. i ∷ js) (more not)

  -- a state of an instance that was never added changes nothing
  pub unset_state : (places : Placed) → (IsAdded places name → ⊥) → with_state places name state ≡ places
  unset_state places not = ap (λ is. record places { instances = is }) (unset places.instances not)
