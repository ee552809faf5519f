-- What is shown of a state.
use Rattle.std.proofs.Common.{◌≡◌, ◌==◌, ◌+◌, ℕ, zero, suc, List, [], ◌∷◌, ◌++◌, map, option_map, take, Option, Some, None, refl, ap, sym, ◌∙◌, arith, eqb-true}
use Rattle.std.specs.Prelude.{find, flat_map, length, slice_get}
use Rattle.sr_ask.specs.declared.answer.Answer.{Answer}
use Rattle.sr_ask.specs.declared.ask.Asks.{Asks}
use Rattle.sr_ask.specs.declared.start.Start.{Start}
use Rattle.sr_core.specs.declared.component.Core.{Core}
use Rattle.sr_instances.specs.Instances.{Instance, Placed, component_of, instance_of, state_of}
use Rattle.sr_instances.specs.declared.state.State.{State as InstanceState}
use Rattle.sr_world.proofs.CountLemmas.{find-passes}
use Rattle.sr_world.specs.Runs.{Goes, Illegal, IsValid, Next, Over, State, asks_in, asks_next}
use Rattle.sr_world.specs.Worlds.{World, started}
use Rattle.sr_world.specs.declared.ends.End.{End}
use Rattle.sr_replay.specs.Parts.{instance_at, instances_at, process_at, snapshot_with}
use Rattle.sr_replay.specs.Snapshots.{shown, shown_instance, shown_process, snapshot_of}
use Rattle.sr_replay.specs.Replaying.{IsAt, StandsAt}
use Rattle.sr_replay.specs.declared.replayer.Replayer.{Replayer}
use Rattle.sr_replay.specs.declared.snapshot.ShownInstance.{ShownInstance}
use Rattle.sr_replay.specs.declared.snapshot.ShownProcess.{ShownProcess}
use Rattle.sr_replay.specs.declared.snapshot.Snapshot.{Snapshot}
use Rattle.sr_replay.proofs.AskLemmas.{all-single}
use Rattle.sr_replay.proofs.LedLemmas.{found-once, place-started, sound}

module _ (core : Core) (limit : ℕ) (state : State) (valid : IsValid core limit state) where
  instances-are : instances_at state.world.places ≡ map shown_instance state.world.places.instances
  instances-are =
      all-single (λ (i : Instance). i.name) (λ name. instance_at (instance_of state.world.places name)) shown_instance state.world.places.instances
      (λ k i is.
      let numbers = (sound core limit state valid).numbers in
      ap instance_at (found-once (λ (x : Instance). x.name) state.world.places.instances k i is (omega (arith, numbers.instances i.name, numbers.once i.name))))

  processes-are : flat_map (λ one. process_at one.1 (started state.world one.0)) (asks_in core limit state) ≡ map (shown_process core limit state) state.world.live
  processes-are =
      all-single (λ (s : Start). (s.process, asks_next core limit state s)) (λ one. process_at one.1 (started state.world one.0)) (shown_process core limit state) state.world.live
      (λ k s is. ap (process_at (asks_next core limit state s)) (place-started core limit state valid k s is))

  -- a snapshot shows the state
  pub shown-is : (items : ℕ) (ending : Option End) (asks : List (ℕ × Asks)) (w : World) → asks ≡ asks_in core limit state → w ≡ state.world
      → snapshot_with items ending asks w ≡ snapshot_of core limit items ending state
  shown-is items ending asks w is same =
      let made : List ShownInstance → List ShownProcess → Snapshot =
      λ shown asking. record { items = items; ending = ending; moment = state.world.moment; output = length state.world.output; instances = shown; processes = asking; pending = state.world.pending } in
      ap (λ v. snapshot_with items ending asks v) same ∙ ap (λ xs. snapshot_with items ending xs state.world) is
      ∙ ap (λ (shown : List ShownInstance). made shown (flat_map (λ one. process_at one.1 (started state.world one.0)) (asks_in core limit state))) instances-are
      ∙ ap (λ (asking : List ShownProcess). made (map shown_instance state.world.places.instances) asking) processes-are

-- a snapshot shows where a replay is
pub shown-at : {A : Type 0} (after : A → List Answer → Asks) (core : Core) (limit : ℕ) (now : Next) (old new : Replayer A) → IsAt after core limit now old → new.ending ≡ old.ending
    → (asks : List (ℕ × Asks)) → ((state : State) → StandsAt after core limit state old → asks ≡ asks_in core limit state) → ((state : State) → StandsAt after core limit state old → StandsAt after core limit state new)
    → (items : ℕ) (snapshot : Snapshot) → snapshot ≡ snapshot_with items new.ending asks new.world → shown core limit items now ≡ Some snapshot
shown-at after core limit (Goes state) old new at same asks all stands items snapshot is =
    sym (ap Some (is ∙ shown-is core limit state at.1.valid items new.ending asks new.world (all state at.1) (stands state at.1).world ∙ ap (λ e. snapshot_of core limit items e state) (same ∙ at.0)))
shown-at after core limit (Over ending state) old new at same asks all stands items snapshot is =
    sym (ap Some (is ∙ shown-is core limit state at.1.valid items new.ending asks new.world (all state at.1) (stands state at.1).world ∙ ap (λ e. snapshot_of core limit items e state) (same ∙ at.0)))
shown-at after core limit Illegal old new at same asks all stands items snapshot is = absurd at

-- ---- what is found

found-named : (instances : List Instance) (name : ℕ) (i : Instance) → find (λ (x : Instance). name == x.name) instances ≡ Some i → name ≡ i.name
found-named instances name i is = eqb-true name i.name (find-passes (λ (x : Instance). name == x.name) instances i is)

-- an instance that is there is shown by its parts
pub instance-by : (places : Placed) (name component : ℕ) (state : InstanceState) → Some state ≡ state_of places name → component_of places name ≡ Some component
    → record { name = name; component = component; state = state } ∷ [] ≡ instance_at (instance_of places name)
instance-by places name component state in_state of_component = by (instance_of places name) refl in_state of_component
  where
    by : (o : Option Instance) → instance_of places name ≡ o → Some state ≡ option_map (λ (i : Instance). i.state) o → option_map (λ (i : Instance). i.component) o ≡ Some component
        → record { name = name; component = component; state = state } ∷ [] ≡ instance_at o
    by None is s k = absurd (cc)
    by (Some i) is s k =
        let named : name ≡ i.name = found-named places.instances name i is in
        let same_state : state ≡ i.state = cc in
        let same_component : component ≡ i.component = cc in
        ap (λ n. record { name = n; component = component; state = state } ∷ []) named
        ∙ ap (λ n. record { name = i.name; component = n; state = state } ∷ []) same_component
        ∙ ap (λ n. record { name = i.name; component = i.component; state = n } ∷ []) same_state

-- one more of a list was added
pub next-taken : {X : Type 0} (xs : List X) (place : ℕ) (x y : X) (old new : List X) → slice_get xs place ≡ Some x → y ≡ x → old ≡ take place xs → new ≡ old ++ y ∷ [] → new ≡ take (place + 1) xs
next-taken {X = X} xs place x y old new here same before added =
    added ∙ ap (λ zs. zs ++ y ∷ []) before ∙ ap (λ z. take place xs ++ z ∷ []) same ∙ more xs place here
    ∙ let next : suc place ≡ place + 1 = omega arith in ap (λ n. take n xs) next
  where
    more : (ys : List X) (k : ℕ) → slice_get ys k ≡ Some x → take k ys ++ x ∷ [] ≡ take (suc k) ys
    more [] zero is = absurd (cc)
    more [] (suc k) is = absurd (cc)
    more (z ∷ zs) zero is = let first : z ≡ x = cc in ap (λ u. u ∷ []) (sym first)
    more (z ∷ zs) (suc k) is = ap (λ us. z ∷ us) (more zs k is)
