-- Changes do what the acts do that they are of.
use Rattle.std.proofs.Common.{◌≡◌, ℕ, Bool, true, false, List, [], ◌∷◌, ◌++◌, Result, Ok, Err, refl, ap, sym, ◌∙◌, cond}
use Rattle.sr_core.specs.declared.component.Core.{Core}
use Rattle.sr_instances.specs.Instances.{Placed}
use Rattle.sr_store.specs.Variables.{with_variable}
use Rattle.sr_value.specs.Parts.{with_ok}
use Rattle.sr_value.specs.Shapes.{default_value}
use Rattle.sr_value.specs.declared.fault.Fault.{Fault}
use Rattle.sr_value.specs.declared.shape.Shape.{Shape}
use Rattle.sr_value.specs.declared.value.Value.{Value}
use Rattle.sr_world.specs.Updates.{add_reply, with_variables}
use Rattle.sr_world.specs.Worlds.{World, is_live}
use Rattle.sr_shard.specs.Acts.{Act, Answers, Begins, Comes, Counts, Declares, Finds, Frees, Goes, HasCome, Holds, Lives, Never, Owes, Passes, RunsIn, Sees, Serves, Stores, Takes, apply, or_same}
use Rattle.sr_shard.specs.Changes.{all_changed, all_changes, changed, changes_of, declared}
use Rattle.sr_shard.specs.Laws.{world_after}
use Rattle.sr_shard.specs.declared.change.Change.{Change}

module _ (core : Core) where
  -- ---- one act

  declared_as : (block var : ℕ) (shape : Shape) (world : World) (value : Result Value Fault)
      → all_changed (declared block var shape value) world
      ≡ with_variables (or_same world.variables (with_ok value (λ v. Ok (with_variable world.variables block var (record { shape = shape; value = v }))))) world
  declared_as block var shape world (Ok value) = refl
  declared_as block var shape world (Err fault) = refl

  changed_as : (act : Act) (world : World) → all_changed (changes_of core world.places act) world ≡ apply core act world
  changed_as (Lives process) world = refl
  changed_as (RunsIn process instance) world = refl
  changed_as (Finds process instance) world = refl
  changed_as (HasCome process until) world = refl
  changed_as (Declares block var shape) world = declared_as block var shape world (default_value shape)
  changed_as (Sees block var path value) world = refl
  changed_as (Stores block var path value) world = refl
  changed_as (Counts owner op count) world = refl
  changed_as (Comes pending) world = refl
  changed_as (Holds process held) world = refl
  changed_as (Owes process id duty) world = refl
  changed_as (Frees process id) world = refl
  changed_as (Answers duty results) world = refl
  changed_as (Takes process ids reply) world = refl
  changed_as (Begins process instance proc args back) world = refl
  changed_as (Goes process) world = refl
  changed_as (Serves me site env seen invocation arm) world = refl
  changed_as (Passes me site env seen op) world = refl
  changed_as (Never process) world = refl

  answered : (b : Bool) (later world : World) → later.places ≡ world.places → (cond b later world).places ≡ world.places
  answered true later world same = same
  answered false later world same = refl

  places_stay : (act : Act) (world : World) → (apply core act world).places ≡ world.places
  places_stay (Lives process) world = refl
  places_stay (RunsIn process instance) world = refl
  places_stay (Finds process instance) world = refl
  places_stay (HasCome process until) world = refl
  places_stay (Declares block var shape) world = refl
  places_stay (Sees block var path value) world = refl
  places_stay (Stores block var path value) world = refl
  places_stay (Counts owner op count) world = refl
  places_stay (Comes pending) world = refl
  places_stay (Holds process held) world = refl
  places_stay (Owes process id duty) world = refl
  places_stay (Frees process id) world = refl
  places_stay (Answers duty results) world = answered (is_live world duty.back) (add_reply duty.back (record { id = duty.back_id; results = results }) world) world refl
  places_stay (Takes process ids reply) world = refl
  places_stay (Begins process instance proc args back) world = refl
  places_stay (Goes process) world = refl
  places_stay (Serves me site env seen invocation arm) world = refl
  places_stay (Passes me site env seen op) world = refl
  places_stay (Never process) world = refl

  -- ---- acts one after another

  changed_append : (one other : List Change) (world : World) → all_changed (one ++ other) world ≡ all_changed other (all_changed one world)
  changed_append [] other world = refl
  changed_append (c ∷ cs) other world = changed_append cs other (changed c world)

  pub all_changed_as : (class : ℕ → ℕ) (acts : List Act) (places : Placed) (world : World) → world.places ≡ places → all_changed (all_changes core places acts) world ≡ world_after core class acts world
  all_changed_as class [] places world here = refl
  all_changed_as class (act ∷ acts) places world here =
      changed_append (changes_of core places act) (all_changes core places acts) world
      ∙ ap (all_changed (all_changes core places acts)) (ap (λ p. all_changed (changes_of core p act) world) (sym here) ∙ changed_as act world)
      ∙ all_changed_as class acts places (apply core act world) (places_stay act world ∙ here)
