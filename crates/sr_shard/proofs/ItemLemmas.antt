-- Entries as items of a run.
use Rattle.std.proofs.Common.{◌≡◌, ℕ, Bool, true, false, List, [], ◌∷◌, Option, refl, ap, sym, ◌∙◌, subst, cond}
use Rattle.sr_ask.specs.declared.answer.Answer.{Answer}
use Rattle.sr_ask.specs.declared.ask.Asks.{Asks}
use Rattle.sr_ask.specs.declared.request.Request.{Request}
use Rattle.sr_ask.specs.declared.request.Request.TheVariants as request
use Rattle.sr_ask.specs.declared.start.Start.{Start}
use Rattle.sr_core.specs.declared.component.Core.{Core}
use Rattle.sr_value.specs.declared.value.Value.{Value}
use Rattle.sr_world.specs.Does.{Does}
use Rattle.sr_world.specs.Runs.{Goes, State, asks_for, step_of, stepped, where_true, with_answer}
use Rattle.sr_world.specs.Updates.{add_reply, use_name}
use Rattle.sr_world.specs.Worlds.{World, is_live}
use Rattle.sr_world.specs.declared.duty.Duty.{Duty}
use Rattle.sr_shard.specs.Acts.{Act, Answers, Begins, Comes, Counts, Declares, Finds, Fits, Frees, Goes as GoesAway, HasCome, Holds, Lives, Never, Owes, Passes, RunsIn, Sees, Serves, Stores, Takes, apply}
use Rattle.sr_shard.specs.Entries.{acts_of}
use Rattle.sr_shard.specs.Items.{ActsLeaveNumbers, EntriesAreItems, is_numbered, with_number}
use Rattle.sr_shard.specs.Laws.{ReplaysIn, done_as, world_after}
use Rattle.sr_shard.proofs.SoundLemmas.{valid_states_stand}
use Rattle.sr_shard.proofs.StepLemmas.{entries_are_steps}

-- ---- numbers

named_answer : (name : ℕ) (duty : Duty) (results : Option (List Value)) (w : World) (b : Bool)
    → cond b (add_reply duty.back (record { id = duty.back_id; results = results }) (use_name name w)) (use_name name w)
    ≡ use_name name (cond b (add_reply duty.back (record { id = duty.back_id; results = results }) w) w)
named_answer name duty results w true = refl
named_answer name duty results w false = refl

apply_named : (core : Core) (name : ℕ) (act : Act) (w : World) → apply core act (use_name name w) ≡ use_name name (apply core act w)
apply_named core name (Answers duty results) w = named_answer name duty results w (is_live w duty.back)
apply_named core name (Lives process) w = refl
apply_named core name (RunsIn process instance) w = refl
apply_named core name (Finds process instance) w = refl
apply_named core name (HasCome process until) w = refl
apply_named core name (Declares block var shape) w = refl
apply_named core name (Sees block var path value) w = refl
apply_named core name (Stores block var path value) w = refl
apply_named core name (Counts owner op count) w = refl
apply_named core name (Comes pending) w = refl
apply_named core name (Holds process held) w = refl
apply_named core name (Owes process id duty) w = refl
apply_named core name (Frees process id) w = refl
apply_named core name (Takes process ids reply) w = refl
apply_named core name (Begins process instance proc args back) w = refl
apply_named core name (GoesAway process) w = refl
apply_named core name (Serves me site env seen invocation arm) w = refl
apply_named core name (Passes me site env seen op) w = refl
apply_named core name (Never process) w = refl

fits_named : (core : Core) (class : ℕ → ℕ) (name : ℕ) (act : Act) (w : World) → Fits core class act w → Fits core class act (use_name name w)
fits_named core class name (Answers duty results) w h = h
fits_named core class name (Lives process) w h = h
fits_named core class name (RunsIn process instance) w h = h
fits_named core class name (Finds process instance) w h = h
fits_named core class name (HasCome process until) w h = h
fits_named core class name (Declares block var shape) w h = h
fits_named core class name (Sees block var path value) w h = h
fits_named core class name (Stores block var path value) w h = h
fits_named core class name (Counts owner op count) w h = h
fits_named core class name (Comes pending) w h = h
fits_named core class name (Holds process held) w h = h
fits_named core class name (Owes process id duty) w h = h
fits_named core class name (Frees process id) w h = h
fits_named core class name (Takes process ids reply) w h = h
fits_named core class name (Begins process instance proc args back) w h = h
fits_named core class name (GoesAway process) w h = h
fits_named core class name (Serves me site env seen invocation arm) w h = h
fits_named core class name (Passes me site env seen op) w h = h
fits_named core class name (Never process) w h = h

pub acts_leave_numbers : ActsLeaveNumbers
acts_leave_numbers core class [] name w h = (tt, refl)
acts_leave_numbers core class (act ∷ acts) name w h =
    let later = acts_leave_numbers core class acts name (apply core act w) h.1 in (
      (fits_named core class name act w h.0, subst (λ v. ReplaysIn core class acts v) (sym (apply_named core name act w)) later.0),
      ap (world_after core class acts) (apply_named core name act w) ∙ later.1,
    )

-- ---- items

numbered_step : (asked : Request) (actor name : ℕ) (given : Answer) (state : State) (w : World) → is_numbered state.world asked name ≡ true
    → stepped state actor name (done_as asked name w given) ≡ Goes (record { world = with_number asked name w; given = with_answer actor given state.given })
numbered_step (request.Invoke target args wants) actor name given state w is =
    ap (λ b. where_true b (Goes (record { world = use_name name w; given = with_answer actor given state.given }))) is
numbered_step (request.Forward held back target args) actor name given state w is =
    ap (λ b. where_true b (Goes (record { world = use_name name w; given = with_answer actor given state.given }))) is
numbered_step _ actor name given state w is = ap (λ b. where_true b (Goes (record { world = w; given = with_answer actor given state.given }))) is

pub entries_are_items : EntriesAreItems
entries_are_items core class limit entry state start valid lives asks narrow numbered h =
    ap (λ (o : Option Start). step_of core limit state entry.actor entry.name o) lives
    ∙ ap (λ (a : Asks). stepped state entry.actor entry.name (asks_for core state.world entry.actor entry.name a)) asks
    ∙ ap (λ (d : Does). stepped state entry.actor entry.name d) (entries_are_steps core class entry state.world (valid_states_stand core limit state valid) narrow h)
    ∙ numbered_step entry.ask.request entry.actor entry.name entry.answer state (world_after core class (acts_of core entry) state.world) numbered
