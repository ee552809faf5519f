-- Who lives after each request.
use Rattle.std.proofs.Common.{◌≡◌, ℕ, zero, suc, ◌==◌, not, Bool, true, false, cond, List, [], ◌∷◌, ◌++◌, Option, None, Some, is_some, refl, ap, sym, ◌∙◌, eqb-true, eq-eqb, true≢false}
use Rattle.std.specs.Prelude.{Result, Ok, Err, find, nat_lt, slice_get}
use Rattle.sr_ask.specs.declared.answer.Answer.{Answer}
use Rattle.sr_ask.specs.declared.ask.Role.{Role}
use Rattle.sr_ask.specs.declared.ask.Role.TheVariants.{Boot, Initial, Proc as proc_role, Final}
use Rattle.sr_ask.specs.declared.request.Request.{Request}
use Rattle.sr_ask.specs.declared.request.Request.TheVariants as request
use Rattle.sr_ask.specs.declared.start.Start.{Start}
use Rattle.sr_calls.specs.Calls.{earliest_reply}
use Rattle.sr_core.specs.declared.component.Core.{Core}
use Rattle.sr_core.specs.declared.owner.Me.{Me}
use Rattle.sr_core.specs.declared.site.Site.{Site}
use Rattle.sr_instances.specs.Instances.{global_in, state_of}
use Rattle.sr_instances.specs.declared.state.State.{State as InstanceState}
use Rattle.sr_instances.specs.declared.state.State.TheVariants.{Starting, Ready, Closing, Gone}
use Rattle.sr_processes.specs.Living.{is_process, without_process}
use Rattle.sr_select.specs.declared.choice.Choice.{Choice}
use Rattle.sr_select.specs.declared.choice.Choice.TheVariants as chosen
use Rattle.sr_store.specs.Variables.{declared_in, loaded_in, stored_in}
use Rattle.sr_value.specs.declared.capability.Cap.{Cap}
use Rattle.sr_value.specs.declared.capability.Cap.TheVariants as cap
use Rattle.sr_value.specs.declared.capability.Owner.{Owner}
use Rattle.sr_value.specs.declared.fault.Fault.{Fault}
use Rattle.sr_value.specs.declared.place.Place.{Place}
use Rattle.sr_value.specs.declared.value.Value.{Value}
use Rattle.sr_world.specs.Answering.{answer as answered, answer_held, duty_held}
use Rattle.sr_world.specs.Does.{Does, Did, Makes, Cannot, Ends, Undecided, done_or, where_some}
use Rattle.sr_world.specs.Endings.{answer_unless, end_after, finish}
use Rattle.sr_world.specs.Inputs.{is_decided}
use Rattle.sr_world.specs.Invoking.{arrive, instance_of_process, invoke, is_gone as target_is_gone, owner_instance}
use Rattle.sr_world.specs.Making.{is_ready, make_ready, needs_ready, ready_from, run_initial, start_in}
use Rattle.sr_world.specs.Selecting.{by_choice, choice_of}
use Rattle.sr_world.specs.Steps.{create_on, done_by, duty_for, ensure_found, on_machine, ready_after}
use Rattle.sr_world.specs.Updates.{add_instance, add_reply, drop_reply, end_process, release, set_state, use_name}
use Rattle.sr_world.specs.Worlds.{World, is_live, started}
use Rattle.sr_world.specs.declared.duty.Duty.{Duty}
use Rattle.sr_plain.specs.Changes.{change_by, change_of_end, gone_by, is_everything}
use Rattle.sr_plain.specs.Leaving.{LiveOn, LiveOnIf}
use Rattle.sr_plain.specs.declared.change.Change.{Change}
use Rattle.sr_plain.specs.declared.change.Change.TheVariants.{Everything}
use Rattle.sr_plain.proofs.LeaveLemmas.{Loses, answered-loses, end_instance-loses, loses-same, make_ready-loses}
use Rattle.sr_world.proofs.FoundLemmas.{none-without}
use Rattle.sr_plain.proofs.WalkLemmas.{found_first}

-- ---- who is found

-- all but the one that ended are
found-kept : (live : List Start) (p q : ℕ) (s : Start) → (p == q) ≡ false → find (is_process q) live ≡ Some s → find (is_process q) (without_process live p) ≡ Some s
found-kept [] p q s off is = is
found-kept (x ∷ xs) p q s off is = by (p == x.process) refl (q == x.process) refl is (found-kept xs p q s off)
  where
    by : (b : Bool) → (p == x.process) ≡ b → (d : Bool) → (q == x.process) ≡ d → cond d (Some x) (find (is_process q) xs) ≡ Some s
        → (find (is_process q) xs ≡ Some s → find (is_process q) (without_process xs p) ≡ Some s) → find (is_process q) (cond (not b) (x ∷ without_process xs p) (without_process xs p)) ≡ Some s
    by true is true is' h more =
        let same : p ≡ q = eqb-true p x.process is ∙ sym (eqb-true q x.process is') in absurd (true≢false (sym (eq-eqb p q same) ∙ off))
    by true is false is' h more = more h
    by false is true is' h more = ap (λ d. cond d (Some x) (find (is_process q) (without_process xs p))) is' ∙ h
    by false is false is' h more = ap (λ d. cond d (Some x) (find (is_process q) (without_process xs p))) is' ∙ more h

-- ---- what ends no process

-- who lives in one lives in the other
record Lasts (w w' : World) : Type 0 where
  lives : (q : ℕ) (s : Start) → started w q ≡ Some s → started w' q ≡ Some s

abbrev LastsIf : World → Does → Type 0
LastsIf w (Did w' a) = Lasts w w'
LastsIf w (Makes w' a) = Lasts w w'
LastsIf w _ = Unit {0}

lasts-same : (w w' : World) → w'.live ≡ w.live → Lasts w w'
lasts-same w w' live = record { lives = λ q s is. ap (find (is_process q)) live ∙ is }

lasts-more : (w w' : World) (start : Start) → w'.live ≡ w.live ++ start ∷ [] → Lasts w w'
lasts-more w w' start live = record { lives = λ q s is. ap (find (is_process q)) live ∙ found_first (is_process q) w.live (start ∷ []) (ap is_some is) ∙ is }

lasts-then : (w w1 w2 : World) → Lasts w w1 → Lasts w1 w2 → Lasts w w2
lasts-then w w1 w2 first second = record { lives = λ q s is. second.lives q s (first.lives q s is) }

answered-lasts : (duty : Duty) (results : Option (List Value)) (w : World) → Lasts w (answered duty results w)
answered-lasts duty results w = by (is_live w duty.back)
  where
    by : (b : Bool) → Lasts w (cond b (add_reply duty.back (record { id = duty.back_id; results = results }) w) w)
    by true = lasts-same w (add_reply duty.back (record { id = duty.back_id; results = results }) w) refl
    by false = lasts-same w w refl

make_ready-lasts : (instance : ℕ) (w : World) → Lasts w (make_ready instance w)
make_ready-lasts instance w = by (state_of w.places instance)
  where
    by : (s : Option InstanceState) → Lasts w (ready_from s instance w)
    by (Some Starting) = lasts-same w (set_state instance Ready w) refl
    by (Some Ready) = lasts-same w w refl
    by (Some Closing) = lasts-same w w refl
    by (Some Gone) = lasts-same w w refl
    by None = lasts-same w w refl

-- ---- each request that ends none

module _ (name : ℕ) (w : World) where
  if-some : {A : Type 0} (o : Option A) (next : A → Does) → ((a : A) → LastsIf w (next a)) → LastsIf w (where_some o next)
  if-some None next h = tt
  if-some (Some a) next h = h a

  if-done : {A : Type 0} (place : Place) (r : Result A Fault) (next : A → Does) → ((a : A) → LastsIf w (next a)) → LastsIf w (done_or place r next)
  if-done place (Ok a) next h = h a
  if-done place (Err fault) next h = tt

  either : (b : Bool) (x y : Does) → LastsIf w x → LastsIf w y → LastsIf w (cond b x y)
  either true x y hx hy = hx
  either false x y hx hy = hy

  same : (w' : World) → w'.live ≡ w.live → Lasts w w'
  same w' live = lasts-same w w' live

  nothing : Lasts w w
  nothing = same w refl

  -- ---- invocations

  module _ (from : World) (lasts : Lasts w from) where
    if-arrives : (core : Core) (owner : Owner) (op : ℕ) (args : List Value) (duty : Duty) (proc : Option ℕ) → Lasts w (arrive core name owner op args duty proc from)
    if-arrives core owner op args duty (Some proc) =
        let start : Start = start_in core from name (owner_instance from owner) proc_role proc args duty.back in
        let arrived : World = arrive core name owner op args duty (Some proc) from in
        lasts-then w from arrived lasts (lasts-more from arrived start refl)
    if-arrives core owner op args duty None =
        let arrived : World = arrive core name owner op args duty None from in
        lasts-then w from arrived lasts (lasts-same from arrived refl)

    if-answered : (duty : Duty) (results : Option (List Value)) → Lasts w (answered duty results (use_name name from))
    if-answered duty results =
        let used : World = use_name name from in
        lasts-then w used (answered duty results used) (lasts-then w from used lasts (lasts-same from used refl)) (answered-lasts duty results used)

    if-invoked : (core : Core) (place : Place) (target : Cap) (args : List Value) (duty : Duty) → LastsIf w (invoke core place name target args duty from)
    if-invoked core place cap.Null args duty = tt
    if-invoked core place cap.Noop args duty = if-answered duty None
    if-invoked core place (cap.Op owner op) args duty =
        if-some (slice_get core.operations op) _ (λ operation. either (target_is_gone from owner) _ _ tt (if-arrives core owner op args duty operation.proc))
    if-invoked core place (cap.Res instance) args duty = tt
    if-invoked core place (cap.Vm machine) args duty = tt

  -- ---- replies and choices

  if-replied : (role : Role) (own : Bool) (actor held : ℕ) (results : List Value) → Lasts w (ready_after role own actor (answer_held actor held results w))
  if-replied role own actor held results = by role own
    where
      released : World
      released = release actor held w

      answering : World
      answering = answer_held actor held results w

      lasts : Lasts w answering
      lasts = lasts-then w released answering (lasts-same w released refl) (answered-lasts (duty_held w actor held) (Some results) released)

      by : (role : Role) (own : Bool) → Lasts w (ready_after role own actor answering)
      by Initial true =
          lasts-then w answering (make_ready (instance_of_process answering actor) answering) lasts (make_ready-lasts (instance_of_process answering actor) answering)
      by Initial false = lasts
      by Boot own = lasts
      by proc_role own = lasts
      by Final own = lasts

  if-chosen : (actor : ℕ) (site : Site) (choice : Choice) → LastsIf w (by_choice w actor site choice)
  if-chosen actor site (chosen.Service place arm) = if-some (slice_get w.pending place) _ (λ p. same _ refl)
  if-chosen actor site chosen.Else = nothing
  if-chosen actor site chosen.Nothing = tt
  if-chosen actor site (chosen.Bad fault arm) = if-some (slice_get site.arms arm) _ (λ a. tt)

  -- ---- instances

  if-found : (core : Core) (global machine : ℕ) (o : Option ℕ) → LastsIf w (ensure_found core name global w machine o)
  if-found core global machine None =
      let placed : World = add_instance name global machine (use_name name w) in
      lasts-more w (run_initial core name global machine [] 0 w) (start_in core placed name name Initial global [] 0) refl
  if-found core global machine (Some instance) = either (is_ready (state_of w.places instance)) _ _ nothing tt

  on-machine : (place : Place) (target : Cap) (next : ℕ → Does) → ((machine : ℕ) → LastsIf w (next machine)) → LastsIf w (on_machine place target next)
  on-machine place cap.Null next h = tt
  on-machine place cap.Noop next h = tt
  on-machine place (cap.Op owner op) next h = tt
  on-machine place (cap.Res instance) next h = tt
  on-machine place (cap.Vm machine) next h = h machine

  if-created : (core : Core) (actor resource machine : ℕ) (args : List Value) → LastsIf w (create_on core actor name resource args w machine)
  if-created core actor resource machine args =
      let placed : World = add_instance name resource machine (use_name name w) in
      either (needs_ready core w resource machine) _ _ (lasts-more w _ (start_in core placed name name Initial resource args actor) refl) tt

-- ---- a process that ends

-- who lived no more doesn't live later
gone-then : (w w' : World) (p : ℕ) → Loses w w' → started w p ≡ None → started w' p ≡ None
gone-then w w' p loses none = by (started w' p) refl
  where
    by : (o : Option Start) → started w' p ≡ o → o ≡ None
    by None is = refl
    by (Some s) is = let was : started w p ≡ Some s = loses.lives p s is in absurd (cc)

after-loses : (role : Role) (back p : ℕ) (w : World) → Loses (end_process p w) (end_after role back p w)
after-loses Boot back p w = loses-same (end_process p w) (end_process p w) refl refl refl
after-loses proc_role back p w = loses-same (end_process p w) (end_process p w) refl refl refl
after-loses Initial back p w = make_ready-loses (instance_of_process w p) (end_process p w)
after-loses Final zero p w = loses-same (end_process p w) (end_process p w) refl refl refl
after-loses Final (suc caller) p w = end_instance-loses (instance_of_process w p) (end_process p w)

after-lasts : (role : Role) (back p : ℕ) (w : World) → is_everything (change_of_end role back) ≡ false → Lasts (end_process p w) (end_after role back p w)
after-lasts Boot back p w off = lasts-same (end_process p w) (end_process p w) refl
after-lasts proc_role back p w off = lasts-same (end_process p w) (end_process p w) refl
after-lasts Initial back p w off = make_ready-lasts (instance_of_process w p) (end_process p w)
after-lasts Final zero p w off = lasts-same (end_process p w) (end_process p w) refl
after-lasts Final (suc caller) p w off = absurd (true≢false off)

if-finished : (w : World) (role : Role) (p : ℕ) (is_answered : Bool) (back : ℕ) (results : List Value) → LiveOn (change_of_end role back) (Some p) w (finish role p is_answered back results w)
if-finished w role p is_answered back results = by is_answered
  where
    ended : World
    ended = end_process p w

    after : World
    after = end_after role back p w

    done : World
    done = answered (duty_held w p p) (Some results) after

    kept : is_everything (change_of_end role back) ≡ false → (q : ℕ) (s : Start) → started w q ≡ Some s → (p == q) ≡ false → started after q ≡ Some s
    kept small q s is off = (after-lasts role back p w small).lives q s (found-kept w.live p q s off is)

    none : started after p ≡ None
    none = gone-then ended after p (after-loses role back p w) (none-without w.live p p refl)

    by : (b : Bool) → LiveOn (change_of_end role back) (Some p) w (answer_unless b (duty_held w p p) results after)
    by true = record { stay = kept; ended = none }
    by false = record {
      stay = λ small q s is off. (answered-lasts (duty_held w p p) (Some results) after).lives q s (kept small q s is off);
      ended = gone-then after done p (answered-loses (duty_held w p p) (Some results) after) none;
    }

-- ---- the table

module _ (name : ℕ) (w : World) (core : Core) (actor : ℕ) (place : Place) (role : Role) (me : Me) (answer : Answer) where
  lasts-on : (change : Change) (d : Does) → LastsIf w d → LiveOnIf change None w d
  lasts-on change (Did w' a) lasts = record { stay = λ small q s is off. lasts.lives q s is; ended = tt }
  lasts-on change (Makes w' a) lasts = record { stay = λ small q s is off. lasts.lives q s is; ended = tt }
  lasts-on change Cannot lasts = tt
  lasts-on change (Ends ending) lasts = tt
  lasts-on change Undecided lasts = tt

  anything : (d : Does) → LiveOnIf Everything None w d
  anything (Did w' a) = record { stay = λ small q s is off. absurd (true≢false small); ended = tt }
  anything (Makes w' a) = record { stay = λ small q s is off. absurd (true≢false small); ended = tt }
  anything Cannot = tt
  anything (Ends ending) = tt
  anything Undecided = tt

  on : (r : Request) → LastsIf w (done_by core w actor name place role r) → LiveOnIf (change_by core me role r answer) None w (done_by core w actor name place role r)
  on r lasts = lasts-on (change_by core me role r answer) (done_by core w actor name place role r) lasts

  pub live_on : (r : Request) → LiveOnIf (change_by core me role r answer) (gone_by r actor) w (done_by core w actor name place role r)
  live_on (request.Declare block var shape) = on (request.Declare block var shape) (if-done name w place (declared_in w.variables block var shape) _ (λ variables. same name w _ refl))
  live_on (request.Load block var path) = on (request.Load block var path) (if-done name w place (loaded_in w.variables block var path) _ (λ value. nothing name w))
  live_on (request.Store block var path value) = on (request.Store block var path value) (if-done name w place (stored_in w.variables block var path value) _ (λ variables. same name w _ refl))
  live_on (request.Invoke target args wants) = on (request.Invoke target args wants) (if-invoked name w w (nothing name w) core place target args (duty_for wants actor name))
  live_on (request.Select site env) = on (request.Select site env) (if-some name w (slice_get core.sites site) _ (λ s. if-chosen name w actor s (choice_of core w actor env s)))
  live_on (request.Take ids) = on (request.Take ids) (if-some name w (earliest_reply w.replies actor ids) _ (λ reply. same name w (drop_reply actor ids w) refl))
  live_on (request.Reply held back results) = on (request.Reply held back results) (if-replied name w role (held == actor) actor held results)
  live_on (request.Forward held back target args) =
      let released : World = release actor held w in
      on (request.Forward held back target args) (if-invoked name w released (lasts-same w released refl) core place target args (duty_held w actor held))
  live_on (request.Count op) = on (request.Count op) (if-some name w (slice_get core.operations op) _ (λ operation. nothing name w))
  live_on (request.Write bytes) = on (request.Write bytes) (same name w _ refl)
  live_on (request.Read kind) = on (request.Read kind) (either name w (is_decided kind w.rest w.ended) _ _ (same name w _ refl) tt)
  live_on (request.EnsureGlobal global vm) =
      on (request.EnsureGlobal global vm)
      (if-some name w (slice_get core.components global) _ (λ component. on-machine name w place vm _ (λ machine. if-found name w core global machine (global_in w.places global machine))))
  live_on (request.Create resource args vm) =
      on (request.Create resource args vm)
      (if-some name w (slice_get core.components resource) _ (λ component. on-machine name w place vm _ (λ machine. if-created name w core actor resource machine args)))
  live_on request.MakeVm = on request.MakeVm (same name w _ refl)
  live_on (request.Destroy target) = anything (done_by core w actor name place role (request.Destroy target))
  live_on (request.Finish answered back results) = if-finished w role actor answered back results
  live_on (request.Stop status) = anything (done_by core w actor name place role (request.Stop status))
  live_on (request.Fail fault) = tt
  live_on request.Age = on request.Age (nothing name w)
  live_on (request.Wake until) = on (request.Wake until) (either name w (nat_lt w.moment until) _ _ tt (nothing name w))
