-- A run is the same in whatever pieces its input comes: what each request does where all of the input is there.
use Rattle.std.proofs.Common.{◌≡◌, ℕ, zero, suc, ◌==◌, not, Bool, true, false, cond, pos, List, [], ◌∷◌, ◌++◌, Option, None, Some, refl, ap, sym, ◌∙◌, true≢false, append-nil}
use Rattle.std.specs.Prelude.{Result, Ok, Err, nat_lt, slice_get}
use Rattle.sr_ask.specs.declared.answer.Answer.TheVariants as answer
use Rattle.sr_ask.specs.declared.ask.Role.{Role}
use Rattle.sr_ask.specs.declared.ask.Role.TheVariants.{Boot, Initial, Proc as proc_role, Final}
use Rattle.sr_ask.specs.declared.request.ReadKind.{ReadKind}
use Rattle.sr_ask.specs.declared.request.Request.{Request}
use Rattle.sr_ask.specs.declared.request.Request.TheVariants as request
use Rattle.sr_calls.specs.Calls.{earliest_reply}
use Rattle.sr_core.specs.declared.component.Core.{Core}
use Rattle.sr_core.specs.declared.component.Operation.{Operation}
use Rattle.sr_core.specs.declared.site.Site.{Site}
use Rattle.sr_core.specs.declared.statement.Scope.{Scope}
use Rattle.sr_core.specs.declared.statement.Scope.TheVariants.{Own, Shared}
use Rattle.sr_instances.specs.Instances.{Instance, global_in, state_of}
use Rattle.sr_instances.specs.declared.state.State.{State as InstanceState}
use Rattle.sr_instances.specs.declared.state.State.TheVariants.{Starting, Ready, Closing, Gone}
use Rattle.sr_queue.specs.Queues.{waiting}
use Rattle.sr_select.specs.Choices.{choice}
use Rattle.sr_select.specs.declared.choice.Choice.{Choice}
use Rattle.sr_select.specs.declared.choice.Choice.TheVariants as chosen
use Rattle.sr_store.specs.Variables.{declared_in, loaded_in, stored_in}
use Rattle.sr_value.specs.declared.capability.Cap.{Cap}
use Rattle.sr_value.specs.declared.capability.Cap.TheVariants as cap
use Rattle.sr_value.specs.declared.capability.Owner.{Owner}
use Rattle.sr_value.specs.declared.capability.Owner.TheVariants.{Inst, Proc}
use Rattle.sr_value.specs.declared.fault.Fault.{Fault}
use Rattle.sr_value.specs.declared.place.Place.{Place}
use Rattle.sr_value.specs.declared.value.Value.{Value}
use Rattle.sr_world.specs.Answering.{answer as answered, answer_held, duty_held}
use Rattle.sr_world.specs.Deciding.{awaits_input}
use Rattle.sr_world.specs.Does.{Does, Did, Makes, Cannot, Ends, Undecided, done_or, where_some}
use Rattle.sr_world.specs.Endings.{close_or, destroy, destroy_open, end_after, finish, main_instance, may_close, quiesce, rest_of, status_in, stop_with}
use Rattle.sr_world.specs.Inputs.{is_decided, item_read}
use Rattle.sr_world.specs.Invoking.{arrive, instance_of_process, invoke, is_gone, owner_for}
use Rattle.sr_world.specs.Making.{component_at, has_final_code, is_open, is_ready, make_ready, needs_ready, ready_from}
use Rattle.sr_world.specs.Selecting.{by_choice, choice_of, me_of, reading_of, waiting_for}
use Rattle.sr_world.specs.Steps.{create_on, done_by, duty_for, ensure_found, on_machine, ready_after, reply}
use Rattle.sr_world.specs.Updates.{add_reply, end_instance, end_process, end_processes, processes_of, release, set_state, use_name, with_rest}
use Rattle.sr_world.specs.Worlds.{World, is_live}
use Rattle.sr_world.specs.declared.duty.Duty.{Duty}
use Rattle.sr_world.specs.declared.ends.End.{End}
use Rattle.sr_world.specs.declared.ends.End.TheVariants as end
use Rattle.sr_world.proofs.InputLemmas.{same-answer, same-rest}
use Rattle.sr_world.specs.Laws.{with_all}

module _ (more : List ℕ) where
  -- the same with all of the input
  abbrev pub all : Does → Does
  all (Did w a) = Did (with_all more w) a
  all (Makes w a) = Makes (with_all more w) a
  all Cannot = Cannot
  all (Ends ending) = Ends ending
  all Undecided = Undecided

  -- ---- forms

  module _ {A : Type 0} where
    all-where : (o : Option A) (next next' : A → Does) → ((a : A) → next' a ≡ all (next a)) → where_some o next' ≡ all (where_some o next)
    all-where None next next' h = refl
    all-where (Some a) next next' h = h a

    all-done : (place : Place) (r : Result A Fault) (next next' : A → Does) → ((a : A) → next' a ≡ all (next a)) → done_or place r next' ≡ all (done_or place r next)
    all-done place (Ok a) next next' h = h a
    all-done place (Err fault) next next' h = refl

  all-if : (b : Bool) (x y x' y' : Does) → x' ≡ all x → y' ≡ all y → cond b x' y' ≡ all (cond b x y)
  all-if true x y x' y' hx hy = hx
  all-if false x y x' y' hx hy = hy

  -- ---- updates

  all-answered : (duty : Duty) (results : Option (List Value)) (w : World) → answered duty results (with_all more w) ≡ with_all more (answered duty results w)
  all-answered duty results w = by (is_live w duty.back)
    where
      by : (b : Bool)
          → cond b (add_reply duty.back (record { id = duty.back_id; results = results }) (with_all more w)) (with_all more w)
          ≡ with_all more (cond b (add_reply duty.back (record { id = duty.back_id; results = results }) w) w)
      by true = refl
      by false = refl

  all-ready : (instance : ℕ) (w : World) → make_ready instance (with_all more w) ≡ with_all more (make_ready instance w)
  all-ready instance w = by (state_of w.places instance)
    where
      by : (s : Option InstanceState) → ready_from s instance (with_all more w) ≡ with_all more (ready_from s instance w)
      by (Some Starting) = refl
      by (Some Ready) = refl
      by (Some Closing) = refl
      by (Some Gone) = refl
      by None = refl

  all-ended : (processes : List ℕ) (w : World) → end_processes processes (with_all more w) ≡ with_all more (end_processes processes w)
  all-ended [] w = refl
  all-ended (p ∷ ps) w = all-ended ps (end_process p w)

  all-after : (role : Role) (back process : ℕ) (w : World) → end_after role back process (with_all more w) ≡ with_all more (end_after role back process w)
  all-after Boot back process w = refl
  all-after proc_role back process w = refl
  all-after Initial back process w = all-ready (instance_of_process w process) (end_process process w)
  all-after Final zero process w = refl
  all-after Final (suc caller) process w =
      let ended : World = end_process process w in
      let instance : ℕ = instance_of_process w process in
      all-ended (processes_of instance ended) (set_state instance Gone ended)

  module _ (core : Core) (place : Place) (name : ℕ) where
    -- ---- invocations

    all-invoked : (owner : Owner) (op : ℕ) (args : List Value) (duty : Duty) (w : World) (proc : Option ℕ)
        → ◌≡◌ {A = Does} (Makes (arrive core name owner op args duty proc (with_all more w)) (answer.Made name)) (Makes (with_all more (arrive core name owner op args duty proc w)) (answer.Made name))
    all-invoked (Inst instance) op args duty w (Some proc) = refl
    all-invoked (Proc process) op args duty w (Some proc) = refl
    all-invoked owner op args duty w None = refl

    all-arrive : (target : Cap) (args : List Value) (duty : Duty) (w : World) → invoke core place name target args duty (with_all more w) ≡ all (invoke core place name target args duty w)
    all-arrive cap.Null args duty w = refl
    all-arrive cap.Noop args duty w = ap (λ after. Makes after (answer.Made name)) (all-answered duty None (use_name name w))
    all-arrive (cap.Op (Inst instance) op) args duty w = all-where (slice_get core.operations op) _ _ (λ operation. all-if (is_gone w (Inst instance)) _ _ _ _ refl (all-invoked (Inst instance) op args duty w operation.proc))
    all-arrive (cap.Op (Proc process) op) args duty w = all-where (slice_get core.operations op) _ _ (λ operation. all-if (is_gone w (Proc process)) _ _ _ _ refl (all-invoked (Proc process) op args duty w operation.proc))
    all-arrive (cap.Res instance) args duty w = refl
    all-arrive (cap.Vm machine) args duty w = refl

    module _ (w : World) where
      all-machine : (target : Cap) (next next' : ℕ → Does) → ((machine : ℕ) → next' machine ≡ all (next machine)) → on_machine place target next' ≡ all (on_machine place target next)
      all-machine cap.Null next next' h = refl
      all-machine cap.Noop next next' h = refl
      all-machine (cap.Op owner op) next next' h = refl
      all-machine (cap.Res instance) next next' h = refl
      all-machine (cap.Vm machine) next next' h = h machine

      all-found : (global machine : ℕ) (found : Option ℕ) → ensure_found core name global (with_all more w) machine found ≡ all (ensure_found core name global w machine found)
      all-found global machine None = refl
      all-found global machine (Some instance) = all-if (is_ready (state_of w.places instance)) _ _ _ _ refl refl

      all-create : (actor resource machine : ℕ) (args : List Value) → create_on core actor name resource args (with_all more w) machine ≡ all (create_on core actor name resource args w machine)
      all-create actor resource machine args = all-if (needs_ready core w resource machine) _ _ _ _ refl refl

      all-open : (instance : ℕ) (duty : Duty) → destroy_open core name instance duty (with_all more w) ≡ all (destroy_open core name instance duty w)
      all-open instance duty =
          all-if (has_final_code core (component_at w instance)) _ _ _ _ refl
          (ap (λ after. Makes (answered duty (Some []) after) (answer.Made name)) (all-ended (processes_of instance (use_name name w)) (set_state instance Gone (use_name name w)))
          ∙ ap (λ after. Makes after (answer.Made name)) (all-answered duty (Some []) (end_instance instance (use_name name w))))

      all-destroy : (target : Cap) (duty : Duty) → destroy core place name target duty (with_all more w) ≡ all (destroy core place name target duty w)
      all-destroy cap.Null duty = refl
      all-destroy cap.Noop duty = ap (λ after. Makes after (answer.Made name)) (all-answered duty (Some []) (use_name name w))
      all-destroy (cap.Op owner op) duty = refl
      all-destroy (cap.Res instance) duty = all-if (is_open (state_of w.places instance)) _ _ _ _ (all-open instance duty) refl
      all-destroy (cap.Vm machine) duty = refl

      all-close : (status : Option ℕ) (ending : End) (main : Option Instance) → close_or core name status ending (with_all more w) main ≡ all (close_or core name status ending w main)
      all-close status ending None = refl
      all-close None ending (Some main) = all-if (may_close core main) _ _ _ _ refl refl
      all-close (Some n) ending (Some main) = all-if (may_close core main) _ _ _ _ refl refl

      all-stop : (status : Option ℕ) → stop_with core place name status (with_all more w) ≡ all (stop_with core place name status w)
      all-stop None = refl
      all-stop (Some n) = all-close (Some n) (end.Stopped n) (main_instance core w)

      pub all-quiesce : quiesce core name (with_all more w) ≡ all (quiesce core name w)
      all-quiesce = all-close None (rest_of w.fixed) (main_instance core w)

      -- ---- choices

      same-count : (actor op : ℕ) (o : Option Operation) → waiting_for (with_all more w) actor op o ≡ waiting_for w actor op o
      same-count actor op None = refl
      same-count actor op (Some operation) = by operation.scope
        where
          by : (scope : Scope) → waiting (owner_for (with_all more w) actor scope) op w.pending ≡ waiting (owner_for w actor scope) op w.pending
          by Shared = refl
          by Own = refl

      same-reading : (actor : ℕ) → reading_of core (with_all more w) actor ≡ reading_of core w actor
      same-reading actor i = record { load = loaded_in w.variables; count = λ op. same-count actor op (slice_get core.operations op) i; names = core.names }

      all-chosen : (actor : ℕ) (site : Site) (choice : Choice) → by_choice (with_all more w) actor site choice ≡ all (by_choice w actor site choice)
      all-chosen actor site (chosen.Service at arm) = all-where (slice_get w.pending at) _ _ (λ invocation. refl)
      all-chosen actor site chosen.Else = refl
      all-chosen actor site chosen.Nothing = refl
      all-chosen actor site (chosen.Bad fault arm) = all-where (slice_get site.arms arm) _ _ (λ a. refl)

      all-select : (actor : ℕ) (env : List Value) (site : Site) → by_choice (with_all more w) actor site (choice_of core (with_all more w) actor env site) ≡ all (by_choice w actor site (choice_of core w actor env site))
      all-select actor env site =
          ap (λ reading. by_choice (with_all more w) actor site (choice reading site (me_of w actor) env w.pending)) (same-reading actor)
          ∙ all-chosen actor site (choice_of core w actor env site)

      -- ---- the others

      all-reply : (role : Role) (actor held : ℕ) (results : List Value) → reply role actor held results (with_all more w) ≡ with_all more (reply role actor held results w)
      all-reply role actor held results =
          ap (ready_after role (held == actor) actor) (all-answered (duty_held w actor held) (Some results) (release actor held w)) ∙ by role (held == actor) (answer_held actor held results w)
        where
          by : (role : Role) (own : Bool) (after : World) → ready_after role own actor (with_all more after) ≡ with_all more (ready_after role own actor after)
          by Initial true after = all-ready (instance_of_process after actor) after
          by Initial false after = refl
          by Boot own after = refl
          by proc_role own after = refl
          by Final own after = refl

      all-finish : (role : Role) (actor : ℕ) (is_answered : Bool) (back : ℕ) (results : List Value) → finish role actor is_answered back results (with_all more w) ≡ with_all more (finish role actor is_answered back results w)
      all-finish role actor true back results = all-after role back actor w
      all-finish role actor false back results =
          ap (answered (duty_held w actor actor) (Some results)) (all-after role back actor w) ∙ all-answered (duty_held w actor actor) (Some results) (end_after role back actor w)

      all-count : (actor op : ℕ) (operation : Operation) → ◌≡◌ {A = Does} (Did (with_all more w) (answer.Number (pos (waiting (owner_for (with_all more w) actor operation.scope) op w.pending))))
          (Did (with_all more w) (answer.Number (pos (waiting (owner_for w actor operation.scope) op w.pending))))
      all-count actor op operation = by operation.scope
        where
          by : (scope : Scope) → ◌≡◌ {A = Does} (Did (with_all more w) (answer.Number (pos (waiting (owner_for (with_all more w) actor scope) op w.pending))))
              (Did (with_all more w) (answer.Number (pos (waiting (owner_for w actor scope) op w.pending))))
          by Shared = refl
          by Own = refl

      -- what is decided stays so
      all-read : (kind : ReadKind) (ended : Bool) → (ended ≡ true → more ≡ []) → (b : Bool) → is_decided kind w.rest ended ≡ b → (b ≡ false → ⊥)
          → ◌≡◌ {A = Does} (Did (with_rest (item_read kind (w.rest ++ more)).rest (with_all more w)) (item_read kind (w.rest ++ more)).answer)
          (Did (with_all more (with_rest (item_read kind w.rest).rest w)) (item_read kind w.rest).answer)
      all-read kind true closed b is decided =
          let whole : w.rest ++ more ≡ w.rest = ap (λ bs. w.rest ++ bs) (closed refl) ∙ append-nil w.rest in
          let rest : (item_read kind (w.rest ++ more)).rest ≡ (item_read kind w.rest).rest ++ more =
          ap (λ bs. (item_read kind bs).rest) whole ∙ sym (append-nil (item_read kind w.rest).rest) ∙ ap (λ bs. (item_read kind w.rest).rest ++ bs) (sym (closed refl)) in
          ap (λ bs. Did (record w { rest = bs; ended = true }) (item_read kind (w.rest ++ more)).answer) rest
          ∙ ap (λ bs. Did (record w { rest = (item_read kind w.rest).rest ++ more; ended = true }) (item_read kind bs).answer) whole
      all-read kind false closed true is decided =
          ap (λ bs. Did (record w { rest = bs; ended = true }) (item_read kind (w.rest ++ more)).answer) (same-rest w.rest more kind is)
          ∙ ap (λ a. Did (record w { rest = (item_read kind w.rest).rest ++ more; ended = true }) a) (same-answer w.rest more kind is)
      all-read kind false closed false is decided = absurd (decided refl)

      -- ---- the table

      pub all-does : (actor : ℕ) (role : Role) (r : Request) → (w.ended ≡ true → more ≡ []) → (awaits_input w r ≡ true → ⊥)
          → done_by core (with_all more w) actor name place role r ≡ all (done_by core w actor name place role r)
      all-does actor role (request.Declare block var shape) closed sure = all-done place (declared_in w.variables block var shape) _ _ (λ variables. refl)
      all-does actor role (request.Load block var path) closed sure = all-done place (loaded_in w.variables block var path) _ _ (λ value. refl)
      all-does actor role (request.Store block var path value) closed sure = all-done place (stored_in w.variables block var path value) _ _ (λ variables. refl)
      all-does actor role (request.Invoke target args wants) closed sure = all-arrive target args (duty_for wants actor name) w
      all-does actor role (request.Select site env) closed sure = all-where (slice_get core.sites site) _ _ (all-select actor env)
      all-does actor role (request.Take ids) closed sure = all-where (earliest_reply w.replies actor ids) _ _ (λ reply. refl)
      all-does actor role (request.Reply held back results) closed sure = ap (λ after. Did after answer.Done) (all-reply role actor held results)
      all-does actor role (request.Forward held back target args) closed sure = all-arrive target args (duty_held w actor held) (release actor held w)
      all-does actor role (request.Count op) closed sure = all-where (slice_get core.operations op) _ _ (all-count actor op)
      all-does actor role (request.Write bytes) closed sure = refl
      all-does actor role (request.Read kind) closed sure = by (is_decided kind w.rest w.ended) refl
        where
          by : (b : Bool) → is_decided kind w.rest w.ended ≡ b
              → ◌≡◌ {A = Does} (Did (with_rest (item_read kind (w.rest ++ more)).rest (with_all more w)) (item_read kind (w.rest ++ more)).answer)
              (all (cond b (Did (with_rest (item_read kind w.rest).rest w) (item_read kind w.rest).answer) Undecided))
          by true is = all-read kind w.ended closed true is (λ e. true≢false e)
          by false is = absurd (sure (ap not is))
      all-does actor role (request.EnsureGlobal global vm) closed sure =
          all-where (slice_get core.components global) _ _ (λ component. all-machine vm _ _ (λ machine. all-found global machine (global_in w.places global machine)))
      all-does actor role (request.Create resource args vm) closed sure =
          all-where (slice_get core.components resource) _ _ (λ component. all-machine vm _ _ (λ machine. all-create actor resource machine args))
      all-does actor role request.MakeVm closed sure = refl
      all-does actor role (request.Destroy target) closed sure = all-destroy target (duty_for true actor name)
      all-does actor role (request.Finish is_answered back results) closed sure = ap (λ after. Did after answer.Done) (all-finish role actor is_answered back results)
      all-does actor role (request.Stop status) closed sure = all-stop (status_in status)
      all-does actor role (request.Fail fault) closed sure = refl
      all-does actor role request.Age closed sure = refl
      all-does actor role (request.Wake until) closed sure = all-if (nat_lt w.moment until) _ _ _ _ refl refl
