-- What each request leaves of who lives and of what was written.
use Rattle.std.proofs.Common.{◌≡◌, ◌<◌, ◌≤◌, ◌⊎◌, inl, inr, ℕ, zero, suc, ◌==◌, not, Bool, true, false, cond, List, [], ◌∷◌, ◌++◌, Option, None, Some, refl, ap, sym, ◌∙◌, subst, eq-eqb, eqb-true, true≢false, append-nil, arith}
use Rattle.std.specs.Prelude.{Result, Ok, Err, filter, find, nat_lt, remove, slice_get}
use Rattle.sr_ask.specs.declared.answer.Answer.TheVariants as answer
use Rattle.sr_ask.specs.declared.ask.Role.{Role}
use Rattle.sr_ask.specs.declared.ask.Role.TheVariants.{Boot, Initial, Proc as proc_role, Final}
use Rattle.sr_ask.specs.declared.request.Request.{Request}
use Rattle.sr_ask.specs.declared.request.Request.TheVariants as request
use Rattle.sr_ask.specs.declared.start.Start.{Start}
use Rattle.sr_calls.specs.Calls.{earliest_reply}
use Rattle.sr_core.specs.declared.component.Core.{Core}
use Rattle.sr_core.specs.declared.site.Site.{Site}
use Rattle.sr_instances.specs.Instances.{Instance, global_in, state_of}
use Rattle.sr_instances.specs.declared.state.State.{State as InstanceState}
use Rattle.sr_instances.specs.declared.state.State.TheVariants.{Starting, Ready, Closing, Gone}
use Rattle.sr_processes.specs.Living.{is_process, without_process}
use Rattle.sr_queue.specs.declared.pending.Pending.{Pending}
use Rattle.sr_select.specs.declared.choice.Choice.{Choice}
use Rattle.sr_select.specs.declared.choice.Choice.TheVariants as chosen
use Rattle.sr_store.specs.Variables.{declared_in, loaded_in, stored_in}
use Rattle.sr_value.specs.declared.capability.Cap.{Cap}
use Rattle.sr_value.specs.declared.capability.Cap.TheVariants as cap
use Rattle.sr_value.specs.declared.capability.Owner.{Owner}
use Rattle.sr_value.specs.declared.fault.Fault.{Fault}
use Rattle.sr_value.specs.declared.place.Place.{Place}
use Rattle.sr_value.specs.declared.value.Value.{Value}
use Rattle.sr_world.specs.Answering.{answer as answered, answer_held, duty_held}
use Rattle.sr_world.specs.Does.{Does, Makes, done_or, where_some}
use Rattle.sr_world.specs.Endings.{answer_unless, close, close_or, destroy, end_after, finish, main_instance, may_close, quiesce, rest_of, status_in, stop_with}
use Rattle.sr_world.specs.Inputs.{is_decided}
use Rattle.sr_world.specs.Invoking.{arrive, instance_of_process, invoke, is_gone, owner_instance}
use Rattle.sr_world.specs.Making.{component_at, has_final_code, is_open, is_ready, make_ready, needs_ready, ready_from, run_final, run_initial, run_proc, start_in}
use Rattle.sr_world.specs.Selecting.{by_choice, choice_of}
use Rattle.sr_world.specs.Steps.{create_on, done_by, duty_for, ensure_found, on_machine, ready_after}
use Rattle.sr_world.specs.Updates.{add_instance, add_reply, drop_reply, end_all, end_instance, end_process, end_processes, fix, processes_of, release, set_state, use_name}
use Rattle.sr_world.specs.Worlds.{World, is_live, started}
use Rattle.sr_world.specs.declared.duty.Duty.{Duty}
use Rattle.sr_world.specs.declared.ends.End.{End}
use Rattle.sr_world.specs.declared.ends.End.TheVariants as end
use Rattle.sr_world.proofs.FoundLemmas.{found-added, found-without}
use Rattle.sr_plain.specs.Leaving.{Leaves, LeavesIf, written_by}
use Rattle.sr_plain.specs.Order.{AreInLine, Ascend}

-- ---- who stands in order

pub within-ascend : (low : ℕ) (live : List Start) (high : ℕ) → Ascend low live high → low < high
within-ascend low [] high is = is
within-ascend low (x ∷ xs) high is = let more = within-ascend x.process xs high is.1 in let first = is.0 in omega arith

pub lower-ascend : (low under : ℕ) (live : List Start) (high : ℕ) → under ≤ low → Ascend low live high → Ascend under live high
lower-ascend low under [] high less is = omega arith
lower-ascend low under (x ∷ xs) high less is = let first = is.0 in (omega arith, is.1)

ascend-without : (live : List Start) (p low high : ℕ) → Ascend low live high → Ascend low (without_process live p) high
ascend-without [] p low high is = is
ascend-without (x ∷ xs) p low high is = by (p == x.process) (ascend-without xs p x.process high is.1)
  where
    by : (b : Bool) → Ascend x.process (without_process xs p) high → Ascend low (cond (not b) (x ∷ without_process xs p) (without_process xs p)) high
    by true more = let first = is.0 in lower-ascend x.process low (without_process xs p) high (omega arith) more
    by false more = (is.0, more)

-- ---- who waits in order

pub within-line : (low : ℕ) (ps : List Pending) (high : ℕ) → AreInLine low ps high → low < high
within-line low [] high is = is
within-line low (p ∷ ps) high is = let more = within-line p.id ps high is.1 in let first = is.0 in omega arith

lower-line : (low under : ℕ) (ps : List Pending) (high : ℕ) → under ≤ low → AreInLine low ps high → AreInLine under ps high
lower-line low under [] high less is = omega arith
lower-line low under (p ∷ ps) high less is = let first = is.0 in (omega arith, is.1)

in-line-removed : (place low : ℕ) (ps : List Pending) (high : ℕ) → AreInLine low ps high → AreInLine low (remove ps place) high
in-line-removed zero low [] high is = is
in-line-removed (suc place) low [] high is = is
in-line-removed zero low (p ∷ ps) high is = let first = is.0 in lower-line p.id low ps high (omega arith) is.1
in-line-removed (suc place) low (p ∷ ps) high is = (is.0, in-line-removed place p.id ps high is.1)

-- what stands in order has greater numbers than this one
none-equal : (low : ℕ) (ps : List Pending) (high n : ℕ) → AreInLine low ps high → n ≤ low → filter (λ (other : Pending). not (other.id == n)) ps ≡ ps
none-equal low [] high n is under = refl
none-equal low (p ∷ ps) high n is under = by (p.id == n) refl (none-equal p.id ps high n is.1 (let first = is.0 in omega arith))
  where
    by : (b : Bool) → (p.id == n) ≡ b → filter (λ (other : Pending). not (other.id == n)) ps ≡ ps → cond (not b) (p ∷ filter (λ (other : Pending). not (other.id == n)) ps) (filter (λ (other : Pending). not (other.id == n)) ps) ≡ p ∷ ps
    by true same more = absurd (let equal : p.id ≡ n = eqb-true p.id n same in let first = is.0 in omega arith)
    by false off more = ap (λ rest. p ∷ rest) more

-- one is taken out by its number as by its place
pub by-number : (low high place : ℕ) (ps : List Pending) (p : Pending) → AreInLine low ps high → slice_get ps place ≡ Some p → remove ps place ≡ filter (λ (other : Pending). not (other.id == p.id)) ps
by-number low high place [] p is at = absurd (cc)
by-number low high zero (x ∷ xs) p is at = by (x.id == p.id) refl
  where
    same : x ≡ p
    same = cc

    by : (b : Bool) → (x.id == p.id) ≡ b → xs ≡ cond (not b) (x ∷ filter (λ (other : Pending). not (other.id == p.id)) xs) (filter (λ (other : Pending). not (other.id == p.id)) xs)
    by true here = sym (none-equal x.id xs high p.id is.1 (let equal : x.id ≡ p.id = ap (λ (q : Pending). q.id) same in omega arith))
    by false off = absurd (true≢false (sym (eq-eqb x.id p.id (ap (λ (q : Pending). q.id) same)) ∙ off))
by-number low high (suc place) (x ∷ xs) p is at = by (x.id == p.id) refl (by-number x.id high place xs p is.1 at)
  where
    above : (k l : ℕ) (ys : List Pending) → AreInLine l ys high → slice_get ys k ≡ Some p → l < p.id
    above k l [] inline there = absurd (cc)
    above zero l (y ∷ ys) inline there = let equal : y ≡ p = cc in let number : y.id ≡ p.id = ap (λ (q : Pending). q.id) equal in let first = inline.0 in omega arith
    above (suc k) l (y ∷ ys) inline there = let more = above k y.id ys inline.1 there in let first = inline.0 in omega arith

    by : (b : Bool) → (x.id == p.id) ≡ b → remove xs place ≡ filter (λ (other : Pending). not (other.id == p.id)) xs
        → x ∷ remove xs place ≡ cond (not b) (x ∷ filter (λ (other : Pending). not (other.id == p.id)) xs) (filter (λ (other : Pending). not (other.id == p.id)) xs)
    by true same more = absurd (let equal : x.id ≡ p.id = eqb-true x.id p.id same in let greater = above place x.id xs is.1 at in omega arith)
    by false off more = ap (λ rest. x ∷ rest) more

-- ---- what makes no process

pub record Loses (w w' : World) : Type 0 where
  pub lives : (q : ℕ) (s : Start) → started w' q ≡ Some s → started w q ≡ Some s
  pub output : w'.output ≡ w.output
  pub ascend : (low high : ℕ) → Ascend low w.live high → Ascend low w'.live high
  pub pending : w'.pending ≡ w.pending

pub loses-same : (w w' : World) → w'.live ≡ w.live → w'.output ≡ w.output → w'.pending ≡ w.pending → Loses w w'
loses-same w w' live output pending = record {
  lives = λ q s is. sym (ap (find (is_process q)) live) ∙ is;
  output = output;
  ascend = λ low high is. subst (λ xs. Ascend low xs high) (sym live) is;
  pending = pending;
}

loses-then : (w w1 w2 : World) → Loses w w1 → Loses w1 w2 → Loses w w2
loses-then w w1 w2 first second = record {
  lives = λ q s is. first.lives q s (second.lives q s is);
  output = second.output ∙ first.output;
  ascend = λ low high is. second.ascend low high (first.ascend low high is);
  pending = second.pending ∙ first.pending;
}

pub answered-loses : (duty : Duty) (results : Option (List Value)) (w : World) → Loses w (answered duty results w)
answered-loses duty results w = by (is_live w duty.back)
  where
    by : (b : Bool) → Loses w (cond b (add_reply duty.back (record { id = duty.back_id; results = results }) w) w)
    by true = loses-same w (add_reply duty.back (record { id = duty.back_id; results = results }) w) refl refl refl
    by false = loses-same w w refl refl refl

pub make_ready-loses : (instance : ℕ) (w : World) → Loses w (make_ready instance w)
make_ready-loses instance w = by (state_of w.places instance)
  where
    by : (s : Option InstanceState) → Loses w (ready_from s instance w)
    by (Some Starting) = loses-same w (set_state instance Ready w) refl refl refl
    by (Some Ready) = loses-same w w refl refl refl
    by (Some Closing) = loses-same w w refl refl refl
    by (Some Gone) = loses-same w w refl refl refl
    by None = loses-same w w refl refl refl

end_process-loses : (p : ℕ) (w : World) → Loses w (end_process p w)
end_process-loses p w = record { lives = found-without w.live p; output = refl; ascend = λ low high is. ascend-without w.live p low high is; pending = refl }

end_processes-loses : (ps : List ℕ) (w : World) → Loses w (end_processes ps w)
end_processes-loses [] w = loses-same w w refl refl refl
end_processes-loses (p ∷ ps) w = loses-then w (end_process p w) (end_processes ps (end_process p w)) (end_process-loses p w) (end_processes-loses ps (end_process p w))

pub end_instance-loses : (instance : ℕ) (w : World) → Loses w (end_instance instance w)
end_instance-loses instance w =
    let gone : World = set_state instance Gone w in
    loses-then w gone (end_instance instance w) (loses-same w gone refl refl refl) (end_processes-loses (processes_of instance w) gone)

end_all-loses : (w : World) → Loses w (end_all w)
end_all-loses w = record { lives = λ q s is. absurd (cc); output = refl; ascend = λ low high is. within-ascend low w.live high is; pending = refl }

end_after-loses : (role : Role) (back p : ℕ) (w : World) → Loses w (end_after role back p w)
end_after-loses Boot back p w = end_process-loses p w
end_after-loses proc_role back p w = end_process-loses p w
end_after-loses Initial back p w =
    loses-then w (end_process p w) (end_after Initial back p w) (end_process-loses p w) (make_ready-loses (instance_of_process w p) (end_process p w))
end_after-loses Final zero p w = end_process-loses p w
end_after-loses Final (suc caller) p w =
    loses-then w (end_process p w) (end_after Final (suc caller) p w) (end_process-loses p w) (end_instance-loses (instance_of_process w p) (end_process p w))

fix-loses : (status : Option ℕ) (w : World) → Loses w (fix status w)
fix-loses None w = loses-same w w refl refl refl
fix-loses (Some n) w = loses-same w (fix (Some n) w) refl refl refl

-- ---- each request

module _ (name : ℕ) where
  took-away : (w w' : World) → Loses w w' → Leaves name [] w w'
  took-away w w' loses = record {
    lives = λ q s is. inl (loses.lives q s is);
    output = loses.output ∙ sym (append-nil w.output);
    stay = w'.live;
    ascend = loses.ascend;
    live = inl refl;
    wait = w.pending;
    in_line = λ low high is. is;
    pending = inl loses.pending;
  }

  -- a process of the step's number was added
  made-one : (w from w' : World) (start : Start) → Loses w from → start.process ≡ name → w'.live ≡ from.live ++ start ∷ [] → w'.output ≡ from.output → w'.pending ≡ from.pending → Leaves name [] w w'
  made-one w from w' start loses named live output pending = record {
    lives = lives;
    output = output ∙ loses.output ∙ sym (append-nil w.output);
    stay = from.live;
    ascend = loses.ascend;
    live = inr (record { start = start; named = named; added = live });
    wait = w.pending;
    in_line = λ low high is. is;
    pending = inl (pending ∙ loses.pending);
  }
    where
      by : (q : ℕ) (s : Start) → (find (is_process q) from.live ≡ Some s) ⊎ (q ≡ start.process) → (started w q ≡ Some s) ⊎ (q ≡ name)
      by q s (inl is) = inl (loses.lives q s is)
      by q s (inr is) = inr (is ∙ named)

      lives : (q : ℕ) (s : Start) → started w' q ≡ Some s → (started w q ≡ Some s) ⊎ (q ≡ name)
      lives q s is = by q s (found-added from.live start q s (sym (ap (find (is_process q)) live) ∙ is))

  -- an invocation of the step's number waits after the others
  arrived-one : (w from w' : World) (p : Pending) → Loses w from → p.id ≡ name → w'.pending ≡ from.pending ++ p ∷ [] → w'.live ≡ from.live → w'.output ≡ from.output → Leaves name [] w w'
  arrived-one w from w' p loses named pending live output = record {
    lives = λ q s is. inl (loses.lives q s (sym (ap (find (is_process q)) live) ∙ is));
    output = output ∙ loses.output ∙ sym (append-nil w.output);
    stay = from.live;
    ascend = loses.ascend;
    live = inl live;
    wait = w.pending;
    in_line = λ low high is. is;
    pending = inr (record { invocation = p; named = named; added = pending ∙ ap (λ ps. ps ++ p ∷ []) loses.pending });
  }

  module _ (w : World) where
    -- one that waited is taken up
    went-away : (w' : World) (place : ℕ) → w'.pending ≡ remove w.pending place → w'.live ≡ w.live → w'.output ≡ w.output → Leaves name [] w w'
    went-away w' place pending live output = record {
      lives = λ q s is. inl (sym (ap (find (is_process q)) live) ∙ is);
      output = output ∙ sym (append-nil w.output);
      stay = w.live;
      ascend = λ low high is. is;
      live = inl live;
      wait = remove w.pending place;
      in_line = λ low high is. in-line-removed place low w.pending high is;
      pending = inl pending;
    }

    module _ (text : List ℕ) where
      if-some : {A : Type 0} (o : Option A) (next : A → Does) → ((a : A) → LeavesIf name text w (next a)) → LeavesIf name text w (where_some o next)
      if-some None next h = tt
      if-some (Some a) next h = h a

      if-done : {A : Type 0} (place : Place) (r : Result A Fault) (next : A → Does) → ((a : A) → LeavesIf name text w (next a)) → LeavesIf name text w (done_or place r next)
      if-done place (Ok a) next h = h a
      if-done place (Err fault) next h = tt

      either : (b : Bool) (x y : Does) → LeavesIf name text w x → LeavesIf name text w y → LeavesIf name text w (cond b x y)
      either true x y hx hy = hx
      either false x y hx hy = hy

    same : (w' : World) → w'.live ≡ w.live → w'.output ≡ w.output → w'.pending ≡ w.pending → Leaves name [] w w'
    same w' live output pending = took-away w w' (loses-same w w' live output pending)

    nothing : Leaves name [] w w
    nothing = same w refl refl refl

    -- ---- invocations

    module _ (from : World) (loses : Loses w from) where
      if-arrives : (core : Core) (owner : Owner) (op : ℕ) (args : List Value) (duty : Duty) (proc : Option ℕ) → Leaves name [] w (arrive core name owner op args duty proc from)
      if-arrives core owner op args duty (Some proc) =
          let start : Start = start_in core from name (owner_instance from owner) proc_role proc args duty.back in
          made-one w from (run_proc core name (owner_instance from owner) proc args duty from) start loses refl refl refl refl
      if-arrives core owner op args duty None =
          let arrived : World = arrive core name owner op args duty None from in
          arrived-one w from arrived (record { id = name; op = op; owner = owner; args = args; back = duty.back; back_id = duty.back_id }) loses refl refl refl refl

      if-answered : (duty : Duty) (results : Option (List Value)) → Leaves name [] w (answered duty results (use_name name from))
      if-answered duty results =
          let used : World = use_name name from in
          took-away w (answered duty results used) (loses-then w used (answered duty results used) (loses-then w from used loses (loses-same from used refl refl refl)) (answered-loses duty results used))

      if-invoked : (core : Core) (place : Place) (target : Cap) (args : List Value) (duty : Duty) → LeavesIf name [] w (invoke core place name target args duty from)
      if-invoked core place cap.Null args duty = tt
      if-invoked core place cap.Noop args duty = if-answered duty None
      if-invoked core place (cap.Op owner op) args duty =
          if-some [] (slice_get core.operations op) _ (λ operation. either [] (is_gone from owner) _ _ tt (if-arrives core owner op args duty operation.proc))
      if-invoked core place (cap.Res instance) args duty = tt
      if-invoked core place (cap.Vm machine) args duty = tt

    -- ---- replies and choices

    if-replied : (role : Role) (own : Bool) (actor held : ℕ) (results : List Value) → Leaves name [] w (ready_after role own actor (answer_held actor held results w))
    if-replied role own actor held results = by role own
      where
        released : World
        released = release actor held w

        answering : World
        answering = answer_held actor held results w

        loses : Loses w answering
        loses = loses-then w released answering (loses-same w released refl refl refl) (answered-loses (duty_held w actor held) (Some results) released)

        by : (role : Role) (own : Bool) → Leaves name [] w (ready_after role own actor answering)
        by Initial true =
            took-away w (make_ready (instance_of_process answering actor) answering) (loses-then w answering (make_ready (instance_of_process answering actor) answering) loses (make_ready-loses (instance_of_process answering actor) answering))
        by Initial false = took-away w answering loses
        by Boot own = took-away w answering loses
        by proc_role own = took-away w answering loses
        by Final own = took-away w answering loses

    if-chosen : (actor : ℕ) (site : Site) (choice : Choice) → LeavesIf name [] w (by_choice w actor site choice)
    if-chosen actor site (chosen.Service place arm) = if-some [] (slice_get w.pending place) _ (λ p. went-away _ place refl refl refl)
    if-chosen actor site chosen.Else = nothing
    if-chosen actor site chosen.Nothing = tt
    if-chosen actor site (chosen.Bad fault arm) = if-some [] (slice_get site.arms arm) _ (λ a. tt)

    -- ---- instances

    if-found : (core : Core) (global machine : ℕ) (o : Option ℕ) → LeavesIf name [] w (ensure_found core name global w machine o)
    if-found core global machine None =
        let placed : World = add_instance name global machine (use_name name w) in
        made-one w w (run_initial core name global machine [] 0 w) (start_in core placed name name Initial global [] 0) (loses-same w w refl refl refl) refl refl refl refl
    if-found core global machine (Some instance) = either [] (is_ready (state_of w.places instance)) _ _ nothing tt

    on-machine : (place : Place) (target : Cap) (next : ℕ → Does) → ((machine : ℕ) → LeavesIf name [] w (next machine)) → LeavesIf name [] w (on_machine place target next)
    on-machine place cap.Null next h = tt
    on-machine place cap.Noop next h = tt
    on-machine place (cap.Op owner op) next h = tt
    on-machine place (cap.Res instance) next h = tt
    on-machine place (cap.Vm machine) next h = h machine

    if-created : (core : Core) (actor resource machine : ℕ) (args : List Value) → LeavesIf name [] w (create_on core actor name resource args w machine)
    if-created core actor resource machine args =
        let placed : World = add_instance name resource machine (use_name name w) in
        either [] (needs_ready core w resource machine) _ _
        (made-one w w _ (start_in core placed name name Initial resource args actor) (loses-same w w refl refl refl) refl refl refl refl) tt

    if-closed : (core : Core) (actor instance : ℕ) → LeavesIf name [] w
        (cond (has_final_code core (component_at w instance)) (Makes (close core name instance (duty_for true actor name) w) (answer.Made name))
        (Makes (answered (duty_for true actor name) (Some []) (end_instance instance (use_name name w))) (answer.Made name)))
    if-closed core actor instance =
        let used : World = use_name name w in
        let ended : World = end_instance instance used in
        let duty : Duty = duty_for true actor name in
        either [] (has_final_code core (component_at w instance)) _ _
        (made-one w w (close core name instance duty w) (start_in core w name instance Final (component_at w instance) [] actor) (loses-same w w refl refl refl) refl refl refl refl)
        (took-away w (answered duty (Some []) ended)
        (loses-then w used (answered duty (Some []) ended) (loses-same w used refl refl refl) (loses-then used ended (answered duty (Some []) ended) (end_instance-loses instance used) (answered-loses duty (Some []) ended))))

    if-destroyed : (core : Core) (place : Place) (actor : ℕ) (target : Cap) → LeavesIf name [] w (destroy core place name target (duty_for true actor name) w)
    if-destroyed core place actor cap.Null = tt
    if-destroyed core place actor cap.Noop = if-answered w (loses-same w w refl refl refl) (duty_for true actor name) (Some [])
    if-destroyed core place actor (cap.Op owner op) = tt
    if-destroyed core place actor (cap.Res instance) = either [] (is_open (state_of w.places instance)) _ _ (if-closed core actor instance) tt
    if-destroyed core place actor (cap.Vm machine) = tt

    -- ---- ends

    if-finished : (role : Role) (actor : ℕ) (is_answered : Bool) (back : ℕ) (results : List Value) → Leaves name [] w (finish role actor is_answered back results w)
    if-finished role actor is_answered back results = by is_answered
      where
        after : World
        after = end_after role back actor w

        by : (b : Bool) → Leaves name [] w (answer_unless b (duty_held w actor actor) results after)
        by true = took-away w after (end_after-loses role back actor w)
        by false =
            let done : World = answered (duty_held w actor actor) (Some results) after in
            took-away w done (loses-then w after done (end_after-loses role back actor w) (answered-loses (duty_held w actor actor) (Some results) after))

    -- main's final code begins, or the run ends
    if-closing : (core : Core) (status : Option ℕ) (ending : End) (main : Option Instance) → LeavesIf name [] w (close_or core name status ending w main)
    if-closing core status ending None = tt
    if-closing core status ending (Some main) =
        let fixed : World = fix status (end_all w) in
        either [] (may_close core main) _ _
        (made-one w fixed (run_final core name main.name 0 fixed) (start_in core fixed name main.name Final (component_at fixed main.name) [] 0)
        (loses-then w (end_all w) fixed (end_all-loses w) (fix-loses status (end_all w))) refl refl refl refl) tt

    if-stopped : (core : Core) (place : Place) (status : Option ℕ) → LeavesIf name [] w (stop_with core place name status w)
    if-stopped core place None = tt
    if-stopped core place (Some n) = if-closing core (Some n) (end.Stopped n) (main_instance core w)

    -- ---- the table

    pub leaves : (core : Core) (actor : ℕ) (place : Place) (role : Role) (r : Request) → LeavesIf name (written_by r) w (done_by core w actor name place role r)
    leaves core actor place role (request.Declare block var shape) = if-done [] place (declared_in w.variables block var shape) _ (λ variables. same _ refl refl refl)
    leaves core actor place role (request.Load block var path) = if-done [] place (loaded_in w.variables block var path) _ (λ value. nothing)
    leaves core actor place role (request.Store block var path value) = if-done [] place (stored_in w.variables block var path value) _ (λ variables. same _ refl refl refl)
    leaves core actor place role (request.Invoke target args wants) = if-invoked w (loses-same w w refl refl refl) core place target args (duty_for wants actor name)
    leaves core actor place role (request.Select site env) = if-some [] (slice_get core.sites site) _ (λ s. if-chosen actor s (choice_of core w actor env s))
    leaves core actor place role (request.Take ids) = if-some [] (earliest_reply w.replies actor ids) _ (λ reply. same (drop_reply actor ids w) refl refl refl)
    leaves core actor place role (request.Reply held back results) = if-replied role (held == actor) actor held results
    leaves core actor place role (request.Forward held back target args) =
        let released : World = release actor held w in if-invoked released (loses-same w released refl refl refl) core place target args (duty_held w actor held)
    leaves core actor place role (request.Count op) = if-some [] (slice_get core.operations op) _ (λ operation. nothing)
    leaves core actor place role (request.Write bytes) = record {
      lives = λ q s is. inl is;
      output = refl;
      stay = w.live;
      ascend = λ low high is. is;
      live = inl refl;
      wait = w.pending;
      in_line = λ low high is. is;
      pending = inl refl;
    }
    leaves core actor place role (request.Read kind) = either [] (is_decided kind w.rest w.ended) _ _ (same _ refl refl refl) tt
    leaves core actor place role (request.EnsureGlobal global vm) =
        if-some [] (slice_get core.components global) _ (λ component. on-machine place vm _ (λ machine. if-found core global machine (global_in w.places global machine)))
    leaves core actor place role (request.Create resource args vm) =
        if-some [] (slice_get core.components resource) _ (λ component. on-machine place vm _ (λ machine. if-created core actor resource machine args))
    leaves core actor place role request.MakeVm = same _ refl refl refl
    leaves core actor place role (request.Destroy target) = if-destroyed core place actor target
    leaves core actor place role (request.Finish answered back results) = if-finished role actor answered back results
    leaves core actor place role (request.Stop status) = if-stopped core place (status_in status)
    leaves core actor place role (request.Fail fault) = tt
    leaves core actor place role request.Age = nothing
    leaves core actor place role (request.Wake until) = either [] (nat_lt w.moment until) _ _ tt nothing

    pub leaves_at_rest : (core : Core) → LeavesIf name [] w (quiesce core name w)
    leaves_at_rest core = if-closing core None (rest_of w.fixed) (main_instance core w)
