-- Which replies and which ready instances a step may bring: a reply to the one whose duty its request answers, and the
-- instance of its process.
use Rattle.std.proofs.Common.{◌≡◌, ◌⊎◌, ⊎_elim, inl, inr, ℕ, zero, suc, ◌==◌, Bool, true, false, cond, List, [], ◌∷◌, ◌++◌, Option, None, Some, refl, ap, sym, ◌∙◌, subst, eqb-true}
use Rattle.std.specs.Option.{option_map}
use Rattle.std.specs.Prelude.{◌||◌, Result, Ok, Err, find, map, nat_lt, slice_get, unwrap_or}
use Rattle.sr_ask.specs.declared.answer.Answer.TheVariants as answer
use Rattle.sr_ask.specs.declared.ask.Role.{Role}
use Rattle.sr_ask.specs.declared.ask.Role.TheVariants.{Boot, Initial, Proc as proc_role, Final}
use Rattle.sr_ask.specs.declared.request.Request.{Request}
use Rattle.sr_ask.specs.declared.request.Request.TheVariants as request
use Rattle.sr_ask.specs.declared.start.Start.{Start}
use Rattle.sr_core.specs.declared.component.Core.{Core}
use Rattle.sr_core.specs.declared.site.Site.{Site}
use Rattle.sr_instances.specs.declared.state.State.{State as InstanceState}
use Rattle.sr_instances.specs.declared.state.State.TheVariants.{Starting, Ready, Closing, Gone}
use Rattle.sr_processes.specs.Living.{is_process}
use Rattle.sr_select.specs.declared.choice.Choice.{Choice}
use Rattle.sr_select.specs.declared.choice.Choice.TheVariants as chosen
use Rattle.sr_store.specs.Variables.{declared_in, loaded_in, stored_in}
use Rattle.sr_value.specs.declared.capability.Cap.{Cap}
use Rattle.sr_value.specs.declared.capability.Cap.TheVariants as cap
use Rattle.sr_value.specs.declared.capability.Owner.{Owner}
use Rattle.sr_value.specs.declared.fault.Fault.{Fault}
use Rattle.sr_value.specs.declared.place.Place.{Place}
use Rattle.sr_value.specs.declared.value.Value.{Value}
use Rattle.sr_world.specs.Endings.{close, close_or, destroy, end_after, finish, main_instance, may_close, quiesce, rest_of, status_in, stop_with}
use Rattle.sr_world.specs.Inputs.{is_decided}
use Rattle.sr_world.specs.Invoking.{arrive, instance_of_process, invoke, is_gone, owner_instance}
use Rattle.sr_world.specs.Making.{component_at, has_final_code, is_open, is_ready, make_ready, needs_ready, ready_from, run_final, run_initial, run_proc}
use Rattle.sr_world.specs.Selecting.{by_choice, choice_of}
use Rattle.sr_world.specs.Steps.{create_on, done_by, duty_for, ensure_found, on_machine, ready_after}
use Rattle.sr_world.specs.Updates.{add_instance, add_reply, drop_reply, end_all, end_instance, end_process, end_processes, fix, processes_of, release, set_state, use_name}
use Rattle.sr_world.specs.Worlds.{World, is_live}
use Rattle.sr_world.specs.declared.duty.Duty.{Duty}
use Rattle.sr_world.specs.declared.ends.End.{End}
use Rattle.sr_world.specs.declared.ends.End.TheVariants as end
use Rattle.std.specs.FinMap as fin
use Rattle.std.specs.List.{list_any}
use Rattle.sr_calls.specs.Calls.{ByProcess, answers_one, earliest_reply, items_of, with_item, with_items, without_first}
use Rattle.sr_calls.specs.declared.held.Reply.{Reply}
use Rattle.sr_instances.specs.Instances.{Instance, global_in, in_state, state_of}
use Rattle.sr_world.specs.Answering.{answer as answered, answer_held, duty_held, no_duty}
use Rattle.sr_world.specs.Callers.{duty_by, duty_unless}
use Rattle.sr_world.specs.Does.{Does, Did, Makes, done_or, where_some}
use Rattle.sr_world.proofs.CallLemmas.{items-at, items-empty, items-off, removed-at, removed-off}
use Rattle.sr_races.specs.Links.{has_reply, instance_ready}

-- ---- lists

any-push : {A : Type 0} (t : A → Bool) (xs : List A) (x : A) → list_any t (xs ++ x ∷ []) ≡ true → (list_any t xs ≡ true) ⊎ (t x ≡ true)
any-push t [] x is = by (t x) is
  where
    by : (b : Bool) → (b || false) ≡ true → (false ≡ true) ⊎ (b ≡ true)
    by true h = inr refl
    by false h = inl h
any-push t (y ∷ ys) x is = by (any-push t ys x) (t y) is
  where
    by : (list_any t (ys ++ x ∷ []) ≡ true → (list_any t ys ≡ true) ⊎ (t x ≡ true)) → (b : Bool) → (b || list_any t (ys ++ x ∷ [])) ≡ true
        → ((b || list_any t ys) ≡ true) ⊎ (t x ≡ true)
    by more true h = inl refl
    by more false h = more h

any-rest : {A : Type 0} (t u : A → Bool) (xs : List A) → list_any t (without_first u xs) ≡ true → list_any t xs ≡ true
any-rest t u [] is = is
any-rest t u (x ∷ xs) is = by (any-rest t u xs) (u x) is
  where
    either-way : (b : Bool) → list_any t xs ≡ true → (b || list_any t xs) ≡ true
    either-way true h = refl
    either-way false h = h

    along : (list_any t (without_first u xs) ≡ true → list_any t xs ≡ true) → (b : Bool) → (b || list_any t (without_first u xs)) ≡ true → (b || list_any t xs) ≡ true
    along more true h = refl
    along more false h = more h

    by : (list_any t (without_first u xs) ≡ true → list_any t xs ≡ true) → (b : Bool) → list_any t (cond b xs (x ∷ without_first u xs)) ≡ true → (t x || list_any t xs) ≡ true
    by more true h = either-way (t x) h
    by more false h = along more (t x) h

-- ---- replies

abbrev HasIn : ByProcess (List Reply) → ℕ → ℕ → Type 0
HasIn all p id = list_any (λ reply. reply.id == id) (items_of all p) ≡ true

added-in : (all : ByProcess (List Reply)) (p q id : ℕ) (r : Reply) → HasIn (with_item all p r) q id → HasIn all q id ⊎ ((p ≡ q) × (r.id ≡ id))
added-in all p q id r is = by (p == q) refl
  where
    by : (b : Bool) → (p == q) ≡ b → HasIn all q id ⊎ ((p ≡ q) × (r.id ≡ id))
    by false off = inl (sym (ap (list_any (λ reply. reply.id == id)) (items-off all p q (items_of all p ++ r ∷ []) off)) ∙ is)
    by true same =
        let p-is : p ≡ q = eqb-true p q same in
        ⊎_elim (λ old. inl (subst (λ n. HasIn all n id) p-is old)) (λ new. inr (p-is, eqb-true r.id id new))
        (any-push (λ reply. reply.id == id) (items_of all p) r (sym (ap (list_any (λ reply. reply.id == id)) (items-at all p q (items_of all p ++ r ∷ []) same)) ∙ is))

taken-in : (all : ByProcess (List Reply)) (u : Reply → Bool) (p q id : ℕ) → HasIn (with_items all p (without_first u (items_of all p))) q id → HasIn all q id
taken-in all u p q id is = by (p == q) refl
  where
    by : (b : Bool) → (p == q) ≡ b → HasIn all q id
    by false off = sym (ap (list_any (λ reply. reply.id == id)) (items-off all p q (without_first u (items_of all p)) off)) ∙ is
    by true same =
        subst (λ n. HasIn all n id) (eqb-true p q same)
        (any-rest (λ reply. reply.id == id) u (items_of all p) (sym (ap (list_any (λ reply. reply.id == id)) (items-at all p q (without_first u (items_of all p)) same)) ∙ is))

removed-in : (all : ByProcess (List Reply)) (p q id : ℕ) → HasIn (fin.remove all p) q id → HasIn all q id
removed-in all p q id is = by (p == q) refl
  where
    by : (b : Bool) → (p == q) ≡ b → HasIn all q id
    by false off = sym (ap (list_any (λ reply. reply.id == id)) (removed-off all p q off)) ∙ is
    by true same = absurd (let no : false ≡ true = sym (ap (list_any (λ reply. reply.id == id)) (removed-at all p q same)) ∙ is in cc)

none-in : (q id : ℕ) → let none : ByProcess (List Reply) = fin.empty in HasIn none q id → ⊥
none-in q id is = let no : false ≡ true = sym (ap (list_any (λ (reply : Reply). reply.id == id)) (items-empty q)) ∙ is in cc

-- ---- instances

abbrev ReadyIn : List Instance → ℕ → Type 0
ReadyIn is x = is_ready (option_map (λ (i : Instance). i.state) (find (λ i. x == i.name) is)) ≡ true

set-ready : (n : ℕ) (s : InstanceState) (x : ℕ) (is : List Instance) → ReadyIn (map (in_state n s) is) x → ReadyIn is x ⊎ ((x ≡ n) × (is_ready (Some s) ≡ true))
set-ready n s x [] ready = inl ready
set-ready n s x (i ∷ is) ready = by (set-ready n s x is) (n == i.name) refl (x == i.name) refl ready
  where
    by : (ReadyIn (map (in_state n s) is) x → ReadyIn is x ⊎ ((x ≡ n) × (is_ready (Some s) ≡ true))) → (b : Bool) → (n == i.name) ≡ b → (d : Bool) → (x == i.name) ≡ d
        → is_ready (option_map (λ (j : Instance). j.state) (cond (x == (cond b (record i { state = s }) i).name) (Some (cond b (record i { state = s }) i)) (find (λ (j : Instance). x == j.name) (map (in_state n s) is)))) ≡ true
        → (is_ready (option_map (λ (j : Instance). j.state) (cond d (Some i) (find (λ (j : Instance). x == j.name) is))) ≡ true) ⊎ ((x ≡ n) × (is_ready (Some s) ≡ true))
    by more true here true there h =
        inr (
          eqb-true x i.name there ∙ sym (eqb-true n i.name here),
          sym (ap (λ d. is_ready (option_map (λ (j : Instance). j.state) (cond d (Some (record i { state = s })) (find (λ (j : Instance). x == j.name) (map (in_state n s) is))))) there) ∙ h,
        )
    by more true here false off h =
        more (sym (ap (λ d. is_ready (option_map (λ (j : Instance). j.state) (cond d (Some (record i { state = s })) (find (λ (j : Instance). x == j.name) (map (in_state n s) is))))) off) ∙ h)
    by more false here true there h = inl (sym (ap (λ d. is_ready (option_map (λ (j : Instance). j.state) (cond d (Some i) (find (λ (j : Instance). x == j.name) (map (in_state n s) is))))) there) ∙ h)
    by more false here false off h =
        more (sym (ap (λ d. is_ready (option_map (λ (j : Instance). j.state) (cond d (Some i) (find (λ (j : Instance). x == j.name) (map (in_state n s) is))))) off) ∙ h)

added-ready : (x : ℕ) (is : List Instance) (i : Instance) → is_ready (Some i.state) ≡ false → ReadyIn (is ++ i ∷ []) x → ReadyIn is x
added-ready x [] i starts ready = absurd (by (x == i.name) ready)
  where
    by : (d : Bool) → is_ready (option_map (λ (j : Instance). j.state) (cond d (Some i) None)) ≡ true → ⊥
    by true h = let no : false ≡ true = sym starts ∙ h in cc
    by false h = cc
added-ready x (j ∷ js) i starts ready = by (added-ready x js i starts) (x == j.name) ready
  where
    by : (ReadyIn (js ++ i ∷ []) x → ReadyIn js x) → (d : Bool) → is_ready (option_map (λ (k : Instance). k.state) (cond d (Some j) (find (λ (k : Instance). x == k.name) (js ++ i ∷ [])))) ≡ true
        → is_ready (option_map (λ (k : Instance). k.state) (cond d (Some j) (find (λ (k : Instance). x == k.name) js))) ≡ true
    by more true h = h
    by more false h = more h

-- ---- changes that bring nothing

pub record Quiet (w w' : World) : Type 0 where
  pub replies : (p id : ℕ) → has_reply p id w' ≡ true → has_reply p id w ≡ true
  pub ready : (x : ℕ) → instance_ready x w' ≡ true → instance_ready x w ≡ true

quiet-same : (w w' : World) → w'.replies ≡ w.replies → w'.places ≡ w.places → Quiet w w'
quiet-same w w' replies places = record {
  replies = λ p id is. sym (ap (λ all. list_any (λ reply. reply.id == id) (items_of all p)) replies) ∙ is;
  ready = λ x is. sym (ap (λ at. is_ready (state_of at x)) places) ∙ is;
}

quiet-then : (a b c : World) → Quiet a b → Quiet b c → Quiet a c
quiet-then a b c first second = record { replies = λ p id is. first.replies p id (second.replies p id is); ready = λ x is. first.ready x (second.ready x is) }

-- an instance that comes into a state which isn't ready
set_state-quiet : (instance : ℕ) (s : InstanceState) (w : World) → is_ready (Some s) ≡ false → Quiet w (set_state instance s w)
set_state-quiet instance s w not_ready = record {
  replies = λ p id is. is;
  ready = λ x is. ⊎_elim (λ old. old) (λ new. absurd (let no : false ≡ true = sym not_ready ∙ new.1 in cc)) (set-ready instance s x w.places.instances is);
}

add_instance-quiet : (name component machine : ℕ) (w : World) → Quiet w (add_instance name component machine w)
add_instance-quiet name component machine w = record {
  replies = λ p id is. is;
  ready = λ x is. added-ready x w.places.instances (record { name = name; component = component; machine = machine; state = Starting }) refl is;
}

drop_reply-quiet : (actor : ℕ) (ids : List ℕ) (w : World) → Quiet w (drop_reply actor ids w)
drop_reply-quiet actor ids w = record { replies = λ p id is. taken-in w.replies (answers_one ids) actor p id is; ready = λ x is. is }

end_process-quiet : (process : ℕ) (w : World) → Quiet w (end_process process w)
end_process-quiet process w = record { replies = λ p id is. removed-in w.replies process p id is; ready = λ x is. is }

end_processes-quiet : (ps : List ℕ) (w : World) → Quiet w (end_processes ps w)
end_processes-quiet [] w = quiet-same w w refl refl
end_processes-quiet (p ∷ ps) w = quiet-then w (end_process p w) (end_processes ps (end_process p w)) (end_process-quiet p w) (end_processes-quiet ps (end_process p w))

end_instance-quiet : (instance : ℕ) (w : World) → Quiet w (end_instance instance w)
end_instance-quiet instance w =
    let gone : World = set_state instance Gone w in
    quiet-then w gone (end_instance instance w) (set_state-quiet instance Gone w refl) (end_processes-quiet (processes_of instance w) gone)

end_all-quiet : (w : World) → Quiet w (end_all w)
end_all-quiet w = record { replies = λ p id is. absurd (none-in p id is); ready = λ x is. is }

fix-quiet : (status : Option ℕ) (w : World) → Quiet w (fix status w)
fix-quiet None w = quiet-same w w refl refl
fix-quiet (Some n) w = quiet-same w (fix (Some n) w) refl refl

run_final-quiet : (core : Core) (name instance back : ℕ) (w : World) → Quiet w (run_final core name instance back w)
run_final-quiet core name instance back w =
    let used : World = use_name name w in
    let closing : World = set_state instance Closing used in
    quiet-then w used (run_final core name instance back w) (quiet-same w used refl refl)
    (quiet-then used closing (run_final core name instance back w) (set_state-quiet instance Closing used refl) (quiet-same closing (run_final core name instance back w) refl refl))

-- ---- changes that bring a reply or a ready instance

pub record Moves (duty : Duty) (instance : ℕ) (w w' : World) : Type 0 where
  pub replies : (p id : ℕ) → has_reply p id w' ≡ true → (has_reply p id w ≡ true) ⊎ ((duty.back ≡ p) × (duty.back_id ≡ id))
  pub ready : (x : ℕ) → instance_ready x w' ≡ true → (instance_ready x w ≡ true) ⊎ (x ≡ instance)

abbrev pub MovesIf : Duty → ℕ → World → Does → Type 0
MovesIf duty instance w (Did w' answer) = Moves duty instance w w'
MovesIf duty instance w (Makes w' answer) = Moves duty instance w w'
MovesIf duty instance w _ = Unit {0}

module _ (duty : Duty) (instance : ℕ) where
  quietly : (w w' : World) → Quiet w w' → Moves duty instance w w'
  quietly w w' quiet = record { replies = λ p id is. inl (quiet.replies p id is); ready = λ x is. inl (quiet.ready x is) }

  moves-then : (a b c : World) → Moves duty instance a b → Moves duty instance b c → Moves duty instance a c
  moves-then a b c first second = record {
    replies = λ p id is. ⊎_elim (λ old. first.replies p id old) (λ new. inr new) (second.replies p id is);
    ready = λ x is. ⊎_elim (λ old. first.ready x old) (λ new. inr new) (second.ready x is);
  }

  answered-moves : (results : Option (List Value)) (w : World) → Moves duty instance w (answered duty results w)
  answered-moves results w = by (is_live w duty.back)
    where
      by : (b : Bool) → Moves duty instance w (cond b (add_reply duty.back (record { id = duty.back_id; results = results }) w) w)
      by true = record {
        replies = λ p id is. added-in w.replies duty.back p id (record { id = duty.back_id; results = results }) is;
        ready = λ x is. inl is;
      }
      by false = quietly w w (quiet-same w w refl refl)

  make_ready-moves : (w : World) → Moves duty instance w (make_ready instance w)
  make_ready-moves w = by (state_of w.places instance)
    where
      nothing : Moves duty instance w w
      nothing = quietly w w (quiet-same w w refl refl)

      by : (s : Option InstanceState) → Moves duty instance w (ready_from s instance w)
      by (Some Starting) = record {
        replies = λ p id is. inl is;
        ready = λ x is. ⊎_elim (λ old. inl old) (λ new. inr new.0) (set-ready instance Ready x w.places.instances is);
      }
      by (Some Ready) = nothing
      by (Some Closing) = nothing
      by (Some Gone) = nothing
      by None = nothing

live-answered : (duty : Duty) (results : Option (List Value)) (w : World) → (answered duty results w).live ≡ w.live
live-answered duty results w = by (is_live w duty.back)
  where
    by : (b : Bool) → (cond b (add_reply duty.back (record { id = duty.back_id; results = results }) w) w).live ≡ w.live
    by true = refl
    by false = refl

-- ---- each request

module _ (name : ℕ) (w : World) where
  module _ (duty : Duty) (instance : ℕ) where
    if-some : {A : Type 0} (o : Option A) (next : A → Does) → ((a : A) → MovesIf duty instance w (next a)) → MovesIf duty instance w (where_some o next)
    if-some None next h = tt
    if-some (Some a) next h = h a

    if-done : {A : Type 0} (place : Place) (r : Result A Fault) (next : A → Does) → ((a : A) → MovesIf duty instance w (next a)) → MovesIf duty instance w (done_or place r next)
    if-done place (Ok a) next h = h a
    if-done place (Err fault) next h = tt

    either : (b : Bool) (x y : Does) → MovesIf duty instance w x → MovesIf duty instance w y → MovesIf duty instance w (cond b x y)
    either true x y hx hy = hx
    either false x y hx hy = hy

    same : (w' : World) → w'.replies ≡ w.replies → w'.places ≡ w.places → Moves duty instance w w'
    same w' replies places = quietly duty instance w w' (quiet-same w w' replies places)

    nothing : Moves duty instance w w
    nothing = same w refl refl

    -- ---- invocations

    if-answered : (results : Option (List Value)) (from : World) → Quiet w from → Moves duty instance w (answered duty results from)
    if-answered results from quiet = moves-then duty instance w from (answered duty results from) (quietly duty instance w from quiet) (answered-moves duty instance results from)

    module _ (from : World) (replies : from.replies ≡ w.replies) (places : from.places ≡ w.places) where
      if-arrives : (core : Core) (owner : Owner) (op : ℕ) (args : List Value) (proc : Option ℕ) → Moves duty instance w (arrive core name owner op args duty proc from)
      if-arrives core owner op args (Some proc) = same (run_proc core name (owner_instance from owner) proc args duty from) replies places
      if-arrives core owner op args None = same (arrive core name owner op args duty None from) replies places

      if-invoked : (core : Core) (place : Place) (target : Cap) (args : List Value) → MovesIf duty instance w (invoke core place name target args duty from)
      if-invoked core place cap.Null args = tt
      if-invoked core place cap.Noop args = if-answered None (use_name name from) (quiet-same w (use_name name from) replies places)
      if-invoked core place (cap.Op owner op) args =
          if-some (slice_get core.operations op) _ (λ operation. either (is_gone from owner) _ _ tt (if-arrives core owner op args operation.proc))
      if-invoked core place (cap.Res target) args = tt
      if-invoked core place (cap.Vm machine) args = tt

    -- ---- choices

    if-chosen : (actor : ℕ) (site : Site) (choice : Choice) → MovesIf duty instance w (by_choice w actor site choice)
    if-chosen actor site (chosen.Service place arm) = if-some (slice_get w.pending place) _ (λ p. same _ refl refl)
    if-chosen actor site chosen.Else = nothing
    if-chosen actor site chosen.Nothing = tt
    if-chosen actor site (chosen.Bad fault arm) = if-some (slice_get site.arms arm) _ (λ a. tt)

    -- ---- instances

    if-made : (component machine : ℕ) (w' : World) → w'.replies ≡ w.replies → w'.places ≡ (add_instance name component machine w).places → Moves duty instance w w'
    if-made component machine w' replies places =
        let placed : World = add_instance name component machine w in
        quietly duty instance w w' (quiet-then w placed w' (add_instance-quiet name component machine w) (quiet-same placed w' replies places))

    if-found : (core : Core) (global machine : ℕ) (o : Option ℕ) → MovesIf duty instance w (ensure_found core name global w machine o)
    if-found core global machine None = if-made global machine (run_initial core name global machine [] 0 w) refl refl
    if-found core global machine (Some found) = either (is_ready (state_of w.places found)) _ _ nothing tt

    on-machine : (place : Place) (target : Cap) (next : ℕ → Does) → ((machine : ℕ) → MovesIf duty instance w (next machine)) → MovesIf duty instance w (on_machine place target next)
    on-machine place cap.Null next h = tt
    on-machine place cap.Noop next h = tt
    on-machine place (cap.Op owner op) next h = tt
    on-machine place (cap.Res target) next h = tt
    on-machine place (cap.Vm machine) next h = h machine

    if-created : (core : Core) (actor resource machine : ℕ) (args : List Value) → MovesIf duty instance w (create_on core actor name resource args w machine)
    if-created core actor resource machine args = either (needs_ready core w resource machine) _ _ (if-made resource machine _ refl refl) tt

    if-closed : (core : Core) (target : ℕ) → MovesIf duty instance w
        (cond (has_final_code core (component_at w target)) (Makes (close core name target duty w) (answer.Made name))
        (Makes (answered duty (Some []) (end_instance target (use_name name w))) (answer.Made name)))
    if-closed core target =
        let used : World = use_name name w in
        let final : World = run_final core name target duty.back w in
        either (has_final_code core (component_at w target)) _ _
        (quietly duty instance w (close core name target duty w)
        (quiet-then w final (close core name target duty w) (run_final-quiet core name target duty.back w) (quiet-same final (close core name target duty w) refl refl)))
        (if-answered (Some []) (end_instance target used) (quiet-then w used (end_instance target used) (quiet-same w used refl refl) (end_instance-quiet target used)))

    if-destroyed : (core : Core) (place : Place) (target : Cap) → MovesIf duty instance w (destroy core place name target duty w)
    if-destroyed core place cap.Null = tt
    if-destroyed core place cap.Noop = if-answered (Some []) (use_name name w) (quiet-same w (use_name name w) refl refl)
    if-destroyed core place (cap.Op owner op) = tt
    if-destroyed core place (cap.Res target) = either (is_open (state_of w.places target)) _ _ (if-closed core target) tt
    if-destroyed core place (cap.Vm machine) = tt

    -- main's final code begins, or the run ends
    if-closing : (core : Core) (status : Option ℕ) (ending : End) (main : Option Instance) → MovesIf duty instance w (close_or core name status ending w main)
    if-closing core status ending None = tt
    if-closing core status ending (Some main) =
        let fixed : World = fix status (end_all w) in
        either (may_close core main) _ _
        (quietly duty instance w (run_final core name main.name 0 fixed)
        (quiet-then w (end_all w) (run_final core name main.name 0 fixed) (end_all-quiet w)
        (quiet-then (end_all w) fixed (run_final core name main.name 0 fixed) (fix-quiet status (end_all w)) (run_final-quiet core name main.name 0 fixed)))) tt

    if-stopped : (core : Core) (place : Place) (status : Option ℕ) → MovesIf duty instance w (stop_with core place name status w)
    if-stopped core place None = tt
    if-stopped core place (Some n) = if-closing core (Some n) (end.Stopped n) (main_instance core w)

  -- ---- replies and ends

  module _ (actor : ℕ) where
    abbrev here : ℕ
    here = instance_of_process w actor

    if-replied : (role : Role) (own : Bool) (held : ℕ) (results : List Value) → Moves (duty_held w actor held) here w (ready_after role own actor (answer_held actor held results w))
    if-replied role own held results = by role own
      where
        moves : Moves (duty_held w actor held) (instance_of_process w actor) w (answer_held actor held results w)
        moves = if-answered (duty_held w actor held) (instance_of_process w actor) (Some results) (release actor held w) (quiet-same w (release actor held w) refl refl)

        same-instance : instance_of_process (answer_held actor held results w) actor ≡ instance_of_process w actor
        same-instance = ap (λ live. unwrap_or (option_map (λ (start : Start). start.instance) (find (is_process actor) live)) 0) (live-answered (duty_held w actor held) (Some results) (release actor held w))

        by : (role : Role) (own : Bool) → Moves (duty_held w actor held) (instance_of_process w actor) w (ready_after role own actor (answer_held actor held results w))
        by Initial true =
            subst (λ x. Moves (duty_held w actor held) (instance_of_process w actor) w (make_ready x (answer_held actor held results w))) (sym same-instance)
            (moves-then (duty_held w actor held) (instance_of_process w actor) w (answer_held actor held results w) (make_ready (instance_of_process w actor) (answer_held actor held results w)) moves
            (make_ready-moves (duty_held w actor held) (instance_of_process w actor) (answer_held actor held results w)))
        by Initial false = moves
        by Boot own = moves
        by proc_role own = moves
        by Final own = moves

    module _ (duty : Duty) where
      end_after-moves : (role : Role) (back : ℕ) → Moves duty here w (end_after role back actor w)
      end_after-moves Boot back = quietly duty here w (end_process actor w) (end_process-quiet actor w)
      end_after-moves proc_role back = quietly duty here w (end_process actor w) (end_process-quiet actor w)
      end_after-moves Initial back =
          moves-then duty here w (end_process actor w) (make_ready here (end_process actor w)) (quietly duty here w (end_process actor w) (end_process-quiet actor w))
          (make_ready-moves duty here (end_process actor w))
      end_after-moves Final zero = quietly duty here w (end_process actor w) (end_process-quiet actor w)
      end_after-moves Final (suc caller) =
          quietly duty here w (end_instance here (end_process actor w))
          (quiet-then w (end_process actor w) (end_instance here (end_process actor w)) (end_process-quiet actor w) (end_instance-quiet here (end_process actor w)))

    if-finished : (role : Role) (is_answered : Bool) (back : ℕ) (results : List Value) → Moves (duty_unless is_answered w actor) here w (finish role actor is_answered back results w)
    if-finished role true back results = end_after-moves (no_duty actor) role back
    if-finished role false back results =
        moves-then (duty_held w actor actor) here w (end_after role back actor w) (finish role actor false back results w) (end_after-moves (duty_held w actor actor) role back)
        (answered-moves (duty_held w actor actor) here (Some results) (end_after role back actor w))

    -- ---- the table

    pub moves : (core : Core) (place : Place) (role : Role) (r : Request) → MovesIf (duty_by w actor name r) here w (done_by core w actor name place role r)
    moves core place role (request.Declare block var shape) = if-done (no_duty name) here place (declared_in w.variables block var shape) _ (λ variables. same (no_duty name) here _ refl refl)
    moves core place role (request.Load block var path) = if-done (no_duty name) here place (loaded_in w.variables block var path) _ (λ value. nothing (no_duty name) here)
    moves core place role (request.Store block var path value) = if-done (no_duty name) here place (stored_in w.variables block var path value) _ (λ variables. same (no_duty name) here _ refl refl)
    moves core place role (request.Invoke target args wants) = if-invoked (duty_for wants actor name) here w refl refl core place target args
    moves core place role (request.Select site env) = if-some (no_duty name) here (slice_get core.sites site) _ (λ s. if-chosen (no_duty name) here actor s (choice_of core w actor env s))
    moves core place role (request.Take ids) =
        if-some (no_duty name) here (earliest_reply w.replies actor ids) _ (λ reply. quietly (no_duty name) here w (drop_reply actor ids w) (drop_reply-quiet actor ids w))
    moves core place role (request.Reply held back results) = if-replied role (held == actor) held results
    moves core place role (request.Forward held back target args) = if-invoked (duty_held w actor held) here (release actor held w) refl refl core place target args
    moves core place role (request.Count op) = if-some (no_duty name) here (slice_get core.operations op) _ (λ operation. nothing (no_duty name) here)
    moves core place role (request.Write bytes) = same (no_duty name) here _ refl refl
    moves core place role (request.Read kind) = either (no_duty name) here (is_decided kind w.rest w.ended) _ _ (same (no_duty name) here _ refl refl) tt
    moves core place role (request.EnsureGlobal global vm) =
        if-some (no_duty name) here (slice_get core.components global) _
        (λ component. on-machine (no_duty name) here place vm _ (λ machine. if-found (no_duty name) here core global machine (global_in w.places global machine)))
    moves core place role (request.Create resource args vm) =
        if-some (duty_for true actor name) here (slice_get core.components resource) _
        (λ component. on-machine (duty_for true actor name) here place vm _ (λ machine. if-created (duty_for true actor name) here core actor resource machine args))
    moves core place role request.MakeVm = record { replies = λ p id is. inl is; ready = λ x is. inl is }
    moves core place role (request.Destroy target) = if-destroyed (duty_for true actor name) here core place target
    moves core place role (request.Finish answered back results) = if-finished role answered back results
    moves core place role (request.Stop status) = if-stopped (no_duty name) here core place (status_in status)
    moves core place role (request.Fail fault) = tt
    moves core place role request.Age = nothing (no_duty name) here
    moves core place role (request.Wake until) = either (no_duty name) here (nat_lt w.moment until) _ _ tt (nothing (no_duty name) here)

  pub moves_at_rest : (duty : Duty) (instance : ℕ) (core : Core) → MovesIf duty instance w (quiesce core name w)
  moves_at_rest duty instance core = if-closing duty instance core None (rest_of w.fixed) (main_instance core w)
