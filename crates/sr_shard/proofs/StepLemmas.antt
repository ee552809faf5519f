-- An entry whose acts replay is a step of the machine.
use Rattle.std.proofs.Common.{◌≡◌, ◌≢◌, ◌&&◌, ◌+◌, ℕ, zero, suc, ℤ, pos, negsuc, ◌==◌, Bool, true, false, not, List, [], ◌∷◌, Option, None, Some, Result, Ok, Err, refl, ap, sym, ◌∙◌, cond, eqb-true, true≢false}
use Rattle.std.proofs.lemmas.Bool.{eq-eqb, ne_eqb}
use Rattle.std.specs.List.{enumerate_from}
use Rattle.std.specs.Prelude.{AllPairs, filter, find, is_some, slice_get}
use Rattle.sr_ask.specs.declared.answer.Answer.{Answer}
use Rattle.sr_ask.specs.declared.answer.Answer.TheVariants as answer
use Rattle.sr_ask.specs.declared.ask.Role.{Role}
use Rattle.sr_ask.specs.declared.ask.Role.TheVariants.{Boot, Initial, Proc as proc_role, Final}
use Rattle.sr_ask.specs.declared.entry.Entry.{Entry}
use Rattle.sr_ask.specs.declared.request.Request.{Request}
use Rattle.sr_ask.specs.declared.request.Request.TheVariants as request
use Rattle.sr_ask.specs.declared.entry.Seen.{Seen}
use Rattle.sr_ask.specs.declared.entry.Seen.TheVariants.{Cell, Pending as pending_count}
use Rattle.sr_calls.specs.Calls.{without_first}
use Rattle.sr_core.specs.declared.component.Core.{Core}
use Rattle.sr_core.specs.declared.component.Operation.{Operation}
use Rattle.sr_core.specs.declared.owner.Me.{Me}
use Rattle.sr_core.specs.declared.site.Arm.{Arm}
use Rattle.sr_core.specs.declared.site.Site.{Site}
use Rattle.sr_core.specs.declared.statement.Scope.{Scope}
use Rattle.sr_core.specs.declared.statement.Scope.TheVariants.{Own as own_scope, Shared as shared_scope}
use Rattle.sr_processes.specs.Living.{is_process}
use Rattle.sr_queue.specs.Queues.{is_of, waiting}
use Rattle.sr_queue.specs.declared.pending.Pending.{Pending}
use Rattle.sr_select.specs.Choices.{Pair, choice, choice_among, otherwise, owner_in, pairs, sees_of}
use Rattle.sr_select.specs.Laws.{Services_it, Runs_else, chosen_in}
use Rattle.sr_select.specs.Shown.{Shows, ShowsAll}
use Rattle.sr_select.specs.declared.choice.Choice.{Choice}
use Rattle.sr_select.specs.declared.choice.Choice.TheVariants as choice_of_it
use Rattle.sr_store.specs.Variables.{Variables, declared_in, stored_in}
use Rattle.sr_touch.specs.Touched.{is_proc, is_wide_request}
use Rattle.sr_value.specs.declared.capability.Cap.{Cap}
use Rattle.sr_value.specs.declared.capability.Cap.TheVariants as cap
use Rattle.sr_value.specs.declared.capability.Owner.{Owner}
use Rattle.sr_value.specs.declared.capability.Owner.TheVariants.{Inst, Proc}
use Rattle.sr_value.specs.declared.fault.Fault.{Fault}
use Rattle.sr_value.specs.declared.fault.Fault.TheVariants as fault
use Rattle.sr_value.specs.declared.place.Place.{Place}
use Rattle.sr_value.specs.declared.shape.Sel.{Sel}
use Rattle.sr_value.specs.declared.value.Value.{Value}
use Rattle.sr_value.specs.Operators.{owner_eq}
use Rattle.sr_world.specs.Answering.{answer as answered}
use Rattle.sr_world.specs.Does.{Cannot, Did, Does, Makes, done_or, failed, where_some}
use Rattle.sr_world.specs.Endings.{finish}
use Rattle.sr_world.specs.Invoking.{arrive, instance_of_process, invoke, invoke_operation, is_gone, owner_for}
use Rattle.sr_world.specs.Selecting.{by_choice, held_from, me_of, reading_of, select_at, service, waiting_for}
use Rattle.sr_world.specs.Steps.{count, done_by, load, reply, take}
use Rattle.sr_world.specs.Updates.{add_reply, drop_pending, drop_reply, end_process, hold, release, use_name, with_variables}
use Rattle.sr_world.specs.Worlds.{World, is_live}
use Rattle.sr_world.specs.declared.duty.Duty.{Duty}
use Rattle.sr_shard.specs.Acts.{Act, Holds, IsDone, Never, Passes, Sees, Serves, is_it, or_same}
use Rattle.sr_shard.specs.Entries.{acts_to, all_seen_first, answer_acts, arrival_acts, asked_acts, chosen_acts, counted_acts, counted_by, counted_seen, duty_in, else_acts, finish_acts, invoke_acts, lists_block, lists_count, loaded_acts, me_in, on_done, on_made, operation_acts, owner_act, picked, picked_acts, reply_acts, seen_first, select_acts, taken_acts}
use Rattle.sr_shard.specs.Laws.{EntriesAreSteps, ReplaysIn, Stands, done_as, world_after}
use Rattle.sr_shard.proofs.ListLemmas.{removed}

-- ---- nobody is process 0

find_none : {A : Type 0} (f g : A → Bool) (xs : List A) → is_some (find f xs) ≡ false → is_some (find f (filter g xs)) ≡ false
find_none f g [] none = refl
find_none f g (x ∷ xs) none = by (g x) (f x) refl none (find_none f g xs)
  where
    by : (b c : Bool) → f x ≡ c → is_some (cond c (Some x) (find f xs)) ≡ false → (is_some (find f xs) ≡ false → is_some (find f (filter g xs)) ≡ false)
        → is_some (find f (cond b (x ∷ filter g xs) (filter g xs))) ≡ false
    by b true is none more = absurd (true≢false none)
    by true false is none more = ap (λ c. is_some (cond c (Some x) (find f (filter g xs)))) is ∙ more none
    by false false is none more = more none

nobody_after : (process : ℕ) (w : World) → is_live w 0 ≡ false → is_live (end_process process w) 0 ≡ false
nobody_after process w nobody = find_none (is_process 0) (λ start. not (is_process process start)) w.live nobody

own_owner : (owner : Owner) → owner_eq owner owner ≡ true
own_owner (Inst instance) = eq-eqb instance instance refl
own_owner (Proc process) = eq-eqb process process refl

-- ---- variables

stored_step : (place : Place) (w : World) (r : Result Variables Fault) → IsDone r
    → done_or place r (λ variables. Did (with_variables variables w) answer.Done) ≡ Did (with_variables (or_same w.variables r) w) answer.Done
stored_step place w (Ok variables) is = refl
stored_step place w (Err fault) is = absurd is

module _ (core : Core) (class : ℕ → ℕ) (entry : Entry) where
  abbrev R : List Act → World → Type 0
  R acts w = ReplaysIn core class acts w

  abbrev A : List Act → World → World
  A acts w = world_after core class acts w

  -- ---- by the answer

  by_done : (acts : List Act) (given : Answer) (w : World) (d : Does) → (R acts w → d ≡ Did (A acts w) answer.Done) → R (on_done entry acts given) w
      → d ≡ Did (A (on_done entry acts given) w) given
  by_done acts answer.Done w d step h = step h
  by_done acts _ w d step h = absurd h.0

  made_by : (acts : List Act) (made : ℕ) (w : World) (d : Does) (b : Bool) → (made == entry.name) ≡ b
      → (R acts w → d ≡ Makes (use_name entry.name (A acts w)) (answer.Made entry.name)) → R (cond b acts (Never entry.actor ∷ [])) w
      → d ≡ Makes (use_name entry.name (A (cond b acts (Never entry.actor ∷ [])) w)) (answer.Made made)
  made_by acts made w d true is step h = step h ∙ ap (λ n. Makes (use_name entry.name (A acts w)) (answer.Made n)) (sym (eqb-true made entry.name is))
  made_by acts made w d false is step h = absurd h.0

  by_made : (acts : List Act) (given : Answer) (w : World) (d : Does) → (R acts w → d ≡ Makes (use_name entry.name (A acts w)) (answer.Made entry.name))
      → R (on_made entry acts given) w → d ≡ Makes (use_name entry.name (A (on_made entry acts given) w)) given
  by_made acts (answer.Made made) w d step h = made_by acts made w d (made == entry.name) refl step h
  by_made acts _ w d step h = absurd h.0

  by_loaded : (place : Place) (block var : ℕ) (path : List Sel) (given : Answer) (w : World) → R (loaded_acts entry block var path given) w
      → load place block var path w ≡ Did (A (loaded_acts entry block var path given) w) given
  by_loaded place block var path (answer.Got value) w h = ap (λ r. done_or place r (λ v. Did w (answer.Got v))) h.0
  by_loaded place block var path _ w h = absurd h.0

  by_taken : (ids : List ℕ) (given : Answer) (w : World) → R (taken_acts entry ids given) w → take entry.actor ids w ≡ Did (A (taken_acts entry ids given) w) given
  by_taken ids (answer.Took id results) w h = ap (λ o. where_some o (λ r. Did (drop_reply entry.actor ids w) (answer.Took r.id r.results))) h.0
  by_taken ids _ w h = absurd h.0

  -- ---- counts

  pub same_owner : (scope : Scope) (w : World) → instance_of_process w entry.actor ≡ entry.instance → owner_for w entry.actor scope ≡ owner_in scope (me_in entry)
  same_owner own_scope w runs = refl
  same_owner shared_scope w runs = ap Inst runs

  abbrev counting : World → ℕ → Operation → Does
  counting w op operation = Did w (answer.Number (pos (waiting (owner_for w entry.actor operation.scope) op w.pending)))

  count_by_number : (op : ℕ) (number : ℤ) (operation : Option Operation) (w : World) → instance_of_process w entry.actor ≡ entry.instance
      → R (counted_by entry op number operation) w → where_some operation (counting w op) ≡ Did (A (counted_by entry op number operation) w) (answer.Number number)
  count_by_number op (pos n) (Some operation) w runs h =
      ap (λ (owner : Owner). Did w (answer.Number (pos (waiting owner op w.pending)))) (same_owner operation.scope w runs)
      ∙ ap (λ n. Did w (answer.Number (pos n))) h.0
  count_by_number op (pos n) None w runs h = absurd h.0
  count_by_number op (negsuc n) operation w runs h = absurd h.0

  by_counted : (op : ℕ) (given : Answer) (w : World) → instance_of_process w entry.actor ≡ entry.instance → R (counted_acts core entry op given) w
      → count core entry.actor op w ≡ Did (A (counted_acts core entry op given) w) given
  by_counted op (answer.Number number) w runs h = count_by_number op number (slice_get core.operations op) w runs h
  by_counted op _ w runs h = absurd h.0

  -- ---- answers

  answers_to : (n : ℕ) (duty : Duty) (results : Option (List Value)) (w : World) → duty.back ≡ n → is_live w 0 ≡ false → A (acts_to n duty results) w ≡ answered duty results w
  answers_to zero duty results w is nobody =
      ap (λ b. cond b (add_reply duty.back (record { id = duty.back_id; results = results }) w) w) (sym (ap (is_live w) is ∙ nobody))
  answers_to (suc n) duty results w is nobody = refl

  answers_end : (duty : Duty) (results : Option (List Value)) (w : World) → is_live w 0 ≡ false → A (answer_acts duty results) w ≡ answered duty results w
  answers_end duty results w nobody = answers_to duty.back duty results w refl nobody

  named_answer : (duty : Duty) (results : Option (List Value)) (w : World) (b : Bool)
      → cond b (add_reply duty.back (record { id = duty.back_id; results = results }) (use_name entry.name w)) (use_name entry.name w)
      ≡ use_name entry.name (cond b (add_reply duty.back (record { id = duty.back_id; results = results }) w) w)
  named_answer duty results w true = refl
  named_answer duty results w false = refl

  -- ---- invocations

  arrival_step : (owner : Owner) (op : ℕ) (args : List Value) (duty : Duty) (proc : Option ℕ) (w : World) → R (arrival_acts entry owner op args duty proc) w
      → arrive core entry.name owner op args duty proc w ≡ use_name entry.name (A (arrival_acts entry owner op args duty proc) w)
  arrival_step (Inst instance) op args duty (Some proc) w h = refl
  arrival_step (Proc process) op args duty (Some proc) w h = absurd h.0
  arrival_step (Inst instance) op args duty None w h = refl
  arrival_step (Proc process) op args duty None w h = refl

  owner_there : (owner : Owner) (acts : List Act) (w : World) → R (owner_act entry owner ∷ acts) w → is_gone w owner ≡ false
  owner_there (Inst instance) acts w h = h.0
  owner_there (Proc process) acts w h = ap not h.0

  owner_rest : (owner : Owner) (acts : List Act) (w : World) → R (owner_act entry owner ∷ acts) w → R acts w
  owner_rest (Inst instance) acts w h = h.1
  owner_rest (Proc process) acts w h = h.1

  owner_end : (owner : Owner) (acts : List Act) (w : World) → A (owner_act entry owner ∷ acts) w ≡ A acts w
  owner_end (Inst instance) acts w = refl
  owner_end (Proc process) acts w = refl

  operation_step : (place : Place) (owner : Owner) (op : ℕ) (args : List Value) (duty : Duty) (operation : Option Operation) (w : World) → R (operation_acts entry owner op args duty operation) w
      → where_some operation (invoke_operation core place entry.name owner op args duty w)
      ≡ Makes (use_name entry.name (A (operation_acts entry owner op args duty operation) w)) (answer.Made entry.name)
  operation_step place owner op args duty None w h = absurd h.0
  operation_step place owner op args duty (Some operation) w h =
      let acts : List Act = arrival_acts entry owner op args duty operation.proc in
      ap (λ b. cond b (failed place fault.Gone) (Makes (arrive core entry.name owner op args duty operation.proc w) (answer.Made entry.name))) (owner_there owner acts w h)
      ∙ ap (λ (v : World). Makes v (answer.Made entry.name))
      (arrival_step owner op args duty operation.proc w (owner_rest owner acts w h) ∙ ap (use_name entry.name) (sym (owner_end owner acts w)))

  invoke_step : (place : Place) (target : Cap) (args : List Value) (duty : Duty) (w : World) → is_live w 0 ≡ false → R (invoke_acts core entry target args duty) w
      → invoke core place entry.name target args duty w ≡ Makes (use_name entry.name (A (invoke_acts core entry target args duty) w)) (answer.Made entry.name)
  invoke_step place cap.Null args duty w nobody h = absurd h.0
  invoke_step place cap.Noop args duty w nobody h =
      ap (λ (v : World). Makes v (answer.Made entry.name))
      (named_answer duty None w (is_live w duty.back) ∙ ap (use_name entry.name) (sym (answers_end duty None w nobody)))
  invoke_step place (cap.Op owner op) args duty w nobody h = operation_step place owner op args duty (slice_get core.operations op) w h
  invoke_step place (cap.Res instance) args duty w nobody h = absurd h.0
  invoke_step place (cap.Vm machine) args duty w nobody h = absurd h.0

  -- ---- replies and ends

  reply_step : (role : Role) (held back : ℕ) (results : List Value) (w : World) → is_live w 0 ≡ false → not (is_proc role) ≡ false → R (reply_acts entry held back results) w
      → Did (reply role entry.actor held results w) answer.Done ≡ Did (A (reply_acts entry held back results) w) answer.Done
  reply_step Boot held back results w nobody narrow h = absurd (true≢false narrow)
  reply_step Initial held back results w nobody narrow h = absurd (true≢false narrow)
  reply_step Final held back results w nobody narrow h = absurd (true≢false narrow)
  reply_step proc_role held back results w nobody narrow h =
      ap (λ (v : World). Did v answer.Done)
      (ap (λ (duty : Duty). answered duty (Some results) (release entry.actor held w)) h.0
      ∙ sym (answers_end (duty_in entry back) (Some results) (release entry.actor held w) nobody))

  proc_ends : (is_answered : Bool) (back : ℕ) (results : List Value) (w : World) → is_live w 0 ≡ false → R (finish_acts entry is_answered back results) w
      → finish proc_role entry.actor is_answered back results w ≡ A (finish_acts entry is_answered back results) w
  proc_ends true back results w nobody h = refl
  proc_ends false back results w nobody h =
      ap (λ (duty : Duty). answered duty (Some results) (end_process entry.actor w)) h.0
      ∙ sym (answers_end (duty_in entry back) (Some results) (end_process entry.actor w) (nobody_after entry.actor w nobody))

  finish_step : (role : Role) (is_answered : Bool) (back : ℕ) (results : List Value) (w : World) → is_live w 0 ≡ false → not (is_proc role) ≡ false → R (finish_acts entry is_answered back results) w
      → Did (finish role entry.actor is_answered back results w) answer.Done ≡ Did (A (finish_acts entry is_answered back results) w) answer.Done
  finish_step Boot is_answered back results w nobody narrow h = absurd (true≢false narrow)
  finish_step Initial is_answered back results w nobody narrow h = absurd (true≢false narrow)
  finish_step Final is_answered back results w nobody narrow h = absurd (true≢false narrow)
  finish_step proc_role is_answered back results w nobody narrow h = ap (λ (v : World). Did v answer.Done) (proc_ends is_answered back results w nobody h)

  -- ---- the choice of a statement

  -- what the guards saw is there, and the world stays while it is looked at
  counted_shown : (op n : ℕ) (operation : Option Operation) (later : List Act) (w : World) → instance_of_process w entry.actor ≡ entry.instance
      → R (counted_seen entry op n operation later) w → (waiting_for w entry.actor op operation ≡ n) × R later w × (A (counted_seen entry op n operation later) w ≡ A later w)
  counted_shown op zero None later w runs h = (refl, h, refl)
  counted_shown op (suc n) None later w runs h = absurd h.0
  counted_shown op n (Some operation) later w runs h = (ap (λ (owner : Owner). waiting owner op w.pending) (same_owner operation.scope w runs) ∙ h.0, h.1, refl)

  abbrev Shown : (one : Seen) (first later : List Act) (w : World) → Type 0
  Shown one first later w = Shows (reading_of core w entry.actor) one × R later w × (A first w ≡ A later w)

  cell_shown : (block var : ℕ) (path : List Sel) (value : Value) (later : List Act) (w : World) (b : Bool)
      → R (cond b (Sees block var path value ∷ later) (Never entry.actor ∷ [])) w → Shown (Cell block var path value) (cond b (Sees block var path value ∷ later) (Never entry.actor ∷ [])) later w
  cell_shown block var path value later w true h = (h.0, h.1, refl)
  cell_shown block var path value later w false h = absurd h.0

  count_shown : (op n : ℕ) (later : List Act) (w : World) (b : Bool) → instance_of_process w entry.actor ≡ entry.instance
      → R (cond b (counted_seen entry op n (slice_get core.operations op) later) (Never entry.actor ∷ [])) w
      → Shown (pending_count op n) (cond b (counted_seen entry op n (slice_get core.operations op) later) (Never entry.actor ∷ [])) later w
  count_shown op n later w true runs h = counted_shown op n (slice_get core.operations op) later w runs h
  count_shown op n later w false runs h = absurd h.0

  first_shown : (site : Site) (env : List Value) (one : Seen) (later : List Act) (w : World) → instance_of_process w entry.actor ≡ entry.instance
      → R (seen_first core entry site env one later) w → Shown one (seen_first core entry site env one later) later w
  first_shown site env (Cell block var path value) later w runs h = cell_shown block var path value later w (lists_block entry site env block) h
  first_shown site env (pending_count op n) later w runs h = count_shown op n later w (lists_count site op) runs h

  all_shown : (site : Site) (env : List Value) (seen : List Seen) (later : List Act) (w : World) → instance_of_process w entry.actor ≡ entry.instance
      → R (all_seen_first core entry site env seen later) w
      → ShowsAll (reading_of core w entry.actor) seen × R later w × (A (all_seen_first core entry site env seen later) w ≡ A later w)
  all_shown site env [] later w runs h = (tt, h, refl)
  all_shown site env (one ∷ others) later w runs h =
      let first = first_shown site env one (all_seen_first core entry site env others later) w runs h in
      let rest = all_shown site env others later w runs first.1 in
      ((first.0, rest.0), rest.1, first.2 ∙ rest.2)

  itself : (p : Pending) → is_it p p ≡ true
  itself p = ap (λ b. b && is_of p.owner p.op p) (eq-eqb p.id p.id refl) ∙ ap (λ b. b && owner_eq p.owner p.owner) (eq-eqb p.op p.op refl) ∙ own_owner p.owner

  another : (p q : Pending) → q.id ≢ p.id → is_it p q ≡ false
  another p q apart = ap (λ b. b && is_of p.owner p.op q) (ne_eqb q.id p.id apart)

  served : (w : World) (p : Pending) (arm : ℕ) (site : Site) (chosen : Choice) → AllPairs (λ p q. p.id ≢ q.id) w.pending → chosen_in w.pending chosen ≡ Services_it (Some p) arm
      → by_choice w entry.actor site chosen
      ≡ Did (hold entry.actor (held_from p) (record w { pending = without_first (is_it p) w.pending })) (answer.Picked p.id arm p.args p.back)
  served w p arm site (choice_of_it.Service place number) ids is =
      let there : slice_get w.pending place ≡ Some p = cc is in
      let by_it : number ≡ arm = cc is in
      ap (λ o. where_some o (service w entry.actor place number)) there
      ∙ ap (λ n. Did (hold entry.actor (held_from p) (drop_pending place w)) (answer.Picked p.id n p.args p.back)) by_it
      ∙ ap (λ (ps : List Pending). Did (hold entry.actor (held_from p) (record w { pending = ps })) (answer.Picked p.id arm p.args p.back))
      (sym (removed (λ q. q.id) (is_it p) w.pending place p ids (another p) (itself p) there))
  served w p arm site choice_of_it.Else ids is = absurd (cc is)
  served w p arm site choice_of_it.Nothing ids is = absurd (cc is)
  served w p arm site (choice_of_it.Bad found number) ids is = absurd (cc is)

  passed : (w : World) (site : Site) (chosen : Choice) → chosen_in w.pending chosen ≡ Runs_else → by_choice w entry.actor site chosen ≡ Did w answer.Else
  passed w site (choice_of_it.Service place number) is = absurd (cc is)
  passed w site choice_of_it.Else is = refl
  passed w site choice_of_it.Nothing is = absurd (cc is)
  passed w site (choice_of_it.Bad found number) is = absurd (cc is)

  abbrev pub choosing : World → List Value → Site → Choice
  choosing w env site = choice (reading_of core w entry.actor) site (me_in entry) env w.pending

  pub same_me : (w : World) → instance_of_process w entry.actor ≡ entry.instance → me_of w entry.actor ≡ me_in entry
  same_me w runs = ap (λ n. record { process = entry.actor; instance = n }) runs

  select_same : (w : World) (env : List Value) (site : Site) → instance_of_process w entry.actor ≡ entry.instance
      → select_at core w entry.actor env site ≡ by_choice w entry.actor site (choosing w env site)
  select_same w env site runs = ap (λ (me : Me). by_choice w entry.actor site (choice (reading_of core w entry.actor) site me env w.pending)) (same_me w runs)

  picked_step : (env : List Value) (site : Site) (id number : ℕ) (args : List Value) (back : ℕ) (arm : Option Arm) (w : World) → Stands w → instance_of_process w entry.actor ≡ entry.instance
      → R (picked_acts core entry site env id number args back arm) w
      → select_at core w entry.actor env site ≡ Did (A (picked_acts core entry site env id number args back arm) w) (answer.Picked id number args back)
  picked_step env site id number args back None w stands runs h = absurd h.0
  picked_step env site id number args back (Some arm) w stands runs h =
      let p : Pending = picked entry site arm id args back in
      let later : List Act = Serves (me_in entry) site env entry.reads p number ∷ Holds entry.actor (held_from p) ∷ [] in
      let shown = all_shown site env entry.reads later w runs h in
      let chooses = shown.1.0.2 in
      select_same w env site runs ∙ served w p number site (choosing w env site) stands.ids (chooses (reading_of core w entry.actor) refl shown.0)
      ∙ ap (λ (v : World). Did v (answer.Picked id number args back)) (sym shown.2)

  -- without arms there is nothing to choose
  none_paired : (owner : Owner) (place : ℕ) (items : List Pending) → pairs owner [] (enumerate_from place items) ≡ []
  none_paired owner place [] = refl
  none_paired owner place (p ∷ items) = none_paired owner (place + 1) items

  abbrev pub among : World → List Value → Site → List Pair → Choice
  among w env site tried = otherwise site.has_else (choice_among (sees_of (reading_of core w entry.actor) site (me_in entry) env) (owner_in site.scope (me_in entry)) w.pending tried)

  pub no_arms : (env : List Value) (site : Site) (w : World) → site.arms ≡ [] → choosing w env site ≡ otherwise site.has_else None
  no_arms env site w is =
      ap (λ (arms : List Arm). among w env site (pairs (owner_in site.scope (me_in entry)) (enumerate_from 0 arms) (enumerate_from 0 w.pending))) is
      ∙ ap (among w env site) (none_paired (owner_in site.scope (me_in entry)) 0 w.pending)

  else_alone : (site : Site) (w : World) (b : Bool) → R (cond b [] (Never entry.actor ∷ [])) w
      → by_choice w entry.actor site (otherwise b None) ≡ Did (A (cond b [] (Never entry.actor ∷ [])) w) answer.Else
  else_alone site w true h = refl
  else_alone site w false h = absurd h.0

  else_step : (env : List Value) (site : Site) (arms : List Arm) (w : World) → site.arms ≡ arms → instance_of_process w entry.actor ≡ entry.instance → R (else_acts core entry site env arms) w
      → select_at core w entry.actor env site ≡ Did (A (else_acts core entry site env arms) w) answer.Else
  else_step env site [] w is runs h = select_same w env site runs ∙ ap (by_choice w entry.actor site) (no_arms env site w is) ∙ else_alone site w site.has_else h
  else_step env site (arm ∷ arms) w is runs h =
      let shown = all_shown site env entry.reads (Passes (me_in entry) site env entry.reads arm.op ∷ []) w runs h in
      let chooses = shown.1.0.1 in
      select_same w env site runs ∙ passed w site (choosing w env site) (chooses (reading_of core w entry.actor) refl shown.0) ∙ ap (λ (v : World). Did v answer.Else) (sym shown.2)

  by_chosen : (env : List Value) (site : Site) (given : Answer) (w : World) → Stands w → instance_of_process w entry.actor ≡ entry.instance
      → R (chosen_acts core entry env site given) w → select_at core w entry.actor env site ≡ Did (A (chosen_acts core entry env site given) w) given
  by_chosen env site (answer.Picked id number args back) w stands runs h = picked_step env site id number args back (slice_get site.arms number) w stands runs h
  by_chosen env site answer.Else w stands runs h = else_step env site site.arms w refl runs h
  by_chosen env site _ w stands runs h = absurd h.0

  select_step : (env : List Value) (site : Option Site) (w : World) → Stands w → instance_of_process w entry.actor ≡ entry.instance → R (select_acts core entry env site) w
      → where_some site (select_at core w entry.actor env) ≡ Did (A (select_acts core entry env site) w) entry.answer
  select_step env None w stands runs h = absurd h.0
  select_step env (Some site) w stands runs h = by_chosen env site entry.answer w stands runs h

  -- ---- the table

  step_of : (place : Place) (role : Role) (asked : Request) (w : World) → Stands w → is_wide_request core class (me_in entry) role asked ≡ false
      → instance_of_process w entry.actor ≡ entry.instance → R (asked_acts core entry asked) w
      → done_by core w entry.actor entry.name place role asked ≡ done_as asked entry.name (A (asked_acts core entry asked) w) entry.answer
  step_of place role (request.Declare block var shape) w stands narrow runs h =
      by_done _ entry.answer w _ (λ k. stored_step place w (declared_in w.variables block var shape) k.0) h
  step_of place role (request.Load block var path) w stands narrow runs h = by_loaded place block var path entry.answer w h
  step_of place role (request.Store block var path value) w stands narrow runs h =
      by_done _ entry.answer w _ (λ k. stored_step place w (stored_in w.variables block var path value) k.0) h
  step_of place role (request.Invoke target args wants) w stands narrow runs h = by_made _ entry.answer w _ (λ k. invoke_step place target args _ w stands.nobody k) h
  step_of place role (request.Select site env) w stands narrow runs h = select_step env (slice_get core.sites site) w stands runs h
  step_of place role (request.Take ids) w stands narrow runs h = by_taken ids entry.answer w h
  step_of place role (request.Reply held back results) w stands narrow runs h = by_done _ entry.answer w _ (λ k. reply_step role held back results w stands.nobody narrow k) h
  step_of place role (request.Forward held back target args) w stands narrow runs h =
      by_made _ entry.answer w _ (λ k.
      ap (λ (duty : Duty). invoke core place entry.name target args duty (release entry.actor held w)) k.0
      ∙ invoke_step place target args (duty_in entry back) (release entry.actor held w) stands.nobody k.1.1) h
  step_of place role (request.Count op) w stands narrow runs h = by_counted op entry.answer w runs h
  step_of place role (request.Finish is_answered back results) w stands narrow runs h =
      by_done _ entry.answer w _ (λ k. finish_step role is_answered back results w stands.nobody narrow k) h
  step_of place role (request.Wake until) w stands narrow runs h = by_done _ entry.answer w _ (λ k. ap (λ b. cond b Cannot (Did w answer.Done)) k.0) h
  step_of place role _ w stands narrow runs h = absurd h.0

pub entries_are_steps : EntriesAreSteps
entries_are_steps core class entry w stands narrow h = step_of core class entry entry.ask.place entry.ask.role entry.ask.request w stands narrow h.1.0 h.1.1
