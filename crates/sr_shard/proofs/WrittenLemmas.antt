-- Each step that isn't wide has an entry whose acts replay.
use Rattle.std.proofs.Common.{◌≡◌, ℕ, zero, suc, pos, ◌==◌, ◌&&◌, ◌||◌, Bool, true, false, not, List, [], ◌∷◌, Option, None, Some, Result, Ok, Err, refl, ap, sym, ◌∙◌, subst, cond, eqb-true, true≢false}
use Rattle.std.proofs.lemmas.Bool.{eq-eqb}
use Rattle.std.specs.List.{list_all, list_any}
use Rattle.std.specs.Prelude.{is_some, nat_lt, slice_get}
use Rattle.sr_ask.specs.declared.answer.Answer.{Answer}
use Rattle.sr_ask.specs.declared.answer.Answer.TheVariants as answer
use Rattle.sr_ask.specs.declared.ask.Role.{Role}
use Rattle.sr_ask.specs.declared.entry.Entry.{Entry}
use Rattle.sr_ask.specs.declared.entry.Seen.{Seen}
use Rattle.sr_ask.specs.declared.entry.Seen.TheVariants.{Cell, Pending as pending_count}
use Rattle.sr_ask.specs.declared.request.Request.{Request}
use Rattle.sr_ask.specs.declared.request.Request.TheVariants as request
use Rattle.sr_calls.specs.Calls.{earliest_reply}
use Rattle.sr_calls.specs.declared.held.Reply.{Reply}
use Rattle.sr_core.specs.declared.component.Core.{Core}
use Rattle.sr_core.specs.declared.component.Operation.{Operation}
use Rattle.sr_core.specs.declared.owner.Home.{Home}
use Rattle.sr_core.specs.declared.owner.Home.TheVariants.{Mine, Imported}
use Rattle.sr_core.specs.declared.owner.Me.{Me}
use Rattle.sr_core.specs.declared.site.Arm.{Arm}
use Rattle.sr_core.specs.declared.site.SharedRead.{SharedRead}
use Rattle.sr_core.specs.declared.site.Site.{Site}
use Rattle.sr_queue.specs.Queues.{is_of, waiting}
use Rattle.sr_queue.specs.declared.pending.Pending.{Pending}
use Rattle.sr_select.specs.Choices.{choice, choice_seen, otherwise, owner_in}
use Rattle.sr_select.specs.Guards.{guard_block, home_seen}
use Rattle.sr_select.specs.Laws.{Services, Services_it, chosen_in}
use Rattle.sr_select.specs.Shown.{EachSeen, IsMade, IsWatched, Shows, ShowsAll}
use Rattle.sr_select.specs.Worlds.{is_read, listed, reads_only, same_home}
use Rattle.sr_select.specs.declared.choice.Choice.{Choice}
use Rattle.sr_select.specs.declared.choice.Choice.TheVariants as choice_of_it
use Rattle.sr_select.proofs.LawProofs.{serves-pending}
use Rattle.sr_select.proofs.PairLemmas.{listed-passes}
use Rattle.sr_select.proofs.ShownLemmas.{what-was-read-decides, what-was-read-is-there, what-was-read-is-watched}
use Rattle.sr_store.specs.Variables.{Variables, declared_in, loaded_in, stored_in}
use Rattle.sr_touch.specs.Touched.{has_one_class, is_narrow, is_wide_arrival, is_wide_request, is_wide_site, is_wide_target}
use Rattle.sr_value.specs.Operators.{owner_eq}
use Rattle.sr_value.specs.declared.capability.Cap.{Cap}
use Rattle.sr_value.specs.declared.capability.Cap.TheVariants as cap
use Rattle.sr_value.specs.declared.capability.Owner.{Owner}
use Rattle.sr_value.specs.declared.capability.Owner.TheVariants.{Inst, Proc}
use Rattle.sr_value.specs.declared.fault.Fault.{Fault}
use Rattle.sr_value.specs.declared.fault.Fault.TheVariants as fault
use Rattle.sr_value.specs.declared.place.Place.{Place}
use Rattle.sr_value.specs.declared.shape.Sel.{Sel}
use Rattle.sr_value.specs.declared.value.Value.{Value}
use Rattle.sr_world.specs.Answering.{duty_held}
use Rattle.sr_world.specs.Does.{Cannot, Did, Makes, done_or, failed, where_some}
use Rattle.sr_world.specs.Invoking.{arrive, instance_of_process, invoke, invoke_operation, is_gone}
use Rattle.sr_world.specs.Seeing.{seen_by, seen_if}
use Rattle.sr_world.specs.Selecting.{by_choice, choice_of, held_from, me_of, reading_of, select_at, service, waiting_for}
use Rattle.sr_world.specs.Steps.{count_found, done_by, duty_for}
use Rattle.sr_world.specs.Updates.{drop_reply, end_process, release, with_variables}
use Rattle.sr_world.specs.Worlds.{World}
use Rattle.sr_world.specs.declared.duty.Duty.{Duty}
use Rattle.sr_shard.specs.Acts.{Act, Chooses, Declares, HasCome, Holds, IsDone, Never, Passes, Sees, Serves, Stores}
use Rattle.sr_shard.specs.Entries.{acts_to, all_seen_first, arrival_acts, asked_acts, chosen_acts, counted_acts, counted_by, counted_seen, duty_in, else_acts, finish_acts, forward_acts, invoke_acts, is_block, lists_block, lists_count, loaded_acts, me_in, on_done, on_made, operation_acts, owner_act, picked, picked_acts, reply_acts, seen_first, select_acts, taken_acts}
use Rattle.sr_shard.specs.Laws.{ReplaysIn}
use Rattle.sr_shard.specs.Written.{NamesCaller, StepsHaveEntries, duty_at, duty_number, duty_of_choice, duty_of_select, entry_of, given_by}
use Rattle.sr_shard.proofs.ListLemmas.{and_parts, same_number}
use Rattle.sr_shard.proofs.StepLemmas.{choosing, no_arms, same_me, same_owner}

not_false : (b : Bool) → not b ≡ false → b ≡ true
not_false true h = refl
not_false false h = absurd (true≢false h)

or_first : (a b : Bool) → a ≡ true → (a || b) ≡ true
or_first true b h = refl
or_first false b h = absurd (true≢false (sym h))

or_second : (a b : Bool) → b ≡ true → (a || b) ≡ true
or_second true b h = refl
or_second false b h = h

one_home : (home other : Home) → same_home home other ≡ true → home ≡ other
one_home Mine Mine h = refl
one_home (Imported import) (Imported other) h = ap Imported (eqb-true import other h)
one_home Mine (Imported other) h = absurd (true≢false (sym h))
one_home (Imported import) Mine h = absurd (true≢false (sym h))

one_owner : (one other : Owner) → owner_eq one other ≡ true → one ≡ other
one_owner (Inst instance) (Inst other) h = ap Inst (eqb-true instance other h)
one_owner (Proc process) (Proc other) h = ap Proc (eqb-true process other h)
one_owner (Inst instance) (Proc other) h = absurd (true≢false (sym h))
one_owner (Proc process) (Inst other) h = absurd (true≢false (sym h))

-- all arms of one class are of the class of each of them
one_class : (class : ℕ → ℕ) (arms : List Arm) (number : ℕ) (arm : Arm) → has_one_class class arms ≡ true → slice_get arms number ≡ Some arm
    → list_all (λ other. class other.op == class arm.op) arms ≡ true
one_class class [] number arm one at = absurd (cc at)
one_class class (first ∷ arms) number arm one at =
    let all : list_all (λ other. class other.op == class first.op) (first ∷ arms) ≡ true = ap (λ b. b && list_all (λ other. class other.op == class first.op) arms) (eq-eqb (class first.op) (class first.op) refl) ∙ one in
    subst (λ k. list_all (λ other. class other.op == k) (first ∷ arms) ≡ true)
    (sym (eqb-true (class arm.op) (class first.op) (listed-passes (λ other. class other.op == class first.op) (first ∷ arms) number arm all at))) all

module _ (core : Core) (class : ℕ → ℕ) (entry : Entry) where
  abbrev R : List Act → World → Type 0
  R acts w = ReplaysIn core class acts w

  -- ---- by the answer

  done_fits : (acts : List Act) (given : Answer) (w : World) → Some answer.Done ≡ Some given → R acts w → R (on_done entry acts given) w
  done_fits acts given w is h = let same : answer.Done ≡ given = cc is in subst (λ a. R (on_done entry acts a) w) same h

  made_fits : (acts : List Act) (given : Answer) (w : World) → Some (answer.Made entry.name) ≡ Some given → R acts w → R (on_made entry acts given) w
  made_fits acts given w is h =
      let same : answer.Made entry.name ≡ given = cc is in
      subst (λ a. R (on_made entry acts a) w) same (subst (λ b. R (cond b acts (Never entry.actor ∷ [])) w) (sym (eq-eqb entry.name entry.name refl)) h)

  stored_fits : (place : Place) (w : World) (r : Result Variables Fault) (given : Answer) → given_by (done_or place r (λ variables. Did (with_variables variables w) answer.Done)) ≡ Some given
      → IsDone r × (Some answer.Done ≡ Some given)
  stored_fits place w (Ok variables) given is = (tt, is)
  stored_fits place w (Err found) given is = absurd (cc is)

  loaded_fits : (place : Place) (block var : ℕ) (path : List Sel) (given : Answer) (w : World) (r : Result Value Fault) → loaded_in w.variables block var path ≡ r
      → given_by (done_or place r (λ value. Did w (answer.Got value))) ≡ Some given → R (loaded_acts entry block var path given) w
  loaded_fits place block var path given w (Ok value) held is =
      let same : answer.Got value ≡ given = cc is in subst (λ a. R (loaded_acts entry block var path a) w) same (held, tt)
  loaded_fits place block var path given w (Err found) held is = absurd (cc is)

  taken_fits : (ids : List ℕ) (given : Answer) (w : World) (reply : Option Reply) → earliest_reply w.replies entry.actor ids ≡ reply
      → given_by (where_some reply (λ r. Did (drop_reply entry.actor ids w) (answer.Took r.id r.results))) ≡ Some given → R (taken_acts entry ids given) w
  taken_fits ids given w None found is = absurd (cc is)
  taken_fits ids given w (Some reply) found is =
      let same : answer.Took reply.id reply.results ≡ given = cc is in subst (λ a. R (taken_acts entry ids a) w) same (found, tt)

  count_fits : (op : ℕ) (given : Answer) (w : World) (operation : Option Operation) → slice_get core.operations op ≡ operation → instance_of_process w entry.actor ≡ entry.instance
      → given_by (where_some operation (λ o. count_found entry.actor op o.scope w)) ≡ Some given → R (counted_acts core entry op given) w
  count_fits op given w None found runs is = absurd (cc is)
  count_fits op given w (Some operation) found runs is =
      let n : ℕ = waiting (owner_in operation.scope (me_in entry)) op w.pending in
      let same : answer.Number (pos n) ≡ given =
      ap (λ (owner : Owner). answer.Number (pos (waiting owner op w.pending))) (sym (same_owner core class entry operation.scope w runs)) ∙ number_of is in
      subst (λ a. R (counted_acts core entry op a) w) same (subst (λ o. R (counted_by entry op (pos n) o) w) (sym found) (refl, tt))
    where
      number_of : {a b : Answer} → Some a ≡ Some b → a ≡ b
      number_of h = cc h

  -- ---- invocations

  answers_fit : (n : ℕ) (duty : Duty) (results : Option (List Value)) (w : World) → R (acts_to n duty results) w
  answers_fit zero duty results w = tt
  answers_fit (suc n) duty results w = (tt, tt)

  arrival_fits : (owner : Owner) (op : ℕ) (args : List Value) (duty : Duty) (operation : Operation) (proc : Option ℕ) (w : World) → operation.proc ≡ proc → is_wide_arrival owner (Some operation) ≡ false
      → R (arrival_acts entry owner op args duty proc) w
  arrival_fits (Inst instance) op args duty operation (Some proc) w is narrow = (tt, (tt, tt))
  arrival_fits (Proc process) op args duty operation (Some proc) w is narrow = absurd (true≢false (sym (ap is_some is) ∙ narrow))
  arrival_fits (Inst instance) op args duty operation None w is narrow = (tt, tt)
  arrival_fits (Proc process) op args duty operation None w is narrow = (tt, tt)

  owner_fits : (owner : Owner) (acts : List Act) (w : World) → is_gone w owner ≡ false → R acts w → R (owner_act entry owner ∷ acts) w
  owner_fits (Inst instance) acts w there h = (there, h)
  owner_fits (Proc process) acts w there h = (not_false _ there, h)

  operation_fits : (place : Place) (owner : Owner) (op : ℕ) (args : List Value) (duty : Duty) (operation : Option Operation) (w : World) (given : Answer) → is_wide_arrival owner operation ≡ false
      → given_by (where_some operation (invoke_operation core place entry.name owner op args duty w)) ≡ Some given
      → (Some (answer.Made entry.name) ≡ Some given) × R (operation_acts entry owner op args duty operation) w
  operation_fits place owner op args duty None w given narrow is = absurd (cc is)
  operation_fits place owner op args duty (Some operation) w given narrow is = by (is_gone w owner) refl is
    where
      by : (b : Bool) → is_gone w owner ≡ b
          → given_by (cond b (failed place fault.Gone) (Makes (arrive core entry.name owner op args duty operation.proc w) (answer.Made entry.name))) ≡ Some given
          → (Some (answer.Made entry.name) ≡ Some given) × R (operation_acts entry owner op args duty (Some operation)) w
      by true gone is = absurd (cc is)
      by false there is =
          (is, owner_fits owner (arrival_acts entry owner op args duty operation.proc) w there (arrival_fits owner op args duty operation operation.proc w refl narrow))

  invoke_fits : (place : Place) (target : Cap) (args : List Value) (duty : Duty) (w : World) (given : Answer) → is_wide_target core target ≡ false
      → given_by (invoke core place entry.name target args duty w) ≡ Some given → (Some (answer.Made entry.name) ≡ Some given) × R (invoke_acts core entry target args duty) w
  invoke_fits place cap.Null args duty w given narrow is = absurd (cc is)
  invoke_fits place cap.Noop args duty w given narrow is = (is, answers_fit duty.back duty None w)
  invoke_fits place (cap.Op owner op) args duty w given narrow is = operation_fits place owner op args duty (slice_get core.operations op) w given narrow is
  invoke_fits place (cap.Res instance) args duty w given narrow is = absurd (cc is)
  invoke_fits place (cap.Vm machine) args duty w given narrow is = absurd (cc is)

  -- ---- duties

  owes : (held back : ℕ) (w : World) → (duty_held w entry.actor held).back ≡ back → entry.duty ≡ (duty_held w entry.actor held).back_id → duty_held w entry.actor held ≡ duty_in entry back
  owes held back w names owed =
      ap (λ n. record { back = n; back_id = (duty_held w entry.actor held).back_id }) names ∙ ap (λ n. record { back = back; back_id = n }) (sym owed)

  -- ---- what the guards read

  block_listed : (site : Site) (env : List Value) (block var : ℕ) (whose : Home) (reads : List SharedRead) → guard_block (me_in entry) (home_seen site.names env) whose ≡ Ok block
      → list_any (is_read whose var) reads ≡ true → list_any (λ read. is_block block (guard_block (me_in entry) (home_seen site.names env) read.home)) reads ≡ true
  block_listed site env block var whose [] stands h = absurd (true≢false (sym h))
  block_listed site env block var whose (read ∷ reads) stands h = by (is_read whose var read) refl h (block_listed site env block var whose reads stands)
    where
      by : (b : Bool) → is_read whose var read ≡ b → (b || list_any (is_read whose var) reads) ≡ true
          → (list_any (is_read whose var) reads ≡ true → list_any (λ r. is_block block (guard_block (me_in entry) (home_seen site.names env) r.home)) reads ≡ true)
          → list_any (λ r. is_block block (guard_block (me_in entry) (home_seen site.names env) r.home)) (read ∷ reads) ≡ true
      by true is h more =
          or_first _ (list_any (λ r. is_block block (guard_block (me_in entry) (home_seen site.names env) r.home)) reads)
          (ap (λ other. is_block block (guard_block (me_in entry) (home_seen site.names env) other)) (sym (one_home whose read.home (and_parts (same_home whose read.home) (var == read.var) is).0))
          ∙ ap (is_block block) stands ∙ eq-eqb block block refl)
      by false is h more = or_second (is_block block (guard_block (me_in entry) (home_seen site.names env) read.home)) _ (more h)

  count_listed : (op : ℕ) (counts : List ℕ) → list_any (λ other. op == other) counts ≡ true → list_any (λ other. other == op) counts ≡ true
  count_listed op [] h = h
  count_listed op (other ∷ counts) h = by (op == other) refl h (count_listed op counts)
    where
      by : (b : Bool) → (op == other) ≡ b → (b || list_any (λ n. op == n) counts) ≡ true → (list_any (λ n. op == n) counts ≡ true → list_any (λ n. n == op) counts ≡ true)
          → list_any (λ n. n == op) (other ∷ counts) ≡ true
      by true is h more = or_first (other == op) (list_any (λ n. n == op) counts) (same_number op other true is)
      by false is h more = or_second (other == op) (list_any (λ n. n == op) counts) (more h)

  counted_fits : (op n : ℕ) (operation : Option Operation) (later : List Act) (w : World) → instance_of_process w entry.actor ≡ entry.instance → waiting_for w entry.actor op operation ≡ n → R later w
      → R (counted_seen entry op n operation later) w
  counted_fits op zero None later w runs shown h = h
  counted_fits op (suc n) None later w runs shown h = absurd (cc shown)
  counted_fits op n (Some operation) later w runs shown h =
      (ap (λ (owner : Owner). waiting owner op w.pending) (sym (same_owner core class entry operation.scope w runs)) ∙ shown, h)

  first_fits : (site : Site) (env : List Value) (one : Seen) (later : List Act) (w : World) → instance_of_process w entry.actor ≡ entry.instance → IsWatched (listed site) site (me_in entry) env one
      → Shows (reading_of core w entry.actor) one → R later w → R (seen_first core entry site env one later) w
  first_fits site env (Cell block var path value) later w runs watched shown h =
      let is : lists_block entry site env block ≡ true = block_listed site env block var watched.home site.reads watched.stands watched.variable in
      subst (λ b. R (cond b (Sees block var path value ∷ later) (Never entry.actor ∷ [])) w) (sym is) (shown, h)
  first_fits site env (pending_count op n) later w runs watched shown h =
      let is : lists_count site op ≡ true = count_listed op site.counts watched in
      subst (λ b. R (cond b (counted_seen entry op n (slice_get core.operations op) later) (Never entry.actor ∷ [])) w) (sym is) (counted_fits op n (slice_get core.operations op) later w runs shown h)

  all_fit : (site : Site) (env : List Value) (seen : List Seen) (later : List Act) (w : World) → instance_of_process w entry.actor ≡ entry.instance
      → EachSeen (IsWatched (listed site) site (me_in entry) env) seen → ShowsAll (reading_of core w entry.actor) seen → R later w → R (all_seen_first core entry site env seen later) w
  all_fit site env [] later w runs watched shown h = h
  all_fit site env (one ∷ others) later w runs watched shown h =
      first_fits site env one (all_seen_first core entry site env others later) w runs watched.0 shown.0 (all_fit site env others later w runs watched.1 shown.1 h)

  -- ---- the choice of a statement

  module _ (env : List Value) (site : Site) (w : World) (runs : instance_of_process w entry.actor ≡ entry.instance)
      (reads : entry.reads ≡ choice_seen (reading_of core w entry.actor) site (me_in entry) env w.pending)
      (one : has_one_class class site.arms ≡ true) (within : reads_only (listed site) site ≡ true) where
    abbrev chosen : Choice
    chosen = choosing core class entry w env site

    chooses : (it : Choice) → chosen ≡ it → IsMade it → Chooses core (me_in entry) site env entry.reads (chosen_in w.pending it) w.pending
    chooses it is made = λ reading names all.
        ap (chosen_in w.pending)
        (what-was-read-decides (listed site) (reading_of core w entry.actor) site (me_in entry) env w.pending within reading (sym names) (subst IsMade (sym is) made) (subst (λ s. ShowsAll reading s) reads all) ∙ is)

    shown : (later : List Act) → R later w → R (all_seen_first core entry site env entry.reads later) w
    shown later h =
        all_fit site env entry.reads later w runs
        (subst (λ s. EachSeen (IsWatched (listed site) site (me_in entry) env) s) (sym reads)
        (what-was-read-is-watched (listed site) (reading_of core w entry.actor) site (me_in entry) env w.pending within))
        (subst (λ s. ShowsAll (reading_of core w entry.actor) s) (sym reads)
        (what-was-read-is-there (listed site) (reading_of core w entry.actor) site (me_in entry) env w.pending within)) h

    same_picked : (arm : Arm) (p : Pending) → is_of (owner_in site.scope (me_in entry)) arm.op p ≡ true → entry.duty ≡ p.back_id → picked entry site arm p.id p.args p.back ≡ p
    same_picked arm p is owed =
        let parts = and_parts (p.op == arm.op) (owner_eq p.owner (owner_in site.scope (me_in entry))) is in
        ap (λ n. record { id = p.id; op = n; owner = owner_in site.scope (me_in entry); args = p.args; back = p.back; back_id = entry.duty }) (sym (eqb-true p.op arm.op parts.0))
        ∙ ap (λ (o : Owner). record { id = p.id; op = p.op; owner = o; args = p.args; back = p.back; back_id = entry.duty }) (sym (one_owner p.owner (owner_in site.scope (me_in entry)) parts.1))
        ∙ ap (λ n. record { id = p.id; op = p.op; owner = p.owner; args = p.args; back = p.back; back_id = n }) owed

    served_fits : (place number : ℕ) (arm : Arm) (p : Pending) → chosen ≡ choice_of_it.Service place number → slice_get w.pending place ≡ Some p → slice_get site.arms number ≡ Some arm
        → is_of (owner_in site.scope (me_in entry)) arm.op p ≡ true → entry.duty ≡ p.back_id → R (picked_acts core entry site env p.id number p.args p.back (Some arm)) w
    served_fits place number arm p is there at of_both owed =
        let it : Pending = picked entry site arm p.id p.args p.back in
        shown (Serves (me_in entry) site env entry.reads it number ∷ Holds entry.actor (held_from it) ∷ [])
        ((refl, (one_class class site.arms number arm one at, within), subst (λ c. Chooses core (me_in entry) site env entry.reads c w.pending) found (chooses (choice_of_it.Service place number) is tt)), (tt, tt))
      where
        found : chosen_in w.pending (choice_of_it.Service place number) ≡ Services_it (Some (picked entry site arm p.id p.args p.back)) number
        found = ap (λ (o : Option Pending). Services_it o number) (there ∙ ap (λ (q : Pending). Some q) (sym (same_picked arm p of_both owed)))

    picked_fits : (place number : ℕ) (p : Option Pending) (given : Answer) → chosen ≡ choice_of_it.Service place number → slice_get w.pending place ≡ p → entry.duty ≡ duty_at p
        → given_by (where_some p (service w entry.actor place number)) ≡ Some given → R (chosen_acts core entry env site given) w
    picked_fits place number None given is there owed done = absurd (cc done)
    picked_fits place number (Some p) given is there owed done =
        let serves : Services site (me_in entry) w.pending place number = serves-pending (reading_of core w entry.actor) site (me_in entry) env w.pending place number is in
        let same : serves.invocation ≡ p = same_some (sym serves.is_pending ∙ there) in
        let given_it : answer.Picked p.id number p.args p.back ≡ given = given_by_it done in
        subst (λ a. R (chosen_acts core entry env site a) w) given_it
        (subst (λ o. R (picked_acts core entry site env p.id number p.args p.back o) w) (sym serves.is_arm)
        (served_fits place number serves.arm p is there serves.is_arm (subst (λ q. is_of (owner_in site.scope (me_in entry)) serves.arm.op q ≡ true) same serves.is_of_both) owed))
      where
        same_some : {a b : Pending} → Some a ≡ Some b → a ≡ b
        same_some h = cc h

        given_by_it : {a b : Answer} → Some a ≡ Some b → a ≡ b
        given_by_it h = cc h

    else_fits : (arms : List Arm) → site.arms ≡ arms → chosen ≡ choice_of_it.Else → R (else_acts core entry site env arms) w
    else_fits [] none is = by site.has_else (sym (no_arms core class entry env site w none) ∙ is)
      where
        by : (b : Bool) → otherwise b None ≡ choice_of_it.Else → R (cond b [] (Never entry.actor ∷ [])) w
        by true h = tt
        by false h = absurd (cc h)
    else_fits (arm ∷ arms) are is =
        shown (Passes (me_in entry) site env entry.reads arm.op ∷ [])
        (((one_class class site.arms 0 arm one (ap (λ (l : List Arm). slice_get l 0) are), within), chooses choice_of_it.Else is tt), tt)

    chosen_fits : (it : Choice) (given : Answer) → chosen ≡ it → entry.duty ≡ duty_of_choice w it → given_by (by_choice w entry.actor site it) ≡ Some given → R (chosen_acts core entry env site given) w
    chosen_fits (choice_of_it.Service place number) given is owed done = picked_fits place number (slice_get w.pending place) given is refl owed done
    chosen_fits choice_of_it.Else given is owed done =
        let same : answer.Else ≡ given = cc done in subst (λ a. R (chosen_acts core entry env site a) w) same (else_fits site.arms refl is)
    chosen_fits choice_of_it.Nothing given is owed done = absurd (cc done)
    chosen_fits (choice_of_it.Bad found number) given is owed done = absurd (no_answer (slice_get site.arms number) done)
      where
        no_answer : (arm : Option Arm) → given_by (where_some arm (λ a. failed a.place found)) ≡ Some given → ⊥
        no_answer None h = cc h
        no_answer (Some arm) h = cc h

  narrow_site : (env : List Value) (site : Site) → not (is_narrow core class (me_in entry) env site) ≡ false → (has_one_class class site.arms ≡ true) × (reads_only (listed site) site ≡ true)
  narrow_site env site narrow =
      let parts = and_parts (has_one_class class site.arms) _ (not_false (is_narrow core class (me_in entry) env site) narrow) in
      (parts.0, (and_parts (reads_only (listed site) site) _ parts.1).0)

  select_fits : (env : List Value) (site : Option Site) (given : Answer) (w : World) → instance_of_process w entry.actor ≡ entry.instance → entry.reads ≡ seen_if core w entry.actor env site
      → entry.duty ≡ duty_of_select core w entry.actor env site → is_wide_site core class (me_in entry) env site ≡ false → entry.answer ≡ given
      → given_by (where_some site (select_at core w entry.actor env)) ≡ Some given → R (select_acts core entry env site) w
  select_fits env None given w runs reads owed narrow its is = absurd (cc is)
  select_fits env (Some site) given w runs reads owed narrow its is =
      let parts = narrow_site env site narrow in
      let me : me_of w entry.actor ≡ me_in entry = same_me core class entry w runs in
      let same : choice_of core w entry.actor env site ≡ choosing core class entry w env site = ap (λ (m : Me). choice_by m) me in
      subst (λ a. R (chosen_acts core entry env site a) w) (sym its)
      (chosen_fits env site w runs (reads ∙ ap (λ (m : Me). choice_seen (reading_of core w entry.actor) site m env w.pending) me) parts.0 parts.1
      (choosing core class entry w env site) given refl (owed ∙ ap (duty_of_choice w) same) (ap (λ (c : Choice). given_by (by_choice w entry.actor site c)) (sym same) ∙ is))
    where
      choice_by : Me → Choice
      choice_by m = choice (reading_of core w entry.actor) site m env w.pending

  -- ---- the table

  reply_fits : (held back : ℕ) (results : List Value) (w : World) → duty_held w entry.actor held ≡ duty_in entry back → R (reply_acts entry held back results) w
  reply_fits held back results w owes = (owes, (tt, answers_fit back (duty_in entry back) (Some results) (release entry.actor held w)))

  finish_fits : (answered : Bool) (back : ℕ) (results : List Value) (w : World) → NamesCaller w entry.actor (request.Finish answered back results)
      → entry.duty ≡ (duty_held w entry.actor entry.actor).back_id → R (finish_acts entry answered back results) w
  finish_fits true back results w names owed = (tt, tt)
  finish_fits false back results w names owed =
      (owes entry.actor back w names owed, (tt, answers_fit back (duty_in entry back) (Some results) (end_process entry.actor w)))

  wake_fits : (until : ℕ) (given : Answer) (w : World) (b : Bool) → nat_lt w.moment until ≡ b → given_by (cond b Cannot (Did w answer.Done)) ≡ Some given
      → R (on_done entry (HasCome entry.actor until ∷ []) given) w
  wake_fits until given w true late is = absurd (cc is)
  wake_fits until given w false late is = done_fits (HasCome entry.actor until ∷ []) given w is (late, tt)

  pub table_fits : (place : Place) (role : Role) (asked : Request) (w : World) → instance_of_process w entry.actor ≡ entry.instance → entry.reads ≡ seen_by core w entry.actor asked
      → entry.duty ≡ duty_number core w entry.actor asked → NamesCaller w entry.actor asked → is_wide_request core class (me_in entry) role asked ≡ false
      → given_by (done_by core w entry.actor entry.name place role asked) ≡ Some entry.answer → R (asked_acts core entry asked) w
  table_fits place role (request.Declare block var shape) w runs reads owed names narrow is =
      let done = stored_fits place w (declared_in w.variables block var shape) entry.answer is in done_fits (Declares block var shape ∷ []) entry.answer w done.1 (done.0, tt)
  table_fits place role (request.Load block var path) w runs reads owed names narrow is = loaded_fits place block var path entry.answer w (loaded_in w.variables block var path) refl is
  table_fits place role (request.Store block var path value) w runs reads owed names narrow is =
      let done = stored_fits place w (stored_in w.variables block var path value) entry.answer is in done_fits (Stores block var path value ∷ []) entry.answer w done.1 (done.0, tt)
  table_fits place role (request.Invoke target args wants) w runs reads owed names narrow is =
      let done = invoke_fits place target args (duty_for wants entry.actor entry.name) w entry.answer narrow is in
      made_fits (invoke_acts core entry target args (duty_for wants entry.actor entry.name)) entry.answer w done.0 done.1
  table_fits place role (request.Select site env) w runs reads owed names narrow is = select_fits env (slice_get core.sites site) entry.answer w runs reads owed narrow refl is
  table_fits place role (request.Take ids) w runs reads owed names narrow is = taken_fits ids entry.answer w (earliest_reply w.replies entry.actor ids) refl is
  table_fits place role (request.Reply held back results) w runs reads owed names narrow is =
      done_fits (reply_acts entry held back results) entry.answer w is (reply_fits held back results w (owes held back w names owed))
  table_fits place role (request.Forward held back target args) w runs reads owed names narrow is =
      let duty = owes held back w names owed in
      let done = invoke_fits place target args (duty_in entry back) (release entry.actor held w) entry.answer narrow
      (ap (λ (d : Duty). given_by (invoke core place entry.name target args d (release entry.actor held w))) (sym duty) ∙ is) in
      made_fits (forward_acts core entry held back target args) entry.answer w done.0 (duty, (tt, done.1))
  table_fits place role (request.Count op) w runs reads owed names narrow is = count_fits op entry.answer w (slice_get core.operations op) refl runs is
  table_fits place role (request.Finish answered back results) w runs reads owed names narrow is =
      done_fits (finish_acts entry answered back results) entry.answer w is (finish_fits answered back results w names owed)
  table_fits place role (request.Wake until) w runs reads owed names narrow is = wake_fits until entry.answer w (nat_lt w.moment until) refl is
  table_fits place role (request.Write bytes) w runs reads owed names narrow is = absurd (true≢false narrow)
  table_fits place role (request.Read kind) w runs reads owed names narrow is = absurd (true≢false narrow)
  table_fits place role (request.EnsureGlobal global vm) w runs reads owed names narrow is = absurd (true≢false narrow)
  table_fits place role (request.Create resource args vm) w runs reads owed names narrow is = absurd (true≢false narrow)
  table_fits place role request.MakeVm w runs reads owed names narrow is = absurd (true≢false narrow)
  table_fits place role (request.Destroy target) w runs reads owed names narrow is = absurd (true≢false narrow)
  table_fits place role (request.Stop status) w runs reads owed names narrow is = absurd (true≢false narrow)
  table_fits place role (request.Fail found) w runs reads owed names narrow is = absurd (true≢false narrow)
  table_fits place role request.Age w runs reads owed names narrow is = absurd (true≢false narrow)

pub steps_have_entries : StepsHaveEntries
steps_have_entries core class w worker stamp process name ask given lives narrow names is =
    (lives, (refl, table_fits core class (entry_of core w worker stamp process name ask given) ask.place ask.role ask.request w refl refl refl names narrow is))
