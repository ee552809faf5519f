-- The changes of an entry in a part: no two are of one kind.
use Rattle.std.proofs.Common.{◌≡◌, ◌≢◌, ℕ, zero, suc, ℤ, pos, negsuc, ◌==◌, Bool, true, false, List, [], ◌∷◌, ◌++◌, Option, None, Some, Result, Ok, Err, refl, sym, ◌∙◌, subst, cond, true≢false}
use Rattle.std.proofs.lemmas.Bool.{eq-eqb}
use Rattle.std.specs.Prelude.{filter, slice_get}
use Rattle.sr_ask.specs.declared.answer.Answer.{Answer}
use Rattle.sr_ask.specs.declared.answer.Answer.TheVariants as answer
use Rattle.sr_ask.specs.declared.entry.Entry.{Entry}
use Rattle.sr_ask.specs.declared.entry.Seen.{Seen}
use Rattle.sr_ask.specs.declared.entry.Seen.TheVariants.{Cell, Pending as pending_count}
use Rattle.sr_ask.specs.declared.request.Request.{Request}
use Rattle.sr_ask.specs.declared.request.Request.TheVariants as request
use Rattle.sr_core.specs.declared.component.Core.{Core}
use Rattle.sr_core.specs.declared.component.Operation.{Operation}
use Rattle.sr_core.specs.declared.site.Arm.{Arm}
use Rattle.sr_core.specs.declared.site.Site.{Site}
use Rattle.sr_instances.specs.Instances.{Placed}
use Rattle.sr_queue.specs.declared.pending.Pending.{Pending}
use Rattle.sr_value.specs.Shapes.{default_value}
use Rattle.sr_value.specs.declared.capability.Cap.{Cap}
use Rattle.sr_value.specs.declared.capability.Cap.TheVariants as cap
use Rattle.sr_value.specs.declared.capability.Owner.{Owner}
use Rattle.sr_value.specs.declared.capability.Owner.TheVariants.{Inst, Proc}
use Rattle.sr_value.specs.declared.fault.Fault.{Fault}
use Rattle.sr_value.specs.declared.shape.Sel.{Sel}
use Rattle.sr_value.specs.declared.shape.Shape.{Shape}
use Rattle.sr_value.specs.declared.value.Value.{Value}
use Rattle.sr_world.specs.Selecting.{held_from}
use Rattle.sr_world.specs.Steps.{duty_for}
use Rattle.sr_world.specs.declared.duty.Duty.{Duty}
use Rattle.sr_shard.specs.Acts.{Act, Declares, Frees, HasCome, Holds, Never, Passes, Sees, Serves, Stores, part}
use Rattle.sr_shard.specs.Changes.{all_changes, changes_of, declared}
use Rattle.sr_shard.specs.Entries.{acts_of, acts_to, all_seen_first, arrival_acts, asked_acts, chosen_acts, counted_acts, counted_by, counted_seen, duty_in, else_acts, finish_acts, forward_acts, invoke_acts, lists_block, lists_count, loaded_acts, me_in, on_done, on_made, operation_acts, picked, picked_acts, reply_acts, seen_first, select_acts, taken_acts}
use Rattle.sr_shard.specs.Presents.{AreApart, IsApart, kind}
use Rattle.sr_shard.specs.Shards.{Opened, acts_on}
use Rattle.sr_shard.specs.declared.change.Change.{Change}
use Rattle.sr_shard.specs.declared.change.Change.TheVariants as change

-- ---- lists of changes

distinct : (a b : ℕ) → (a == b) ≡ false → a ≢ b
distinct a b off e = true≢false (sym (eq-eqb a b e) ∙ off)

apart_left : (one : Change) (xs ys : List Change) → IsApart one (xs ++ ys) → IsApart one xs
apart_left one [] ys h = tt
apart_left one (x ∷ xs) ys h = (h.0, apart_left one xs ys h.1)

apart_right : (one : Change) (xs ys : List Change) → IsApart one (xs ++ ys) → IsApart one ys
apart_right one [] ys h = h
apart_right one (x ∷ xs) ys h = apart_right one xs ys h.1

apart_both : (one : Change) (xs ys : List Change) → IsApart one xs → IsApart one ys → IsApart one (xs ++ ys)
apart_both one [] ys left right = right
apart_both one (x ∷ xs) ys left right = (left.0, apart_both one xs ys left.1 right)

are_right : (xs ys : List Change) → AreApart (xs ++ ys) → AreApart ys
are_right [] ys h = h
are_right (x ∷ xs) ys h = are_right xs ys h.1

-- fewer after the same are apart too
are_fewer : (xs ys zs : List Change) → ((one : Change) → IsApart one ys → IsApart one zs) → AreApart zs → AreApart (xs ++ ys) → AreApart (xs ++ zs)
are_fewer [] ys zs fewer apart h = apart
are_fewer (x ∷ xs) ys zs fewer apart h = (
  apart_both x xs zs (apart_left x xs ys h.0) (fewer x (apart_right x xs ys h.0)),
  are_fewer xs ys zs fewer apart h.1,
)

module _ (core : Core) (places : Placed) where
  -- ---- fewer acts

  apart_filter : (one : Change) (test : Act → Bool) (acts : List Act) → IsApart one (all_changes core places acts) → IsApart one (all_changes core places (filter test acts))
  apart_filter one test [] h = tt
  apart_filter one test (act ∷ acts) h = by (test act) (apart_filter one test acts (apart_right one (changes_of core places act) (all_changes core places acts) h))
    where
      by : (b : Bool) → IsApart one (all_changes core places (filter test acts)) → IsApart one (all_changes core places (cond b (act ∷ filter test acts) (filter test acts)))
      by true later = apart_both one (changes_of core places act) (all_changes core places (filter test acts)) (apart_left one (changes_of core places act) (all_changes core places acts) h) later
      by false later = later

  are_filter : (test : Act → Bool) (acts : List Act) → AreApart (all_changes core places acts) → AreApart (all_changes core places (filter test acts))
  are_filter test [] h = tt
  are_filter test (act ∷ acts) h = by (test act) (are_filter test acts (are_right (changes_of core places act) (all_changes core places acts) h))
    where
      by : (b : Bool) → AreApart (all_changes core places (filter test acts)) → AreApart (all_changes core places (cond b (act ∷ filter test acts) (filter test acts)))
      by true later = are_fewer (changes_of core places act) (all_changes core places acts) (all_changes core places (filter test acts)) (λ one. apart_filter one test acts) later h
      by false later = later

  module _ (entry : Entry) where
    abbrev Alone : List Act → Type 0
    Alone acts = AreApart (all_changes core places acts)

    done_alone : (acts : List Act) (given : Answer) → Alone acts → Alone (on_done entry acts given)
    done_alone acts answer.Done all = all
    done_alone acts _ all = tt

    made_alone : (acts : List Act) (given : Answer) → Alone acts → Alone (on_made entry acts given)
    made_alone acts (answer.Made made) all = by (made == entry.name)
      where
        by : (b : Bool) → Alone (cond b acts (Never entry.actor ∷ []))
        by true = all
        by false = tt
    made_alone acts _ all = tt

    declared_alone : (block var : ℕ) (shape : Shape) (value : Result Value Fault) → AreApart (declared block var shape value ++ [])
    declared_alone block var shape (Ok value) = (tt, tt)
    declared_alone block var shape (Err fault) = tt

    loaded_alone : (block var : ℕ) (path : List Sel) (given : Answer) → Alone (loaded_acts entry block var path given)
    loaded_alone block var path (answer.Got value) = tt
    loaded_alone block var path _ = tt

    taken_alone : (ids : List ℕ) (given : Answer) → Alone (taken_acts entry ids given)
    taken_alone ids (answer.Took id results) = (tt, tt)
    taken_alone ids _ = tt

    number_alone : (op : ℕ) (number : ℤ) (operation : Option Operation) → Alone (counted_by entry op number operation)
    number_alone op (pos n) (Some operation) = tt
    number_alone op (pos n) None = tt
    number_alone op (negsuc n) operation = tt

    counted_alone : (op : ℕ) (given : Answer) → Alone (counted_acts core entry op given)
    counted_alone op (answer.Number number) = number_alone op number (slice_get core.operations op)
    counted_alone op _ = tt

    -- ---- answers and invocations, after a process has let an invocation go

    answers_apart : (one : Change) → kind one ≢ 6 → (back : ℕ) (duty : Duty) (results : Option (List Value)) → IsApart one (all_changes core places (acts_to back duty results))
    answers_apart one off zero duty results = tt
    answers_apart one off (suc n) duty results = (off, tt)

    answers_alone : (back : ℕ) (duty : Duty) (results : Option (List Value)) → Alone (acts_to back duty results)
    answers_alone zero duty results = tt
    answers_alone (suc n) duty results = (tt, tt)

    arrival_alone : (id : ℕ) (owner : Owner) (op : ℕ) (args : List Value) (duty : Duty) (proc : Option ℕ) → Alone (Frees entry.actor id ∷ arrival_acts entry owner op args duty proc)
    arrival_alone id (Inst instance) op args duty (Some proc) = ((distinct 5 6 refl, (distinct 5 4 refl, tt)), ((distinct 6 4 refl, tt), (tt, tt)))
    arrival_alone id (Proc process) op args duty (Some proc) = (tt, tt)
    arrival_alone id (Inst instance) op args duty None = ((distinct 5 2 refl, tt), (tt, tt))
    arrival_alone id (Proc process) op args duty None = ((distinct 5 2 refl, tt), (tt, tt))

    operation_alone : (id : ℕ) (owner : Owner) (op : ℕ) (args : List Value) (duty : Duty) (operation : Option Operation) → Alone (Frees entry.actor id ∷ operation_acts entry owner op args duty operation)
    operation_alone id owner op args duty None = (tt, tt)
    operation_alone id (Inst instance) op args duty (Some operation) = arrival_alone id (Inst instance) op args duty operation.proc
    operation_alone id (Proc process) op args duty (Some operation) = arrival_alone id (Proc process) op args duty operation.proc

    invoke_alone : (id : ℕ) (target : Cap) (args : List Value) (duty : Duty) → Alone (Frees entry.actor id ∷ invoke_acts core entry target args duty)
    invoke_alone id cap.Null args duty = (tt, tt)
    invoke_alone id cap.Noop args duty = (answers_apart (change.Free entry.actor id) (distinct 5 6 refl) duty.back duty None, answers_alone duty.back duty None)
    invoke_alone id (cap.Op owner op) args duty = operation_alone id owner op args duty (slice_get core.operations op)
    invoke_alone id (cap.Res instance) args duty = (tt, tt)
    invoke_alone id (cap.Vm machine) args duty = (tt, tt)

    finish_alone : (answered : Bool) (back : ℕ) (results : List Value) → Alone (finish_acts entry answered back results)
    finish_alone true back results = (tt, tt)
    finish_alone false back results = (answers_apart (change.End entry.actor) (distinct 4 6 refl) back (duty_in entry back) (Some results), answers_alone back (duty_in entry back) (Some results))

    -- ---- the choice of a statement

    counted_first : (op n : ℕ) (operation : Option Operation) (later : List Act) → Alone later → Alone (counted_seen entry op n operation later)
    counted_first op zero None later all = all
    counted_first op (suc n) None later all = tt
    counted_first op n (Some operation) later all = all

    one_first : (env : List Value) (site : Site) (one : Seen) (later : List Act) → Alone later → Alone (seen_first core entry site env one later)
    one_first env site (Cell block var path value) later all = by (lists_block entry site env block)
      where
        by : (b : Bool) → Alone (cond b (Sees block var path value ∷ later) (Never entry.actor ∷ []))
        by true = all
        by false = tt
    one_first env site (pending_count op n) later all = by (lists_count site op)
      where
        by : (b : Bool) → Alone (cond b (counted_seen entry op n (slice_get core.operations op) later) (Never entry.actor ∷ []))
        by true = counted_first op n (slice_get core.operations op) later all
        by false = tt

    all_first : (env : List Value) (site : Site) (seen : List Seen) (later : List Act) → Alone later → Alone (all_seen_first core entry site env seen later)
    all_first env site [] later all = all
    all_first env site (one ∷ others) later all = one_first env site one (all_seen_first core entry site env others later) (all_first env site others later all)

    picked_alone : (env : List Value) (site : Site) (id number : ℕ) (args : List Value) (back : ℕ) (arm : Option Arm) → Alone (picked_acts core entry site env id number args back arm)
    picked_alone env site id number args back None = tt
    picked_alone env site id number args back (Some arm) =
        let p : Pending = picked entry site arm id args back in
        all_first env site entry.reads (Serves (me_in entry) site env entry.reads p number ∷ Holds entry.actor (held_from p) ∷ []) ((distinct 3 4 refl, tt), (tt, tt))

    else_alone : (env : List Value) (site : Site) (arms : List Arm) → Alone (else_acts core entry site env arms)
    else_alone env site [] = by site.has_else
      where
        by : (b : Bool) → Alone (cond b [] (Never entry.actor ∷ []))
        by true = tt
        by false = tt
    else_alone env site (arm ∷ arms) = all_first env site entry.reads (Passes (me_in entry) site env entry.reads arm.op ∷ []) tt

    chosen_alone : (env : List Value) (site : Site) (given : Answer) → Alone (chosen_acts core entry env site given)
    chosen_alone env site (answer.Picked id number args back) = picked_alone env site id number args back (slice_get site.arms number)
    chosen_alone env site answer.Else = else_alone env site site.arms
    chosen_alone env site _ = tt

    select_alone : (env : List Value) (site : Option Site) → Alone (select_acts core entry env site)
    select_alone env None = tt
    select_alone env (Some site) = chosen_alone env site entry.answer

    -- ---- the table

    asked_alone : (asked : Request) → Alone (asked_acts core entry asked)
    asked_alone (request.Declare block var shape) = done_alone (Declares block var shape ∷ []) entry.answer (declared_alone block var shape (default_value shape))
    asked_alone (request.Load block var path) = loaded_alone block var path entry.answer
    asked_alone (request.Store block var path value) = done_alone (Stores block var path value ∷ []) entry.answer (tt, tt)
    asked_alone (request.Invoke target args wants) =
        made_alone (invoke_acts core entry target args (duty_for wants entry.actor entry.name)) entry.answer (invoke_alone entry.name target args (duty_for wants entry.actor entry.name)).1
    asked_alone (request.Select site env) = select_alone env (slice_get core.sites site)
    asked_alone (request.Take ids) = taken_alone ids entry.answer
    asked_alone (request.Reply held back results) =
        done_alone (reply_acts entry held back results) entry.answer
        (answers_apart (change.Free entry.actor held) (distinct 5 6 refl) back (duty_in entry back) (Some results), answers_alone back (duty_in entry back) (Some results))
    asked_alone (request.Forward held back target args) = made_alone (forward_acts core entry held back target args) entry.answer (invoke_alone held target args (duty_in entry back))
    asked_alone (request.Count op) = counted_alone op entry.answer
    asked_alone (request.Finish answered back results) = done_alone (finish_acts entry answered back results) entry.answer (finish_alone answered back results)
    asked_alone (request.Wake until) = done_alone (HasCome entry.actor until ∷ []) entry.answer tt
    asked_alone _ = tt

-- the changes of an entry in one part
abbrev pub changes_on : Opened → ℕ → Entry → List Change
changes_on opened number entry = all_changes opened.core opened.world.places (acts_on opened number (entry ∷ []))

append_none : (xs : List Act) → xs ++ [] ≡ xs
append_none [] = refl
append_none (x ∷ xs) = λ k. x ∷ append_none xs k

pub entry_apart : (opened : Opened) (number : ℕ) (entry : Entry) → AreApart (changes_on opened number entry)
entry_apart opened number entry =
    are_filter opened.core opened.world.places (λ act. part opened.class act == number) (acts_of opened.core entry ++ [])
    (subst (λ acts. AreApart (all_changes opened.core opened.world.places acts)) (sym (append_none (acts_of opened.core entry))) (asked_alone opened.core opened.world.places entry entry.ask.request))
