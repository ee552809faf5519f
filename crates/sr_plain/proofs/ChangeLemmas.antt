-- What each request changes that a process may wait for.
use Rattle.std.proofs.Common.{◌≡◌, ◌≢◌, ℕ, zero, suc, ◌==◌, ◌&&◌, Bool, true, false, cond, List, [], ◌∷◌, ◌++◌, Option, None, Some, refl, ap, sym, ◌∙◌, subst, eqb-true, true≢false, append-nil}
use Rattle.std.proofs.lemmas.List.Elements.{filter-append}
use Rattle.std.specs.Prelude.{Result, Ok, Err, filter, nat_lt, remove, slice_get}
use Rattle.std.proofs.lemmas.Bool.{and_parts as both-true}
use Rattle.sr_ask.specs.declared.answer.Answer.{Answer}
use Rattle.sr_ask.specs.declared.ask.Role.{Role}
use Rattle.sr_ask.specs.declared.ask.Role.TheVariants.{Boot, Initial, Proc as proc_role, Final}
use Rattle.sr_ask.specs.declared.request.Request.{Request}
use Rattle.sr_ask.specs.declared.request.Request.TheVariants as request
use Rattle.sr_calls.proofs.ProcessCallsLemmas.{items-with_items_other}
use Rattle.sr_calls.specs.Calls.{earliest_reply, items_of, without_first, answers_one}
use Rattle.sr_core.specs.declared.component.Core.{Core}
use Rattle.sr_core.specs.declared.component.Operation.{Operation}
use Rattle.sr_core.specs.declared.owner.Me.{Me}
use Rattle.sr_core.specs.declared.site.Site.{Site}
use Rattle.sr_instances.specs.Instances.{global_in, state_of}
use Rattle.sr_instances.specs.declared.state.State.{State as InstanceState}
use Rattle.sr_instances.specs.declared.state.State.TheVariants.{Starting, Ready, Closing, Gone}
use Rattle.sr_queue.specs.Queues.{is_of}
use Rattle.sr_queue.specs.declared.pending.Pending.{Pending}
use Rattle.sr_select.proofs.LawProofs.{serves-pending}
use Rattle.sr_select.specs.Choices.{owner_in}
use Rattle.sr_select.specs.Laws.{Services, is_in_class}
use Rattle.sr_select.specs.declared.choice.Choice.{Choice}
use Rattle.sr_select.specs.declared.choice.Choice.TheVariants as chosen
use Rattle.sr_store.specs.Variables.{declared_in, loaded_in, stored_in}
use Rattle.sr_value.specs.Operators.{owner_eq}
use Rattle.sr_value.specs.declared.capability.Cap.{Cap}
use Rattle.sr_value.specs.declared.capability.Cap.TheVariants as cap
use Rattle.sr_value.specs.declared.capability.Owner.{Owner}
use Rattle.sr_value.specs.declared.capability.Owner.TheVariants.{Inst, Proc}
use Rattle.sr_value.specs.declared.fault.Fault.{Fault}
use Rattle.sr_value.specs.declared.shape.Sel.{Sel}
use Rattle.sr_value.specs.declared.place.Place.{Place}
use Rattle.sr_value.specs.declared.value.Value.{Value}
use Rattle.sr_world.specs.Answering.{answer as answered, answer_held, duty_held}
use Rattle.sr_world.specs.Does.{Does, Did, Makes, Cannot, Ends, Undecided, done_or, where_some}
use Rattle.sr_world.specs.Endings.{answer_unless, finish}
use Rattle.sr_world.specs.Inputs.{is_decided}
use Rattle.sr_world.specs.Invoking.{arrive, instance_of_process, invoke, invoke_operation, is_gone}
use Rattle.sr_world.specs.Making.{is_ready as instance_ready, make_ready, needs_ready, ready_from}
use Rattle.sr_world.specs.Selecting.{by_choice, choice_of, held_from, me_of, reading_of, select_at, service}
use Rattle.sr_world.specs.Steps.{done_by, duty_for, ensure_found, on_machine, ready_after}
use Rattle.sr_world.specs.Updates.{add_reply, drop_pending, drop_reply, end_process, hold, release, use_name}
use Rattle.sr_world.specs.Worlds.{World, is_live}
use Rattle.sr_world.specs.declared.duty.Duty.{Duty}
use Rattle.sr_world.specs.Callers.{caller_in}
use Rattle.sr_plain.specs.Changes.{arrival, call_of, change_by, change_of_call, change_of_end, change_of_reply, chosen_at, goes_at}
use Rattle.sr_plain.specs.declared.change.Change.{Change}
use Rattle.sr_plain.specs.declared.change.Change.TheVariants.{Nothing, Watched, Variable, Class, Gone, Everything}
use Rattle.sr_plain.proofs.StoreLemmas.{declared-apart, stored-apart}

-- ---- what a step keeps

-- whose replies don't stay
module _ (actor caller : ℕ) where
  pub record Heard (old new : World) : Type 0 where
    pub replies : (q : ℕ) → q ≢ actor → q ≢ caller → items_of old.replies q ≡ items_of new.replies q
    pub moment : old.moment ≡ new.moment

  pub record Still (old new : World) : Type 0 where
    pub heard : Heard old new
    pub pending : old.pending ≡ new.pending
    pub variables : old.variables ≡ new.variables
    pub instances : old.places.instances ≡ new.places.instances

  pub record Waits (old new : World) : Type 0 where
    pub heard : Heard old new
    pub pending : old.pending ≡ new.pending
    pub variables : old.variables ≡ new.variables

  -- all other variables hold what they held
  pub record Stores (block var : ℕ) (old new : World) : Type 0 where
    pub heard : Heard old new
    pub pending : old.pending ≡ new.pending
    pub cells : (other_block other : ℕ) → (other_block ≡ block → other ≢ var) → (path : List Sel) → loaded_in old.variables other_block other path ≡ loaded_in new.variables other_block other path

  -- of other operations, and of those of others, the same invocations wait
  pub record Apart (owner : Owner) (op : ℕ) (old new : World) : Type 0 where
    pub heard : Heard old new
    pub pending : (other : Owner) (class : ℕ → Bool) → (class op && owner_eq owner other) ≡ false → filter (is_in_class other class) old.pending ≡ filter (is_in_class other class) new.pending
    pub variables : old.variables ≡ new.variables

  -- of no operation more invocations wait, and of others the same
  pub record Fewer (owner : Owner) (op : ℕ) (old new : World) : Type 0 where
    pub apart : Apart owner op old new
    pub none : (other : Owner) (n : ℕ) → filter (is_of other n) old.pending ≡ [] → filter (is_of other n) new.pending ≡ []

  abbrev pub Keeps : Change → World → World → Type 0
  Keeps Nothing old new = Still old new
  Keeps Watched old new = Waits old new
  Keeps (Variable block var) old new = Stores block var old new
  Keeps (Class owner op) old new = Apart owner op old new
  Keeps (Gone owner op) old new = Fewer owner op old new
  Keeps Everything old new = Unit {0}

  abbrev pub KeepsIf : (Answer → Change) → World → Does → Type 0
  KeepsIf change old (Did new answer) = Keeps (change answer) old new
  KeepsIf change old (Makes new answer) = Keeps (change answer) old new
  KeepsIf change old _ = Unit {0}

  any-everything : (w : World) (d : Does) → KeepsIf (λ a. Everything) w d
  any-everything w (Did new a) = tt
  any-everything w (Makes new a) = tt
  any-everything w Cannot = tt
  any-everything w (Ends ending) = tt
  any-everything w Undecided = tt

  module _ (change : Answer → Change) (w : World) where
    if-some : {A : Type 0} (o : Option A) (next : A → Does) → ((a : A) → KeepsIf change w (next a)) → KeepsIf change w (where_some o next)
    if-some None next h = tt
    if-some (Some a) next h = h a

    if-done : {A : Type 0} (place : Place) (r : Result A Fault) (next : A → Does) → ((a : A) → KeepsIf change w (next a)) → KeepsIf change w (done_or place r next)
    if-done place (Ok a) next h = h a
    if-done place (Err fault) next h = tt

    if-ok : {A : Type 0} (place : Place) (r : Result A Fault) (next : A → Does) → ((a : A) → r ≡ Ok a → KeepsIf change w (next a)) → KeepsIf change w (done_or place r next)
    if-ok place (Ok a) next h = h a refl
    if-ok place (Err fault) next h = tt

    either : (b : Bool) (x y : Does) → KeepsIf change w x → KeepsIf change w y → KeepsIf change w (cond b x y)
    either true x y hx hy = hx
    either false x y hx hy = hy

  heard-same : (w new : World) → w.replies ≡ new.replies → w.moment ≡ new.moment → Heard w new
  heard-same w new replies moment = record { replies = λ q a c. ap (λ r. items_of r q) replies; moment = moment }

  still-same : (w new : World) → w.replies ≡ new.replies → w.moment ≡ new.moment → w.pending ≡ new.pending → w.variables ≡ new.variables → w.places.instances ≡ new.places.instances → Still w new
  still-same w new replies moment pending variables instances = record { heard = heard-same w new replies moment; pending = pending; variables = variables; instances = instances }

  waits-same : (w new : World) → w.replies ≡ new.replies → w.moment ≡ new.moment → w.pending ≡ new.pending → w.variables ≡ new.variables → Waits w new
  waits-same w new replies moment pending variables = record { heard = heard-same w new replies moment; pending = pending; variables = variables }

  heard-then : (w from new : World) → Heard w from → Heard from new → Heard w new
  heard-then w from new first second = record { replies = λ q a c. first.replies q a c ∙ second.replies q a c; moment = first.moment ∙ second.moment }

  still-then : (w from new : World) → Still w from → Still from new → Still w new
  still-then w from new first second = record {
    heard = heard-then w from new first.heard second.heard;
    pending = first.pending ∙ second.pending;
    variables = first.variables ∙ second.variables;
    instances = first.instances ∙ second.instances;
  }

  waits-then : (w from new : World) → Waits w from → Waits from new → Waits w new
  waits-then w from new first second = record { heard = heard-then w from new first.heard second.heard; pending = first.pending ∙ second.pending; variables = first.variables ∙ second.variables }

  waiting : (w new : World) → Still w new → Waits w new
  waiting w new still = record { heard = still.heard; pending = still.pending; variables = still.variables }

  -- ---- replies

  answered-still : (duty : Duty) (results : Option (List Value)) (w : World) → ((q : ℕ) → q ≢ actor → q ≢ caller → q ≢ duty.back) → Still w (answered duty results w)
  answered-still duty results w apart = by (is_live w duty.back)
    where
      by : (b : Bool) → Still w (cond b (add_reply duty.back (record { id = duty.back_id; results = results }) w) w)
      by true = record {
        heard = record { replies = λ q a c. sym (items-with_items_other w.replies duty.back q (items_of w.replies duty.back ++ record { id = duty.back_id; results = results } ∷ []) (apart q a c)); moment = refl };
        pending = refl;
        variables = refl;
        instances = refl;
      }
      by false = still-same w w refl refl refl refl refl

  ended-still : (w : World) → Still w (end_process actor w)
  ended-still w = record {
    heard = record { replies = λ q a c. sym (items-with_items_other w.replies actor q [] a); moment = refl };
    pending = refl;
    variables = refl;
    instances = refl;
  }

  taken-still : (ids : List ℕ) (w : World) → Still w (drop_reply actor ids w)
  taken-still ids w = record {
    heard = record { replies = λ q a c. sym (items-with_items_other w.replies actor q (without_first (answers_one ids) (items_of w.replies actor)) a); moment = refl };
    pending = refl;
    variables = refl;
    instances = refl;
  }

  made_ready-waits : (instance : ℕ) (w : World) → Waits w (make_ready instance w)
  made_ready-waits instance w = by (state_of w.places instance)
    where
      by : (s : Option InstanceState) → Waits w (ready_from s instance w)
      by (Some Starting) = waits-same w _ refl refl refl refl
      by (Some Ready) = waits-same w w refl refl refl refl
      by (Some Closing) = waits-same w w refl refl refl refl
      by (Some Gone) = waits-same w w refl refl refl refl
      by None = waits-same w w refl refl refl refl

  -- ---- invocations

  module _ (w from : World) (same : Still w from) (core : Core) (name : ℕ) where
    arrived : (owner : Owner) (op : ℕ) (args : List Value) (duty : Duty) (proc : Option ℕ) → Keeps (arrival owner op proc) w (arrive core name owner op args duty proc from)
    arrived owner op args duty (Some proc) = still-then w from (arrive core name owner op args duty (Some proc) from) same (still-same from (arrive core name owner op args duty (Some proc) from) refl refl refl refl refl)
    arrived owner op args duty None = record {
      heard = heard-then w from there same.heard (heard-same from there refl refl);
      pending = λ other class off. ap (filter (is_in_class other class)) same.pending ∙ sym (append-nil (filter (is_in_class other class) from.pending))
          ∙ ap (λ b. filter (is_in_class other class) from.pending ++ cond b (arrives ∷ []) []) (sym off)
          ∙ sym (filter-append (is_in_class other class) from.pending (arrives ∷ []));
      variables = same.variables;
    }
      where
        there : World
        there = arrive core name owner op args duty None from

        arrives : Pending
        arrives = record { id = name; op = op; owner = owner; args = args; back = duty.back; back_id = duty.back_id }

    invoked : (place : Place) (target : Cap) (args : List Value) (duty : Duty) → ((q : ℕ) → q ≢ actor → q ≢ caller → q ≢ duty.back)
        → KeepsIf (λ a. change_of_call core target) w (invoke core place name target args duty from)
    invoked place cap.Null args duty apart = tt
    invoked place cap.Noop args duty apart =
        let used : World = use_name name from in
        still-then w used (answered duty None used) (still-then w from used same (still-same from used refl refl refl refl refl)) (answered-still duty None used apart)
    invoked place (cap.Op owner op) args duty apart = by (slice_get core.operations op)
      where
        by : (o : Option Operation) → KeepsIf (λ a. call_of owner op o) w (where_some o (invoke_operation core place name owner op args duty from))
        by None = tt
        by (Some operation) = either (λ a. arrival owner op operation.proc) w (is_gone from owner) _ _ tt (arrived owner op args duty operation.proc)
    invoked place (cap.Res instance) args duty apart = tt
    invoked place (cap.Vm machine) args duty apart = tt

-- ---- choices

filter-removed : (test : Pending → Bool) (xs : List Pending) (place : ℕ) (p : Pending) → slice_get xs place ≡ Some p → test p ≡ false → filter test xs ≡ filter test (remove xs place)
filter-removed test [] zero p is off = refl
filter-removed test [] (suc place) p is off = refl
filter-removed test (x ∷ xs) zero p is off = let same : x ≡ p = cc in ap (λ b. cond b (x ∷ filter test xs) (filter test xs)) (ap test same ∙ off)
filter-removed test (x ∷ xs) (suc place) p is off = ap (λ ys. cond (test x) (x ∷ ys) ys) (filter-removed test xs place p is off)

-- the first doesn't pass a test that none passes
pub off-first : {X : Type 0} (test : X → Bool) (x : X) (xs : List X) → filter test (x ∷ xs) ≡ [] → (test x ≡ false) × (filter test xs ≡ [])
off-first test x xs none = by (test x) refl none
  where
    by : (b : Bool) → test x ≡ b → cond b (x ∷ filter test xs) (filter test xs) ≡ [] → (test x ≡ false) × (filter test xs ≡ [])
    by true is h = absurd (cc)
    by false is h = (is, h)

none-removed : (test : Pending → Bool) (xs : List Pending) (place : ℕ) → filter test xs ≡ [] → filter test (remove xs place) ≡ []
none-removed test [] zero none = refl
none-removed test [] (suc place) none = refl
none-removed test (x ∷ xs) zero none = (off-first test x xs none).1
none-removed test (x ∷ xs) (suc place) none =
    let first = off-first test x xs none in ap (λ b. cond b (x ∷ filter test (remove xs place)) (filter test (remove xs place))) first.0 ∙ none-removed test xs place first.1

pub same-owner : (a b : Owner) → owner_eq a b ≡ true → a ≡ b
same-owner (Inst x) (Inst y) is = ap Inst (eqb-true x y is)
same-owner (Inst x) (Proc y) is = absurd (true≢false (sym is))
same-owner (Proc x) (Inst y) is = absurd (true≢false (sym is))
same-owner (Proc x) (Proc y) is = ap Proc (eqb-true x y is)

module _ (core : Core) (w : World) (actor : ℕ) (me : Me) (me_is : me_of w actor ≡ me) where
  serviced : (s : Site) (env : List Value) (place arm : ℕ) (p : Pending) → choice_of core w actor env s ≡ chosen.Service place arm → slice_get w.pending place ≡ Some p
      → KeepsIf actor 0 (chosen_at me (Some s)) w (service w actor place arm p)
  serviced s env place arm p is here = subst (λ o. Keeps actor 0 (goes_at (owner_in s.scope me) o) w there) (sym served.is_arm) (record { apart = apart; none = λ other n none. none-removed (is_of other n) w.pending place none })
    where
      served : Services s (me_of w actor) w.pending place arm
      served = serves-pending (reading_of core w actor) s (me_of w actor) env w.pending place arm is

      there : World
      there = hold actor (held_from p) (drop_pending place w)

      named : (p.op ≡ served.arm.op) × (p.owner ≡ owner_in s.scope (me_of w actor))
      named =
          let same : served.invocation ≡ p = (let a = served.is_pending in cc) in
          let of = both-true (served.invocation.op == served.arm.op) (owner_eq served.invocation.owner (owner_in s.scope (me_of w actor))) served.is_of_both in (
            sym (ap (λ (x : Pending). x.op) same) ∙ eqb-true served.invocation.op served.arm.op of.0,
            sym (ap (λ (x : Pending). x.owner) same) ∙ same-owner served.invocation.owner (owner_in s.scope (me_of w actor)) of.1,
          )

      apart : Apart actor 0 (owner_in s.scope me) served.arm.op w there
      apart = record {
        heard = heard-same actor 0 w there refl refl;
        pending = λ other class off. filter-removed (is_in_class other class) w.pending place p here
            (ap (λ n. class n && owner_eq p.owner other) named.0 ∙ ap (λ o. class served.arm.op && owner_eq o other) (named.1 ∙ ap (λ (m : Me). owner_in s.scope m) me_is) ∙ off);
        variables = refl;
      }

  chooses : (s : Site) (env : List Value) (c : Choice) → choice_of core w actor env s ≡ c → KeepsIf actor 0 (chosen_at me (Some s)) w (by_choice w actor s c)
  chooses s env (chosen.Service place arm) is = by (slice_get w.pending place) refl
    where
      by : (o : Option Pending) → slice_get w.pending place ≡ o → KeepsIf actor 0 (chosen_at me (Some s)) w (where_some o (service w actor place arm))
      by None here = tt
      by (Some p) here = serviced s env place arm p is here
  chooses s env chosen.Else is = still-same actor 0 w w refl refl refl refl refl
  chooses s env chosen.Nothing is = tt
  chooses s env (chosen.Bad fault arm) is = if-some actor 0 (chosen_at me (Some s)) w (slice_get s.arms arm) _ (λ a. tt)

  selects : (env : List Value) (o : Option Site) → KeepsIf actor 0 (chosen_at me o) w (where_some o (select_at core w actor env))
  selects env None = tt
  selects env (Some s) = chooses s env (choice_of core w actor env s) refl

-- ---- all requests

module _ (core : Core) (w : World) (actor : ℕ) where
  duty-apart : (caller name : ℕ) (wants : Bool) (q : ℕ) → q ≢ actor → q ≢ 0 → q ≢ (duty_for wants actor name).back
  duty-apart caller name true q a z = a
  duty-apart caller name false q a z = z

  replied : (role : Role) (own : Bool) (held : ℕ) (results : List Value) → Keeps actor (duty_held w actor held).back (change_of_reply role own) w (ready_after role own actor (answer_held actor held results w))
  replied role own held results = by role own
    where
      caller : ℕ
      caller = (duty_held w actor held).back

      released : World
      released = release actor held w

      answering : World
      answering = answer_held actor held results w

      still : Still actor caller w answering
      still = still-then actor caller w released answering (still-same actor caller w released refl refl refl refl refl) (answered-still actor caller (duty_held w actor held) (Some results) released (λ q a c. c))

      by : (role : Role) (own : Bool) → Keeps actor caller (change_of_reply role own) w (ready_after role own actor answering)
      by Initial true = waits-then actor caller w answering (make_ready (instance_of_process answering actor) answering) (waiting actor caller w answering still) (made_ready-waits actor caller (instance_of_process answering actor) answering)
      by Initial false = still
      by Boot own = still
      by proc_role own = still
      by Final own = still

  ended : (b : Bool) (results : List Value) (after : World) → Still actor (duty_held w actor actor).back w after → Still actor (duty_held w actor actor).back w (answer_unless b (duty_held w actor actor) results after)
  ended true results after still = still
  ended false results after still =
      still-then actor (duty_held w actor actor).back w after _ still (answered-still actor (duty_held w actor actor).back (duty_held w actor actor) (Some results) after (λ q a c. c))

  finished : (role : Role) (b : Bool) (back : ℕ) (results : List Value) → Keeps actor (duty_held w actor actor).back (change_of_end role back) w (finish role actor b back results w)
  finished role b back results = by role back
    where
      caller : ℕ
      caller = (duty_held w actor actor).back

      gone : World
      gone = end_process actor w

      still : Still actor caller w gone
      still = ended-still actor caller w

      readied : World
      readied = make_ready (instance_of_process w actor) gone

      waits : Waits actor caller w readied
      waits = waits-then actor caller w gone readied (waiting actor caller w gone still) (made_ready-waits actor caller (instance_of_process w actor) gone)

      initial : (b : Bool) → Waits actor caller w (answer_unless b (duty_held w actor actor) results readied)
      initial true = waits
      initial false =
          waits-then actor caller w readied _ waits (waiting actor caller readied _ (answered-still actor caller (duty_held w actor actor) (Some results) readied (λ q a c. c)))

      by : (role : Role) (back : ℕ) → Keeps actor caller (change_of_end role back) w (finish role actor b back results w)
      by Boot back = ended b results gone still
      by proc_role back = ended b results gone still
      by Initial back = initial b
      by Final zero = ended b results gone still
      by Final (suc n) = tt

  found : (caller name global machine : ℕ) (o : Option ℕ) → KeepsIf actor caller (λ a. Watched) w (ensure_found core name global w machine o)
  found caller name global machine None = waits-same actor caller w _ refl refl refl refl
  found caller name global machine (Some instance) = either actor caller (λ a. Watched) w (instance_ready (state_of w.places instance)) _ _ (waits-same actor caller w w refl refl refl refl) tt

  on-machine : (caller : ℕ) (place : Place) (target : Cap) (next : ℕ → Does) → ((machine : ℕ) → KeepsIf actor caller (λ a. Watched) w (next machine)) → KeepsIf actor caller (λ a. Watched) w (on_machine place target next)
  on-machine caller place cap.Null next h = tt
  on-machine caller place cap.Noop next h = tt
  on-machine caller place (cap.Op owner op) next h = tt
  on-machine caller place (cap.Res instance) next h = tt
  on-machine caller place (cap.Vm machine) next h = h machine

  -- what a request changes is what its step doesn't keep
  pub keeps : (me : Me) → me_of w actor ≡ me → me.process ≡ actor → (name : ℕ) (place : Place) (role : Role) (r : Request) → KeepsIf actor (caller_in w actor r) (change_by core me role r) w (done_by core w actor name place role r)
  keeps me is named name place role (request.Declare block var shape) =
      if-ok actor 0 (λ a. Variable block var) w place (declared_in w.variables block var shape) _
      (λ variables same. record { heard = heard-same actor 0 w (record w { variables = variables }) refl refl; pending = refl; cells = declared-apart w.variables variables block var shape same })
  keeps me is named name place role (request.Load block var path) = if-done actor 0 (λ a. Nothing) w place (loaded_in w.variables block var path) _ (λ value. still-same actor 0 w w refl refl refl refl refl)
  keeps me is named name place role (request.Store block var path value) =
      if-ok actor 0 (λ a. Variable block var) w place (stored_in w.variables block var path value) _
      (λ variables same. record { heard = heard-same actor 0 w (record w { variables = variables }) refl refl; pending = refl; cells = stored-apart w.variables variables block var path value same })
  keeps me is named name place role (request.Invoke target args wants) = invoked actor 0 w w (still-same actor 0 w w refl refl refl refl refl) core name place target args (duty_for wants actor name) (duty-apart 0 name wants)
  keeps me is named name place role (request.Select site env) = selects core w actor me is env (slice_get core.sites site)
  keeps me is named name place role (request.Take ids) = if-some actor 0 (λ a. Nothing) w (earliest_reply w.replies actor ids) _ (λ reply. taken-still actor 0 ids w)
  keeps me is named name place role (request.Reply held back results) =
      subst (λ p. Keeps actor (duty_held w actor held).back (change_of_reply role (held == p)) w (ready_after role (held == actor) actor (answer_held actor held results w))) (sym named) (replied role (held == actor) held results)
  keeps me is named name place role (request.Forward held back target args) =
      let released : World = release actor held w in
      let caller : ℕ = (duty_held w actor held).back in
      invoked actor caller w released (still-same actor caller w released refl refl refl refl refl) core name place target args (duty_held w actor held) (λ q a c. c)
  keeps me is named name place role (request.Count op) = if-some actor 0 (λ a. Nothing) w (slice_get core.operations op) _ (λ operation. still-same actor 0 w w refl refl refl refl refl)
  keeps me is named name place role (request.Write bytes) = still-same actor 0 w _ refl refl refl refl refl
  keeps me is named name place role (request.Read kind) = either actor 0 (λ a. Nothing) w (is_decided kind w.rest w.ended) _ _ (still-same actor 0 w _ refl refl refl refl refl) tt
  keeps me is named name place role (request.EnsureGlobal global vm) =
      if-some actor 0 (λ a. Watched) w (slice_get core.components global) _ (λ component. on-machine 0 place vm _ (λ machine. found 0 name global machine (global_in w.places global machine)))
  keeps me is named name place role (request.Create resource args vm) =
      if-some actor 0 (λ a. Watched) w (slice_get core.components resource) _
      (λ component. on-machine 0 place vm _ (λ machine. either actor 0 (λ a. Watched) w (needs_ready core w resource machine) _ _ (waits-same actor 0 w _ refl refl refl refl) tt))
  keeps me is named name place role request.MakeVm = still-same actor 0 w _ refl refl refl refl refl
  keeps me is named name place role (request.Destroy target) = any-everything actor 0 w (done_by core w actor name place role (request.Destroy target))
  keeps me is named name place role (request.Finish answered back results) = finished role answered back results
  keeps me is named name place role (request.Stop status) = any-everything actor 0 w (done_by core w actor name place role (request.Stop status))
  keeps me is named name place role (request.Fail fault) = tt
  keeps me is named name place role request.Age = still-same actor 0 w w refl refl refl refl refl
  keeps me is named name place role (request.Wake until) = either actor 0 (λ a. Nothing) w (nat_lt w.moment until) _ _ tt (still-same actor 0 w w refl refl refl refl refl)
