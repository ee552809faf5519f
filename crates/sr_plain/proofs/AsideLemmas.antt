-- Who is aside stays so, where it isn't woken.
use Rattle.std.proofs.Common.{◌≡◌, ◌≢◌, ◌<◌, ◌⊎◌, inl, inr, ℕ, ◌==◌, ◌||◌, Bool, true, false, cond, List, [], ◌∷◌, ◌++◌, Option, None, Some, refl, ap, sym, ◌∙◌, subst, eq-eqb, eqb-true, true≢false, arith}
use Rattle.std.specs.BTreeSet.{BTreeSet, contains}
use Rattle.std.specs.HashMap.{get}
use Rattle.std.specs.Ordering.{nat_cmp}
use Rattle.std.specs.Prelude.{Result, Ok, Err, filter, find, option_map, slice_get, unwrap_or}
use Rattle.sr_ask.specs.declared.answer.Answer.{Answer}
use Rattle.sr_ask.specs.declared.ask.Ask.{Ask}
use Rattle.sr_ask.specs.declared.ask.Asks.TheVariants.{Asked}
use Rattle.sr_ask.specs.declared.request.Request.{Request}
use Rattle.sr_ask.specs.declared.request.Request.TheVariants as request
use Rattle.sr_ask.specs.declared.start.Start.{Start}
use Rattle.sr_core.specs.declared.component.Core.{Core}
use Rattle.sr_core.specs.declared.component.Operation.{Operation}
use Rattle.sr_core.specs.declared.owner.Me.{Me}
use Rattle.sr_core.specs.declared.site.Site.{Site}
use Rattle.sr_meaning.specs.Processes.{ask}
use Rattle.sr_processes.specs.Living.{is_process}
use Rattle.sr_queue.specs.Classes.{class_of, same_class}
use Rattle.sr_queue.specs.Queues.{is_of}
use Rattle.sr_queue.specs.declared.class.Class.{Class}
use Rattle.sr_select.proofs.MoreLemmas.{reads-more}
use Rattle.sr_select.specs.Choices.{owner_in}
use Rattle.sr_select.specs.Guards.{guard_block, home_seen}
use Rattle.sr_value.specs.declared.capability.Owner.{Owner}
use Rattle.sr_value.specs.declared.fault.Fault.{Fault}
use Rattle.sr_value.specs.declared.value.Value.{Value}
use Rattle.sr_world.proofs.StepLemmas.{same-step}
use Rattle.sr_world.specs.Acting.{Acts}
use Rattle.sr_world.specs.Deciding.{can_do}
use Rattle.sr_world.specs.Does.{Does, Did, Makes, Cannot, Ends, Undecided, IsNot, comes_to}
use Rattle.sr_world.specs.Runs.{State, asks_next, with_answer}
use Rattle.sr_world.specs.Selecting.{me_of}
use Rattle.sr_world.specs.Steps.{does, done_by}
use Rattle.sr_world.specs.Worlds.{World, started}
use Rattle.sr_world.specs.declared.acted.Acted.{Acted}
use Rattle.sr_world.specs.declared.acted.Acted.TheVariants as acted
use Rattle.sr_world.specs.Callers.{caller_in}
use Rattle.sr_plain.specs.Changes.{change_of, gone_by}
use Rattle.sr_plain.specs.Noting.{IsSetAside, NotesBy}
use Rattle.sr_plain.specs.Ready.{AreAside, IsAside, IsIdle, IsNoted, me_at}
use Rattle.sr_plain.specs.Order.{Ascend}
use Rattle.sr_plain.specs.Readiness.{holds}
use Rattle.sr_plain.specs.Waiting.{HasArm, IsPromoted, IsTakenOut, WaitsAtSite, WaitsFor, WaitsIdle, at_block, at_operation, is_among, is_closed, is_open_at, is_ready, same_variable, variable_of, waits, wakes, watching}
use Rattle.sr_plain.specs.Waking.{WakesUp}
use Rattle.sr_plain.specs.declared.change.Woken.{Woken}
use Rattle.sr_plain.specs.declared.waiters.Place.{Place}
use Rattle.sr_plain.specs.declared.waiters.Place.TheVariants.{Watched, Served, Stored, Idle}
use Rattle.sr_plain.specs.declared.waiters.Waiters.{Waiters}
use Rattle.sr_plain.proofs.ChangeLemmas.{Keeps, KeepsIf, keeps}
use Rattle.sr_plain.proofs.IdleLemmas.{cannot_none, none-pending-still, same-operation}
use Rattle.sr_plain.proofs.WakeLemmas.{as-before, still_waits}

-- ---- who is found

pub find-number : (live : List Start) (q : ℕ) (s : Start) → find (is_process q) live ≡ Some s → q ≡ s.process
find-number [] q s is = absurd (cc)
find-number (x ∷ xs) q s is = by (q == x.process) refl is (find-number xs q s)
  where
    by : (b : Bool) → (q == x.process) ≡ b → cond b (Some x) (find (is_process q) xs) ≡ Some s → (find (is_process q) xs ≡ Some s → q ≡ s.process) → q ≡ s.process
    by true same h more = let here : x ≡ s = cc in eqb-true q x.process same ∙ ap (λ (y : Start). y.process) here
    by false off h more = more h

-- who lives has a number above all that those before have
live-above : (low : ℕ) (live : List Start) (high q : ℕ) (s : Start) → Ascend low live high → find (is_process q) live ≡ Some s → low < s.process
live-above low [] high q s ascend is = absurd (cc)
live-above low (x ∷ xs) high q s ascend is = by (q == x.process) is (live-above x.process xs high q s ascend.1)
  where
    by : (b : Bool) → cond b (Some x) (find (is_process q) xs) ≡ Some s → (find (is_process q) xs ≡ Some s → x.process < s.process) → low < s.process
    by true h more = let here : x ≡ s = cc in subst (λ (y : Start). low < y.process) here ascend.0
    by false h more = let above = more h in let first = ascend.0 in omega arith

apart-number : (p q : ℕ) → p ≢ q → (p == q) ≡ false
apart-number p q off = by (p == q) refl
  where
    by : (b : Bool) → (p == q) ≡ b → b ≡ false
    by true is = absurd (off (eqb-true p q is))
    by false is = refl

apart-from : (p q : ℕ) → (p == q) ≡ false → q ≢ p
apart-from p q off same = true≢false (sym (eq-eqb p q (sym same)) ∙ off)

three-off : (a b c : Bool) → (a || (b || c)) ≡ false → (a ≡ false) × (b ≡ false) × (c ≡ false)
three-off true b c h = absurd (true≢false h)
three-off false true c h = absurd (true≢false h)
three-off false false true h = absurd (true≢false h)
three-off false false false h = (refl, refl, refl)

-- who waits at more places waits as before
module _ (me : Me) (at at' : Place → Bool) (more : (k : Place) → at k ≡ true → at' k ≡ true) where
  pub block-more : (var : ℕ) (block : Result ℕ Fault) → at_block at var block ≡ true → at_block at' var block ≡ true
  block-more var (Ok block) here = more (variable_of block var) here
  block-more var (Err fault) here = refl

  pub operation-more : (op : ℕ) (o : Option Operation) → at_operation at me op o ≡ true → at_operation at' me op o ≡ true
  operation-more op None here = refl
  operation-more op (Some operation) here = more _ here

  site-more : (core : Core) (env : List Value) (site : Site) → WaitsAtSite core me at env site → WaitsAtSite core me at' env site
  site-more core env site (inl here) = inl (more Watched here)
  site-more core env site (inr waits) = inr (record {
    arms = λ number arm is. more _ (waits.arms number arm is);
    names = reads-more (watching core me at site.names env) (watching core me at' site.names env)
        (λ home var here. block-more var (guard_block me (home_seen site.names env) home) here) (λ op here. operation-more op (slice_get core.operations op) here) site waits.names;
  })

waits-more : (core : Core) (me : Me) (at at' : Place → Bool) → ((k : Place) → at k ≡ true → at' k ≡ true) → (r : Request) → WaitsFor core me at r → WaitsFor core me at' r
waits-more core me at at' more (request.Declare block var shape) w = more Watched w
waits-more core me at at' more (request.Load block var path) w = more Watched w
waits-more core me at at' more (request.Store block var path value) w = more Watched w
waits-more core me at at' more (request.Invoke target args wants) w = more Watched w
waits-more core me at at' more (request.Select site env) w = λ s found. site-more me at at' more core env s (w s found)
waits-more core me at at' more (request.Take ids) w = tt
waits-more core me at at' more (request.Reply held back results) w = more Watched w
waits-more core me at at' more (request.Forward held back target args) w = more Watched w
waits-more core me at at' more (request.Count op) w = more Watched w
waits-more core me at at' more (request.Write bytes) w = more Watched w
waits-more core me at at' more (request.Read kind) w = more Watched w
waits-more core me at at' more (request.EnsureGlobal global vm) w = more Watched w
waits-more core me at at' more (request.Create resource args vm) w = more Watched w
waits-more core me at at' more request.MakeVm w = more Watched w
waits-more core me at at' more (request.Destroy target) w = more Watched w
waits-more core me at at' more (request.Finish answered back results) w = more Watched w
waits-more core me at at' more (request.Stop status) w = more Watched w
waits-more core me at at' more (request.Fail fault) w = more Watched w
waits-more core me at at' more request.Age w = more Watched w
waits-more core me at at' more (request.Wake until) w = tt

-- the same of a process that waits for invocations alone
idle-more : (core : Core) (me : Me) (at at' : Place → Bool) → ((k : Place) → at k ≡ true → at' k ≡ true) → (r : Request) → WaitsIdle core me at r → WaitsIdle core me at' r
idle-more core me at at' more r w = record { selects = w.selects; arms = λ number arm is. more _ (w.arms number arm is) }

module _ (core : Core) (limit : ℕ) (state : State) where
  abbrev Stays : Waiters → Start → Type 0
  Stays waiters s = IsAside core limit state waiters s ⊎ IsIdle core limit state waiters s

  waits-on : (old new : Waiters) (s : Start) → ((k : Place) → waits old k s.process ≡ true → waits new k s.process ≡ true) → Stays old s → Stays new s
  waits-on old new s more (inl was) = inl (record {
    asks = was.asks;
    asked = was.asked;
    cannot = was.cannot;
    waiting = waits-more core (me_at s) (λ k. waits old k s.process) (λ k. waits new k s.process) more was.asks.request was.waiting;
  })
  waits-on old new s more (inr was) = inr (record {
    asks = was.asks;
    asked = was.asked;
    waiting = idle-more core (me_at s) (λ k. waits old k s.process) (λ k. waits new k s.process) more was.asks.request was.waiting;
  })

  -- ---- what is done to the waiters

  pub aside_woken : (next : ℕ) → Ascend 0 state.world.live next → (old new : Waiters) (woken : Woken) → AreAside core limit state old (Some woken) → WakesUp state.world woken old new → AreAside core limit state new None
  aside_woken next ascend old new woken are wakes_up = record {
    closed = λ owner op p here off. let was = wakes_up.opens owner op p here in are.closed owner op p was.0 was.1;
    aside = λ q s lives unready unwoken.
        waits-on old new s
        (λ k here. subst (λ n. waits new k n ≡ true) (find-number state.world.live q s lives)
        (wakes_up.go_on.waiting q s lives unready k (subst (λ n. waits old k n ≡ true) (sym (find-number state.world.live q s lives)) here)))
        (are.aside q s lives (wakes_up.go_on.ready q s lives unready) (wakes_up.unwoken q s (subst (λ n. 0 < n) (sym (find-number state.world.live q s lives)) (live-above 0 state.world.live next q s ascend lives)) lives unready));
  }

  same-places : (p q : ℕ) (old new : Waiters) → IsTakenOut p old new → (k : Place) → waits old k q ≡ true → waits new k q ≡ true
  same-places p q old new out Watched here = ap (λ (s : BTreeSet ℕ). contains nat_cmp s q) out.watched ∙ here
  same-places p q old new out (Served class) here = ap (λ places. is_among (get same_class places class) q) out.classes ∙ here
  same-places p q old new out (Stored variable) here = ap (λ places. is_among (get same_variable places variable) q) out.variables ∙ here
  same-places p q old new out (Idle class) here =
      ap (λ places. is_among (get same_class places class) q || is_open_at new.opened class q) out.idle ∙ ap (λ opened. is_among (get same_class old.idle class) q || is_open_at opened class q) out.opened ∙ here

  same-closed : (p : ℕ) (old new : Waiters) → IsTakenOut p old new → (class : Class) (q : ℕ) → is_closed new class q ≡ true → is_closed old class q ≡ true
  same-closed p old new out class q here = sym (ap (λ places. is_among (get same_class places class) q) out.idle) ∙ here

  -- one that has ended is taken out
  pub aside_out : (p : ℕ) (old new : Waiters) → started state.world p ≡ None → IsTakenOut p old new → AreAside core limit state old None → AreAside core limit state new None
  aside_out p old new ended out are = record {
    closed = λ owner op q here off. are.closed owner op q (same-closed p old new out (class_of owner op) q here) refl;
    aside = λ q s lives unready unwoken.
        waits-on old new s (λ k here. same-places p s.process old new out k here)
        (are.aside q s lives (sym (out.others q (apart-number p q (λ same. never q s lives same))) ∙ unready) refl);
  }
    where
      never : (q : ℕ) (s : Start) → started state.world q ≡ Some s → p ≡ q → ⊥
      never q s lives same = let gone = ap (started state.world) same in let here = ended in absurd (cc)

  -- one of many is asked by itself
  pub aside_promoted : (p : ℕ) (old new : Waiters) → IsPromoted p old new → AreAside core limit state old None → AreAside core limit state new None
  aside_promoted p old new promoted are = record {
    aside = λ q s lives unready unwoken.
        waits-on old new s (λ k here. promoted.others k s.process (apart-number p s.process (λ same. never q s lives unready same)) here) (are.aside q s lives (promoted.unready q unready) refl);
    closed = λ owner op q here off. are.closed owner op q (sym (ap (λ places. is_among (get same_class places (class_of owner op)) q) promoted.idle) ∙ here) refl;
  }
    where
      never : (q : ℕ) (s : Start) → started state.world q ≡ Some s → is_ready new q ≡ false → p ≡ s.process → ⊥
      never q s lives unready same = true≢false (sym (subst (λ n. is_ready new n ≡ true) (same ∙ sym (find-number state.world.live q s lives)) promoted.ready) ∙ unready)

  -- one that can't go on is set aside
  pub aside_set : (start : Start) (asks : Ask) (old new : Waiters) → started state.world start.process ≡ Some start → asks_next core limit state start ≡ Asked asks
      → comes_to (does core state.world start.process asks 0) ≡ IsNot → IsSetAside core (me_at start) asks old new → AreAside core limit state old None → AreAside core limit state new None
  aside_set start asks old new lives asked cannot set are = record {
    aside = λ q s is unready unwoken. by q s is unready (start.process == q) refl;
    closed = λ owner op q here off. shut owner op q (set.waiting.closed (class_of owner op) q (same-closed start.process set.between new set.out (class_of owner op) q here));
  }
    where
      here-more : (k : Place) → waits set.between k start.process ≡ true → waits new k start.process ≡ true
      here-more k here = same-places start.process start.process set.between new set.out k here

      itself-by : WaitsFor core (me_at start) (λ k. waits set.between k start.process) asks.request ⊎ WaitsIdle core (me_at start) (λ k. waits set.between k start.process) asks.request → Stays new start
      itself-by (inl waits_for) = inl (record {
        asks = asks;
        asked = asked;
        cannot = cannot;
        waiting = waits-more core (me_at start) (λ k. waits set.between k start.process) (λ k. waits new k start.process) here-more asks.request waits_for;
      })
      itself-by (inr idle) = inr (record {
        asks = asks;
        asked = asked;
        waiting = idle-more core (me_at start) (λ k. waits set.between k start.process) (λ k. waits new k start.process) here-more asks.request idle;
      })

      itself : Stays new start
      itself = itself-by set.waiting.itself

      me-of : me_of state.world start.process ≡ me_at start
      me-of =
          let f : Option Start → Me = λ o. record { process = start.process; instance = unwrap_or (option_map (λ (s : Start). s.instance) o) 0 } in
          ap f lives

      -- of an operation that it may be served of no invocation is pending
      shut : (owner : Owner) (op q : ℕ) → (is_closed old (class_of owner op) q ≡ true) ⊎ HasArm core (me_at start) asks.request (class_of owner op) → filter (is_of owner op) state.world.pending ≡ []
      shut owner op q (inl was) = are.closed owner op q was refl
      shut owner op q (inr arm) =
          let selects = arm.selects in
          let same = same-operation owner (owner_in selects.site.scope (me_at start)) op arm.arm.op arm.is_class in
          let none = cannot_none core state.world start.process asks.place asks.role selects.number selects.env selects.site selects.found selects.simple
          (subst (λ r. comes_to (done_by core state.world start.process 0 asks.place asks.role r) ≡ IsNot) selects.is cannot) arm.number arm.arm arm.is_arm in
          subst (λ o. filter (is_of o op) state.world.pending ≡ []) (sym same.0)
          (subst (λ n. filter (is_of (owner_in selects.site.scope (me_at start)) n) state.world.pending ≡ []) (sym same.1)
          (subst (λ m. filter (is_of (owner_in selects.site.scope m) arm.arm.op) state.world.pending ≡ []) me-of none))

      by : (q : ℕ) (s : Start) → started state.world q ≡ Some s → is_ready new q ≡ false → (b : Bool) → (start.process == q) ≡ b → Stays new s
      by q s is unready true same =
          let number : start.process ≡ q = eqb-true start.process q same in
          let found : started state.world start.process ≡ Some s = subst (λ n. started state.world n ≡ Some s) (sym number) is in
          let one : start ≡ s = cc in
          subst (λ x. Stays new x) one itself
      by q s is unready false off =
          let was : is_ready old q ≡ false = sym (ap (λ r. holds r q) set.waiting.ready) ∙ sym (set.out.others q off) ∙ unready in
          waits-on old new s (λ k here. same-places start.process s.process set.between new set.out k (set.waiting.others k s.process here)) (are.aside q s is was refl)

  -- ---- input

  input-can : (w : World) (rest : List ℕ) (ended : Bool) (p : ℕ) (r : Request) → can_do core w p r ≡ can_do core (record w { rest = rest; ended = ended }) p r
  input-can w rest ended p (request.Declare block var shape) = refl
  input-can w rest ended p (request.Load block var path) = refl
  input-can w rest ended p (request.Store block var path value) = refl
  input-can w rest ended p (request.Invoke target args wants) = refl
  input-can w rest ended p (request.Select site env) = refl
  input-can w rest ended p (request.Take ids) = refl
  input-can w rest ended p (request.Reply held back results) = refl
  input-can w rest ended p (request.Forward held back target args) = refl
  input-can w rest ended p (request.Count op) = refl
  input-can w rest ended p (request.Write bytes) = refl
  input-can w rest ended p (request.Read kind) = refl
  input-can w rest ended p (request.EnsureGlobal global vm) = refl
  input-can w rest ended p (request.Create resource args vm) = refl
  input-can w rest ended p request.MakeVm = refl
  input-can w rest ended p (request.Destroy target) = refl
  input-can w rest ended p (request.Finish answered back results) = refl
  input-can w rest ended p (request.Stop status) = refl
  input-can w rest ended p (request.Fail fault) = refl
  input-can w rest ended p request.Age = refl
  input-can w rest ended p (request.Wake until) = refl

  pub aside_input : (rest : List ℕ) (ended : Bool) (waiters : Waiters) (woken : Option Woken) → AreAside core limit state waiters woken
      → AreAside core limit (record state { world = record state.world { rest = rest; ended = ended } }) waiters woken
  aside_input rest ended waiters woken are = record {
    aside = λ q s lives unready unwoken. still s (are.aside q s lives unready unwoken);
    closed = are.closed;
  }
    where
      still : (s : Start) → Stays waiters s
          → IsAside core limit (record state { world = record state.world { rest = rest; ended = ended } }) waiters s ⊎ IsIdle core limit (record state { world = record state.world { rest = rest; ended = ended } }) waiters s
      still s (inl was) = inl (record {
        asks = was.asks;
        asked = was.asked;
        cannot = as-before core state.world (record state.world { rest = rest; ended = ended }) s.process was.asks.place was.asks.role was.asks.request
            (input-can state.world rest ended s.process was.asks.request) was.cannot;
        waiting = was.waiting;
      })
      still s (inr was) = inr (record { asks = was.asks; asked = was.asked; waiting = was.waiting })

  -- ---- a step

  module _ (start : Start) (asks : Ask) (name : ℕ) (lives : started state.world start.process ≡ Some start) where
    me-is : me_of state.world start.process ≡ me_at start
    me-is =
        let f : Option Start → Me = λ o. record { process = start.process; instance = unwrap_or (option_map (λ (s : Start). s.instance) o) 0 } in
        ap f lives

    done-keeps : (new : World) (a : Answer) (d : Does) → KeepsIf start.process (caller_in state.world start.process asks.request) (change_of core (me_at start) asks) state.world d → Acts d state.world new (Ok (acted.Done a))
        → Keeps start.process (caller_in state.world start.process asks.request) (change_of core (me_at start) asks a) state.world new
    done-keeps new a (Did w g) k acts =
        subst (λ x. Keeps start.process (caller_in state.world start.process asks.request) (change_of core (me_at start) asks x) state.world new) (sym acts.1)
        (subst (λ x. Keeps start.process (caller_in state.world start.process asks.request) (change_of core (me_at start) asks g) state.world x) (sym acts.0) k)
    done-keeps new a (Makes w g) k acts =
        subst (λ x. Keeps start.process (caller_in state.world start.process asks.request) (change_of core (me_at start) asks x) state.world new) (sym acts.1)
        (subst (λ x. Keeps start.process (caller_in state.world start.process asks.request) (change_of core (me_at start) asks g) state.world x) (sym acts.0) k)
    done-keeps new a Cannot k acts = absurd acts
    done-keeps new a (Ends ending) k acts = absurd acts
    done-keeps new a Undecided k acts = absurd acts

    pub aside_step : (new : World) (a : Answer) (waiters : Waiters) → Acts (does core state.world start.process asks name) state.world new (Ok (acted.Done a))
        → ((q : ℕ) (s : Start) → started new q ≡ Some s → (started state.world q ≡ Some s) ⊎ (q ≡ name)) → is_ready waiters start.process ≡ true → AreAside core limit state waiters None
        → AreAside core limit (record { world = new; given = with_answer start.process a state.given }) waiters
        (Some (record { change = change_of core (me_at start) asks a; caller = caller_in state.world start.process asks.request; made = name; gone = gone_by asks.request start.process }))
    aside_step new a waiters acts left ready are = record {
      aside = λ q s is unready unwoken.
          stays q s is unready (three-off (wakes (change_of core (me_at start) asks a) (λ k. waits waiters k q)) (caller_in state.world start.process asks.request == q) (name == q) unwoken);
      closed = λ owner op q here off.
          none-pending-still start.process (caller_in state.world start.process asks.request) (change_of core (me_at start) asks a) state.world new kept owner op off (are.closed owner op q here refl);
    }
      where
        kept : Keeps start.process (caller_in state.world start.process asks.request) (change_of core (me_at start) asks a) state.world new
        kept = done-keeps new a (does core state.world start.process asks name) (keeps core state.world start.process (me_at start) me-is refl name asks.place asks.role asks.request) acts

        lived : (q : ℕ) (s : Start) → (name == q) ≡ false → (started state.world q ≡ Some s) ⊎ (q ≡ name) → started state.world q ≡ Some s
        lived q s off (inl was) = was
        lived q s off (inr named) = absurd (apart-from name q off named)

        stays : (q : ℕ) (s : Start) → started new q ≡ Some s → is_ready waiters q ≡ false
            → (wakes (change_of core (me_at start) asks a) (λ k. waits waiters k q) ≡ false) × ((caller_in state.world start.process asks.request == q) ≡ false) × ((name == q) ≡ false)
            → IsAside core limit (record { world = new; given = with_answer start.process a state.given }) waiters s ⊎ IsIdle core limit (record { world = new; given = with_answer start.process a state.given }) waiters s
        stays q s is unready off =
            let number : q ≡ s.process = find-number new.live q s is in
            let was : started state.world q ≡ Some s = lived q s off.2 (left q s is) in
            let not_actor : s.process ≢ start.process = (λ same. true≢false (sym ready ∙ ap (is_ready waiters) (sym same ∙ sym number) ∙ unready)) in
            let not_caller : s.process ≢ caller_in state.world start.process asks.request = (λ same. apart-from (caller_in state.world start.process asks.request) q off.1 (number ∙ same)) in
            elim (are.aside q s was unready refl) [
              | inl before ↦ inl (record {
                asks = before.asks;
                asked = ap (λ b. ask core s limit (cond b (state.given s.process ++ a ∷ []) (state.given s.process))) (apart-number s.process start.process not_actor) ∙ before.asked;
                cannot = still_waits core state.world new s (subst (λ n. started state.world n ≡ Some s) number was) (subst (λ n. started new n ≡ Some s) number is)
                    start.process (caller_in state.world start.process asks.request) not_actor not_caller (change_of core (me_at start) asks a) (λ k. waits waiters k s.process)
                    (subst (λ n. wakes (change_of core (me_at start) asks a) (λ k. waits waiters k n) ≡ false) number off.0) kept before.asks before.waiting before.cannot;
                waiting = before.waiting;
              })
              | inr before ↦ inr (record {
                asks = before.asks;
                asked = ap (λ b. ask core s limit (cond b (state.given s.process ++ a ∷ []) (state.given s.process))) (apart-number s.process start.process not_actor) ∙ before.asked;
                waiting = before.waiting;
              })
            ]

    -- ---- what is noted

    cannot-comes : (new : World) (d : Does) → does core state.world start.process asks name ≡ d → Acts d state.world new (Ok acted.Cannot) → comes_to (does core state.world start.process asks 0) ≡ IsNot
    cannot-comes new (Did w g) is acts = absurd acts
    cannot-comes new (Makes w g) is acts = absurd acts
    cannot-comes new Cannot is acts = same-step core state.world asks.place 0 name start.process asks.role asks.request ∙ ap comes_to is
    cannot-comes new (Ends ending) is acts = absurd acts
    cannot-comes new Undecided is acts = absurd acts

    module _ (caller : ℕ) (caller_is : caller ≡ caller_in state.world start.process asks.request) (old waiters : Waiters) (woken : Option Woken) (new : World) where
      pub noted_aside : (a : Acted) → asks_next core limit state start ≡ Asked asks → NotesBy core (me_at start) asks caller name a old waiters woken → Acts (does core state.world start.process asks name) state.world new (Ok a)
          → AreAside core limit state old None → AreAside core limit state waiters None
      noted_aside (acted.Done answer) asked notes acts are = subst (λ ws. AreAside core limit state ws None) (sym notes.0) are
      noted_aside acted.Cannot asked notes acts are = aside_set start asks old waiters lives asked (cannot-comes new (does core state.world start.process asks name) refl acts) notes.0 are
      noted_aside (acted.Ends ending) asked notes acts are = subst (λ ws. AreAside core limit state ws None) (sym notes.0) are
      noted_aside acted.Undecided asked notes acts are = subst (λ ws. AreAside core limit state ws None) (sym notes.0) are

      pub noted_is : (a : Acted) → NotesBy core (me_at start) asks caller name a old waiters woken → is_ready old start.process ≡ true → IsNoted core state.world start asks name a waiters woken
      noted_is (acted.Done answer) notes ready =
          (notes.1 ∙ ap (λ n. Some (record { change = change_of core (me_at start) asks answer; caller = n; made = name; gone = gone_by asks.request start.process })) caller_is, ap (λ (ws : Waiters). is_ready ws start.process) notes.0 ∙ ready)
      noted_is acted.Cannot notes ready = notes.1
      noted_is (acted.Ends ending) notes ready = notes.1
      noted_is acted.Undecided notes ready = notes.1
