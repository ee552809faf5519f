-- The links of a step by the last items of each kind.
use Rattle.std.proofs.Common.{◌≡◌, ◌≢◌, ◌==◌, ◌<◌, ◌≤◌, ◌+◌, ◌⊎◌, inl, inr, ⊎_elim, ℕ, zero, suc, Bool, true, false, List, [], ◌∷◌, take, Option, Some, None, length, refl, ap, sym, ◌∙◌, subst, arith, eq-eqb, true≢false}
use Rattle.std.proofs.lemmas.Bool.{cases_order}
use Rattle.std.specs.List.{list_any}
use Rattle.std.specs.Prelude.{◌||◌, if◌then◌else◌, Contains, find, slice_get, unwrap_or}
use Rattle.sr_ask.specs.Items.{actor_of}
use Rattle.sr_ask.specs.declared.answer.Answer.TheVariants as answer
use Rattle.sr_ask.specs.declared.ask.Ask.{Ask}
use Rattle.sr_ask.specs.declared.ask.Asks.{Asks}
use Rattle.sr_ask.specs.declared.ask.Asks.TheVariants.{Asked, OverTicks}
use Rattle.sr_ask.specs.declared.ask.Role.{Role}
use Rattle.sr_ask.specs.declared.item.Item.TheVariants.{Step}
use Rattle.sr_ask.specs.declared.request.Request.{Request}
use Rattle.sr_ask.specs.declared.request.Request.TheVariants as request
use Rattle.sr_ask.specs.declared.start.Start.{Start}
use Rattle.sr_calls.specs.Calls.{answers_one, earliest_reply, items_of}
use Rattle.sr_calls.specs.declared.held.Reply.{Reply}
use Rattle.sr_clock_rows.specs.Lasts.{IsLast, IsLastIf, last_in}
use Rattle.sr_clocks.specs.Clocks.{IsNext}
use Rattle.sr_core.specs.declared.component.Component.{Component}
use Rattle.sr_core.specs.declared.component.Core.{Core}
use Rattle.sr_instances.specs.Instances.{state_of}
use Rattle.sr_replay.specs.Naming.{ask_of, asked_from, asked_in, named_at, number_by, number_from}
use Rattle.sr_value.specs.declared.capability.Cap.TheVariants as cap
use Rattle.sr_value.specs.declared.place.Place.{Place}
use Rattle.sr_world.specs.Does.{Cannot, Did, where_some}
use Rattle.sr_world.specs.Making.{is_ready}
use Rattle.sr_world.specs.Runs.{Goes, State, asks_for, asks_next, is_legal, next, step_of, stepped}
use Rattle.sr_world.specs.Steps.{does, done_by, ensure_found, on_machine, ensure_on, take as taking}
use Rattle.sr_world.specs.Updates.{drop_reply}
use Rattle.sr_world.specs.Worlds.{started}
use Rattle.sr_world.proofs.CallLemmas.{items-empty}
use Rattle.sr_races.specs.Items.{Run, Since, actor_at, actors, answered_at, answered_by, asked_at, asked_by, asks, asks_at, number_at, passes, passes_at, stands_after}
use Rattle.sr_races.specs.Links.{IsAnswer, IsMaking, IsReadiness, IsService, global_asked, global_at, global_by, has_reply, instance_ready, is_take}
use Rattle.sr_world.specs.Deciding.{is_select}
use Rattle.sr_races.specs.Origins.{AreOrigins, duty_at, listed, made_if, only_if, readied_at}
use Rattle.sr_races.specs.declared.origins.Origins.{Origins}
use Rattle.sr_races.proofs.AnswerLemmas.{answer-last, ready-last, ready-number, reply-number}
use Rattle.sr_races.proofs.StandLemmas.{all-before, got-map, next-at, number-once, since-last, sound-at}

-- ---- lists of at most one

pub listed-is : (o : Option ℕ) (i : ℕ) → Contains (listed o) i → o ≡ Some i
listed-is None i (k, less, is) = absurd (omega arith)
listed-is (Some x) i (zero, less, is) = ap Some is
listed-is (Some x) i (suc k, less, is) = absurd (omega arith)

pub is-listed : (o : Option ℕ) (i : ℕ) → o ≡ Some i → Contains (listed o) i
is-listed o i is = subst (λ p. Contains (listed p) i) (sym is) (0, omega arith, refl)

-- ---- the last of items

pub last-same : (numbers : ℕ → ℕ) (count number i : ℕ) (o : Option ℕ) → IsLast numbers count number i → IsLastIf numbers count number o → o ≡ Some i
last-same numbers count number i None last none = absurd (none i last.earlier last.has)
last-same numbers count number i (Some k) last other = ⊎_elim (λ e. ap Some (sym e))
    (⊎_elim (λ less. absurd (last.none_later k less other.earlier other.has)) (λ more. absurd (other.none_later i more last.earlier last.has)))
    (cases_order i k)

pub last-is : (numbers : ℕ → ℕ) (count number i : ℕ) (o : Option ℕ) → IsLastIf numbers count number o → o ≡ Some i → IsLast numbers count number i
last-is numbers count number i o last is = subst (λ p. IsLastIf numbers count number p) is last

-- ---- what a step that is one asks and is answered

-- the process asks this
asking-step : (core : Core) (limit : ℕ) (state : State) (p name : ℕ) (ask : Ask) → asked_in core limit state p ≡ Some ask
    → (next core limit state (Step p name) ≡ stepped state p name (does core state.world p ask name)) × (named_at core limit state (Step p name) ≡ number_by (does core state.world p ask name))
asking-step core limit state p name ask asked = by (started state.world p) refl asked
  where
    found : (start : Start) (asks : Asks) → started state.world p ≡ Some start → asks_next core limit state start ≡ asks → ask_of asks ≡ Some ask
        → (next core limit state (Step p name) ≡ stepped state p name (does core state.world p ask name)) × (named_at core limit state (Step p name) ≡ number_by (does core state.world p ask name))
    found start (Asked other) lives asks is =
        let same : other ≡ ask = cc in
        let asks-this : asks_next core limit state start ≡ Asked ask = asks ∙ ap Asked same in (
          ap (step_of core limit state p name) lives ∙ ap (λ a. stepped state p name (asks_for core state.world p name a)) asks-this,
          ap (number_from core limit state p name) lives ∙ ap (λ a. number_by (asks_for core state.world p name a)) asks-this,
        )
    found start OverTicks lives asks is = absurd (cc)

    by : (o : Option Start) → started state.world p ≡ o → asked_from core limit state o ≡ Some ask
        → (next core limit state (Step p name) ≡ stepped state p name (does core state.world p ask name)) × (named_at core limit state (Step p name) ≡ number_by (does core state.world p ask name))
    by None lives is = absurd (cc)
    by (Some start) lives is = found start (asks_next core limit state start) lives refl is

found-any : {A : Type 0} (t u : A → Bool) (xs : List A) (x : A) → find t xs ≡ Some x → u x ≡ true → list_any u xs ≡ true
found-any t u [] x is passes = absurd (cc)
found-any t u (y ∷ ys) x is passes = by (found-any t u ys x) (t y) is
  where
    or-right : (b : Bool) → list_any u ys ≡ true → (b || list_any u ys) ≡ true
    or-right true h = refl
    or-right false h = h

    by : (find t ys ≡ Some x → u x ≡ true → list_any u ys ≡ true) → (b : Bool) → (if b then Some y else find t ys) ≡ Some x → list_any u (y ∷ ys) ≡ true
    by more true h = let same : y ≡ x = cc in ap (λ b. (b || list_any u ys)) (ap u same ∙ passes)
    by more false h = or-right (u y) (more h passes)

-- what is taken is a reply that waits
take-found : (state : State) (p name : ℕ) (ids : List ℕ) → is_legal (stepped state p name (taking p ids state.world)) ≡ true → has_reply p (number_by (taking p ids state.world)) state.world ≡ true
take-found state p name ids legal = by (earliest_reply state.world.replies p ids) refl legal
  where
    by : (o : Option Reply) → earliest_reply state.world.replies p ids ≡ o
        → is_legal (stepped state p name (where_some o (λ reply. Did (drop_reply p ids state.world) (answer.Took reply.id reply.results)))) ≡ true
        → has_reply p (number_by (where_some o (λ reply. Did (drop_reply p ids state.world) (answer.Took reply.id reply.results)))) state.world ≡ true
    by None found legal = absurd (true≢false (sym legal))
    by (Some reply) found legal = found-any (answers_one ids) (λ (r : Reply). r.id == reply.id) (items_of state.world.replies p) reply found (eq-eqb reply.id reply.id refl)

takes-reply : (core : Core) (state : State) (p name : ℕ) (place : Place) (role : Role) (r : Request) → is_take r ≡ true
    → is_legal (stepped state p name (done_by core state.world p name place role r)) ≡ true → has_reply p (number_by (done_by core state.world p name place role r)) state.world ≡ true
takes-reply core state p name place role (request.Take ids) is legal = take-found state p name ids legal
takes-reply core state p name place role (request.Declare block var shape) is legal = absurd (true≢false (sym is))
takes-reply core state p name place role (request.Load block var path) is legal = absurd (true≢false (sym is))
takes-reply core state p name place role (request.Store block var path value) is legal = absurd (true≢false (sym is))
takes-reply core state p name place role (request.Invoke target args wants) is legal = absurd (true≢false (sym is))
takes-reply core state p name place role (request.Select site env) is legal = absurd (true≢false (sym is))
takes-reply core state p name place role (request.Reply held back results) is legal = absurd (true≢false (sym is))
takes-reply core state p name place role (request.Forward held back target args) is legal = absurd (true≢false (sym is))
takes-reply core state p name place role (request.Count op) is legal = absurd (true≢false (sym is))
takes-reply core state p name place role (request.Write bytes) is legal = absurd (true≢false (sym is))
takes-reply core state p name place role (request.Read kind) is legal = absurd (true≢false (sym is))
takes-reply core state p name place role (request.EnsureGlobal global vm) is legal = absurd (true≢false (sym is))
takes-reply core state p name place role (request.Create resource args vm) is legal = absurd (true≢false (sym is))
takes-reply core state p name place role request.MakeVm is legal = absurd (true≢false (sym is))
takes-reply core state p name place role (request.Destroy target) is legal = absurd (true≢false (sym is))
takes-reply core state p name place role (request.Finish answered back results) is legal = absurd (true≢false (sym is))
takes-reply core state p name place role (request.Stop status) is legal = absurd (true≢false (sym is))
takes-reply core state p name place role (request.Fail fault) is legal = absurd (true≢false (sym is))
takes-reply core state p name place role request.Age is legal = absurd (true≢false (sym is))
takes-reply core state p name place role (request.Wake until) is legal = absurd (true≢false (sym is))

-- a global that stands is ready where it is answered for
global-ready : (core : Core) (state : State) (p name : ℕ) (place : Place) (role : Role) (r : Request) (x : ℕ) → global_asked state.world r ≡ Some x
    → is_legal (stepped state p name (done_by core state.world p name place role r)) ≡ true → instance_ready x state.world ≡ true
global-ready core state p name place role (request.EnsureGlobal global cap.Null) x is legal = absurd (cc)
global-ready core state p name place role (request.EnsureGlobal global cap.Noop) x is legal = absurd (cc)
global-ready core state p name place role (request.EnsureGlobal global (cap.Op owner op)) x is legal = absurd (cc)
global-ready core state p name place role (request.EnsureGlobal global (cap.Res instance)) x is legal = absurd (cc)
global-ready core state p name place role (request.EnsureGlobal global (cap.Vm machine)) x is legal = by (slice_get core.components global) legal
  where
    ready : (b : Bool) → is_legal (stepped state p name (if b then Did state.world answer.Ready else Cannot)) ≡ true → b ≡ true
    ready true h = refl
    ready false h = absurd (true≢false (sym h))

    by : (o : Option Component) → is_legal (stepped state p name (where_some o (λ component. on_machine place (cap.Vm machine) (ensure_on core name global state.world)))) ≡ true → instance_ready x state.world ≡ true
    by None h = absurd (true≢false (sym h))
    by (Some component) h =
        ready (is_ready (state_of state.world.places x)) (sym (ap (λ o. is_legal (stepped state p name (ensure_found core name global state.world machine o))) is) ∙ h)
global-ready core state p name place role (request.Declare block var shape) x is legal = absurd (cc)
global-ready core state p name place role (request.Load block var path) x is legal = absurd (cc)
global-ready core state p name place role (request.Store block var path value) x is legal = absurd (cc)
global-ready core state p name place role (request.Invoke target args wants) x is legal = absurd (cc)
global-ready core state p name place role (request.Select site env) x is legal = absurd (cc)
global-ready core state p name place role (request.Reply held back results) x is legal = absurd (cc)
global-ready core state p name place role (request.Forward held back target args) x is legal = absurd (cc)
global-ready core state p name place role (request.Count op) x is legal = absurd (cc)
global-ready core state p name place role (request.Write bytes) x is legal = absurd (cc)
global-ready core state p name place role (request.Read kind) x is legal = absurd (cc)
global-ready core state p name place role (request.Take ids) x is legal = absurd (cc)
global-ready core state p name place role (request.Create resource args vm) x is legal = absurd (cc)
global-ready core state p name place role request.MakeVm x is legal = absurd (cc)
global-ready core state p name place role (request.Destroy target) x is legal = absurd (cc)
global-ready core state p name place role (request.Finish answered back results) x is legal = absurd (cc)
global-ready core state p name place role (request.Stop status) x is legal = absurd (cc)
global-ready core state p name place role (request.Fail fault) x is legal = absurd (cc)
global-ready core state p name place role request.Age x is legal = absurd (cc)
global-ready core state p name place role (request.Wake until) x is legal = absurd (cc)

-- ---- at the beginning

no-reply : (r : Run) (p id : ℕ) → passes_at r 0 (has_reply p id) ≡ false
no-reply r p id = ap (list_any (λ (reply : Reply). reply.id == id)) (items-empty {A = Reply} p)

not-ready : (r : Run) (x : ℕ) → passes_at r 0 (instance_ready x) ≡ false
not-ready r x = refl

-- ---- the links of a step

module _ (r : Run) (j : ℕ) (origins : Origins) (tables : AreOrigins r j origins) (state : State) (at : stands_after r j ≡ Goes state) (within : j < length r.items) (p name : ℕ)
    (is : slice_get r.items j ≡ Some (Step p name)) (ask : Ask) (asked : asked_at r j ≡ Some ask) (some : 0 < p) (legal : is_legal (stands_after r (j + 1)) ≡ true) where
  actor-is : actor_at r j ≡ p
  actor-is = got-map actor_of r.items j (Step p name) is

  -- the number that its answer names
  abbrev pub n : ℕ
  n = named_at r.core r.limit state (Step p name)

  answered-is : answered_at r j ≡ n
  answered-is = ap (λ now. answered_by r.core r.limit now (slice_get r.items j)) at ∙ ap (answered_by r.core r.limit (Goes state)) is

  asked-here : asked_in r.core r.limit state p ≡ Some ask
  asked-here = sym (ap (λ now. asked_by r.core r.limit now (slice_get r.items j)) at ∙ ap (asked_by r.core r.limit (Goes state)) is) ∙ asked

  step-legal : is_legal (stepped state p name (does r.core state.world p ask name)) ≡ true
  step-legal = sym (ap is_legal (asking-step r.core r.limit state p name ask asked-here).0) ∙ sym (ap is_legal (next-at r j (Step p name) state is at)) ∙ legal

  asks-is : (test : Request → Bool) → asks_at r j test ≡ test ask.request
  asks-is test = ap (asks test) asked

  legal-at : (k : ℕ) → k ≤ j → is_legal (stands_after r (k + 1)) ≡ true
  legal-at k less = by k (all-before r (j + 1) (k + 1) (omega arith) (omega arith) legal)
    where
      by : (k : ℕ) → (k + 1 ≡ j + 1) ⊎ ((s : State) × (stands_after r (k + 1) ≡ Goes s)) → is_legal (stands_after r (k + 1)) ≡ true
      by k (inl e) = ap (λ m. is_legal (stands_after r m)) e ∙ legal
      by k (inr goes) = ap is_legal goes.1

  -- the one item that gave out a number
  maker-is : (i m : ℕ) → 0 < m → i < j → number_at r i ≡ m → last_in origins.makers m ≡ Some i
  maker-is i m positive less has = last-same (number_at r) j m i (last_in origins.makers m)
      (record { earlier = less; has = has; none_later = λ k more short. number-once r i k m positive has more (omega arith) (legal-at k (omega arith)) }) (tables.makers.each m positive)

  -- ---- kinds

  pub next-in : (i : ℕ) → IsNext (actors r) i j → last_in origins.lasts p ≡ Some i
  next-in i next = last-same (actor_at r) j p i (last_in origins.lasts p)
      (record { earlier = next.later; has = next.same ∙ actor-is; none_later = λ k more short e. next.none_between k more short (e ∙ sym actor-is) }) (tables.lasts.each p some)

  pub next-of : (i : ℕ) → last_in origins.lasts p ≡ Some i → IsNext (actors r) i j
  next-of i is-last =
      let last = last-is (actor_at r) j p i (last_in origins.lasts p) (tables.lasts.each p some) is-last in
      record { later = last.earlier; some = subst (λ m. 0 < m) (sym actor-is) some; same = last.has ∙ sym actor-is; none_between = λ k more short e. last.none_later k more short (e ∙ actor-is) }

  pub making-in : (i : ℕ) → i < j → IsMaking r i j → made_if (last_in origins.lasts p) (last_in origins.makers p) ≡ Some i
  making-in i less making = by (last_in origins.lasts p) (tables.lasts.each p some)
    where
      by : (o : Option ℕ) → IsLastIf (actor_at r) j p o → made_if o (last_in origins.makers p) ≡ Some i
      by None none = maker-is i p some less (making.makes ∙ actor-is)
      by (Some k) last = absurd (making.first k last.earlier (last.has ∙ sym actor-is))

  pub making-of : (i : ℕ) → made_if (last_in origins.lasts p) (last_in origins.makers p) ≡ Some i → (i < j) × IsMaking r i j
  making-of i is-made = by (last_in origins.lasts p) (tables.lasts.each p some) is-made
    where
      by : (o : Option ℕ) → IsLastIf (actor_at r) j p o → made_if o (last_in origins.makers p) ≡ Some i → (i < j) × IsMaking r i j
      by None none h =
          let last = last-is (number_at r) j p i (last_in origins.makers p) (tables.makers.each p some) h in
          (last.earlier, record { some = subst (λ m. 0 < m) (sym actor-is) some; makes = last.has ∙ sym actor-is; first = λ k short e. none k short (e ∙ actor-is) })
      by (Some k) last h = absurd (cc)

  pub service-in : (i : ℕ) → i < j → IsService r i j → only_if (is_select ask.request) (last_in origins.makers n) ≡ Some i
  service-in i less service =
      ap (λ b. only_if b (last_in origins.makers n)) (sym (asks-is is_select) ∙ service.services)
      ∙ maker-is i n (subst (λ m. 0 < m) answered-is service.some) less (service.makes ∙ answered-is)

  pub service-of : (i : ℕ) → only_if (is_select ask.request) (last_in origins.makers n) ≡ Some i → (i < j) × IsService r i j
  service-of i is-serviced = by (is_select ask.request) refl is-serviced
    where
      positive : last_in origins.makers n ≡ Some i → 0 < n
      positive h = cases n h
        where
          cases : (m : ℕ) → last_in origins.makers m ≡ Some i → 0 < m
          cases zero h = absurd (let no : None ≡ Some i = sym tables.makers.none ∙ h in cc)
          cases (suc m) h = omega arith

      by : (b : Bool) → is_select ask.request ≡ b → only_if b (last_in origins.makers n) ≡ Some i → (i < j) × IsService r i j
      by true selects h =
          let last = last-is (number_at r) j n i (last_in origins.makers n) (tables.makers.each n (positive h)) h in
          (last.earlier, record { some = subst (λ m. 0 < m) (sym answered-is) (positive h); makes = last.has ∙ sym answered-is; services = asks-is is_select ∙ selects })
      by false selects h = absurd (cc)

  pub answer-in : (i : ℕ) → i < j → IsAnswer r i j → only_if (is_take ask.request) (last_in origins.answerers n) ≡ Some i
  answer-in i less answers =
      let since : Since r i j (has_reply p n) = subst (λ m. Since r i j (has_reply m n)) actor-is (subst (λ m. Since r i j (has_reply (actor_at r j) m)) answered-is answers.waits) in
      let here : has_reply p n state.world ≡ true = sym (ap (λ now. passes now (has_reply p n)) at) ∙ since.after j less (omega arith) in
      ap (λ b. only_if b (last_in origins.answerers n)) (sym (asks-is is_take) ∙ answers.takes)
      ∙ last-same (duty_at r) j n i (last_in origins.answerers n) (answer-last r i j p n less within since)
      (tables.answerers.each n (reply-number (take j r.items) state (sound-at r j state at) p n here))

  pub answer-of : (i : ℕ) → only_if (is_take ask.request) (last_in origins.answerers n) ≡ Some i → (i < j) × IsAnswer r i j
  answer-of i is-answered = by (is_take ask.request) refl is-answered
    where
      by : (b : Bool) → is_take ask.request ≡ b → only_if b (last_in origins.answerers n) ≡ Some i → (i < j) × IsAnswer r i j
      by true takes h =
          let has = takes-reply r.core state p name ask.place ask.role ask.request takes step-legal in
          let here : has_reply p n state.world ≡ true = subst (λ m. has_reply p m state.world ≡ true) (sym (asking-step r.core r.limit state p name ask asked-here).1) has in
          let now : passes_at r j (has_reply p n) ≡ true = ap (λ s. passes s (has_reply p n)) at ∙ here in
          let last = since-last r (has_reply p n) j j (omega arith) (λ k more short. let k-is : k ≡ j = omega arith in subst (λ m. passes_at r m (has_reply p n) ≡ true) (sym k-is) now) (no-reply r p n) in
          let found = last-same (duty_at r) j n last.0 (last_in origins.answerers n) (answer-last r last.0 j p n last.1 within last.2)
          (tables.answerers.each n (reply-number (take j r.items) state (sound-at r j state at) p n here)) in
          let same : last.0 ≡ i = cc in
          let since : Since r i j (has_reply p n) = subst (λ k. Since r k j (has_reply p n)) same last.2 in (
            subst (λ k. k < j) same last.1,
            record {
              takes = asks-is is_take ∙ takes;
              waits = subst (λ m. Since r i j (has_reply (actor_at r j) m)) (sym answered-is) (subst (λ m. Since r i j (has_reply m n)) (sym actor-is) since);
            },
          )
      by false takes h = absurd (cc)

  -- the instance of the global that it asks for
  abbrev pub global : ℕ
  global = unwrap_or (global_asked state.world ask.request) 0

  global-is : global_at r j ≡ global_asked state.world ask.request
  global-is = ap (λ now. global_by now (asked_at r j)) at ∙ ap (global_by (Goes state)) asked

  pub readiness-in : (i : ℕ) → i < j → IsReadiness r i j → last_in origins.readiers global ≡ Some i
  readiness-in i less ready =
      let asks-for-it : global_asked state.world ask.request ≡ Some ready.instance = sym global-is ∙ ready.asked in
      let here : instance_ready ready.instance state.world ≡ true = sym (ap (λ now. passes now (instance_ready ready.instance)) at) ∙ ready.ready.after j less (omega arith) in
      ap (λ o. last_in origins.readiers (unwrap_or o 0)) asks-for-it
      ∙ last-same (readied_at r) j ready.instance i (last_in origins.readiers ready.instance) (ready-last r i j ready.instance less within ready.ready)
      (tables.readiers.each ready.instance (ready-number r j ready.instance state at here))

  pub readiness-of : (i : ℕ) → last_in origins.readiers global ≡ Some i → (i < j) × IsReadiness r i j
  readiness-of i is-ready = by (global_asked state.world ask.request) refl is-ready
    where
      by : (o : Option ℕ) → global_asked state.world ask.request ≡ o → last_in origins.readiers (unwrap_or o 0) ≡ Some i → (i < j) × IsReadiness r i j
      by None asks-none h = absurd (let no : None ≡ Some i = sym tables.readiers.none ∙ h in cc)
      by (Some x) asks-x h =
          let here = global-ready r.core state p name ask.place ask.role ask.request x asks-x step-legal in
          let now : passes_at r j (instance_ready x) ≡ true = ap (λ s. passes s (instance_ready x)) at ∙ here in
          let last = since-last r (instance_ready x) j j (omega arith) (λ k more short. let k-is : k ≡ j = omega arith in subst (λ m. passes_at r m (instance_ready x) ≡ true) (sym k-is) now) (not-ready r x) in
          let found = last-same (readied_at r) j x last.0 (last_in origins.readiers x) (ready-last r last.0 j x last.1 within last.2) (tables.readiers.each x (ready-number r j x state at here)) in
          let same : last.0 ≡ i = cc in
          (subst (λ k. k < j) same last.1, record { instance = x; asked = global-is ∙ asks-x; ready = subst (λ k. Since r k j (instance_ready x)) same last.2 })
