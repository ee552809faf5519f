-- The item that makes a reply is the last that had the duty to it, and the one by which an instance becomes ready the last
-- by which it did.
use Rattle.std.proofs.Common.{◌≡◌, ◌≢◌, ◌==◌, ◌&&◌, ◌<◌, ◌≤◌, ◌+◌, ◌⊎◌, inl, inr, ⊎_elim, ℕ, zero, suc, Bool, true, false, not, cond, List, [], ◌∷◌, take, Option, Some, None, length, refl, ap, sym, ◌∙◌, subst, arith, eq-eqb, eqb-true, true≢false}
use Rattle.std.proofs.lemmas.Bool.{or_cases}
use Rattle.std.specs.List.{list_any}
use Rattle.std.specs.Option.{option_map}
use Rattle.std.specs.Prelude.{count_by, find, slice_get, unwrap_or}
use Rattle.sr_ask.specs.declared.ask.Ask.{Ask}
use Rattle.sr_ask.specs.declared.ask.Asks.{Asks}
use Rattle.sr_ask.specs.declared.ask.Asks.TheVariants.{Asked, OverTicks}
use Rattle.sr_ask.specs.declared.item.Item.{Item}
use Rattle.sr_ask.specs.declared.item.Item.TheVariants.{Step, Quiesce, Tick}
use Rattle.sr_ask.specs.declared.request.Request.{Request}
use Rattle.sr_ask.specs.declared.request.Request.TheVariants as request
use Rattle.sr_ask.specs.declared.start.Start.{Start}
use Rattle.sr_calls.specs.Calls.{held_as, is_held_as, items_of}
use Rattle.sr_calls.specs.declared.held.Held.{Held}
use Rattle.sr_calls.specs.declared.held.Reply.{Reply}
use Rattle.sr_clock_rows.specs.Lasts.{IsLast}
use Rattle.sr_core.specs.declared.component.Core.{Core}
use Rattle.sr_instances.specs.Instances.{Instance}
use Rattle.sr_replay.specs.Naming.{ask_of, asked_from, asked_in}
use Rattle.sr_world.specs.Answering.{duty_held, duty_of, no_duty}
use Rattle.sr_world.specs.Callers.{duty_by, waits_as}
use Rattle.sr_world.specs.Does.{Does, Did, Makes, Cannot, Ends, Undecided}
use Rattle.sr_world.specs.Endings.{quiesce}
use Rattle.sr_world.specs.Invoking.{instance_of_process}
use Rattle.sr_world.specs.Making.{is_ready}
use Rattle.sr_world.specs.Runs.{Goes, Illegal, Next, Over, State, asks_for, asks_next, comes_after, heeds_time, is_legal, is_new, next, no_step, rested, step_of, stepped, where_true, with_answer}
use Rattle.sr_world.specs.Sound.{IsSound, is_call, times_used}
use Rattle.sr_world.specs.Spots.{DutyOf, HeldBy, RepliedTo, is_duty, stands, tests_of}
use Rattle.sr_world.specs.Steps.{does, duty_for}
use Rattle.sr_world.specs.Updates.{pass_to}
use Rattle.sr_world.specs.Worlds.{World, is_live, started}
use Rattle.sr_world.specs.declared.duty.Duty.{Duty}
use Rattle.sr_world.specs.declared.ends.End.{End}
use Rattle.sr_world.proofs.CountLemmas.{count-cons, count-without_first, find-passes, one}
use Rattle.sr_world.proofs.KeepLemmas.{live-not-zero}
use Rattle.sr_world.proofs.RunLemmas.{kept-of}
use Rattle.sr_races.specs.Items.{Run, Since, asked_at, asked_by, passes, stands_after}
use Rattle.sr_races.specs.Links.{has_reply, instance_ready}
use Rattle.sr_races.specs.Origins.{becomes_ready, duty_at, duty_in, owed, readied_at, readied_by, readied_in}
use Rattle.sr_races.proofs.MoveLemmas.{Moves, MovesIf, moves, moves_at_rest}
use Rattle.sr_races.proofs.StandLemmas.{got-within, next-at, one-before, sound-at, unused-item}

-- ---- lists

any-counts : {A : Type 0} (t : A → Bool) (xs : List A) → list_any t xs ≡ true → 1 ≤ count_by t xs
any-counts t [] is = absurd (true≢false (sym is))
any-counts t (x ∷ xs) is = by (any-counts t xs) (or_cases (t x) (list_any t xs) is)
  where
    by : (list_any t xs ≡ true → 1 ≤ count_by t xs) → (t x ≡ true) ⊎ (list_any t xs ≡ true) → 1 ≤ count_by t (x ∷ xs)
    by more (inl here) = let same = ap one here in omega (arith, count-cons t x xs, same)
    by more (inr later) = omega (arith, count-cons t x xs, more later)

found-counts : {A : Type 0} (t u : A → Bool) (xs : List A) (x : A) → find t xs ≡ Some x → u x ≡ true → 1 ≤ count_by u xs
found-counts t u xs x is passes = let same = ap one passes in omega (arith, count-without_first u t xs x is, same)

-- ---- one step

goes-world : (b : Bool) (s later : State) → where_true b (Goes s) ≡ Goes later → s.world ≡ later.world
goes-world true s later is = let same : s ≡ later = cc in ap (λ (x : State). x.world) same
goes-world false s later is = absurd (cc)

never-goes : (b : Bool) (ending : End) (s later : State) → where_true b (Over ending s) ≡ Goes later → ⊥
never-goes true ending s later is = cc
never-goes false ending s later is = cc

-- what a step of a process that is one did
pub record Stepped (core : Core) (limit : ℕ) (state : State) (p name : ℕ) (later : World) : Type 0 where
  pub ask : Ask
  pub asked : asked_in core limit state p ≡ Some ask
  pub moves : Moves (duty_by state.world p name ask.request) (instance_of_process state.world p) state.world later

stepped-moves : (core : Core) (state : State) (p name : ℕ) (ask : Ask) (later : State) (d : Does) → MovesIf (duty_by state.world p name ask.request) (instance_of_process state.world p) state.world d
    → stepped state p name d ≡ Goes later → Moves (duty_by state.world p name ask.request) (instance_of_process state.world p) state.world later.world
stepped-moves core state p name ask later (Did w a) moves is =
    subst (λ (v : World). Moves (duty_by state.world p name ask.request) (instance_of_process state.world p) state.world v)
    (goes-world (name == 0) (record { world = w; given = with_answer p a state.given }) later is) moves
stepped-moves core state p name ask later (Makes w a) moves is =
    subst (λ (v : World). Moves (duty_by state.world p name ask.request) (instance_of_process state.world p) state.world v)
    (goes-world (is_new state.world name) (record { world = w; given = with_answer p a state.given }) later is) moves
stepped-moves core state p name ask later Cannot moves is = absurd (cc)
stepped-moves core state p name ask later (Ends ending) moves is = absurd (never-goes (name == 0) ending state later is)
stepped-moves core state p name ask later Undecided moves is = absurd (cc)

pub step-moves : (core : Core) (limit : ℕ) (state : State) (p name : ℕ) (later : State) → next core limit state (Step p name) ≡ Goes later → Stepped core limit state p name later.world
step-moves core limit state p name later is = by (started state.world p) refl is
  where
    asking : (start : Start) (asks : Asks) → started state.world p ≡ Some start → asks_next core limit state start ≡ asks → stepped state p name (asks_for core state.world p name asks) ≡ Goes later
        → Stepped core limit state p name later.world
    asking start (Asked ask) found asks is = record {
      ask = ask;
      asked = ap (asked_from core limit state) found ∙ ap ask_of asks;
      moves = stepped-moves core state p name ask later (does core state.world p ask name) (moves name state.world p core ask.place ask.role ask.request) is;
    }
    asking start OverTicks found asks is = absurd (cc)

    by : (o : Option Start) → started state.world p ≡ o → step_of core limit state p name o ≡ Goes later → Stepped core limit state p name later.world
    by None found is = absurd (cc)
    by (Some start) found is = asking start (asks_next core limit state start) found refl is

-- ---- a rest

rest-moves : (core : Core) (limit : ℕ) (duty : Duty) (instance : ℕ) (state : State) (name : ℕ) (later : State) → next core limit state (Quiesce name) ≡ Goes later → Moves duty instance state.world later.world
rest-moves core limit duty instance state name later is = by (no_step core limit state) is
  where
    does-so : (d : Does) → MovesIf duty instance state.world d → rested state name d ≡ Goes later → Moves duty instance state.world later.world
    does-so (Did w a) moves is = absurd (cc)
    does-so (Makes w a) moves is = subst (λ (v : World). Moves duty instance state.world v) (goes-world (is_new state.world name) (record state { world = w }) later is) moves
    does-so Cannot moves is = absurd (cc)
    does-so (Ends ending) moves is = absurd (never-goes (name == 0) ending state later is)
    does-so Undecided moves is = absurd (cc)

    by : (b : Bool) → where_true b (rested state name (quiesce core name state.world)) ≡ Goes later → Moves duty instance state.world later.world
    by true is = does-so (quiesce core name state.world) (moves_at_rest name state.world duty instance core) is
    by false is = absurd (cc)

-- ---- what stands in a world

pub passing : (now : Next) (test : World → Bool) → passes now test ≡ true → (state : State) × (now ≡ Goes state) × (test state.world ≡ true)
passing (Goes state) test is = (state, refl, is)
passing (Over ending state) test is = absurd (true≢false (sym is))
passing Illegal test is = absurd (true≢false (sym is))

failing : (now : Next) (test : World → Bool) (state : State) → now ≡ Goes state → passes now test ≡ false → test state.world ≡ false
failing now test state is none = sym (ap (λ n. passes n test) is) ∙ none

module _ (items : List Item) (state : State) (sound : IsSound items state) (p id : ℕ) (has : has_reply p id state.world ≡ true) where
  reply-stands : 1 ≤ stands (tests_of (DutyOf id)) state (RepliedTo p)
  reply-stands = any-counts (λ (reply : Reply). reply.id == id) (items_of state.world.replies p) has

  -- its number was given out
  reply-used : 1 ≤ times_used state.world id
  reply-used = let at_most : stands (tests_of (DutyOf id)) state (RepliedTo p) ≤ times_used state.world id = sound.duties.numbers (DutyOf id) (RepliedTo p) in omega (arith, reply-stands, at_most)

  pub reply-number : 0 < id
  reply-number = by id reply-used
    where
      by : (n : ℕ) → 1 ≤ times_used state.world n → 0 < n
      by zero used = absurd (omega (arith, used, sound.numbers.zero_never))
      by (suc n) used = omega arith

  -- its caller lives
  reply-lives : is_live state.world p ≡ true
  reply-lives = by (is_live state.world p) refl
    where
      by : (b : Bool) → is_live state.world p ≡ b → b ≡ true
      by true is = refl
      by false is = absurd (true≢false (sym has ∙ ap (list_any (λ (reply : Reply). reply.id == id)) (sound.processes.callers p is)))

  pub reply-caller : (p == 0) ≡ false
  reply-caller = live-not-zero (is_call items) state.given state.world p (kept-of items state sound) reply-lives

  -- nobody holds the duty to it
  held-elsewhere : (actor : ℕ) → 1 ≤ stands (tests_of (DutyOf id)) state (HeldBy actor) → ⊥
  held-elsewhere actor held = let same : RepliedTo p ≡ HeldBy actor = sound.duties.places (DutyOf id) (RepliedTo p) (HeldBy actor) (omega (arith, reply-stands)) (omega (arith, held)) in cc

  owed-held : (actor held : ℕ) → owed (waits_as (duty_held state.world actor held)) ≡ id → ⊥
  owed-held actor held is = by (held_as state.world.held actor held) refl is
    where
      some-held : (h : Held) → held_as state.world.held actor held ≡ Some h → (b : Bool) → (h.back == 0) ≡ b → owed (cond b None (Some (h.back, h.back_id))) ≡ id → ⊥
      some-held h found true none is = absurd (omega (arith, reply-number, is))
      some-held h found false some is =
          let marked : is_duty id h.back h.back_id ≡ true = ap (λ b. not b && (h.back_id == id)) some ∙ eq-eqb h.back_id id is in
          held-elsewhere actor (found-counts (is_held_as held) (λ (x : Held). is_duty id x.back x.back_id) (items_of state.world.held actor) h found marked)

      by : (o : Option Held) → held_as state.world.held actor held ≡ o → owed (waits_as (unwrap_or (option_map duty_of o) (no_duty held))) ≡ id → ⊥
      by None found is = omega (arith, reply-number, is)
      by (Some h) found is = some-held h found (h.back == 0) refl is

  -- neither does a request that is made now
  pub no-duty : (actor name : ℕ) (r : Request) → times_used state.world name ≡ 0 → owed (waits_as (duty_by state.world actor name r)) ≡ id → ⊥
  no-duty actor name r unused is = by r is
    where
      none : 0 ≡ id → ⊥
      none e = omega (arith, reply-number, e)

      own : (b : Bool) → (actor == 0) ≡ b → owed (cond b None (Some (actor, name))) ≡ id → ⊥
      own true zero-is e = none e
      own false some e = let used : 1 ≤ times_used state.world name = subst (λ n. 1 ≤ times_used state.world n) (sym e) reply-used in omega (arith, used, unused)

      wanted : (wants : Bool) → owed (waits_as (duty_for wants actor name)) ≡ id → ⊥
      wanted true e = own (actor == 0) refl e
      wanted false e = none e

      by : (r : Request) → owed (waits_as (duty_by state.world actor name r)) ≡ id → ⊥
      by (request.Declare block var shape) e = none e
      by (request.Load block var path) e = none e
      by (request.Store block var path value) e = none e
      by (request.Invoke target args wants) e = wanted wants e
      by (request.Select site env) e = none e
      by (request.Take ids) e = none e
      by (request.Reply held back results) e = owed-held actor held e
      by (request.Forward held back target args) e = owed-held actor held e
      by (request.Count op) e = none e
      by (request.Write bytes) e = none e
      by (request.Read kind) e = none e
      by (request.EnsureGlobal global vm) e = none e
      by (request.Create resource args vm) e = wanted true e
      by request.MakeVm e = none e
      by (request.Destroy target) e = wanted true e
      by (request.Finish true back results) e = none e
      by (request.Finish false back results) e = owed-held actor actor e
      by (request.Stop status) e = none e
      by (request.Fail fault) e = none e
      by request.Age e = none e
      by (request.Wake until) e = none e

-- ---- the item that makes a reply

owes-it : (duty : Duty) (p id : ℕ) → (p == 0) ≡ false → (duty.back ≡ p) × (duty.back_id ≡ id) → owed (waits_as duty) ≡ id
owes-it duty p id caller owes =
    let some : (duty.back == 0) ≡ false = subst (λ n. (n == 0) ≡ false) (sym owes.0) caller in
    ap (λ b. owed (cond b None (Some (duty.back, duty.back_id)))) some ∙ owes.1

module _ (r : Run) where
  pub duty-is : (i : ℕ) (now : Next) (item : Option Item) (ask : Option Ask) → stands_after r i ≡ now → slice_get r.items i ≡ item → asked_at r i ≡ ask → duty_at r i ≡ duty_in now item ask
  duty-is i now item ask at is asked = ap (λ n. duty_in n (slice_get r.items i) (asked_at r i)) at ∙ ap (λ o. duty_in now o (asked_at r i)) is ∙ ap (duty_in now item) asked

  pub asked-is : (i p name : ℕ) (state : State) → stands_after r i ≡ Goes state → slice_get r.items i ≡ Some (Step p name) → asked_at r i ≡ asked_in r.core r.limit state p
  asked-is i p name state at is =
      ap (λ n. asked_by r.core r.limit n (slice_get r.items i)) at ∙ ap (asked_by r.core r.limit (Goes state)) is

  -- one that makes a reply has the duty to it
  maker-owes : (i p id : ℕ) (old new : State) (item : Item) → slice_get r.items i ≡ Some item → stands_after r i ≡ Goes old → stands_after r (i + 1) ≡ Goes new
      → has_reply p id old.world ≡ false → has_reply p id new.world ≡ true → duty_at r i ≡ id
  maker-owes i p id old new (Step actor name) is at at' none some =
      let step : next r.core r.limit old (Step actor name) ≡ Goes new = sym (next-at r i (Step actor name) old is at) ∙ at' in
      let did = step-moves r.core r.limit old actor name new step in
      let duty = duty_by old.world actor name did.ask.request in
      let caller = reply-caller (take (i + 1) r.items) new (sound-at r (i + 1) new at') p id some in
      let gone : has_reply p id old.world ≡ true → owed (waits_as duty) ≡ id = λ had. absurd (true≢false (sym had ∙ none)) in
      duty-is i (Goes old) (Some (Step actor name)) (Some did.ask) at is (asked-is i actor name old at is ∙ did.asked) ∙ ⊎_elim gone (owes-it duty p id caller) (did.moves.replies p id some)
  maker-owes i p id old new (Quiesce name) is at at' none some =
      let step : next r.core r.limit old (Quiesce name) ≡ Goes new = sym (next-at r i (Quiesce name) old is at) ∙ at' in
      let caller = reply-caller (take (i + 1) r.items) new (sound-at r (i + 1) new at') p id some in
      absurd (⊎_elim (λ had. true≢false (sym had ∙ none)) (λ owes. true≢false (sym (ap (λ n. n == 0) (sym owes.0)) ∙ caller))
      ((rest-moves r.core r.limit (no_duty 0) 0 old name new step).replies p id some))
  maker-owes i p id old new (Tick to) is at at' none some =
      let step : next r.core r.limit old (Tick to) ≡ Goes new = sym (next-at r i (Tick to) old is at) ∙ at' in
      let same = goes-world (comes_after old.world.moment to && heeds_time r.core r.limit old) (record old { world = pass_to to old.world }) new step in
      absurd (true≢false (sym some ∙ ap (λ (w : World). has_reply p id w) (sym same) ∙ none))

  -- while it waits no item has
  waiting-owed : (k p id : ℕ) (state : State) (item : Item) → slice_get r.items k ≡ Some item → stands_after r k ≡ Goes state → is_legal (stands_after r (k + 1)) ≡ true
      → has_reply p id state.world ≡ true → duty_at r k ≢ id
  waiting-owed k p id state item is at legal has owes = by item is (asked_at r k) refl
    where
      by : (item : Item) → slice_get r.items k ≡ Some item → (ask : Option Ask) → asked_at r k ≡ ask → ⊥
      by (Step actor name) is (Some ask) asked =
          let step : is_legal (next r.core r.limit state (Step actor name)) ≡ true = sym (ap is_legal (next-at r k (Step actor name) state is at)) ∙ legal in
          no-duty (take k r.items) state (sound-at r k state at) p id has actor name ask.request (unused-item r.core r.limit state (Step actor name) (sound-at r k state at).numbers step)
          (sym (duty-is k (Goes state) (Some (Step actor name)) (Some ask) at is asked) ∙ owes)
      by (Step actor name) is None asked =
          let none = duty-is k (Goes state) (Some (Step actor name)) None at is asked in omega (arith, reply-number (take k r.items) state (sound-at r k state at) p id has, none, owes)
      by (Quiesce name) is ask asked =
          let none = duty-is k (Goes state) (Some (Quiesce name)) ask at is asked in omega (arith, reply-number (take k r.items) state (sound-at r k state at) p id has, none, owes)
      by (Tick to) is ask asked =
          let none = duty-is k (Goes state) (Some (Tick to)) ask at is asked in omega (arith, reply-number (take k r.items) state (sound-at r k state at) p id has, none, owes)

  -- The item with which a reply comes to stand, and stays up to another, is the last before that which had the duty.
  pub answer-last : (i j p id : ℕ) → i < j → j < length r.items → Since r i j (has_reply p id) → IsLast (duty_at r) j id i
  answer-last i j p id less within since =
      let first = passing (stands_after r (i + 1)) (has_reply p id) (since.after (i + 1) (omega arith) (omega arith)) in
      let item = got-within r.items i (omega arith) in
      let before = one-before r i (omega arith) (ap is_legal first.1) in
      record {
        earlier = less;
        has = maker-owes i p id before.0 first.0 item.0 item.1 before.1 first.1 (failing (stands_after r i) (has_reply p id) before.0 before.1 since.before) first.2;
        none_later = λ k more short.
            let here = passing (stands_after r k) (has_reply p id) (since.after k more (omega arith)) in
            let there = passing (stands_after r (k + 1)) (has_reply p id) (since.after (k + 1) (omega arith) (omega arith)) in
            let item' = got-within r.items k (omega arith) in
            waiting-owed k p id here.0 item'.0 item'.1 here.1 (ap is_legal there.1) here.2;
      }

-- ---- the item by which an instance becomes ready

ready-named : (is : List Instance) (x : ℕ) → is_ready (option_map (λ (i : Instance). i.state) (find (λ (i : Instance). x == i.name) is)) ≡ true → 1 ≤ count_by (λ (i : Instance). i.name == x) is
ready-named is x ready = by (find (λ (i : Instance). x == i.name) is) refl ready
  where
    by : (o : Option Instance) → find (λ (i : Instance). x == i.name) is ≡ o → is_ready (option_map (λ (i : Instance). i.state) o) ≡ true → 1 ≤ count_by (λ (i : Instance). i.name == x) is
    by None found h = absurd (true≢false (sym h))
    by (Some i) found h =
        let named : (i.name == x) ≡ true = eq-eqb i.name x (sym (eqb-true x i.name (find-passes (λ (j : Instance). x == j.name) is i found))) in
        found-counts (λ (j : Instance). x == j.name) (λ (j : Instance). j.name == x) is i found named

module _ (r : Run) where
  -- only an instance that has a number is ready
  pub ready-number : (k x : ℕ) (state : State) → stands_after r k ≡ Goes state → instance_ready x state.world ≡ true → 0 < x
  ready-number k x state at ready = by x (ready-named state.world.places.instances x ready)
    where
      by : (n : ℕ) → 1 ≤ count_by (λ (i : Instance). i.name == n) state.world.places.instances → 0 < n
      by zero counts = absurd (omega (arith, counts, (sound-at r k state at).numbers.instances 0, (sound-at r k state at).numbers.zero_never))
      by (suc n) counts = omega arith

  pub readied-is : (i p name : ℕ) (old new : State) → stands_after r i ≡ Goes old → slice_get r.items i ≡ Some (Step p name) → stands_after r (i + 1) ≡ Goes new
      → readied_at r i ≡ readied_by (instance_of_process old.world p) old.world new.world
  readied-is i p name old new at is at' =
      ap (λ n. readied_in n (slice_get r.items i) (stands_after r (i + 1))) at ∙ ap (λ o. readied_in (Goes old) o (stands_after r (i + 1))) is ∙ ap (readied_in (Goes old) (Some (Step p name))) at'

  maker-readies : (i x : ℕ) (old new : State) (item : Item) → slice_get r.items i ≡ Some item → stands_after r i ≡ Goes old → stands_after r (i + 1) ≡ Goes new
      → instance_ready x old.world ≡ false → instance_ready x new.world ≡ true → readied_at r i ≡ x
  maker-readies i x old new (Step actor name) is at at' none some =
      let step : next r.core r.limit old (Step actor name) ≡ Goes new = sym (next-at r i (Step actor name) old is at) ∙ at' in
      let did = step-moves r.core r.limit old actor name new step in
      readied-is i actor name old new at is at'
      ∙ ⊎_elim (λ had. absurd (true≢false (sym had ∙ none)))
      (λ own. subst (λ y. readied_by y old.world new.world ≡ x) own (ap (λ b. cond (not b && instance_ready x new.world) x 0) none ∙ ap (λ b. cond b x 0) some)) (did.moves.ready x some)
  maker-readies i x old new (Quiesce name) is at at' none some =
      let step : next r.core r.limit old (Quiesce name) ≡ Goes new = sym (next-at r i (Quiesce name) old is at) ∙ at' in
      absurd (⊎_elim (λ had. true≢false (sym had ∙ none)) (λ own. omega (arith, own)) ((rest-moves r.core r.limit (no_duty 0) (x + 1) old name new step).ready x some))
  maker-readies i x old new (Tick to) is at at' none some =
      let step : next r.core r.limit old (Tick to) ≡ Goes new = sym (next-at r i (Tick to) old is at) ∙ at' in
      let same = goes-world (comes_after old.world.moment to && heeds_time r.core r.limit old) (record old { world = pass_to to old.world }) new step in
      absurd (true≢false (sym some ∙ ap (λ (w : World). instance_ready x w) (sym same) ∙ none))

  -- while it is ready no item has it become so
  ready-already : (k x : ℕ) (old new : State) (item : Item) → 0 < x → slice_get r.items k ≡ Some item → stands_after r k ≡ Goes old → stands_after r (k + 1) ≡ Goes new
      → instance_ready x old.world ≡ true → readied_at r k ≢ x
  ready-already k x old new (Step actor name) some is at at' ready same =
      let y = instance_of_process old.world actor in
      let now : readied_by y old.world new.world ≡ x = sym (readied-is k actor name old new at is at') ∙ same in
      ready-by y refl now
    where
      ready-by : (y : ℕ) → y ≡ y → readied_by y old.world new.world ≡ x → ⊥
      ready-by y e now = by (becomes_ready y old.world new.world) refl now
        where
          by : (b : Bool) → becomes_ready y old.world new.world ≡ b → cond b y 0 ≡ x → ⊥
          by false is h = omega (arith, some, h)
          by true is h =
              let was : becomes_ready x old.world new.world ≡ true = subst (λ z. becomes_ready z old.world new.world ≡ true) h is in
              true≢false (sym was ∙ ap (λ b. not b && instance_ready x new.world) ready)
  ready-already k x old new (Quiesce name) some is at at' ready same =
      let none = ap (λ n. readied_in n (slice_get r.items k) (stands_after r (k + 1))) at ∙ ap (λ o. readied_in (Goes old) o (stands_after r (k + 1))) is in
      let zero-is : readied_at r k ≡ 0 = none in omega (arith, some, zero-is, same)
  ready-already k x old new (Tick to) some is at at' ready same =
      let none = ap (λ n. readied_in n (slice_get r.items k) (stands_after r (k + 1))) at ∙ ap (λ o. readied_in (Goes old) o (stands_after r (k + 1))) is in
      let zero-is : readied_at r k ≡ 0 = none in omega (arith, some, zero-is, same)

  -- The item with which an instance becomes ready, and is so up to another, is the last before that with which it does.
  pub ready-last : (i j x : ℕ) → i < j → j < length r.items → Since r i j (instance_ready x) → IsLast (readied_at r) j x i
  ready-last i j x less within since =
      let first = passing (stands_after r (i + 1)) (instance_ready x) (since.after (i + 1) (omega arith) (omega arith)) in
      let item = got-within r.items i (omega arith) in
      let before = one-before r i (omega arith) (ap is_legal first.1) in
      let some = ready-number (i + 1) x first.0 first.1 first.2 in
      record {
        earlier = less;
        has = maker-readies i x before.0 first.0 item.0 item.1 before.1 first.1 (failing (stands_after r i) (instance_ready x) before.0 before.1 since.before) first.2;
        none_later = λ k more short.
            let here = passing (stands_after r k) (instance_ready x) (since.after k more (omega arith)) in
            let there = passing (stands_after r (k + 1)) (instance_ready x) (since.after (k + 1) (omega arith) (omega arith)) in
            let item' = got-within r.items k (omega arith) in
            ready-already k x here.0 there.0 item'.0 some item'.1 here.1 there.1 here.2;
      }
