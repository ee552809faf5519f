-- The next item of a walk, as the replay makes it.
use Rattle.std.proofs.Common.{◌≡◌, ◌<◌, ◌+◌, ◌==◌, ◌||◌, ◌⊎◌, inl, inr, ⊎_elim, ℕ, zero, suc, Bool, true, false, not, List, [], ◌∷◌, ◌++◌, length, map, refl, ap, sym, ◌∙◌, subst, arith, eq-eqb, true≢false}
use Rattle.std.proofs.lemmas.Option.{slice_get_within}
use Rattle.std.specs.List.{list_any}
use Rattle.std.specs.Option.{option_map}
use Rattle.std.specs.Prelude.{◌&&◌, IsSome, Option, Some, None, if◌then◌else◌, slice_get, take, unwrap_or}
use Rattle.sr_ask.specs.Items.{actor_of}
use Rattle.sr_ask.specs.declared.answer.Answer.{Answer}
use Rattle.sr_ask.specs.declared.ask.Ask.{Ask}
use Rattle.sr_ask.specs.declared.ask.Asks.{Asks}
use Rattle.sr_ask.specs.declared.ask.Asks.TheVariants.{Asked, OverTicks}
use Rattle.sr_ask.specs.declared.item.Item.{Item}
use Rattle.sr_ask.specs.declared.item.Item.TheVariants.{Step}
use Rattle.sr_ask.specs.declared.start.Start.{Start}
use Rattle.sr_clock_rows.specs.Columns.{AreColumns, column_in}
use Rattle.sr_clock_rows.specs.declared.clocks.Clocks.{Clocks}
use Rattle.sr_core.specs.declared.component.Core.{Core}
use Rattle.sr_replay.specs.Naming.{ask_of, asked_from, asked_in, named_at}
use Rattle.sr_replay.specs.Replaying.{Follows, IsAt, StandsAt}
use Rattle.sr_replay.specs.declared.replayer.Replayer.{Replayer}
use Rattle.sr_world.specs.Callers.{duty_by, waits_as}
use Rattle.sr_world.specs.Does.{Does, Did, Makes, Cannot, Ends, Undecided}
use Rattle.sr_world.specs.Invoking.{instance_of_process}
use Rattle.sr_world.specs.Runs.{Goes, Illegal, Next, Over, State, and_then, asks_for, asks_next, is_legal, is_new, next, step_of, stepped, where_true, with_answer}
use Rattle.sr_world.specs.Worlds.{World, started}
use Rattle.sr_world.specs.declared.ends.End.{End}
use Rattle.sr_races.specs.Accesses.{accesses_by, accesses_in}
use Rattle.sr_races.specs.Items.{Run, actor_at, asked_at, stands_after}
use Rattle.sr_races.specs.Links.{global_asked, instance_ready}
use Rattle.sr_races.specs.Origins.{owed, readied_at, readied_by, readied_in}
use Rattle.sr_races.specs.Walks.{AreEntries, CanGrow, CanWalk, Grows, IsEntry, IsStepMade, IsWalked}
use Rattle.sr_races.specs.declared.before.Before.{Before}
use Rattle.sr_races.specs.declared.walk.Entry.{Entry}
use Rattle.sr_races.specs.declared.walk.Walk.{Walk}
use Rattle.sr_races.proofs.ActorLemmas.{asking-some}
use Rattle.sr_races.proofs.AnswerLemmas.{asked-is, duty-is, readied-is}
use Rattle.sr_races.proofs.StandLemmas.{got-map, next-at, one-before, sound-at, stands-next}

-- ---- whether there was such an item

pub made-so : {A : Type 0} (after : A → List Answer → Asks) (core : Core) (limit : ℕ) (now : Next) (replayer : Replayer A) → Follows after core limit now true replayer
    → (is_legal now ≡ true) × (is_legal now ≡ true → IsAt after core limit now replayer)
made-so after core limit (Goes state) replayer follows = (refl, λ _. follows.1)
made-so after core limit (Over ending state) replayer follows = (refl, λ _. follows.1)
made-so after core limit Illegal replayer follows = absurd (true≢false follows)

pub not-made : {A : Type 0} (after : A → List Answer → Asks) (core : Core) (limit : ℕ) (now : Next) (replayer : Replayer A) → Follows after core limit now false replayer → is_legal now ≡ false
not-made after core limit (Goes state) replayer follows = absurd (true≢false (sym follows.0))
not-made after core limit (Over ending state) replayer follows = absurd (true≢false (sym follows.0))
not-made after core limit Illegal replayer follows = refl

pub at-legal : {A : Type 0} (after : A → List Answer → Asks) (core : Core) (limit : ℕ) (now : Next) (replayer : Replayer A) → IsAt after core limit now replayer → is_legal now ≡ true
at-legal after core limit (Goes state) replayer at = refl
at-legal after core limit (Over ending state) replayer at = refl
at-legal after core limit Illegal replayer at = absurd at

-- ---- a step that ends the run leaves the world

over-does : (state : State) (p name : ℕ) (d : Does) (ending : End) (later : State) → stepped state p name d ≡ Over ending later → later.world ≡ state.world
over-does state p name (Did w a) ending later is = absurd (by (name == 0) is)
  where
    by : (b : Bool) → where_true b (Goes (record { world = w; given = with_answer p a state.given })) ≡ Over ending later → ⊥
    by true h = cc
    by false h = cc
over-does state p name (Makes w a) ending later is = absurd (by (is_new state.world name) is)
  where
    by : (b : Bool) → where_true b (Goes (record { world = w; given = with_answer p a state.given })) ≡ Over ending later → ⊥
    by true h = cc
    by false h = cc
over-does state p name Cannot ending later is = absurd (cc)
over-does state p name (Ends other) ending later is = by (name == 0) is
  where
    by : (b : Bool) → where_true b (Over other state) ≡ Over ending later → later.world ≡ state.world
    by true h = let same : later ≡ state = cc in ap (λ (s : State). s.world) same
    by false h = absurd (cc)
over-does state p name Undecided ending later is = absurd (cc)

over-step : (core : Core) (limit : ℕ) (state : State) (p name : ℕ) (ending : End) (later : State) → next core limit state (Step p name) ≡ Over ending later → later.world ≡ state.world
over-step core limit state p name ending later is = by (started state.world p) is
  where
    by : (o : Option Start) → step_of core limit state p name o ≡ Over ending later → later.world ≡ state.world
    by None h = absurd (cc)
    by (Some start) h = over-does state p name (asks_for core state.world p name (asks_next core limit state start)) ending later h

never-both : (b : Bool) (n : ℕ) → (if not b && b then n else 0) ≡ 0
never-both true n = refl
never-both false n = refl

-- ---- one that asks nothing

no-ask-no-step : (core : Core) (limit : ℕ) (state : State) (p name : ℕ) → asked_in core limit state p ≡ None → is_legal (next core limit state (Step p name)) ≡ false
no-ask-no-step core limit state p name none = by (started state.world p) none
  where
    asking : (start : Start) (asks : Asks) → ask_of asks ≡ None → is_legal (stepped state p name (asks_for core state.world p name asks)) ≡ false
    asking start (Asked ask) h = absurd (cc)
    asking start OverTicks h = refl

    by : (o : Option Start) → asked_from core limit state o ≡ None → is_legal (step_of core limit state p name o) ≡ false
    by None h = refl
    by (Some start) h = asking start (asks_next core limit state start) h

-- ---- a step that was made

module _ {A : Type 0} (after : A → List Answer → Asks) (r : Run) (place : ℕ) where
  -- what the replay follows stands after the item
  pub goes-on : (item : Item) → slice_get r.items place ≡ Some item → (legal : Bool) (replayer : Replayer A)
      → Follows after r.core r.limit (and_then (stands_after r place) (λ state. next r.core r.limit state item)) legal replayer → Follows after r.core r.limit (stands_after r (place + 1)) legal replayer
  goes-on item is legal replayer follows = subst (λ now. Follows after r.core r.limit now legal replayer) (sym (stands-next r place item is)) follows

  pub comes-to : (item : Item) → slice_get r.items place ≡ Some item → (replayer : Replayer A)
      → Follows after r.core r.limit (and_then (stands_after r place) (λ state. next r.core r.limit state item)) true replayer
      → (is_legal (stands_after r (place + 1)) ≡ true) × (is_legal (stands_after r (place + 1)) ≡ true → IsAt after r.core r.limit (stands_after r (place + 1)) replayer)
  comes-to item is replayer follows = made-so after r.core r.limit (stands_after r (place + 1)) replayer (goes-on item is true replayer follows)

  pub comes-nowhere : (item : Item) → slice_get r.items place ≡ Some item → (replayer : Replayer A)
      → Follows after r.core r.limit (and_then (stands_after r place) (λ state. next r.core r.limit state item)) false replayer → is_legal (stands_after r (place + 1)) ≡ false
  comes-nowhere item is replayer follows = not-made after r.core r.limit (stands_after r (place + 1)) replayer (goes-on item is false replayer follows)

  -- the replay was told that there was such an item, or that there was none
  module _ (k : Core) (core : r.core ≡ k) (item : Item) (is : slice_get r.items place ≡ Some item) (old new : Replayer A) (at : IsAt after r.core r.limit (stands_after r place) old) (legal : Bool)
      (follows : (limit : ℕ) (now : Next) → IsAt after k limit now old → Follows after k limit (and_then now (λ state. next k limit state item)) legal new) where
    told : Follows after r.core r.limit (and_then (stands_after r place) (λ state. next r.core r.limit state item)) legal new
    told = subst (λ (c : Core). Follows after c r.limit (and_then (stands_after r place) (λ state. next c r.limit state item)) legal new) (sym core)
        (follows r.limit (stands_after r place) (subst (λ (c : Core). IsAt after c r.limit (stands_after r place) old) core at))

    pub told-made : legal ≡ true → Follows after r.core r.limit (and_then (stands_after r place) (λ state. next r.core r.limit state item)) true new
    told-made is-made = subst (λ b. Follows after r.core r.limit (and_then (stands_after r place) (λ state. next r.core r.limit state item)) b new) is-made told

    pub told-none : legal ≡ false → is_legal (stands_after r (place + 1)) ≡ false
    told-none off = comes-nowhere item is new (subst (λ b. Follows after r.core r.limit (and_then (stands_after r place) (λ state. next r.core r.limit state item)) b new) off told)

  -- ---- what a process was asked for

  module _ (k : Core) (core : r.core ≡ k) (p : ℕ) (old : Replayer A) (at : IsAt after r.core r.limit (stands_after r place) old) (asked : Option Ask)
      (asks : (limit : ℕ) (state : State) → StandsAt after k limit state old → asked ≡ asked_in k limit state p) where
    asked-at : (state : State) → stands_after r place ≡ Goes state → asked ≡ asked_in r.core r.limit state p
    asked-at state here = subst (λ (c : Core). asked ≡ asked_in c r.limit state p) (sym core)
        (asks r.limit state (subst (λ (c : Core). StandsAt after c r.limit state old) core (subst (λ now. IsAt after r.core r.limit now old) here at).1))

    pub asked-for : (ask : Ask) → asked ≡ Some ask → (state : State) → stands_after r place ≡ Goes state → asked_in r.core r.limit state p ≡ Some ask
    asked-for ask some state here = sym (asked-at state here) ∙ some

    -- one that asks nothing makes no step
    pub never-asked : (name : ℕ) → slice_get r.items place ≡ Some (Step p name) → asked ≡ None → is_legal (stands_after r (place + 1)) ≡ false
    never-asked name is none = by (stands_after r place) refl
      where
        by : (now : Next) → stands_after r place ≡ now → is_legal (stands_after r (place + 1)) ≡ false
        by (Goes state) here = ap is_legal (next-at r place (Step p name) state is here) ∙ no-ask-no-step r.core r.limit state p name (sym (asked-at state here) ∙ none)
        by (Over ending state) here = ap is_legal (stands-next r place (Step p name) is ∙ ap (λ now. and_then now (λ state. next r.core r.limit state (Step p name))) here)
        by Illegal here = ap is_legal (stands-next r place (Step p name) is ∙ ap (λ now. and_then now (λ state. next r.core r.limit state (Step p name))) here)

  -- looking at what a process asks changes nothing else
  pub walked-asked : (k : Core) → r.core ≡ k → (walk : Walk A) (new : Replayer A) → new.ending ≡ walk.replayer.ending
      → ((limit : ℕ) (state : State) → StandsAt after k limit state walk.replayer → StandsAt after k limit state new) → IsWalked after r place walk → IsWalked after r place (record walk { replayer = new })
  walked-asked k core walk new ending stands walked = record {
    within = walked.within;
    at = subst (λ (c : Core). IsAt after c r.limit (stands_after r place) new) (sym core)
        (by (stands_after r place) (subst (λ (c : Core). IsAt after c r.limit (stands_after r place) walk.replayer) core walked.at));
    origins = walked.origins;
    rows = walked.rows;
    entries = walked.entries;
  }
    where
      by : (now : Next) → IsAt after k r.limit now walk.replayer → IsAt after k r.limit now new
      by (Goes state) at = (ending ∙ at.0, stands r.limit state at.1)
      by (Over e state) at = (ending ∙ at.0, stands r.limit state at.1)
      by Illegal at = absurd at

  module _ (p name : ℕ) (is : slice_get r.items place ≡ Some (Step p name)) (ask : Ask) (old : Replayer A) (at : IsAt after r.core r.limit (stands_after r place) old)
      (asks : (state : State) → stands_after r place ≡ Goes state → asked_in r.core r.limit state p ≡ Some ask) (new : Replayer A)
      (follows : Follows after r.core r.limit (and_then (stands_after r place) (λ state. next r.core r.limit state (Step p name))) true new) where
    within : place < length r.items
    within = slice_get_within r.items place (Step p name) is

    legal : is_legal (stands_after r (place + 1)) ≡ true
    legal = (comes-to (Step p name) is new follows).0

    pub now-at : IsAt after r.core r.limit (stands_after r (place + 1)) new
    now-at = (comes-to (Step p name) is new follows).1 legal

    here : (state : State) × (stands_after r place ≡ Goes state)
    here = one-before r place within legal

    at-here : IsAt after r.core r.limit (Goes here.0) old
    at-here = subst (λ now. IsAt after r.core r.limit now old) here.1 at

    world-is : old.world ≡ here.0.world
    world-is = at-here.1.world

    asked : asked_at r place ≡ Some ask
    asked = asked-is r place p name here.0 here.1 is ∙ asks here.0 here.1

    some : 0 < p
    some = asking-some (take place r.items) here.0 (sound-at r place here.0 here.1) r.core r.limit p ask (asks here.0 here.1)

    actor-is : actor_at r place ≡ p
    actor-is = got-map actor_of r.items place (Step p name) is

    readied : (before : Before) → before.instance ≡ instance_of_process old.world p → before.was_ready ≡ instance_ready before.instance old.world
        → (if not before.was_ready && instance_ready before.instance new.world then before.instance else 0) ≡ readied_at r place
    readied before instance was = ap (λ b. if not b && instance_ready before.instance new.world then before.instance else 0) was ∙ by (stands_after r (place + 1)) refl now-at
      where
        by : (n : Next) → stands_after r (place + 1) ≡ n → IsAt after r.core r.limit n new → readied_by before.instance old.world new.world ≡ readied_at r place
        by (Goes later) at-next there =
            ap (λ x. readied_by x old.world new.world) instance ∙ ap (λ (w : World). readied_by (instance_of_process w p) w new.world) world-is
            ∙ ap (λ (w : World). readied_by (instance_of_process here.0.world p) here.0.world w) there.1.world ∙ sym (readied-is r place p name here.0 later here.1 is at-next)
        by (Over ending later) at-next there =
            let same : later.world ≡ here.0.world = over-step r.core r.limit here.0 p name ending later (sym (next-at r place (Step p name) here.0 is here.1) ∙ at-next) in
            let kept : new.world ≡ old.world = there.1.world ∙ same ∙ sym world-is in
            let nothing : readied_at r place ≡ 0 = ap (λ o. readied_in o (slice_get r.items place) (stands_after r (place + 1))) here.1
            ∙ ap (λ o. readied_in (Goes here.0) o (stands_after r (place + 1))) is ∙ ap (readied_in (Goes here.0) (Some (Step p name))) at-next in
            ap (λ (w : World). readied_by before.instance old.world w) kept ∙ never-both (instance_ready before.instance old.world) before.instance ∙ sym nothing
        by Illegal at-next there = absurd there

    pub step-made : (before : Before) (answered : ℕ) → before.instance ≡ instance_of_process old.world p → before.was_ready ≡ instance_ready before.instance old.world
        → before.duty ≡ owed (waits_as (duty_by old.world p name ask.request)) → before.global ≡ unwrap_or (global_asked old.world ask.request) 0
        → ((state : State) → IsAt after r.core r.limit (Goes state) old → answered ≡ named_at r.core r.limit state (Step p name)) → IsStepMade r place p name ask before answered new.world
    step-made before answered instance was duty global named = record {
      within = within;
      item = is;
      asked = asked;
      some = some;
      legal = legal;
      state = here.0;
      at = here.1;
      answer = named here.0 at-here;
      duty = duty ∙ ap (λ (w : World). owed (waits_as (duty_by w p name ask.request))) world-is ∙ sym (duty-is r place (Goes here.0) (Some (Step p name)) (Some ask) here.1 is asked);
      global = global ∙ ap (λ (w : World). unwrap_or (global_asked w ask.request) 0) world-is;
      readied = readied before instance was;
    }

    -- its entry
    pub entry-is : (clocks : Clocks) (core : Core) → core ≡ r.core → (0 < p → IsSome (column_in clocks.columns p))
        → IsEntry r clocks place (record { process = p; column = unwrap_or (column_in clocks.columns p) 0; place = ask.place; accesses = accesses_by core old.world p ask.request })
    entry-is clocks core core-is column = record {
      process = sym actor-is;
      accesses =
          ap (λ (k : Core). accesses_by k old.world p ask.request) core-is ∙ ap (λ (w : World). accesses_by r.core w p ask.request) world-is
          ∙ ap (λ n. accesses_by r.core here.0.world n ask.request) (sym actor-is) ∙ sym (ap (λ n. accesses_in r.core n (actor_at r place) (asked_at r place)) here.1 ∙ ap (accesses_in r.core (Goes here.0) (actor_at r place)) asked);
      column = λ positive. has (column_in clocks.columns p) (column positive);
      place = λ _. ap (option_map (λ (one : Ask). one.place)) asked;
    }
      where
        has : (o : Option ℕ) → IsSome o → o ≡ Some (unwrap_or o 0)
        has None h = absurd (true≢false (sym h))
        has (Some n) h = refl

-- ---- entries

-- an item of no process
pub alone-entry : (r : Run) (clocks : Clocks) (place : ℕ) → actor_at r place ≡ 0 → asked_at r place ≡ None
    → IsEntry r clocks place (record { process = 0; column = 0; place = record { file = 0; line = 0 }; accesses = [] })
alone-entry r clocks place nobody asks-nothing = record {
  process = sym nobody;
  accesses = sym (ap (accesses_in r.core (stands_after r place) (actor_at r place)) asks-nothing ∙ by (stands_after r place));
  column = λ some. absurd (omega (arith, some));
  place = λ some. absurd (omega (arith, some));
}
  where
    by : (now : Next) → accesses_in r.core now (actor_at r place) None ≡ []
    by (Goes state) = refl
    by (Over ending state) = refl
    by Illegal = refl

got-pushed : {A : Type 0} (xs : List A) (x : A) (i : ℕ) (y : A) → slice_get (xs ++ x ∷ []) i ≡ Some y → (slice_get xs i ≡ Some y) ⊎ ((i ≡ length xs) × (x ≡ y))
got-pushed [] x zero y is = let same : x ≡ y = cc in inr (refl, same)
got-pushed [] x (suc i) y is = absurd (cc)
got-pushed (z ∷ xs) x zero y is = inl is
got-pushed (z ∷ xs) x (suc i) y is = ⊎_elim (λ old. inl old) (λ new. inr (omega (arith, new.0), new.1)) (got-pushed xs x i y is)

pub length-pushed : {A : Type 0} (xs : List A) (x : A) → length (xs ++ x ∷ []) ≡ length xs + 1
length-pushed [] x = refl
length-pushed (y ∷ xs) x = omega (arith, length-pushed xs x)

pub still-entry : (r : Run) (old new : Clocks) (i : ℕ) (entry : Entry) → new.columns ≡ old.columns → IsEntry r old i entry → IsEntry r new i entry
still-entry r old new i entry same is = record {
  process = is.process;
  accesses = is.accesses;
  column = λ some. ap (λ columns. column_in columns entry.process) same ∙ is.column some;
  place = is.place;
}

pub entries-more : (r : Run) (old new : Clocks) (count : ℕ) (entries : List Entry) (entry : Entry) → new.columns ≡ old.columns → AreEntries r old count entries → IsEntry r new count entry
    → AreEntries r new (count + 1) (entries ++ entry ∷ [])
entries-more r old new count entries entry same are is = record {
  number = length-pushed entries entry ∙ ap (λ n. n + 1) are.number;
  each = λ i other got. ⊎_elim {C = IsEntry r new i other} (λ known. still-entry r old new i other same (are.each i other known))
      (λ last. subst (λ (e : Entry). IsEntry r new i e) last.1 (subst (λ n. IsEntry r new n entry) (sym (last.0 ∙ are.number)) is)) (got-pushed entries entry i other got);
}

-- ---- what a walk needs

-- a process that makes one of the items has a column
any-owner : (items : List Item) (place p name : ℕ) → slice_get items place ≡ Some (Step p name) → list_any (λ owner. owner == p) (map actor_of items) ≡ true
any-owner [] place p name is = absurd (cc)
any-owner (item ∷ items) zero p name is =
    let same : item ≡ Step p name = cc in
    ap (λ (i : Item). (actor_of i == p) || list_any (λ owner. owner == p) (map actor_of items)) same ∙ ap (λ b. b || list_any (λ owner. owner == p) (map actor_of items)) (eq-eqb p p refl)
any-owner (item ∷ items) (suc place) p name is = right (actor_of item == p) (any-owner items place p name is)
  where
    right : (b : Bool) → list_any (λ owner. owner == p) (map actor_of items) ≡ true → (b || list_any (λ owner. owner == p) (map actor_of items)) ≡ true
    right true h = refl
    right false h = h

pub has-column : (items : List Item) (clocks : Clocks) (place p name : ℕ) → AreColumns (map actor_of items) clocks.columns → slice_get items place ≡ Some (Step p name) → 0 < p → IsSome (column_in clocks.columns p)
has-column items clocks place p name columns is some = columns.among p some ∙ any-owner items place p name is

module _ {A : Type 0} (items : List Item) (place : ℕ) (walk : Walk A) (can : CanWalk items place walk) where
  pub can-grow : (p : ℕ) → place < 4294967295 → (0 < p → IsSome (column_in walk.clocks.columns p)) → CanGrow p walk.clocks
  can-grow p room column = record { sound = can.sound; room = omega (arith, room, can.rows); column = column }

  pub can-more : (p : ℕ) (new : Walk A) → Grows p walk new → CanWalk items (place + 1) new
  can-more p new grows = record {
    sound = grows.clocks.sound;
    rows = grows.clocks.adds.items ∙ ap (λ n. n + 1) can.rows;
    listed = grows.entries ∙ ap (λ n. n + 1) can.listed;
    columns = subst (λ columns. AreColumns (map actor_of items) columns) (sym grows.clocks.adds.columns) can.columns;
  }
