-- What every state keeps, along whole runs.
use Rattle.std.proofs.Common.{◌≡◌, ℕ, zero, suc, ◌+◌, ◌≤◌, ◌==◌, ◌&&◌, ◌||◌, not, Bool, true, false, cond, List, [], ◌∷◌, ◌++◌, Option, None, Some, is_some, refl, ap, sym, ◌∙◌, subst, arith, eq-eqb, eqb-true, true≢false, append-nil, append_assoc}
use Rattle.std.proofs.lemmas.List.Concat.{flat_map-append}
use Rattle.std.proofs.lemmas.List.Folds.{list_any-append}
use Rattle.std.proofs.lemmas.List.Sums.{sum_by-le-sum_by}
use Rattle.std.specs.Prelude.{count_by}
use Rattle.std.specs.List.{list_any}
pub use Rattle.std.proofs.lemmas.Bool.{or_left as either-true, or_right as other-true, and_parts as both-true}
use Rattle.sr_ask.specs.declared.answer.Answer.{Answer}
use Rattle.sr_ask.specs.declared.answer.Answer.TheVariants as answer
use Rattle.sr_ask.specs.declared.ask.Asks.{Asks}
use Rattle.sr_ask.specs.declared.ask.Asks.TheVariants.{Asked, OverTicks}
use Rattle.sr_ask.specs.declared.item.Item.{Item}
use Rattle.sr_ask.specs.declared.item.Item.TheVariants.{Step, Quiesce, Tick}
use Rattle.sr_ask.specs.declared.start.Start.{Start}
use Rattle.sr_calls.specs.Calls.{items_of}
use Rattle.sr_calls.specs.declared.held.Held.{Held}
use Rattle.sr_calls.specs.declared.held.Reply.{Reply}
use Rattle.sr_core.specs.declared.component.Core.{Core}
use Rattle.sr_instances.specs.Instances.{Instance}
use Rattle.sr_world.specs.Callers.{makes_duty}
use Rattle.sr_world.specs.Deciding.{is_select}
use Rattle.sr_world.specs.Does.{Does, Did, Makes, Cannot, Ends, Undecided}
use Rattle.sr_world.specs.Endings.{close_or, main_instance, may_close, quiesce, rest_of}
use Rattle.sr_world.specs.Making.{run_final}
use Rattle.sr_world.specs.Runs.{Event, Makes_item, Gives, Closes, Next, Goes, Over, Illegal, State, after, after_event, and_then, asks_for, asks_next, comes_after, first, heeds_time, is_new, is_used, items_in, led, next, no_step, rested, step_of, stepped, where_true, with_answer, with_input, without_more}
use Rattle.sr_world.specs.Sound.{IsSound, given_out, is_call, is_step, name_in, names_in, times_used}
use Rattle.sr_world.specs.Spots.{Calls, Spot, Waiting, HeldBy, RepliedTo, TakenBy, Tests, astray, is_astray, is_astray_answer, stands, tests_of}
use Rattle.sr_world.specs.Updates.{end_all, fix, pass_to}
use Rattle.sr_world.specs.Worlds.{World, started}
use Rattle.sr_world.specs.declared.ends.End.{End}
use Rattle.sr_world.proofs.CallLemmas.{items-empty}
use Rattle.sr_world.proofs.CountLemmas.{count-cons, one}
use Rattle.sr_world.proofs.KeepLemmas.{Keeps, quiet-kept}
use Rattle.sr_world.proofs.MoveLemmas.{end_all-loses, run_final-kept}
use Rattle.sr_world.proofs.RequestLemmas.{Well, well}

-- ---- tests and counts

count-none : {A : Type 0} (t : A → Bool) (xs : List A) → list_any t xs ≡ false → count_by t xs ≡ 0
count-none t [] none = refl
count-none t (x ∷ xs) none = by (t x) refl none (count-none t xs)
  where
    by : (b : Bool) → t x ≡ b → (b || list_any t xs) ≡ false → (list_any t xs ≡ false → count_by t xs ≡ 0) → count_by t (x ∷ xs) ≡ 0
    by true is h more = absurd (true≢false h)
    by false is h more = count-cons t x xs ∙ ap (λ b. one b + count_by t xs) is ∙ let rest = more h in omega (arith, rest)

not-true : (a : Bool) → not a ≡ true → a ≡ false
not-true true is = absurd (true≢false (sym is))
not-true false is = refl

-- a new number is neither 0 nor used
pub new-number : (w : World) (name : ℕ) → is_new w name ≡ true → ((name == 0) ≡ false) × (times_used w name ≡ 0)
new-number w name is =
    let parts = both-true (not (name == 0)) (not (is_used w name)) is in
    (not-true (name == 0) parts.0, count-none (λ used. used == name) w.used (not-true (is_used w name) parts.1))

-- ---- more calls

one-weaker : (a b : Bool) → (b ≡ true → a ≡ true) → one (not a) ≤ one (not b)
one-weaker true b h = omega arith
one-weaker false false h = omega arith
one-weaker false true h = absurd (true≢false (sym (h refl)))

one-and : (a b c : Bool) → one b ≤ one c → one (a && b) ≤ one (a && c)
one-and true b c h = h
one-and false b c h = omega arith

module _ (calls calls' : Calls) (more : (c i : ℕ) → calls c i ≡ true → calls' c i ≡ true) where
  weaker : (c i : ℕ) → one (not (calls' c i)) ≤ one (not (calls c i))
  weaker c i = one-weaker (calls' c i) (calls c i) (more c i)

  weaker-astray : (back back_id : ℕ) → one (is_astray calls' back back_id) ≤ one (is_astray calls back back_id)
  weaker-astray back back_id = one-and (not (back == 0)) (not (calls' back back_id)) (not (calls back back_id)) (weaker back back_id)

  weaker-answer : (p : ℕ) (a : Answer) → one (is_astray_answer calls' p a) ≤ one (is_astray_answer calls p a)
  weaker-answer p answer.Done = omega arith
  weaker-answer p (answer.Got v) = omega arith
  weaker-answer p (answer.Made n) = omega arith
  weaker-answer p answer.Ready = omega arith
  weaker-answer p (answer.Picked id arm args back) = omega arith
  weaker-answer p answer.Else = omega arith
  weaker-answer p (answer.Took id results) = weaker p id
  weaker-answer p (answer.Number n) = omega arith
  weaker-answer p answer.Bad = omega arith
  weaker-answer p answer.End = omega arith

  fewer-astray : (state : State) (spot : Spot) → stands (astray calls') state spot ≤ stands (astray calls) state spot
  fewer-astray state Waiting = sum_by-le-sum_by _ _ state.world.pending (λ p. weaker-astray p.back p.back_id)
  fewer-astray state (HeldBy p) = sum_by-le-sum_by _ _ (items_of state.world.held p) (λ h. weaker-astray h.back h.back_id)
  fewer-astray state (RepliedTo p) = sum_by-le-sum_by _ _ (items_of state.world.replies p) (λ r. weaker p r.id)
  fewer-astray state (TakenBy p) = sum_by-le-sum_by _ _ (state.given p) (λ a. weaker-answer p a)

  pub more-kept : (state : State) → Keeps calls state → Keeps calls' state
  more-kept state k = record {
    numbers = k.numbers;
    processes = k.processes;
    duties = record {
      numbers = k.duties.numbers;
      places = k.duties.places;
      callers = λ spot. omega (arith, fewer-astray state spot, k.duties.callers spot);
    };
  }

-- what was a call stays one
pub still-call : (items : List Item) (item : Item) (c i : ℕ) → is_call items c i ≡ true → is_call (items ++ item ∷ []) c i ≡ true
still-call items item c i is = list_any-append (is_step c i) items (item ∷ []) ∙ either-true (is_call items c i) (is_call (item ∷ []) c i) is

-- ---- the numbers given out

no-name : (name : ℕ) → (name == 0) ≡ true → given_out name ≡ []
no-name zero is = refl
no-name (suc n) is = absurd (omega (arith, eqb-true (suc n) 0 is))

pub a-name : (name : ℕ) → (name == 0) ≡ false → given_out name ≡ name ∷ []
a-name zero is = absurd (true≢false is)
a-name (suc n) is = refl

names-append : (items : List Item) (item : Item) → names_in (items ++ item ∷ []) ≡ names_in items ++ name_in item
names-append items item = flat_map-append name_in items (item ∷ []) ∙ ap (λ ns. names_in items ++ ns) (append-nil (name_in item))

-- ---- where_true

pub goes-where : (b : Bool) (n : Next) (s : State) → where_true b n ≡ Goes s → (b ≡ true) × (n ≡ Goes s)
goes-where true n s is = (refl, is)
goes-where false n s is = absurd (cc)

-- ---- a state as it is kept

pub kept-of : (items : List Item) (state : State) → IsSound items state → Keeps (is_call items) state
kept-of items state sound = record { numbers = sound.numbers; processes = sound.processes; duties = sound.duties }

sound-of : (items : List Item) (state : State) → state.world.used ≡ 1 ∷ names_in items → Keeps (is_call items) state → IsSound items state
sound-of items state used k = record { used = used; numbers = k.numbers; processes = k.processes; duties = k.duties }

-- ---- one item

-- whether a step of a process that lives makes a duty to it
abbrev pub makes_own_duty : Asks → Bool
makes_own_duty (Asked request) = makes_duty request.request
makes_own_duty OverTicks = false

abbrev pub is_asking : Core → ℕ → State → Option Start → Bool
is_asking core limit state None = false
is_asking core limit state (Some start) = makes_own_duty (asks_next core limit state start)

-- whether an item is a call that a process makes in this state, and that gets this number
abbrev pub is_call_in : Core → ℕ → State → Item → Calls
is_call_in core limit state (Step a n) process id = ((a == process) && (n == id)) && is_asking core limit state (started state.world a)
is_call_in core limit state (Quiesce name) process id = false
is_call_in core limit state (Tick to) process id = false

-- what an item leaves to the state after it, where these are the calls so far, with its own
pub record Leaves (calls : Calls) (state : State) (item : Item) (later : State) : Type 0 where
  pub kept : Keeps calls later
  pub used : later.world.used ≡ state.world.used ++ name_in item

module _ (calls : Calls) (state : State) (before : Keeps calls state) where
  -- the numbers after an item that makes nothing, and after one that makes something
  used-none : (name : ℕ) (used : List ℕ) → (name == 0) ≡ true → used ≡ state.world.used → used ≡ state.world.used ++ given_out name
  used-none name used none same = same ∙ sym (ap (λ ns. state.world.used ++ ns) (no-name name none) ∙ append-nil state.world.used)

  used-some : (name : ℕ) (used : List ℕ) → (name == 0) ≡ false → used ≡ state.world.used ++ name ∷ [] → used ≡ state.world.used ++ given_out name
  used-some name used some grown = grown ∙ sym (ap (λ ns. state.world.used ++ ns) (a-name name some))

  module _ (actor name : ℕ) where
    left-stepped : (selects asks : Bool) (d : Does) (later : State) → (asks ≡ true → calls actor name ≡ true) → Well calls state.given actor name selects asks state.world d → stepped state actor name d ≡ Goes later
        → Leaves calls state (Step actor name) later
    left-stepped selects asks (Did w a) later called h is =
        let parts = goes-where (name == 0) (Goes (record { world = w; given = with_answer actor a state.given })) later is in
        let same : record { world = w; given = with_answer actor a state.given } ≡ later = cc in
        subst (Leaves calls state (Step actor name)) same (record { kept = h.kept; used = used-none name w.used parts.0 h.used })
    left-stepped selects asks (Makes w a) later called h is =
        let parts = goes-where (is_new state.world name) (Goes (record { world = w; given = with_answer actor a state.given })) later is in
        let new = new-number state.world name parts.0 in
        let same : record { world = w; given = with_answer actor a state.given } ≡ later = cc in
        subst (Leaves calls state (Step actor name)) same
        (record { kept = h.kept (record { new = new.1; nonzero = new.0; called = called }); used = used-some name w.used new.0 h.used })
    left-stepped selects asks Cannot later called h is = absurd (cc)
    left-stepped selects asks (Ends ending) later called h is = let parts = goes-where (name == 0) (Over ending state) later is in absurd (cc)
    left-stepped selects asks Undecided later called h is = absurd (cc)

    left-step : (core : Core) (limit : ℕ) (later : State) (o : Option Start) → started state.world actor ≡ o → (is_asking core limit state o ≡ true → calls actor name ≡ true)
        → step_of core limit state actor name o ≡ Goes later → Leaves calls state (Step actor name) later
    left-step core limit later None found called is = absurd (cc)
    left-step core limit later (Some start) found called is = by (asks_next core limit state start) called is
      where
        by : (asks : Asks) → (makes_own_duty asks ≡ true → calls actor name ≡ true) → stepped state actor name (asks_for core state.world actor name asks) ≡ Goes later → Leaves calls state (Step actor name) later
        by (Asked request) known h =
            left-stepped (is_select request.request) (makes_duty request.request) _ later known
            (well calls state.given actor name (is_select request.request) (makes_duty request.request) state.world before (ap is_some found) core request.place request.role request.request refl refl) h
        by OverTicks known h = absurd (cc)

  module _ (name : ℕ) where
    left-rested : (core : Core) (later : State) (main : Option Instance) → rested state name (close_or core name None (rest_of state.world.fixed) state.world main) ≡ Goes later → Leaves calls state (Quiesce name) later
    left-rested core later None is = let parts = goes-where (name == 0) (Over (rest_of state.world.fixed) state) later is in absurd (cc)
    left-rested core later (Some main) is = by (may_close core main) is
      where
        w : World
        w = run_final core name main.name 0 (fix None (end_all state.world))

        by : (b : Bool) → rested state name (cond b (Makes w answer.Done) (Ends (rest_of state.world.fixed))) ≡ Goes later → Leaves calls state (Quiesce name) later
        by true h =
            let parts = goes-where (is_new state.world name) (Goes (record state { world = w })) later h in
            let new = new-number state.world name parts.0 in
            let same : record state { world = w } ≡ later = cc in
            subst (Leaves calls state (Quiesce name)) same
            (record {
              kept = run_final-kept calls state.given core name main.name 0 (end_all state.world) ((end_all-loses calls state.given state.world).kept before) new.1 new.0;
              used = used-some name w.used new.0 refl;
            })
        by false h = let parts = goes-where (name == 0) (Over (rest_of state.world.fixed) state) later h in absurd (cc)

  -- an item keeps what every state keeps, where its call is known
  pub left-next : (core : Core) (limit : ℕ) (item : Item) (later : State) → ((process id : ℕ) → is_call_in core limit state item process id ≡ true → calls process id ≡ true)
      → next core limit state item ≡ Goes later → Leaves calls state item later
  left-next core limit (Step actor name) later called is =
      let itself : ((actor == actor) && (name == name)) ≡ true = ap (λ b. b && (name == name)) (eq-eqb actor actor refl) ∙ eq-eqb name name refl in
      left-step actor name core limit later (started state.world actor) refl
      (λ asks. called actor name (ap (λ b. b && is_asking core limit state (started state.world actor)) itself ∙ asks)) is
  left-next core limit (Quiesce name) later called is =
      let parts = goes-where (no_step core limit state) (rested state name (quiesce core name state.world)) later is in
      left-rested name core later (main_instance core state.world) parts.1
  left-next core limit (Tick to) later called is =
      let parts = goes-where (comes_after state.world.moment to && heeds_time core limit state) (Goes (record state { world = pass_to to state.world })) later is in
      let same : record state { world = pass_to to state.world } ≡ later = cc in
      subst (Leaves calls state (Tick to)) same
      (record {
        kept = quiet-kept calls state.given state.world state.world.variables state.world.rest state.world.output state.world.ended state.world.fixed to before;
        used = sym (append-nil state.world.used);
      })

-- a call of an item is one of the items with it
called-last : (core : Core) (limit : ℕ) (state : State) (items : List Item) (item : Item) (process id : ℕ) → is_call_in core limit state item process id ≡ true → is_call (items ++ item ∷ []) process id ≡ true
called-last core limit state items (Step a n) process id is =
    list_any-append (is_step process id) items (Step a n ∷ [])
    ∙ other-true (is_call items process id) (is_call (Step a n ∷ []) process id)
    (ap (λ b. b || false) (both-true ((a == process) && (n == id)) (is_asking core limit state (started state.world a)) is).0)
called-last core limit state items (Quiesce name) process id is = absurd (true≢false (sym is))
called-last core limit state items (Tick to) process id is = absurd (true≢false (sym is))

module _ (items : List Item) (state : State) (sound : IsSound items state) where
  -- a step keeps what every state keeps
  pub sound-next : (core : Core) (limit : ℕ) (item : Item) (later : State) → next core limit state item ≡ Goes later → IsSound (items ++ item ∷ []) later
  sound-next core limit item later is =
      let left = left-next (is_call (items ++ item ∷ [])) state (more-kept (is_call items) (is_call (items ++ item ∷ [])) (still-call items item) state (kept-of items state sound))
      core limit item later (called-last core limit state items item) is in
      sound-of (items ++ item ∷ []) later (left.used ∙ ap (λ us. us ++ name_in item) sound.used ∙ sym (ap (λ ns. 1 ∷ ns) (names-append items item))) left.kept

  -- input changes nothing of it
  pub sound-input : (rest : List ℕ) (ended : Bool) → IsSound items (record state { world = record state.world { rest = rest; ended = ended } })
  sound-input rest ended =
      sound-of items (record state { world = record state.world { rest = rest; ended = ended } }) sound.used
      (quiet-kept (is_call items) state.given state.world state.world.variables rest state.world.output ended state.world.fixed state.world.moment (kept-of items state sound))

-- ---- the beginning

pub sound-first : IsSound [] first
sound-first = record {
  used = refl;
  numbers = record {
    once = λ n. by n (1 == n);
    zero_never = refl;
    processes = λ n. omega arith;
    instances = λ n. omega arith;
    machines = λ n. omega arith;
  };
  processes = record { holders = λ p gone. items-empty {A = Held} p; callers = λ p gone. items-empty {A = Reply} p; hearers = λ p none. refl };
  duties = record {
    numbers = λ thing spot. let none = nothing (tests_of thing) spot in omega (arith, none);
    places = λ thing spot other here there. absurd (let none = nothing (tests_of thing) spot in omega (arith, none, here));
    callers = λ spot. nothing (astray (is_call [])) spot;
  };
}
  where
    by : (n : ℕ) (b : Bool) → 0 + cond b 1 0 ≤ 1
    by n true = omega arith
    by n false = omega arith

    nothing : (tests : Tests) (spot : Spot) → stands tests first spot ≡ 0
    nothing tests Waiting = refl
    nothing tests (HeldBy p) = ap (count_by tests.held) (items-empty {A = Held} p)
    nothing tests (RepliedTo p) = ap (count_by (tests.reply p)) (items-empty {A = Reply} p)
    nothing tests (TakenBy p) = refl

-- ---- events

-- more events go on where the earlier ones led
pub after-append : (core : Core) (limit : ℕ) (now : Next) (events more : List Event) → after core limit now (events ++ more) ≡ after core limit (after core limit now events) more
after-append core limit now [] more = refl
after-append core limit now (event ∷ events) more = after-append core limit (and_then now (λ state. after_event core limit state event)) events more

pub led-more : (core : Core) (limit : ℕ) (events : List Event) (state later : State) (event : Event) → led core limit events ≡ Goes state → after_event core limit state event ≡ Goes later → led core limit (events ++ event ∷ []) ≡ Goes later
led-more core limit events state later event is goes = after-append core limit (Goes first) events (event ∷ []) ∙ ap (λ n. after core limit n (event ∷ [])) is ∙ goes

pub illegal-after : (core : Core) (limit : ℕ) (events : List Event) → after core limit Illegal events ≡ Illegal
illegal-after core limit [] = refl
illegal-after core limit (event ∷ events) = illegal-after core limit events

pub over-after : (core : Core) (limit : ℕ) (ending : End) (state later : State) (events : List Event) → after core limit (Over ending state) events ≡ Goes later → ⊥
over-after core limit ending state later [] is = absurd (cc)
over-after core limit ending state later (event ∷ events) is = let stuck = illegal-after core limit events in absurd (cc)

pub sound-after : (core : Core) (limit : ℕ) (items : List Item) (state later : State) (events : List Event) → IsSound items state → after core limit (Goes state) events ≡ Goes later → IsSound (items ++ items_in events) later
sound-after core limit items state later [] sound is = let same : state ≡ later = cc in subst (λ is'. IsSound is' later) (sym (append-nil items)) (subst (IsSound items) same sound)
sound-after core limit items state later (event ∷ events) sound is = by event (after_event core limit state event) refl is (λ items' s sound' h. sound-after core limit items' s later events sound' h)
  where
    by : (e : Event) (n : Next) → after_event core limit state e ≡ n → after core limit n events ≡ Goes later
        → ((items' : List Item) (s : State) → IsSound items' s → after core limit (Goes s) events ≡ Goes later → IsSound (items' ++ items_in events) later) → IsSound (items ++ items_in (e ∷ events)) later
    by e Illegal is' h more = let stuck = illegal-after core limit events in absurd (cc)
    by e (Over ending s) is' h more = absurd (over-after core limit ending s later events h)
    by (Makes_item item) (Goes s) is' h more =
        subst (λ us. IsSound us later) (append_assoc items (item ∷ []) (items_in events))
        (more (items ++ item ∷ []) s (sound-next items state sound core limit item s is') h)
    by (Gives bytes) (Goes s) is' h more =
        let parts = goes-where (not state.world.ended) (Goes (record state { world = with_input bytes state.world })) s is' in
        let same : record state { world = with_input bytes state.world } ≡ s = cc in
        more items s (subst (IsSound items) same (sound-input items state sound (state.world.rest ++ bytes) state.world.ended)) h
    by Closes (Goes s) is' h more =
        let parts = goes-where (not state.world.ended) (Goes (record state { world = without_more state.world })) s is' in
        let same : record state { world = without_more state.world } ≡ s = cc in
        more items s (subst (IsSound items) same (sound-input items state sound state.world.rest true)) h

pub sound-led : (core : Core) (limit : ℕ) (events : List Event) (state : State) → led core limit events ≡ Goes state → IsSound (items_in events) state
sound-led core limit events state is = sound-after core limit [] first state events sound-first is
