-- Proofs of the laws of runs.
use Rattle.std.proofs.Common.{◌≡◌, ℕ, zero, suc, ◌+◌, ◌<◌, ◌≤◌, ◌==◌, ◌&&◌, ◌||◌, not, Bool, true, false, cond, List, [], ◌∷◌, ◌++◌, Option, None, Some, is_some, map, refl, ap, sym, ◌∙◌, subst, arith, eq-eqb, eqb-true, true≢false, append-nil, append_assoc}
use Rattle.std.proofs.lemmas.Bool.{eqb-false}
use Rattle.std.proofs.lemmas.List.Sums.{sum_by-append, sum_by-le-sum_by}
use Rattle.std.specs.Prelude.{count_by}
use Rattle.sr_ask.specs.declared.answer.Answer.{Answer}
use Rattle.sr_ask.specs.declared.answer.Answer.TheVariants as answer
use Rattle.sr_ask.specs.declared.ask.Asks.{Asks}
use Rattle.sr_ask.specs.declared.ask.Asks.TheVariants.{Asked, OverTicks}
use Rattle.sr_ask.specs.declared.item.Item.{Item}
use Rattle.sr_ask.specs.declared.item.Item.TheVariants.{Step, Quiesce, Tick}
use Rattle.sr_ask.specs.declared.start.Start.{Start}
use Rattle.sr_calls.specs.Calls.{items_of}
use Rattle.sr_calls.specs.declared.held.Reply.{Reply}
use Rattle.sr_core.specs.declared.component.Core.{Core}
use Rattle.sr_instances.specs.Instances.{Instance}
use Rattle.sr_world.specs.Callers.{makes_duty}
use Rattle.sr_world.specs.Deciding.{is_select}
use Rattle.sr_world.specs.Does.{Does, Did, Makes, Cannot, Ends, Undecided, comes_to, is_possible}
use Rattle.sr_world.specs.Endings.{close_or, main_instance, may_close, rest_of}
use Rattle.sr_world.specs.Making.{run_final}
use Rattle.sr_world.specs.Updates.{end_all, fix, pass_to}
use Rattle.sr_world.specs.Runs.{Event, Makes_item, Gives, Closes, Next, Goes, Over, Illegal, State, after, and_then, asks_for, asks_next, begun, comes_after, heeds_time, is_legal, is_new, items_in, led, next, no_step, output_of, rested, run, run_from, step_of, stepped, where_true, with_answer}
use Rattle.sr_world.specs.Sound.{IsSound, given_out, is_call, is_step, name_in, names_in, times_used}
use Rattle.sr_world.specs.Spots.{Calls, Spot, Waiting, RepliedTo, TakenBy, DutyOf, ServiceOf, is_astray_answer, is_took, number_of}
use Rattle.sr_world.specs.Worlds.{World, started}
use Rattle.sr_world.specs.declared.ends.End.{End}
use Rattle.sr_world.proofs.CountLemmas.{count-cons, one}
use Rattle.sr_world.proofs.KeepLemmas.{live-counts}
use Rattle.sr_world.proofs.RequestLemmas.{Well, well}
use Rattle.sr_world.proofs.RunLemmas.{a-name, kept-of, sound-led, sound-next}
use Rattle.sr_world.specs.Laws.{AnsweredOnce, EachStandsOnce, EveryStateIsSound, ItemsKeepSoundness, NumbersAreUsedOnce, OutputGrows, PrefixIsARun, RestIsNeverRefused, RunGoesOn, RunsLeadToValidStates, ServicedOnce}

module _ (core : Core) (limit : ℕ) where
  -- ---- lists of items

  pub run-append : (now : Next) (items more : List Item) → run_from core limit now (items ++ more) ≡ run_from core limit (run_from core limit now items) more
  run-append now [] more = refl
  run-append now (item ∷ items) more = run-append (and_then now (λ state. next core limit state item)) items more

  pub illegal-from : (items : List Item) → run_from core limit Illegal items ≡ Illegal
  illegal-from [] = refl
  illegal-from (item ∷ items) = illegal-from items

  pub legal-from : (now : Next) (items : List Item) → is_legal (run_from core limit now items) ≡ true → is_legal now ≡ true
  legal-from (Goes state) items is = refl
  legal-from (Over ending state) items is = refl
  legal-from Illegal items is = sym (ap is_legal (illegal-from items)) ∙ is

  -- ---- runs as events

  pub events-of : (now : Next) (items : List Item) → after core limit now (map Makes_item items) ≡ run_from core limit now items
  events-of now [] = refl
  events-of now (item ∷ items) = events-of (and_then now (λ state. next core limit state item)) items

  pub items-of : (items : List Item) → items_in (map Makes_item items) ≡ items
  items-of [] = refl
  items-of (item ∷ items) = ap (λ is. item ∷ is) (items-of items)

  abbrev pub events : List ℕ → List Item → List Event
  events input items = Gives input ∷ Closes ∷ map Makes_item items

  pub led-run : (input : List ℕ) (items : List Item) → led core limit (events input items) ≡ run core limit input items
  led-run input items = events-of (Goes (begun input)) items

  pub sound-run : (input : List ℕ) (items : List Item) (state : State) → run core limit input items ≡ Goes state → IsSound items state
  sound-run input items state is = subst (λ us. IsSound us state) (items-of items) (sound-led core limit (events input items) state (led-run input items ∙ is))

  -- ---- output

  abbrev Grows : State → Next → Type 0
  Grows state now = (rest : List ℕ) × (output_of now ≡ state.world.output ++ rest)

  grows-where : (b : Bool) (state : State) (now : Next) → is_legal (where_true b now) ≡ true → Grows state now → Grows state (where_true b now)
  grows-where true state now legal grows = grows
  grows-where false state now legal grows = absurd (true≢false (sym legal))

  same-text : (state : State) → (rest : List ℕ) × (state.world.output ≡ state.world.output ++ rest)
  same-text state = ([], sym (append-nil state.world.output))

  grows-stepped : (items : List Item) (state : State) (actor name : ℕ) (selects asks : Bool) (d : Does) → Well (is_call items) state.given actor name selects asks state.world d
      → is_legal (stepped state actor name d) ≡ true → Grows state (stepped state actor name d)
  grows-stepped items state actor name selects asks (Did w a) h legal = grows-where (name == 0) state (Goes (record { world = w; given = with_answer actor a state.given })) legal h.output
  grows-stepped items state actor name selects asks (Makes w a) h legal =
      grows-where (is_new state.world name) state (Goes (record { world = w; given = with_answer actor a state.given })) legal ([], h.output ∙ sym (append-nil state.world.output))
  grows-stepped items state actor name selects asks Cannot h legal = absurd (true≢false (sym legal))
  grows-stepped items state actor name selects asks (Ends ending) h legal = grows-where (name == 0) state (Over ending state) legal (same-text state)
  grows-stepped items state actor name selects asks Undecided h legal = absurd (true≢false (sym legal))

  grows-step : (items : List Item) (state : State) (actor name : ℕ) (o : Option Start) → IsSound items state → started state.world actor ≡ o
      → is_legal (step_of core limit state actor name o) ≡ true → Grows state (step_of core limit state actor name o)
  grows-step items state actor name None sound found legal = absurd (true≢false (sym legal))
  grows-step items state actor name (Some start) sound found legal = by (asks_next core limit state start) legal
    where
      by : (asks : Asks) → is_legal (stepped state actor name (asks_for core state.world actor name asks)) ≡ true → Grows state (stepped state actor name (asks_for core state.world actor name asks))
      by (Asked request) h =
          grows-stepped items state actor name (is_select request.request) (makes_duty request.request) _ (well (is_call items) state.given actor name (is_select request.request) (makes_duty request.request) state.world (kept-of items state sound) (ap is_some found) core request.place request.role request.request refl refl) h
      by OverTicks h = absurd (true≢false (sym h))

  grows-rested : (state : State) (name : ℕ) (main : Option Instance) → is_legal (rested state name (close_or core name None (rest_of state.world.fixed) state.world main)) ≡ true
      → Grows state (rested state name (close_or core name None (rest_of state.world.fixed) state.world main))
  grows-rested state name None legal = grows-where (name == 0) state (Over (rest_of state.world.fixed) state) legal (same-text state)
  grows-rested state name (Some main) legal = by (may_close core main) legal
    where
      w : World
      w = run_final core name main.name 0 (fix None (end_all state.world))

      by : (b : Bool) → is_legal (rested state name (cond b (Makes w answer.Done) (Ends (rest_of state.world.fixed)))) ≡ true → Grows state (rested state name (cond b (Makes w answer.Done) (Ends (rest_of state.world.fixed))))
      by true h = grows-where (is_new state.world name) state (Goes (record state { world = w })) h (same-text state)
      by false h = grows-where (name == 0) state (Over (rest_of state.world.fixed) state) h (same-text state)

  grows-next : (items : List Item) (state : State) (item : Item) → IsSound items state → is_legal (next core limit state item) ≡ true → Grows state (next core limit state item)
  grows-next items state (Step actor name) sound legal = grows-step items state actor name (started state.world actor) sound refl legal
  grows-next items state (Quiesce name) sound legal =
      by (no_step core limit state) legal
    where
      by : (b : Bool) → is_legal (where_true b (rested state name (close_or core name None (rest_of state.world.fixed) state.world (main_instance core state.world)))) ≡ true
          → Grows state (where_true b (rested state name (close_or core name None (rest_of state.world.fixed) state.world (main_instance core state.world))))
      by true h = grows-rested state name (main_instance core state.world) h
      by false h = absurd (true≢false (sym h))
  grows-next items state (Tick to) sound legal =
      grows-where (comes_after state.world.moment to && heeds_time core limit state) state (Goes (record state { world = pass_to to state.world })) legal (same-text state)

  pub grows-from : (items more : List Item) (state : State) → IsSound items state → is_legal (run_from core limit (Goes state) more) ≡ true → Grows state (run_from core limit (Goes state) more)
  grows-from items [] state sound legal = same-text state
  grows-from items (item ∷ more) state sound legal = by (next core limit state item) refl (grows-next items state item sound (legal-from (next core limit state item) more legal)) legal (λ is s sound h. grows-from is more s sound h)
    where
      ended : (ending : End) (s : State) (rest : List Item) → is_legal (run_from core limit (Over ending s) rest) ≡ true → output_of (run_from core limit (Over ending s) rest) ≡ s.world.output
      ended ending s [] h = refl
      ended ending s (i ∷ is) h = absurd (true≢false (sym h ∙ ap is_legal (illegal-from is)))

      by : (now : Next) → next core limit state item ≡ now → Grows state now → is_legal (run_from core limit now more) ≡ true
          → ((is : List Item) (s : State) → IsSound is s → is_legal (run_from core limit (Goes s) more) ≡ true → Grows s (run_from core limit (Goes s) more)) → Grows state (run_from core limit now more)
      by (Goes s) is grows h later =
          let rest = later (items ++ item ∷ []) s (sound-next items state sound core limit item s is) h in
          (grows.0 ++ rest.0, rest.1 ∙ ap (λ out. out ++ rest.0) grows.1 ∙ append_assoc state.world.output grows.0 rest.0)
      by (Over ending s) is grows h later = (grows.0, ended ending s more h ∙ grows.1)
      by Illegal is grows h later = absurd (true≢false (sym h ∙ ap is_legal (illegal-from more)))

-- ---- the laws

pub prefix_is_a_run : PrefixIsARun
prefix_is_a_run core limit input items more legal =
    legal-from core limit (run core limit input items) more (sym (ap is_legal (run-append core limit (Goes (begun input)) items more)) ∙ legal)

pub run_goes_on : RunGoesOn
run_goes_on core limit input items more = run-append core limit (Goes (begun input)) items more

pub runs_lead_to_valid_states : RunsLeadToValidStates
runs_lead_to_valid_states core limit input items state is = (events core limit input items, led-run core limit input items ∙ is)

pub output_grows : OutputGrows
output_grows core limit input items more legal =
    let longer = run-append core limit (Goes (begun input)) items more in
    by (run core limit input items) refl (sym (ap is_legal longer) ∙ legal) longer
  where
    by : (now : Next) → run core limit input items ≡ now → is_legal (run_from core limit (run core limit input items) more) ≡ true
        → run core limit input (items ++ more) ≡ run_from core limit (run core limit input items) more
        → (rest : List ℕ) × (output_of (run core limit input (items ++ more)) ≡ output_of (run core limit input items) ++ rest)
    by (Goes s) is h longer =
        let grown = grows-from core limit items more s (sound-run core limit input items s is) (sym (ap (λ n. is_legal (run_from core limit n more)) is) ∙ h) in
        (grown.0, ap output_of (longer ∙ ap (λ n. run_from core limit n more) is) ∙ grown.1 ∙ ap (λ n. output_of n ++ grown.0) (sym is))
    by (Over ending s) is h longer = over more (sym (ap (λ n. is_legal (run_from core limit n more)) is) ∙ h) (longer ∙ ap (λ n. run_from core limit n more) is)
      where
        over : (rest : List Item) → is_legal (run_from core limit (Over ending s) rest) ≡ true → run core limit input (items ++ more) ≡ run_from core limit (Over ending s) rest
            → (text : List ℕ) × (output_of (run core limit input (items ++ more)) ≡ output_of (run core limit input items) ++ text)
        over [] legal longer = ([], ap output_of longer ∙ sym (append-nil s.world.output) ∙ ap (λ n. output_of n ++ []) (sym is))
        over (i ∷ rest) legal longer = absurd (true≢false (sym legal ∙ ap is_legal (illegal-from core limit rest)))
    by Illegal is h longer = absurd (true≢false (sym h ∙ ap (λ n. is_legal (run_from core limit n more)) is ∙ ap is_legal (illegal-from core limit more)))

pub items_keep_soundness : ItemsKeepSoundness
items_keep_soundness core limit items state later item sound is = sound-next items state sound core limit item later is

pub every_state_is_sound : EveryStateIsSound
every_state_is_sound core limit events state is = sound-led core limit events state is

-- ---- numbers

times-used : (items : List Item) (state : State) (name : ℕ) → IsSound items state → count_by (λ n. n == name) (1 ∷ names_in items) ≡ times_used state.world name
times-used items state name sound = ap (count_by (λ n. n == name)) (sym sound.used)

acts : (items : List Item) (core : Core) (limit : ℕ) (state : State) (actor name : ℕ) (o : Option Start) → IsSound items state → started state.world actor ≡ o
    → is_legal (step_of core limit state actor name o) ≡ true → 1 ≤ times_used state.world actor
acts items core limit state actor name None sound found legal = absurd (true≢false (sym legal))
acts items core limit state actor name (Some start) sound found legal = omega (arith, live-counts state.world.live actor (ap is_some found), sound.numbers.processes actor)

pub numbers_are_used_once : NumbersAreUsedOnce
numbers_are_used_once = record {
  once = λ core limit events state name is.
      let sound = sound-led core limit events state is in
      let e = times-used (items_in events) state name sound in omega (arith, e, sound.numbers.once name);
  zero_never = λ core limit events state is.
      let sound = sound-led core limit events state is in
      let e = times-used (items_in events) state 0 sound in omega (arith, e, sound.numbers.zero_never);
  made_before_use = λ core limit events state actor name is legal.
      let sound = sound-led core limit events state is in
      let e = times-used (items_in events) state actor sound in
      let some = acts (items_in events) core limit state actor name (started state.world actor) sound refl legal in
      omega (arith, e, sound.numbers.once actor, some);
}

-- ---- at most once

pub each_stands_once : EachStandsOnce
each_stands_once core limit state thing valid =
    let sound = sound-led core limit valid.0 state valid.1 in
    record {
      single = λ spot. omega (arith, sound.duties.numbers thing spot, sound.numbers.once (number_of thing));
      alone = sound.duties.places thing;
    }

taken-same : (p q : ℕ) → ◌≡◌ {A = Spot} (TakenBy p) (TakenBy q) → p ≡ q
taken-same p q is = cc

apart-spots : (p : ℕ) → ◌≡◌ {A = Spot} (TakenBy p) Waiting → ⊥
apart-spots p is = cc

no-more : (n : ℕ) → (0 < n → ⊥) → n ≡ 0
no-more zero h = refl
no-more (suc n) h = absurd (h (omega arith))

pub serviced_once : ServicedOnce
serviced_once = record {
  once = λ core limit state process id valid. (each_stands_once core limit state (ServiceOf id) valid).single (TakenBy process);
  by_one = λ core limit state process other id valid here there. taken-same process other ((each_stands_once core limit state (ServiceOf id) valid).alone (TakenBy process) (TakenBy other) here there);
  waits_no_more = λ core limit state process id valid here.
      no-more (count_by (λ p. p.id == id) state.world.pending) (λ there. apart-spots process ((each_stands_once core limit state (ServiceOf id) valid).alone (TakenBy process) Waiting here there));
}

-- ---- callers

module _ (calls : Calls) (process id : ℕ) where
  calls-not : (taken : ℕ) → calls process id ≡ false → one (taken == id) ≤ one (not (calls process taken))
  calls-not taken none = by (taken == id) refl
    where
      by : (b : Bool) → (taken == id) ≡ b → one b ≤ one (not (calls process taken))
      by true is = let no-call : not (calls process taken) ≡ true = ap not (ap (calls process) (eqb-true taken id is) ∙ none) in let e = ap one no-call in omega (arith, e)
      by false is = omega arith

  answer-not : (a : Answer) → calls process id ≡ false → one (is_took id a) ≤ one (is_astray_answer calls process a)
  answer-not answer.Done none = omega arith
  answer-not (answer.Got v) none = omega arith
  answer-not (answer.Made n) none = omega arith
  answer-not answer.Ready none = omega arith
  answer-not (answer.Picked n arm args back) none = omega arith
  answer-not answer.Else none = omega arith
  answer-not (answer.Took taken results) none = calls-not taken none
  answer-not (answer.Number n) none = omega arith
  answer-not answer.Bad none = omega arith
  answer-not answer.End none = omega arith

  -- a reply that was taken or waits is to a process that called
  pub took-known : (answers : List Answer) → count_by (is_astray_answer calls process) answers ≡ 0 → 0 < count_by (is_took id) answers → calls process id ≡ true
  took-known answers right some = by (calls process id) refl
    where
      by : (b : Bool) → calls process id ≡ b → b ≡ true
      by true is = refl
      by false is = let less = sum_by-le-sum_by (λ a. one (is_took id a)) (λ a. one (is_astray_answer calls process a)) answers (λ a. answer-not a is) in absurd (omega (arith, less, right, some))

  pub waits-known : (replies : List Reply) → count_by (λ r. not (calls process r.id)) replies ≡ 0 → 0 < count_by (λ r. r.id == id) replies → calls process id ≡ true
  waits-known replies right some = by (calls process id) refl
    where
      by : (b : Bool) → calls process id ≡ b → b ≡ true
      by true is = refl
      by false is =
          let less = sum_by-le-sum_by (λ (r : Reply). one (r.id == id)) (λ (r : Reply). one (not (calls process r.id))) replies (λ r. calls-not r.id is) in absurd (omega (arith, less, right, some))

module _ (a b id : ℕ) (apart : (a == b) ≡ false) (some : (id == 0) ≡ false) where
  not-both : (c : ℕ) → one (c == a) + one (c == b) ≤ 1
  not-both c = by (c == a) refl (c == b) refl
    where
      by : (x : Bool) → (c == a) ≡ x → (y : Bool) → (c == b) ≡ y → one x + one y ≤ 1
      by true at-a true at-b = absurd (eqb-false a b apart (sym (eqb-true c a at-a) ∙ eqb-true c b at-b))
      by true at-a false at-b = omega arith
      by false at-a true at-b = omega arith
      by false at-a false at-b = omega arith

  with-true : (x : Bool) → one (x && true) ≡ one x
  with-true true = refl
  with-true false = refl

  with-false : (x : Bool) → one (x && false) ≡ 0
  with-false true = refl
  with-false false = refl

  item-count : (item : Item) → one (is_step a id item) + one (is_step b id item) ≤ count_by (λ n. n == id) (name_in item)
  item-count (Step c n) = by (n == id) refl
    where
      by : (x : Bool) → (n == id) ≡ x → one ((c == a) && x) + one ((c == b) && x) ≤ count_by (λ m. m == id) (given_out n)
      by true is =
          let named : count_by (λ m. m == id) (given_out n) ≡ 1 =
          ap (λ m. count_by (λ k. k == id) (given_out m)) (eqb-true n id is) ∙ ap (count_by (λ m. m == id)) (a-name id some)
          ∙ count-cons (λ m. m == id) id [] ∙ ap (λ x. one x + 0) (eq-eqb id id refl) in
          omega (arith, named, with-true (c == a), with-true (c == b), not-both c)
      by false is = omega (arith, with-false (c == a), with-false (c == b))
  item-count (Quiesce n) = omega arith
  item-count (Tick to) = omega arith

  one-or : (x y : Bool) → one (x || y) ≤ one x + one y
  one-or true y = omega arith
  one-or false y = omega arith

  calls-count : (items : List Item) → one (is_call items a id) + one (is_call items b id) ≤ count_by (λ n. n == id) (names_in items)
  calls-count [] = omega arith
  calls-count (item ∷ items) =
      let split = sum_by-append (λ n. one (n == id)) (name_in item) (names_in items) in
      omega (arith, calls-count items, item-count item, split, one-or (is_step a id item) (is_call items a id), one-or (is_step b id item) (is_call items b id))

one-caller : (items : List Item) (state : State) (a b id : ℕ) → IsSound items state → (id == 0) ≡ false → is_call items a id ≡ true → is_call items b id ≡ true → a ≡ b
one-caller items state a b id sound some at-a at-b = by (a == b) refl
  where
    by : (x : Bool) → (a == b) ≡ x → a ≡ b
    by true is = eqb-true a b is
    by false is =
        let e = times-used items state id sound in
        let two = calls-count a b id is some items in
        absurd (omega (arith, e, sound.numbers.once id, two, ap one at-a, ap one at-b, count-cons (λ n. n == id) 1 (names_in items)))

pub answered_once : AnsweredOnce
answered_once = record {
  once = λ core limit state process id valid.
      let thing = each_stands_once core limit state (DutyOf id) valid in
      (thing.single (RepliedTo process), thing.single (TakenBy process));
  duty_ends = λ core limit state process id other valid taken there. sym ((each_stands_once core limit state (DutyOf id) valid).alone (TakenBy process) other taken there);
  to_its_caller = λ core limit events state process id is taken.
      let sound = sound-led core limit events state is in
      took-known (is_call (items_in events)) process id (state.given process) (sound.duties.callers (TakenBy process)) taken;
  for_its_caller = λ core limit events state process id is waits.
      let sound = sound-led core limit events state is in
      waits-known (is_call (items_in events)) process id (items_of state.world.replies process) (sound.duties.callers (RepliedTo process)) waits;
  one_caller = λ core limit events state process other id is some here there.
      one-caller (items_in events) state process other id (sound-led core limit events state is) some here there;
}

-- ---- rest

pub rest_is_never_refused : RestIsNeverRefused
rest_is_never_refused core name world = by (main_instance core world)
  where
    either : (b : Bool) (w : World) → is_possible (comes_to (cond b (Makes w answer.Done) (Ends (rest_of world.fixed)))) ≡ true
    either true w = refl
    either false w = refl

    by : (main : Option Instance) → is_possible (comes_to (close_or core name None (rest_of world.fixed) world main)) ≡ true
    by None = refl
    by (Some main) = either (may_close core main) (run_final core name main.name 0 (fix None (end_all world)))
