-- What a pass over some processes leaves.
use Rattle.std.proofs.Common.{◌≡◌, ◌⊎◌, inl, inr, ◌<◌, ◌≤◌, ◌==◌, ◌&&◌, ◌||◌, ◌+◌, ℕ, zero, suc, Bool, true, false, not, cond, List, [], ◌∷◌, ◌++◌, length, map, Option, None, Some, is_some, refl, ap, sym, ◌∙◌, subst, arith, true≢false, append-nil, append_assoc, length-append}
use Rattle.std.proofs.lemmas.Bool.{cases_lt}
use Rattle.std.proofs.lemmas.List.{map-append}
use Rattle.std.proofs.lemmas.List.Elements.{All-contains}
use Rattle.std.specs.List.{list_all, list_any}
use Rattle.std.specs.Prelude.{IfOk, IfSome, OnOk, Ok, Result, Err, count_by, slice_get}
use Rattle.sr_ask.specs.declared.answer.Answer.{Answer}
use Rattle.sr_ask.specs.declared.ask.Asks.{Asks}
use Rattle.sr_ask.specs.declared.item.Item.{Item}
use Rattle.sr_ask.specs.declared.item.Item.TheVariants.{Step, Quiesce, Tick}
use Rattle.sr_ask.specs.declared.start.Start.{Start}
use Rattle.sr_core.specs.declared.component.Core.{Core}
use Rattle.sr_world.specs.Does.{comes_to}
use Rattle.sr_world.specs.Names.{IsGreatest}
use Rattle.sr_world.specs.Runs.{Event, Makes_item, Goes, State, asks_next, next, run_from}
use Rattle.sr_world.specs.Sound.{times_used}
use Rattle.sr_world.specs.Steps.{does}
use Rattle.sr_world.specs.Worlds.{started}
use Rattle.sr_plain.specs.Engine.{Comes, HasStepped, IsEngine, Tries, last_in}
use Rattle.sr_plain.specs.Order.{IsNumbered}
use Rattle.sr_plain.specs.Passing.{AddsItem, HasPassed, HasTakenPart, IsAskedOnce, IsPassedOver, IsPassing, NoneCould, could_at, is_left, item_of}
use Rattle.sr_plain.specs.Ready.{AreAside}
use Rattle.sr_plain.specs.Stretches.{asks_narrow, asks_wide, could, is_done, nobody_could}
use Rattle.sr_plain.specs.Turns.{takes_turn, turn_of}
use Rattle.sr_plain.specs.Waiting.{may_go}
use Rattle.sr_plain.specs.declared.plain.Plain.{Plain}
use Rattle.sr_plain.specs.declared.plainly.Plainly.{Plainly}
use Rattle.sr_plain.specs.declared.plainly.Plainly.TheVariants.{Stepped, Wants, Over, Ended}
use Rattle.sr_world.proofs.CountLemmas.{count-cons, one}
use Rattle.sr_plain.proofs.AsideLemmas.{find-number}
use Rattle.sr_plain.proofs.LedLemmas.{any-contains, last-used, lives-used, place-started, sound, used-more}
use Rattle.sr_plain.proofs.NextLemmas.{unready-off}
use Rattle.sr_plain.proofs.OrderLemmas.{contains-any, counts-any}
use Rattle.sr_plain.proofs.StretchLemmas.{IsStep, blocked-not, done-could, ends-not, left-not, narrow-asked, narrow-written, over-not, somebody, step-is, stretch-more, waits-not}

-- what is among some counts
any-counts : (names : List ℕ) (q : ℕ) → list_any (λ n. n == q) names ≡ true → 1 ≤ count_by (λ n. n == q) names
any-counts [] q found = absurd (true≢false (sym found))
any-counts (n ∷ ns) q found = by (n == q) refl found (any-counts ns q)
  where
    by : (b : Bool) → (n == q) ≡ b → (b || list_any (λ m. m == q) ns) ≡ true → (list_any (λ m. m == q) ns ≡ true → 1 ≤ count_by (λ m. m == q) ns) → 1 ≤ count_by (λ m. m == q) (n ∷ ns)
    by true is h more = let counts = ap one is in omega (arith, count-cons (λ m. m == q) n ns, counts)
    by false is h more = let counts = ap one is in omega (arith, count-cons (λ m. m == q) n ns, counts, more h)

-- at most one was added
pub adds-one : (item : Option Item) (old new : List Item) → AddsItem item old new → length new ≤ length old + 1
adds-one None old new adds = omega (arith, ap (λ is. length is) adds)
adds-one (Some item) old new adds = omega (arith, ap (λ is. length is) adds, length-append old (item ∷ []))

pub some_is : {X : Type 0} (o : Option X) (x : X) (P : X → Type 0) → o ≡ Some x → IfSome o P → P x
some_is None x P is h = absurd (cc)
some_is (Some y) x P is h = let same : y ≡ x = cc in subst P same h

pub ok_as : {T E : Type 0} {P Q : T → Type 0} (r : Result T E) → ((t : T) → P t → Q t) → IfOk r P → IfOk r Q
ok_as (Ok t) f h = f t h
ok_as (Err e) f h = h

pub ok_both : {T E : Type 0} {P Q R : Type 0} (r : Result T E) → OnOk r P → OnOk r Q → (P → Q → R) → OnOk r R
ok_both (Ok t) p q f = f p q
ok_both (Err e) p q f = p

some-not-none : {X : Type 0} (x : X) → Some x ≡ None → ⊥
some-not-none x is = absurd (true≢false (ap is_some is))

module _ {A : Type 0} (after : A → List Answer → Asks) (can_feed : A → Type 0) (core : Core) (class : ℕ → ℕ) (limit : ℕ) where
  -- ---- one process

  module _ (state : State) (events : List Event) (p : ℕ) where
    -- it was asked, and made no item
    pub record AskedInVain (plain : Plain A) : Type 0 where
      pub could_not : could_at core class limit state (started state.world p) ≡ false
      pub engine : IsEngine after can_feed core limit state events plain

    -- it was asked, and made this one
    pub record AskedAndMade (item : Item) (plain : Plain A) : Type 0 where
      pub name : ℕ
      pub is : item ≡ Step p name
      pub later : State
      pub goes : next core limit state item ≡ Goes later
      pub named : IsNumbered state.world name
      pub engine : IsEngine after can_feed core limit later (events ++ Makes_item item ∷ []) plain

    abbrev pub AskedFor : Option Item → Plain A → Type 0
    AskedFor None plain = AskedInVain plain
    AskedFor (Some item) plain = AskedAndMade item plain

    -- what came of it
    pub asked-for : (came : Option Plainly) (plain : Plain A) → Tries after can_feed core limit state events (turn_of core limit state (started state.world p)) (Ok came) plain → AskedFor (item_of came) plain
    asked-for came plain tries = by (started state.world p) refl came tries
      where
        stepped : (s : Start) → started state.world p ≡ Some s → (item : Item) (output : List ℕ) → HasStepped after can_feed core limit state events (Some s) item output plain → AskedAndMade item plain
        stepped s found (Step actor name) output h = record {
          name = name;
          is = ap (λ n. Step n name) (h.turn_of ∙ sym (find-number state.world.live p s found));
          later = h.later;
          goes = h.goes;
          named = h.named;
          engine = h.engine;
        }
        stepped s found (Quiesce name) output h = absurd h.turn_of
        stepped s found (Tick to) output h = absurd h.turn_of

        living : (s : Start) → started state.world p ≡ Some s → (plainly : Plainly) → Comes after can_feed core limit state events (Some s) plainly plain → AskedFor (item_of (Some plainly)) plain
        living s found (Stepped item output) h = stepped s found item output h
        living s found Wants h = record { could_not = ap (could_at core class limit state) found ∙ waits-not core class limit state s h.0; engine = h.1 }
        living s found (Over process) h = record { could_not = ap (could_at core class limit state) found ∙ over-not core class limit state s process h.0; engine = h.1 }
        living s found (Ended item ending) h = record {
          could_not = ap (could_at core class limit state) found
              ∙ ends-not core class limit state s (subst (λ n. started state.world n ≡ Some s) (find-number state.world.live p s found) found) item ending h.0;
          engine = h.1;
        }

        taken : (s : Start) → started state.world p ≡ Some s → (b : Bool) → takes_turn core limit state s ≡ b → (o : Option Plainly) → Tries after can_feed core limit state events (cond b (Some s) None) (Ok o) plain → AskedFor (item_of o) plain
        taken s found true takes None h = absurd (some-not-none s h.0)
        taken s found true takes (Some plainly) h = living s found plainly h.1
        taken s found false takes None h = record { could_not = ap (could_at core class limit state) found ∙ blocked-not core class limit state s takes; engine = h.1 }
        taken s found false takes (Some plainly) h = absurd (true≢false (sym h.0))

        by : (t : Option Start) → started state.world p ≡ t → (o : Option Plainly) → Tries after can_feed core limit state events (turn_of core limit state t) (Ok o) plain → AskedFor (item_of o) plain
        by None found None h = record { could_not = ap (could_at core class limit state) found; engine = h.1 }
        by None found (Some plainly) h = absurd (true≢false (sym h.0))
        by (Some s) found o h = taken s found (takes_turn core limit state s) refl o h

    -- one that isn't left has made its step, or couldn't
    pub asked-once : (made : Option Item) (plain noted : Plain A) → AskedFor made plain → is_left core class limit state (started state.world p) ≡ false
        → ((s : State) (es : List Event) → IsEngine after can_feed core limit s es plain → IsEngine after can_feed core limit s es noted) → (old new : List Item) → AddsItem made old new
        → IsAskedOnce after can_feed core class limit state events p old new noted
    asked-once None plain noted asked left keeps old new adds = inl (record { nothing = adds; engine = keeps state events asked.engine; could_not = asked.could_not })
    asked-once (Some item) plain noted asked left keeps old new adds = inr (record {
      name = asked.name;
      later = asked.later;
      added = adds ∙ ap (λ i. old ++ i ∷ []) asked.is;
      goes = goes;
      named = asked.named;
      narrow = ap (asks_narrow core class limit state) step.lives ∙ ap not (sym (ap (is_left core class limit state) step.lives) ∙ left);
      engine = subst (λ i. IsEngine after can_feed core limit asked.later (events ++ Makes_item i ∷ []) noted) asked.is (keeps asked.later (events ++ Makes_item item ∷ []) asked.engine);
    })
      where
        goes : next core limit state (Step p asked.name) ≡ Goes asked.later
        goes = sym (ap (next core limit state) asked.is) ∙ asked.goes

        step : IsStep core limit state p asked.name asked.later
        step = step-is core limit state asked.later p asked.name goes

    -- whether one is left that has begun
    pub left-by : (start : Start) → started state.world p ≡ Some start → (asks : Asks) → asks ≡ asks_next core limit state start → (is : Bool) → is ≡ asks_wide core class start asks
        → is ≡ is_left core class limit state (started state.world p)
    left-by start found asks asked is is_wide = is_wide ∙ ap (asks_wide core class start) asked ∙ sym (ap (is_left core class limit state) found)

    -- one that is left couldn't
    pub left-alone : is_left core class limit state (started state.world p) ≡ true → (plain : Plain A) → IsEngine after can_feed core limit state events plain → (items : List Item)
        → IsAskedOnce after can_feed core class limit state events p items items plain
    left-alone left plain engine items = inl (record { nothing = refl; engine = engine; could_not = by (started state.world p) left })
      where
        by : (o : Option Start) → is_left core class limit state o ≡ true → could_at core class limit state o ≡ false
        by None is = absurd (true≢false (sym is))
        by (Some s) is = left-not core class limit state s is

    -- nor could one that isn't asked
    pub unasked-not : (plain : Plain A) → IsEngine after can_feed core limit state events plain → plain.woken ≡ None → may_go plain.waiters p ≡ false → could_at core class limit state (started state.world p) ≡ false
    unasked-not plain engine awake unready = by (started state.world p) refl
      where
        by : (o : Option Start) → started state.world p ≡ o → could_at core class limit state o ≡ false
        by None found = refl
        by (Some s) found =
            let number : p ≡ s.process = find-number state.world.live p s found in
            blocked-not core class limit state s
            (unready-off core limit events state engine.stands.leads engine.stands.next engine.stands.order plain.waiters (subst (λ w. AreAside core limit state plain.waiters w) awake engine.aside) s
            (subst (λ n. started state.world n ≡ Some s) number found) (subst (λ n. may_go plain.waiters n ≡ false) number unready))

  -- ---- a pass

  module _ (state : State) (events : List Event) where
    pub passing-begins : (bound : ℕ) (plain : Plain A) → IsEngine after can_feed core limit state events plain → (0 < bound → 1 ≤ times_used state.world bound)
        → IsPassing after can_feed core class limit state events bound [] plain
    passing-begins bound plain engine known = record {
      later = state;
      stretch = record { leads = refl; living = tt; narrow = tt };
      some = inl refl;
      known = known;
      lived = λ q s is within. is;
      written = refl;
      engine = subst (λ es. IsEngine after can_feed core limit state es plain) (sym (append-nil events)) engine;
    }

    -- where nothing was made, the state is as it was
    still : (items : List Item) (later : State) → run_from core limit (Goes state) items ≡ Goes later → items ≡ [] → state ≡ later
    still [] later leads none = cc
    still (i ∷ is) later leads none = absurd (cc)

    module _ (bound : ℕ) (items : List Item) (plain : Plain A) (passing : IsPassing after can_feed core class limit state events bound items plain) where
      module _ (p : ℕ) (within : p ≤ bound) (new : List Item) (noted : Plain A) where
        over-more : (over : IsPassedOver after can_feed core class limit passing.later (events ++ map Makes_item items) p items new noted) → IsPassing after can_feed core class limit state events bound new noted
        over-more over = subst (λ is. IsPassing after can_feed core class limit state events bound is noted) (sym over.nothing) (record {
          later = passing.later;
          stretch = passing.stretch;
          some = passing.some;
          known = passing.known;
          lived = passing.lived;
          written = passing.written;
          engine = over.engine;
        })

        module _ (part : HasTakenPart after can_feed core class limit passing.later (events ++ map Makes_item items) p items new noted) where
          step : IsStep core limit passing.later p part.name part.later
          step = step-is core limit passing.later part.later p part.name part.goes

          -- what it made has a number that is above all others
          never-made : (name q : ℕ) (s : Start) → IsNumbered passing.later.world name → q ≡ name → q ≤ bound → started part.later.world q ≡ Some s → ⊥
          never-made zero q s named is under lives =
              let used = lives-used core limit ((events ++ map Makes_item items) ++ Makes_item (Step p part.name) ∷ []) part.later part.engine.stands.leads q s lives in
              let never = (sound core limit ((events ++ map Makes_item items) ++ Makes_item (Step p part.name) ∷ []) part.later part.engine.stands.leads).numbers.zero_never in
              let counts : times_used part.later.world q ≡ times_used part.later.world 0 = ap (times_used part.later.world) is in
              absurd (omega (arith, used, never, counts))
          never-made (suc n) q s named is under lives =
              let some : 0 < bound = omega (arith, is, under) in
              let found = any-contains passing.later.world.used bound (counts-any passing.later.world.used bound (passing.known some)) in
              let below = All-contains (λ k. k ≤ named.greatest) passing.later.world.used bound named.is_greatest.bound found in
              absurd (omega (arith, is, under, below, named.one_more))

          lived : (q : ℕ) (s : Start) → started part.later.world q ≡ Some s → q ≤ bound → started state.world q ≡ Some s
          lived q s lives under = by (step.left.lives q s lives)
            where
              by : (started passing.later.world q ≡ Some s) ⊎ (q ≡ part.name) → started state.world q ≡ Some s
              by (inl was) = passing.lived q s was under
              by (inr is) = absurd (never-made part.name q s part.named is under lives)

          could-now : could_at core class limit passing.later (started passing.later.world p) ≡ true
          could-now =
              ap (could_at core class limit passing.later) step.lives
              ∙ done-could core class limit passing.later step.start step.asks step.asked (narrow-asked core class limit passing.later p part.name part.later step part.narrow)
              (subst (λ n. is_done (comes_to (does core passing.later.world n step.asks 0)) ≡ true) (find-number passing.later.world.live p step.start step.lives) step.done)

          somebody-could : (items ≡ []) ⊎ (nobody_could core class limit state ≡ false) → nobody_could core class limit state ≡ false
          somebody-could (inl none) =
              let same : state ≡ passing.later = still items passing.later passing.stretch.leads none in
              somebody core class limit state p (subst (λ v. could_at core class limit v (started v.world p) ≡ true) (sym same) could-now)
          somebody-could (inr some) = some

          made-more : IsPassing after can_feed core class limit state events bound (items ++ Step p part.name ∷ []) noted
          made-more = record {
            later = part.later;
            stretch = stretch-more core class limit state passing.later part.later items (Step p part.name) passing.stretch part.goes (ap is_some (passing.lived p step.start step.lives within)) part.narrow;
            some = inr (somebody-could passing.some);
            known = λ some. omega (arith, passing.known some, used-more core limit (events ++ map Makes_item items) passing.later passing.engine.stands.leads (Makes_item (Step p part.name)) part.later part.engine.stands.leads bound);
            lived = lived;
            written = step.left.output ∙ ap (λ text. passing.later.world.output ++ text) (narrow-written core class limit passing.later p part.name part.later step part.narrow)
                ∙ append-nil passing.later.world.output ∙ passing.written;
            engine = subst (λ es. IsEngine after can_feed core limit part.later es noted)
                (append_assoc events (map Makes_item items) (Makes_item (Step p part.name) ∷ []) ∙ ap (λ es. events ++ es) (sym (map-append Makes_item items (Step p part.name ∷ []))))
                part.engine;
          }

          part-more : IsPassing after can_feed core class limit state events bound new noted
          part-more = subst (λ is. IsPassing after can_feed core class limit state events bound is noted) (sym part.added) made-more

        pub passing-more : IsAskedOnce after can_feed core class limit passing.later (events ++ map Makes_item items) p items new noted → IsPassing after can_feed core class limit state events bound new noted
        passing-more (inl over) = over-more over
        passing-more (inr part) = part-more part

        -- where nothing was made, it couldn't, and nothing was made before
        pub nothing-more : IsAskedOnce after can_feed core class limit passing.later (events ++ map Makes_item items) p items new noted → new ≡ []
            → (items ≡ []) × (could_at core class limit state (started state.world p) ≡ false)
        nothing-more (inl over) none =
            let before : items ≡ [] = sym over.nothing ∙ none in
            let same : state ≡ passing.later = still items passing.later passing.stretch.leads before in
            (before, subst (λ v. could_at core class limit v (started v.world p) ≡ false) (sym same) over.could_not)
        nothing-more (inr part) none = absurd (never items (sym part.added ∙ none))
          where
            never : (xs : List Item) → xs ++ Step p part.name ∷ [] ≡ [] → ⊥
            never [] is = absurd (cc)
            never (x ∷ xs) is = absurd (cc)

      -- where nothing was made, none of those could that aren't asked
      pub gap-not : plain.woken ≡ None → items ≡ [] → (q : ℕ) → may_go plain.waiters q ≡ false → could_at core class limit state (started state.world q) ≡ false
      gap-not awake none q unready =
          let same : state ≡ passing.later = still items passing.later passing.stretch.leads none in
          subst (λ v. could_at core class limit v (started v.world q) ≡ false) (sym same) (unasked-not passing.later (events ++ map Makes_item items) q plain passing.engine awake unready)

    -- ---- along a pass

    module _ (bound : ℕ) (items : List Item) (plain : Plain A) (passing : IsPassing after can_feed core class limit state events bound items plain) (awake : plain.woken ≡ None) (low at : ℕ)
        (none : items ≡ [] → NoneCould core class limit state low at) where
      -- one more was asked
      pub one-asked : (p : ℕ) → p ≤ bound → ((q : ℕ) → at < q → q < p → may_go plain.waiters q ≡ false) → (new : List Item) (noted : Plain A)
          → IsAskedOnce after can_feed core class limit passing.later (events ++ map Makes_item items) p items new noted
          → IsPassing after can_feed core class limit state events bound new noted × (new ≡ [] → (items ≡ []) × NoneCould core class limit state low p)
      one-asked p within between new noted asked = (
        passing-more bound items plain passing p within new noted asked,
        λ is. let nothing = nothing-more bound items plain passing p within new noted asked is in
            (nothing.0, λ q above under. by nothing.0 nothing.1 q above under (cases_lt at q) (cases_lt q p)),
      )
        where
          by : items ≡ [] → could_at core class limit state (started state.world p) ≡ false → (q : ℕ) → low < q → q ≤ p → (at < q) ⊎ (q ≤ at) → (q < p) ⊎ (p ≤ q) → could_at core class limit state (started state.world q) ≡ false
          by before it q above under (inr early) at_p = none before q above early
          by before it q above under (inl late) (inl sooner) = gap-not bound items plain passing awake before q (between q late sooner)
          by before it q above under (inl late) (inr last) = let same : p ≡ q = omega (arith, under, last) in subst (λ n. could_at core class limit state (started state.world n) ≡ false) same it

      -- nobody is left to be asked
      pub none-left : (high : ℕ) → ((q : ℕ) → at < q → q ≤ high → may_go plain.waiters q ≡ false) → items ≡ [] → NoneCould core class limit state low high
      none-left high rest is = λ q above under. by q above under (cases_lt at q)
        where
          by : (q : ℕ) → low < q → q ≤ high → (at < q) ⊎ (q ≤ at) → could_at core class limit state (started state.world q) ≡ false
          by q above under (inr early) = none is q above early
          by q above under (inl late) = gap-not bound items plain passing awake is q (rest q late under)

    -- ---- the whole pass

    module _ (bound : ℕ) (items : List Item) (plain : Plain A) (passing : IsPassing after can_feed core class limit state events bound items plain) (first : Plain A) (stands : IsEngine after can_feed core limit state events first)
        (greatest : IsGreatest state.world.used bound) (room : ℕ) (none : 1 ≤ room → items ≡ [] → NoneCould core class limit state 0 bound) where
      each-could-not : 1 ≤ room → items ≡ [] → (s : Start) → started state.world s.process ≡ Some s → could core class state.world s (asks_next core limit state s) ≡ false
      each-could-not some is s lives =
          let used = lives-used core limit events state stands.stands.leads s.process s lives in
          let found = any-contains state.world.used s.process (counts-any state.world.used s.process used) in
          let within : s.process ≤ bound = All-contains (λ k. k ≤ bound) state.world.used s.process greatest.bound found in
          sym (ap (could_at core class limit state) lives) ∙ none some is s.process (positive s.process s lives) within
        where
          positive : (q : ℕ) (t : Start) → started state.world q ≡ Some t → 0 < q
          positive zero t there =
              let used = lives-used core limit events state stands.stands.leads 0 t there in
              let never = (sound core limit events state stands.stands.leads).numbers.zero_never in
              absurd (omega (arith, used, never))
          positive (suc n) t there = omega arith

      nobody : 1 ≤ room → items ≡ [] → nobody_could core class limit state ≡ true
      nobody some is = all-not state.world.live (λ k s there. each-could-not some is s (place-started core limit events state stands.stands.leads k s there))
        where
          all-not : (live : List Start) → ((k : ℕ) (s : Start) → slice_get live k ≡ Some s → could core class state.world s (asks_next core limit state s) ≡ false)
              → list_all (λ s. not (could core class state.world s (asks_next core limit state s))) live ≡ true
          all-not [] each = refl
          all-not (x ∷ xs) each =
              ap (λ b. not b && list_all (λ s. not (could core class state.world s (asks_next core limit state s))) xs) (each 0 x refl) ∙ all-not xs (λ k s there. each (suc k) s there)

      pub passed : length items ≤ room → (old new : List Item) → new ≡ old ++ items → HasPassed after can_feed core class limit state events room old new plain
      passed within old new added = record {
        items = items;
        later = passing.later;
        added = added;
        within = within;
        stretch = passing.stretch;
        empty = λ some. (nobody some, back passing.some);
        written = passing.written;
        engine = passing.engine;
      }
        where
          back : (items ≡ []) ⊎ (nobody_could core class limit state ≡ false) → nobody_could core class limit state ≡ true → items ≡ []
          back (inl is) all = is
          back (inr some) all = absurd (true≢false (sym all ∙ some))

    -- after the last actor, and then from the front
    module _ (first : Plain A) (stands : IsEngine after can_feed core limit state events first) (room greatest last : ℕ) (is_greatest : IsGreatest state.world.used greatest) (is_last : last ≡ last_in events) where
      known : 0 < greatest → 1 ≤ times_used state.world greatest
      known some = any-counts state.world.used greatest (contains-any state.world.used greatest (is_greatest.found some))

      below : last ≤ greatest
      below = by (cases_lt 0 last)
        where
          by : (0 < last) ⊎ (last ≤ 0) → last ≤ greatest
          by (inl some) =
              let used = last-used core limit events state stands.stands.leads (omega (arith, some, is_last)) in
              let found = any-contains state.world.used (last_in events) (counts-any state.world.used (last_in events) used) in
              let under = All-contains (λ k. k ≤ greatest) state.world.used (last_in events) is_greatest.bound found in
              omega (arith, under, is_last)
          by (inr none) = omega arith

      module _ (made0 made1 made2 : List Item) (empty : made0 ≡ []) (plain1 plain2 : Plain A)
          (later : IsPassing after can_feed core class limit state events greatest made0 first
          → IsPassing after can_feed core class limit state events greatest made1 plain1 × (made1 ≡ [] → (made0 ≡ []) × (0 < room → NoneCould core class limit state last greatest)))
          (sooner : last ≤ greatest → IsPassing after can_feed core class limit state events greatest made1 plain1
          → IsPassing after can_feed core class limit state events greatest made2 plain2 × (made2 ≡ [] → (made1 ≡ []) × (0 < room → NoneCould core class limit state 0 last))) where
        passing1 : IsPassing after can_feed core class limit state events greatest made1 plain1 × (made1 ≡ [] → (made0 ≡ []) × (0 < room → NoneCould core class limit state last greatest))
        passing1 = later (subst (λ is. IsPassing after can_feed core class limit state events greatest is first) (sym empty) (passing-begins greatest first stands known))

        passing2 : IsPassing after can_feed core class limit state events greatest made2 plain2 × (made2 ≡ [] → (made1 ≡ []) × (0 < room → NoneCould core class limit state 0 last))
        passing2 = sooner below passing1.0

        none : 1 ≤ room → made2 ≡ [] → NoneCould core class limit state 0 greatest
        none some is = λ q above under. by q above under (cases_lt last q)
          where
            by : (q : ℕ) → 0 < q → q ≤ greatest → (last < q) ⊎ (q ≤ last) → could_at core class limit state (started state.world q) ≡ false
            by q above under (inr early) = (passing2.1 is).1 (omega (arith, some)) q above early
            by q above under (inl late) = (passing1.1 (passing2.1 is).0).1 (omega (arith, some)) q late under

        pub round-passed : length made2 ≤ room → HasPassed after can_feed core class limit state events room [] made2 plain2
        round-passed within = passed greatest made2 plain2 passing2.0 first stands is_greatest room none within [] made2 refl

  -- the items were added to others
  pub passed-into : (state : State) (events : List Event) (room : ℕ) (made : List Item) (plain : Plain A) → HasPassed after can_feed core class limit state events room [] made plain → (old new : List Item) → new ≡ old ++ made
      → HasPassed after can_feed core class limit state events room old new plain
  passed-into state events room made plain passed old new added = record {
    items = passed.items;
    later = passed.later;
    added = added ∙ ap (λ is. old ++ is) passed.added;
    within = passed.within;
    stretch = passed.stretch;
    empty = passed.empty;
    written = passed.written;
    engine = passed.engine;
  }
