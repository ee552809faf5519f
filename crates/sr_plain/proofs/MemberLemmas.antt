-- The member of a crew whose request the machine carries out, and whose turn it is.
use Rattle.std.proofs.Common.{◌≡◌, ◌<◌, ◌==◌, ℕ, Bool, true, false, cond, List, [], ◌∷◌, Option, Some, None, IsSome, refl, ap, sym, ◌∙◌, subst, true≢false}
use Rattle.std.specs.HashMap.{WritesThrough}
use Rattle.std.specs.List.{list_any}
use Rattle.std.specs.Prelude.{IfNone, Result, Ok, Err, find, nat_eq}
use Rattle.sr_ask.specs.declared.answer.Answer.{Answer}
use Rattle.sr_ask.specs.declared.ask.Ask.{Ask}
use Rattle.sr_ask.specs.declared.ask.Asks.{Asks}
use Rattle.sr_ask.specs.declared.ask.Asks.TheVariants.{Asked, OverTicks}
use Rattle.sr_ask.specs.declared.item.Item.TheVariants.{Step}
use Rattle.sr_ask.specs.declared.start.Start.{Start}
use Rattle.sr_core.specs.declared.component.Core.{Core}
use Rattle.sr_core.specs.declared.owner.Me.{Me}
use Rattle.sr_meaning.specs.Processes.{ask}
use Rattle.sr_value.specs.declared.memory.NoMemory.{NoMemory}
use Rattle.sr_world.specs.Acting.{Acts}
use Rattle.sr_world.specs.Runs.{Event, State, asks_next, no_step}
use Rattle.sr_world.specs.Steps.{does}
use Rattle.sr_world.specs.Worlds.{World, started}
use Rattle.sr_world.specs.declared.acted.Acted.{Acted}
use Rattle.sr_world.specs.declared.acted.Acted.TheVariants as acted
use Rattle.sr_world.specs.Callers.{caller_in}
use Rattle.sr_plain.specs.Answering.{AnsweredBy}
use Rattle.sr_plain.specs.Carrying.{Names}
use Rattle.sr_plain.specs.Crew.{Answers, AreLiving, IsFed, IsSame, Looks, may_leave, member_of}
use Rattle.sr_plain.specs.Leaving.{written_by}
use Rattle.sr_plain.specs.Engine.{Comes, IfAsked, IfUnbegun, IsCarried, IsEngine, Steps, Tries, TriesIfBegun, last_in}
use Rattle.sr_plain.specs.Noting.{NotesBy}
use Rattle.sr_plain.specs.Ready.{AreAside, me_at}
use Rattle.sr_plain.specs.Turns.{takes_turn, turn, turn_of}
use Rattle.sr_plain.specs.Waiting.{IsNextAfter, IsPromoted, IsTakenOut, is_ready, may_go}
use Rattle.sr_plain.specs.declared.change.Woken.{Woken}
use Rattle.sr_actor.specs.declared.member.Member.{Member}
use Rattle.sr_plain.specs.declared.plain.Plain.{Plain}
use Rattle.sr_plain.specs.declared.plainly.Plainly.{Plainly}
use Rattle.sr_plain.specs.declared.plainly.Plainly.TheVariants as plainly
use Rattle.sr_plain.specs.declared.tried.Tried.{Tried}
use Rattle.sr_plain.specs.declared.tried.Tried.TheVariants as attempt
use Rattle.sr_plain.specs.declared.waiters.Waiters.{Waiters}
use Rattle.sr_plain.proofs.AnswerLemmas.{answered_done, answered_ends, answered_not, answered_wants, is_over}
use Rattle.sr_plain.proofs.AsideLemmas.{aside_out, aside_promoted, find-number, noted_aside, noted_is}
use Rattle.sr_plain.proofs.CrewLemmas.{answers-written, looks-written, written-itself, written-others}
use Rattle.sr_plain.proofs.EngineLemmas.{looked_engine}
use Rattle.sr_plain.proofs.LedLemmas.{last-used}
use Rattle.sr_plain.proofs.LivingLemmas.{living-at}
use Rattle.sr_plain.proofs.NextLemmas.{found-turn, no-turn-of, nobody-steps}
use Rattle.sr_plain.proofs.OrderLemmas.{counts-any}
use Rattle.sr_plain.proofs.TurnLemmas.{kept-is}

module _ {A : Type 0} (after : A → List Answer → Asks) (can_feed : A → Type 0) (core : Core) (limit : ℕ) (state : State) (events : List Event) where
  -- ---- what a call answered

  module _ (whose : Option Start) where
    pub steps_err : (r : Result Plainly NoMemory) (e : NoMemory) (plain : Plain A) → r ≡ Err e → plain.world ≡ state.world → Steps after can_feed core limit state events whose r plain
    steps_err r e plain is same = subst (λ (x : Result Plainly NoMemory). Steps after can_feed core limit state events whose x plain) (sym is) same

    pub tries_err : (r : Result (Option Plainly) NoMemory) (e : NoMemory) (plain : Plain A) → r ≡ Err e → plain.world ≡ state.world → Tries after can_feed core limit state events whose r plain
    tries_err r e plain is same = subst (λ (x : Result (Option Plainly) NoMemory). Tries after can_feed core limit state events whose x plain) (sym is) same

    -- the same of a process that may not have begun
    pub tried_err : (r : Result Tried NoMemory) (e : NoMemory) (plain : Plain A) → r ≡ Err e → plain.world ≡ state.world → TriesIfBegun after can_feed core limit state events whose r plain
    tried_err r e plain is same = subst (λ (x : Result Tried NoMemory). TriesIfBegun after can_feed core limit state events whose x plain) (sym is) same

    pub tries_asked : (t : Tried) (came : Option Plainly) (plain : Plain A) → t ≡ attempt.Asked came → TriesIfBegun after can_feed core limit state events whose (Ok t) plain
        → Tries after can_feed core limit state events whose (Ok came) plain
    tries_asked t came plain is = subst (λ (x : Tried). TriesIfBegun after can_feed core limit state events whose (Ok x) plain) is

    pub tries_as : (o o' : Option Plainly) (plain : Plain A) → o ≡ o' → Tries after can_feed core limit state events whose (Ok o) plain → Tries after can_feed core limit state events whose (Ok o') plain
    tries_as o o' plain is = subst (λ (x : Option Plainly). Tries after can_feed core limit state events whose (Ok x) plain) is

  -- ---- a member

  module _ (start : Start) (plain : Plain A) (engine : IsEngine after can_feed core limit state events plain) (lives : started state.world start.process ≡ Some start) (p : ℕ) (process-is : p ≡ start.process) (me : Me) (me_is : me ≡ me_at start) where
    here-is : (m : Member A) → Some m ≡ member_of plain.crew p → member_of plain.crew start.process ≡ Some m
    here-is m here = subst (λ q. member_of plain.crew q ≡ Some m) process-is (sym here)

    module _ (m : Member A) (here : Some m ≡ member_of plain.crew p) (asks : Ask) (known : Asked asks ≡ after m.actor []) (may : can_feed m.actor) (w' : World) (name : ℕ) (acted : Acted)
        (acts : Acts (does core plain.world p asks name) plain.world w' (Ok acted)) (names : Names (does core plain.world p asks name) plain.world name)
        (waiters : Waiters) (woken : Option Woken) (caller : ℕ) (caller_is : caller ≡ caller_in plain.world p asks.request)
        (notes : NotesBy core me asks caller name acted plain.waiters waiters woken) (ready : is_ready plain.waiters p ≡ true) (awake : plain.woken ≡ None) where
      acts-is : Acts (does core state.world start.process asks name) state.world w' (Ok acted)
      acts-is =
          subst (λ (v : World). Acts (does core v start.process asks name) v w' (Ok acted)) engine.world
          (subst (λ q. Acts (does core plain.world q asks name) plain.world w' (Ok acted)) process-is acts)

      caller-is : caller ≡ caller_in state.world start.process asks.request
      caller-is = caller_is ∙ ap (λ q. caller_in plain.world q asks.request) process-is ∙ ap (λ (v : World). caller_in v start.process asks.request) engine.world

      notes-is : NotesBy core (me_at start) asks caller name acted plain.waiters waiters woken
      notes-is = subst (λ (x : Me). NotesBy core x asks caller name acted plain.waiters waiters woken) me_is notes

      asked-is : asks_next core limit state start ≡ Asked asks
      asked-is = sym (kept-is after can_feed core limit state events start plain.crew m engine.stands lives (here-is m here) (Asked asks) known)

      pub carried_of : IsCarried after can_feed core limit state events start name acted (record plain { world = w'; waiters = waiters; woken = woken })
      carried_of = record {
        member = m;
        asks = asks;
        here = here-is m here;
        asked = known;
        can_hear = may;
        lives = lives;
        acts = acts-is;
        names = subst (λ (v : World). Names (does core v start.process asks name) v name) engine.world
            (subst (λ q. Names (does core plain.world q asks name) plain.world name) process-is names);
        ticks = engine.ticks;
        last = engine.last;
        stands = engine.stands;
        living = subst (λ w. AreLiving state.world w plain.crew) awake engine.living;
        aside = noted_aside core limit state start asks name lives caller caller-is plain.waiters waiters woken w' acted asked-is notes-is acts-is
            (subst (λ w. AreAside core limit state plain.waiters w) awake engine.aside);
        noted = noted_is core limit state start asks name lives caller caller-is plain.waiters waiters woken w' acted notes-is (subst (λ q. is_ready plain.waiters q ≡ true) process-is ready);
      }

      -- what was written for the request
      pub carried_wrote : (output : List ℕ) → output ≡ written_by asks.request → output ≡ written_by carried_of.asks.request
      unfolding carried_of
      carried_wrote output wrote = wrote

    pub over_of : (m : Member A) → Some m ≡ member_of plain.crew p → OverTicks ≡ after m.actor []
        → Tries after can_feed core limit state events (find (takes_turn core limit state) (start ∷ [])) (Ok (Some (plainly.Over p))) plain
    over_of m here known =
        subst (λ q. Tries after can_feed core limit state events (find (takes_turn core limit state) (start ∷ [])) (Ok (Some (plainly.Over q))) plain) (sym process-is)
        (is_over after can_feed core limit state events start plain m engine lives (here-is m here) known)

  -- ---- what a process hears

  -- an engine that differs in one member and in the last actor alone
  pub record DiffersAt (plain_of : Member A → ℕ → Plain A) (plain : Plain A) : Type 0 where
    pub world : (m : Member A) (l : ℕ) → (plain_of m l).world ≡ plain.world
    pub ticks : (m : Member A) (l : ℕ) → (plain_of m l).ticks ≡ plain.ticks
    pub last : (m : Member A) (l : ℕ) → (plain_of m l).last ≡ l
    pub waiters : (m : Member A) (l : ℕ) → (plain_of m l).waiters ≡ plain.waiters
    pub woken : (m : Member A) (l : ℕ) → (plain_of m l).woken ≡ plain.woken

  module _ (start : Start) (actor name : ℕ) (is : actor ≡ start.process) (output : List ℕ) (plain_of : Member A → ℕ → Plain A) (m m' : Member A) (before last : ℕ) (came : Option Plainly) (differs : DiffersAt plain_of (plain_of m before))
      (answers : (a : Answer) → IsFed after can_feed a m m' → (member : Member A) → member_of (plain_of m before).crew start.process ≡ Some member
      → Answers after can_feed start.process a member (plain_of m before).crew (plain_of m' last).crew) where
    goal-at : Option Plainly → Plain A → Type 0
    goal-at o plain = Tries after can_feed core limit state events (find (takes_turn core limit state) (start ∷ [])) (Ok o) plain

    unheard : (o : Option Plainly) → goal-at o (plain_of m before) → m' ≡ m → last ≡ before → came ≡ o → goal-at came (plain_of m' last)
    unfolding goal-at
    unheard o tried same same-last came_is =
        subst (λ x. goal-at x (plain_of m' last)) (sym came_is) (subst (λ x. goal-at o (plain_of x last)) (sym same) (subst (λ l. goal-at o (plain_of m l)) (sym same-last) tried))

    pub hears : (a : Acted) (carried : IsCarried after can_feed core limit state events start name a (plain_of m before)) → output ≡ written_by carried.asks.request → AnsweredBy after can_feed actor name output a m m' before last came
        → Tries after can_feed core limit state events (find (takes_turn core limit state) (start ∷ [])) (Ok came) (plain_of m' last)
    unfolding goal-at
    hears (acted.Done a) carried wrote by =
        subst (λ x. goal-at x (plain_of m' last)) (sym by.2)
        (subst (λ n. goal-at (Some (plainly.Stepped (Step n name) output)) (plain_of m' last)) (sym is)
        (answered_done after can_feed core limit state events start name (plain_of m before) a (plain_of m' last) output carried (answers a by.0) wrote
        (differs.world m' last) (differs.ticks m' last) (differs.last m' last ∙ by.1 ∙ is) (differs.waiters m' last) (differs.woken m' last)))
    hears acted.Cannot carried wrote by = unheard None (answered_not after can_feed core limit state events start name (plain_of m before) carried) by.0 by.1 by.2
    hears (acted.Ends ending) carried wrote by =
        unheard (Some (plainly.Ended (Step actor name) ending))
        (subst (λ n. goal-at (Some (plainly.Ended (Step n name) ending)) (plain_of m before)) (sym is) (answered_ends after can_feed core limit state events start name (plain_of m before) ending carried)) by.0 by.1 by.2
    hears acted.Undecided carried wrote by = unheard (Some plainly.Wants) (answered_wants after can_feed core limit state events start name (plain_of m before) carried) by.0 by.1 by.2

  -- ---- who is ready

  pub live_is : (plain : Plain A) → IsEngine after can_feed core limit state events plain → (p : ℕ) (o : Option Start) → o ≡ started plain.world p → started state.world p ≡ o
  live_is plain engine p o is = sym (is ∙ ap (λ (w : World). started w p) engine.world)

  -- one that has ended
  pub ended_tries : (plain : Plain A) → IsEngine after can_feed core limit state events plain → plain.woken ≡ None → (p : ℕ) → started state.world p ≡ None → (waiters : Waiters) → IsTakenOut p plain.waiters waiters
      → Tries after can_feed core limit state events (turn_of core limit state (started state.world p)) (Ok None) (record plain { waiters = waiters })
  ended_tries plain engine awake p ended waiters out = (
    ap (turn_of core limit state) ended,
    record {
      world = engine.world;
      ticks = engine.ticks;
      last = engine.last;
      stands = engine.stands;
      living = engine.living;
      aside = subst (λ w. AreAside core limit state waiters w) (sym awake) (aside_out core limit state p plain.waiters waiters ended out (subst (λ w. AreAside core limit state plain.waiters w) awake engine.aside));
    },
  )

  -- one of many that is asked by itself
  pub promoted_engine : (plain : Plain A) → IsEngine after can_feed core limit state events plain → plain.woken ≡ None → (p : ℕ) (waiters : Waiters) → IsPromoted p plain.waiters waiters
      → IsEngine after can_feed core limit state events (record plain { waiters = waiters })
  promoted_engine plain engine awake p waiters promoted = record {
    world = engine.world;
    ticks = engine.ticks;
    last = engine.last;
    stands = engine.stands;
    living = engine.living;
    aside = subst (λ w. AreAside core limit state waiters w) (sym awake) (aside_promoted core limit state p plain.waiters waiters promoted (subst (λ w. AreAside core limit state plain.waiters w) awake engine.aside));
  }

  pub lives_tries : (p : ℕ) (s : Start) (r : Result (Option Plainly) NoMemory) (plain' : Plain A) → started state.world p ≡ Some s → Tries after can_feed core limit state events (find (takes_turn core limit state) (s ∷ [])) r plain'
      → Tries after can_feed core limit state events (turn_of core limit state (started state.world p)) r plain'
  lives_tries p s r plain' lives tries = subst (λ o. Tries after can_feed core limit state events (turn_of core limit state o) r plain') (sym lives) tries

  -- ---- the whole walk

  module _ (plain : Plain A) (engine : IsEngine after can_feed core limit state events plain) (awake : plain.woken ≡ None) where
    aside-now : AreAside core limit state plain.waiters None
    aside-now = subst (λ w. AreAside core limit state plain.waiters w) awake engine.aside

    last-any : 0 < last_in events → list_any (λ u. u == last_in events) state.world.used ≡ true
    last-any some = counts-any state.world.used (last_in events) (last-used core limit events state engine.stands.leads some)

    pub ready_steps : (p : ℕ) (plainly : Plainly) (plain' : Plain A) → IsNextAfter plain.waiters plain.last p → Tries after can_feed core limit state events (turn_of core limit state (started state.world p)) (Ok (Some plainly)) plain'
        → Steps after can_feed core limit state events (turn core limit state (last_in events)) (Ok plainly) plain'
    ready_steps p plainly plain' is tries = by (started state.world p) refl tries
      where
        next-is : IsNextAfter plain.waiters (last_in events) p
        next-is = subst (λ n. IsNextAfter plain.waiters n p) engine.last is

        taken : (s : Start) → started state.world p ≡ Some s → (b : Bool) → takes_turn core limit state s ≡ b → IsSome (cond b (Some s) None) × Comes after can_feed core limit state events (cond b (Some s) None) plainly plain'
            → Comes after can_feed core limit state events (turn core limit state (last_in events)) plainly plain'
        taken s lives true takes h =
            subst (λ t. Comes after can_feed core limit state events t plainly plain')
            (sym (found-turn core limit events state engine.stands.leads engine.stands.next engine.stands.order plain.waiters aside-now (last_in events) last-any p s next-is lives takes)) h.1
        taken s lives false takes h = absurd (true≢false (sym h.0))

        by : (o : Option Start) → started state.world p ≡ o → Tries after can_feed core limit state events (turn_of core limit state o) (Ok (Some plainly)) plain'
            → Comes after can_feed core limit state events (turn core limit state (last_in events)) plainly plain'
        by None ended h = absurd (true≢false (sym h.0))
        by (Some s) lives h = taken s lives (takes_turn core limit state s) refl h

    pub nobody_ready : ((p : ℕ) → may_go plain.waiters p ≡ false) → (r : Result Plainly NoMemory) (plain' : Plain A) → Steps after can_feed core limit state events None r plain'
        → Steps after can_feed core limit state events (turn core limit state (last_in events)) r plain'
    nobody_ready nobody r plain' steps =
        subst (λ t. Steps after can_feed core limit state events t r plain')
        (sym (no-turn-of core limit events state engine.stands.leads engine.stands.next engine.stands.order plain.waiters aside-now (last_in events) last-any nobody)) steps

    pub nobody_can : ((p : ℕ) → may_go plain.waiters p ≡ false) → no_step core limit state ≡ true
    nobody_can nobody = nobody-steps core limit events state engine.stands.leads engine.stands.next engine.stands.order plain.waiters aside-now (last_in events) last-any nobody

-- ---- a look at one that is ready

module _ {A : Type 0} (after : A → List Answer → Asks) (can_feed : A → Type 0) (core : Core) (limit : ℕ) (state : State) (events : List Event) where
  pub looked_now : (plain : Plain A) → IsEngine after can_feed core limit state events plain → (s : Start) → started state.world s.process ≡ Some s → (looked : Plain A)
      → Looks after (ask core s plain.ticks) s.process plain.crew looked.crew → AreLiving state.world plain.woken looked.crew → IsEngine after can_feed core limit state events (record plain { crew = looked.crew })
  looked_now plain engine s lives looked looks living =
      looked_engine after can_feed core limit state events s plain looked engine lives (subst (λ t. Looks after (ask core s t) s.process plain.crew looked.crew) engine.ticks looks) living

  -- ---- one that has begun

  module _ (plain : Plain A) (engine : IsEngine after can_feed core limit state events plain) (awake : plain.woken ≡ None) (p : ℕ) (m : Member A) (here : Some m ≡ member_of plain.crew p) where
    -- it lives, and has the number and the instance that it was started with
    pub record IsBegun : Type 0 where
      pub start : Start
      pub found : started state.world p ≡ Some start
      pub lives : started state.world start.process ≡ Some start
      pub process_is : p ≡ start.process
      pub me_is : record { process = p; instance = m.instance } ≡ me_at start

    pub begun_lives : IsBegun
    begun_lives = by (started state.world p) refl (engine.living.live p m (sym here) (ap (λ w. may_leave w p) awake))
      where
        by : (o : Option Start) → started state.world p ≡ o → IsSome o → IsBegun
        by None is some = absurd (true≢false (sym some))
        by (Some s) is some = let number : p ≡ s.process = find-number state.world.live p s is in record {
          start = s;
          found = is;
          lives = subst (λ n. started state.world n ≡ Some s) number is;
          process_is = number;
          me_is = ap (λ n. record { process = n; instance = m.instance }) number ∙ ap (λ n. record { process = s.process; instance = n }) (engine.living.named p s m is (sym here));
        }

  module _ (plain looked : Plain A) (engine : IsEngine after can_feed core limit state events plain) (start : Start) (lives : started state.world start.process ≡ Some start) (p : ℕ) (process-is : p ≡ start.process)
      (m m' : Member A) (here : Some m ≡ member_of plain.crew p) (looks : WritesThrough nat_eq (nat_eq p) plain.crew m' looked.crew) where
    pub looked_member : IsSame after m m' → IsEngine after can_feed core limit state events (record plain { crew = looked.crew })
    looked_member same =
        looked_now plain engine start lives looked
        (subst (λ q. Looks after (ask core start plain.ticks) q plain.crew looked.crew) process-is (looks-written p after can_feed (ask core start plain.ticks) plain.crew looked.crew m m' here looks same))
        (living-at state.world plain.woken p plain.crew looked.crew m m' (sym here) (written-itself p plain.crew looked.crew m m' here looks) same.instance (written-others p plain.crew looked.crew m m' here looks) engine.living)

    pub answers_member : (heard : Plain A) (m'' : Member A) → WritesThrough nat_eq (nat_eq p) plain.crew m'' heard.crew → (a : Answer) → IsFed after can_feed a m' m''
        → (member : Member A) → member_of looked.crew start.process ≡ Some member → Answers after can_feed start.process a member looked.crew heard.crew
    answers_member heard m'' written a fed member there =
        subst (λ q. Answers after can_feed q a member looked.crew heard.crew) process-is
        (answers-written p after can_feed a plain.crew looked.crew heard.crew m m' m'' here looks written fed member (subst (λ q. member_of looked.crew q ≡ Some member) (sym process-is) there))

pub if_none : {X : Type 0} {P : Type 0} (o : Option X) → o ≡ None → IfNone o P → P
if_none None is h = h
if_none (Some x) is h = absurd (cc)

-- ---- one that may not have begun

pub at_unbegun : (t : Tried) (P : Type 0) → t ≡ attempt.Unbegun → IfUnbegun t P → P
at_unbegun attempt.Unbegun P is h = h
at_unbegun (attempt.Asked came) P is h = absurd (cc)

pub at_asked : (t : Tried) (came : Option Plainly) (P : Option Plainly → Type 0) → t ≡ attempt.Asked came → IfAsked t P → P came
at_asked t came P is h = subst (λ (x : Tried). IfAsked x P) is h
