-- What comes of a request that the machine has carried out.
use Rattle.std.proofs.Common.{◌≡◌, ℕ, zero, suc, true, false, not, cond, List, [], ◌∷◌, ◌++◌, Some, None, IsSome, refl, ap, sym, ◌∙◌, subst, eq-eqb}
use Rattle.std.specs.Prelude.{Ok, find}
use Rattle.sr_ask.specs.declared.answer.Answer.{Answer}
use Rattle.sr_ask.specs.declared.ask.Ask.{Ask}
use Rattle.sr_ask.specs.declared.ask.Asks.{Asks}
use Rattle.sr_ask.specs.declared.ask.Asks.TheVariants.{Asked, OverTicks}
use Rattle.sr_ask.specs.declared.item.Item.TheVariants.{Step}
use Rattle.sr_ask.specs.declared.start.Start.{Start}
use Rattle.sr_core.specs.declared.component.Core.{Core}
use Rattle.sr_world.proofs.StepLemmas.{same-step}
use Rattle.sr_world.specs.Acting.{Acts}
use Rattle.sr_world.specs.Does.{Does, Did, Makes, Cannot, Ends, Undecided, comes_to, is_possible}
use Rattle.sr_world.specs.Runs.{Event, Makes_item, Goes, Over as run_over, State, asks_for, asks_next, is_blocked, next, step_of, stepped, where_true, with_answer}
use Rattle.sr_world.specs.Sound.{times_used}
use Rattle.sr_world.specs.Steps.{does}
use Rattle.sr_world.specs.Worlds.{World, started}
use Rattle.sr_world.specs.declared.acted.Acted.{Acted}
use Rattle.sr_world.specs.declared.acted.Acted.TheVariants as acted
use Rattle.sr_world.specs.declared.ends.End.{End}
use Rattle.sr_world.specs.Callers.{caller_in}
use Rattle.sr_plain.specs.Carrying.{Names}
use Rattle.sr_plain.specs.Changes.{change_of, gone_by}
use Rattle.sr_plain.specs.Crew.{Answers, AreLiving, member_of}
use Rattle.sr_plain.specs.Engine.{Comes, IsCarried, IsEngine, Tries, WaitsForInput}
use Rattle.sr_plain.specs.Leaving.{Leaves, LeavesIf, LiveOn, LiveOnIf, written_by}
use Rattle.sr_plain.specs.Order.{IsNext, IsNumbered, IsOrdered}
use Rattle.sr_plain.specs.Ready.{AreAside, me_at}
use Rattle.sr_plain.specs.Turns.{takes_turn}
use Rattle.sr_plain.specs.declared.change.Woken.{Woken}
use Rattle.sr_actor.specs.declared.member.Member.{Member}
use Rattle.sr_plain.specs.declared.plain.Plain.{Plain}
use Rattle.sr_plain.specs.declared.plainly.Plainly.{Plainly}
use Rattle.sr_plain.specs.declared.plainly.Plainly.TheVariants as plainly
use Rattle.sr_plain.proofs.AsideLemmas.{aside_step}
use Rattle.sr_plain.proofs.LeaveLemmas.{leaves}
use Rattle.sr_plain.proofs.LedLemmas.{last-more, led-more, next-new, next-unused, sound}
use Rattle.sr_plain.proofs.LivingLemmas.{living-after, living-at}
use Rattle.sr_plain.proofs.OrderLemmas.{ordered-after}
use Rattle.sr_plain.proofs.StayLemmas.{live_on}
use Rattle.sr_plain.proofs.TurnLemmas.{answered-stands, kept-is}

pub next-name : (w : World) (name : ℕ) → IsNext w.used name → IsNumbered w name
next-name w zero next = tt
next-name w (suc n) next = next

-- whose turn it is, of one
pub one-turn : (core : Core) (limit : ℕ) (state : State) (start : Start) → takes_turn core limit state start ≡ true → find (takes_turn core limit state) (start ∷ []) ≡ Some start
one-turn core limit state start is = ap (λ b. cond b (Some start) None) is

pub no-turn : (core : Core) (limit : ℕ) (state : State) (start : Start) → takes_turn core limit state start ≡ false → find (takes_turn core limit state) (start ∷ []) ≡ None
no-turn core limit state start is = ap (λ b. cond b (Some start) None) is

module _ {A : Type 0} (after : A → List Answer → Asks) (can_feed : A → Type 0) (core : Core) (limit : ℕ) (state : State) (events : List Event) (start : Start) where
  module _ (asks : Ask) (name : ℕ) (is : Asked asks ≡ asks_next core limit state start) (lives : started state.world start.process ≡ Some start) where
    next-is : (d : Does) → does core state.world start.process asks name ≡ d → next core limit state (Step start.process name) ≡ stepped state start.process name d
    next-is d e =
        ap (step_of core limit state start.process name) lives ∙ ap (λ a. stepped state start.process name (asks_for core state.world start.process name a)) (sym is) ∙ ap (stepped state start.process name) e

    same-outcome : comes_to (does core state.world start.process asks 0) ≡ comes_to (does core state.world start.process asks name)
    same-outcome = same-step core state.world asks.place 0 name start.process asks.role asks.request

    takes-is : (d : Does) → does core state.world start.process asks name ≡ d → takes_turn core limit state start ≡ not (not (is_possible (comes_to d)))
    takes-is d e =
        ap (λ a. not (is_blocked core state.world start.process a)) (sym is) ∙ ap (λ o. not (not (is_possible o))) (same-outcome ∙ ap comes_to e)

    -- a step that was done
    record Finished (w' : World) (a : Answer) : Type 0 where
      goes : next core limit state (Step start.process name) ≡ Goes (record { world = w'; given = with_answer start.process a state.given })
      named : IsNumbered state.world name
      left : Leaves name (written_by asks.request) state.world w'
      live : LiveOn (change_of core (me_at start) asks a) (gone_by asks.request start.process) state.world w'
      new : times_used state.world name ≡ 0
      turn : takes_turn core limit state start ≡ true

    goes-to : (w w' : World) (g a : Answer) → w' ≡ w → a ≡ g → next core limit state (Step start.process name) ≡ Goes (record { world = w; given = with_answer start.process g state.given })
        → next core limit state (Step start.process name) ≡ Goes (record { world = w'; given = with_answer start.process a state.given })
    goes-to w w' g a same-world same-answer goes =
        goes ∙ ap (λ v. Goes (record { world = v; given = with_answer start.process g state.given })) (sym same-world)
        ∙ ap (λ v. Goes (record { world = w'; given = with_answer start.process v state.given })) (sym same-answer)

    left-by : (d : Does) → does core state.world start.process asks name ≡ d → LeavesIf name (written_by asks.request) state.world d
    left-by d e = subst (LeavesIf name (written_by asks.request) state.world) e (leaves name state.world core start.process asks.place asks.role asks.request)

    on-by : (a : Answer) (d : Does) → does core state.world start.process asks name ≡ d → LiveOnIf (change_of core (me_at start) asks a) (gone_by asks.request start.process) state.world d
    on-by a d e =
        subst (LiveOnIf (change_of core (me_at start) asks a) (gone_by asks.request start.process) state.world) e (live_on name state.world core start.process asks.place asks.role (me_at start) a asks.request)

    finished : (zero_unused : times_used state.world 0 ≡ 0) (w' : World) (a : Answer) (d : Does) → does core state.world start.process asks name ≡ d → Acts d state.world w' (Ok (acted.Done a)) → Names d state.world name → Finished w' a
    finished zero_unused w' a (Did w g) e acts none = record {
      goes = goes-to w w' g a acts.0 acts.1
          (next-is (Did w g) e ∙ ap (λ b. where_true b (Goes (record { world = w; given = with_answer start.process g state.given }))) (eq-eqb name 0 none));
      named = subst (IsNumbered state.world) (sym none) tt;
      left = subst (λ v. Leaves name (written_by asks.request) state.world v) (sym acts.0) (left-by (Did w g) e);
      live = subst (λ v. LiveOn (change_of core (me_at start) asks a) (gone_by asks.request start.process) state.world v) (sym acts.0) (on-by a (Did w g) e);
      new = subst (λ n. times_used state.world n ≡ 0) (sym none) zero_unused;
      turn = takes-is (Did w g) e;
    }
    finished zero_unused w' a (Makes w g) e acts following = record {
      goes = goes-to w w' g a acts.0 acts.1
          (next-is (Makes w g) e ∙ ap (λ b. where_true b (Goes (record { world = w; given = with_answer start.process g state.given }))) (next-new state.world name following));
      named = next-name state.world name following;
      left = subst (λ v. Leaves name (written_by asks.request) state.world v) (sym acts.0) (left-by (Makes w g) e);
      live = subst (λ v. LiveOn (change_of core (me_at start) asks a) (gone_by asks.request start.process) state.world v) (sym acts.0) (on-by a (Makes w g) e);
      new = next-unused state.world name following;
      turn = takes-is (Makes w g) e;
    }
    finished zero_unused w' a Cannot e acts none = absurd acts
    finished zero_unused w' a (Ends ending) e acts none = absurd acts
    finished zero_unused w' a Undecided e acts none = absurd acts

    -- one that can't be done
    refused : (w' : World) (d : Does) → does core state.world start.process asks name ≡ d → Acts d state.world w' (Ok acted.Cannot) → (w' ≡ state.world) × (takes_turn core limit state start ≡ false)
    refused w' (Did w g) e acts = absurd acts
    refused w' (Makes w g) e acts = absurd acts
    refused w' Cannot e acts = (acts, takes-is Cannot e)
    refused w' (Ends ending) e acts = absurd acts
    refused w' Undecided e acts = absurd acts

    -- one that ends the run
    record Final (w' : World) (ending : End) : Type 0 where
      world : w' ≡ state.world
      ends : next core limit state (Step start.process name) ≡ run_over ending state
      named : IsNumbered state.world name
      turn : takes_turn core limit state start ≡ true

    final : (w' : World) (given : End) (d : Does) → does core state.world start.process asks name ≡ d → Acts d state.world w' (Ok (acted.Ends given)) → Names d state.world name → Final w' given
    final w' given (Did w g) e acts none = absurd acts
    final w' given (Makes w g) e acts none = absurd acts
    final w' given Cannot e acts none = absurd acts
    final w' given (Ends ending) e acts none = record {
      world = acts.0;
      ends = next-is (Ends ending) e ∙ ap (λ b. where_true b (run_over ending state)) (eq-eqb name 0 none) ∙ ap (λ v. run_over v state) (sym acts.1);
      named = subst (IsNumbered state.world) (sym none) tt;
      turn = takes-is (Ends ending) e;
    }
    final w' given Undecided e acts none = absurd acts

    -- one that bytes decide which may still come
    record Open (w' : World) : Type 0 where
      world : w' ≡ state.world
      waits : WaitsForInput core limit state (Some start)
      turn : takes_turn core limit state start ≡ true

    open_ended : (w' : World) (d : Does) → does core state.world start.process asks name ≡ d → Acts d state.world w' (Ok acted.Undecided) → Open w'
    open_ended w' (Did w g) e acts = absurd acts
    open_ended w' (Makes w g) e acts = absurd acts
    open_ended w' Cannot e acts = absurd acts
    open_ended w' (Ends ending) e acts = absurd acts
    open_ended w' Undecided e acts = record {
      world = acts;
      waits = ap (λ a. comes_to (asks_for core state.world start.process 0 a)) (sym is) ∙ same-outcome ∙ ap comes_to e;
      turn = takes-is Undecided e;
    }

  -- ---- engines

  with-turn : (p : Plainly) (plain : Plain A) → takes_turn core limit state start ≡ true → Comes after can_feed core limit state events (Some start) p plain
      → Tries after can_feed core limit state events (find (takes_turn core limit state) (start ∷ [])) (Ok (Some p)) plain
  with-turn p plain takes comes = subst (λ t. IsSome t × Comes after can_feed core limit state events t p plain) (sym (one-turn core limit state start takes)) (refl, comes)

  module _ (name : ℕ) (plain : Plain A) where
    engine-of : (a : Acted) → IsCarried after can_feed core limit state events start name a plain → plain.woken ≡ None → plain.world ≡ state.world → IsEngine after can_feed core limit state events plain
    engine-of a c none same = record { world = same; ticks = c.ticks; last = c.last; stands = c.stands; living = subst (λ w. AreLiving state.world w plain.crew) (sym none) c.living; aside = subst (λ w. AreAside core limit state plain.waiters w) (sym none) c.aside }

    asked-is : (a : Acted) (c : IsCarried after can_feed core limit state events start name a plain) → Asked c.asks ≡ asks_next core limit state start
    asked-is a c = kept-is after can_feed core limit state events start plain.crew c.member c.stands c.lives c.here (Asked c.asks) c.asked

    pub answered_not : IsCarried after can_feed core limit state events start name acted.Cannot plain
        → Tries after can_feed core limit state events (find (takes_turn core limit state) (start ∷ [])) (Ok None) plain
    answered_not c =
        let r = refused c.asks name (asked-is acted.Cannot c) c.lives plain.world (does core state.world start.process c.asks name) refl c.acts in
        (no-turn core limit state start r.1, engine-of acted.Cannot c c.noted r.0)

    pub answered_ends : (ending : End) → IsCarried after can_feed core limit state events start name (acted.Ends ending) plain
        → Tries after can_feed core limit state events (find (takes_turn core limit state) (start ∷ [])) (Ok (Some (plainly.Ended (Step start.process name) ending))) plain
    answered_ends ending c =
        let f = final c.asks name (asked-is (acted.Ends ending) c) c.lives plain.world ending (does core state.world start.process c.asks name) refl c.acts c.names in
        with-turn (plainly.Ended (Step start.process name) ending) plain f.turn
        (record { ends = f.ends; turn_of = refl; named = f.named }, engine-of (acted.Ends ending) c c.noted f.world)

    pub answered_wants : IsCarried after can_feed core limit state events start name acted.Undecided plain
        → Tries after can_feed core limit state events (find (takes_turn core limit state) (start ∷ [])) (Ok (Some plainly.Wants)) plain
    answered_wants c =
        let o = open_ended c.asks name (asked-is acted.Undecided c) c.lives plain.world (does core state.world start.process c.asks name) refl c.acts in
        with-turn plainly.Wants plain o.turn (o.waits, engine-of acted.Undecided c c.noted o.world)

    pub answered_done : (a : Answer) (plain' : Plain A) (output : List ℕ) → (c : IsCarried after can_feed core limit state events start name (acted.Done a) plain)
        → ((m : Member A) → member_of plain.crew start.process ≡ Some m → Answers after can_feed start.process a m plain.crew plain'.crew) → output ≡ written_by c.asks.request
        → plain'.world ≡ plain.world → plain'.ticks ≡ plain.ticks → plain'.last ≡ start.process → plain'.waiters ≡ plain.waiters → plain'.woken ≡ plain.woken
        → Tries after can_feed core limit state events (find (takes_turn core limit state) (start ∷ [])) (Ok (Some (plainly.Stepped (Step start.process name) output))) plain'
    answered_done a plain' output c answers wrote world ticks last waiters woken =
        with-turn (plainly.Stepped (Step start.process name) output) plain' f.turn (record {
          later = later;
          goes = f.goes;
          turn_of = refl;
          named = f.named;
          written = f.left.output ∙ ap (λ text. state.world.output ++ text) (sym wrote);
          engine = record {
            world = world;
            ticks = ticks ∙ c.ticks;
            last = last ∙ sym (last-more events (Makes_item (Step start.process name)));
            stands = answered-stands after can_feed core limit state events start plain.crew c.member c.stands c.lives c.here c.can_hear a plain'.crew (answers c.member c.here) later name (written_by c.asks.request) (Step start.process name) refl f.left f.new f.goes order.0 order.1;
            living = subst (λ w. AreLiving plain.world w plain'.crew) (sym (woken ∙ c.noted.0)) living;
            aside = subst (λ ws. AreAside core limit later ws plain'.woken) (sym waiters) (subst (λ w. AreAside core limit later plain.waiters w) (sym (woken ∙ c.noted.0))
                (aside_step core limit state start c.asks name c.lives plain.world a plain.waiters c.acts f.left.lives c.noted.1 c.aside));
          };
        })
      where
        later : State
        later = record { world = plain.world; given = with_answer start.process a state.given }

        f : Finished c.asks name (asked-is (acted.Done a) c) c.lives plain.world a
        f = finished c.asks name (asked-is (acted.Done a) c) c.lives (sound core limit events state c.stands.leads).numbers.zero_never plain.world a (does core state.world start.process c.asks name) refl c.acts c.names

        change : Woken
        change = record { change = change_of core (me_at start) c.asks a; caller = caller_in state.world start.process c.asks.request; made = name; gone = gone_by c.asks.request start.process }

        fed : Answers after can_feed start.process a c.member plain.crew plain'.crew
        fed = answers c.member c.here

        living : AreLiving plain.world (Some change) plain'.crew
        living =
            living-at plain.world (Some change) start.process plain.crew plain'.crew c.member fed.fed c.here fed.itself fed.is_fed.instance fed.others
            (living-after state.world plain.world plain.crew c.stands.unborn name (written_by c.asks.request) f.left f.new c.living change f.live)

        order : (n : ℕ) × IsOrdered later.world n
        order =
            ordered-after core limit events state later (Step start.process name) c.stands.leads (led-more core limit events state later (Makes_item (Step start.process name)) c.stands.leads f.goes) c.stands.next c.stands.order name
            (written_by c.asks.request) refl f.named f.left

  -- one that is over its ticks
  pub is_over : (plain : Plain A) (m : Member A) → IsEngine after can_feed core limit state events plain → started state.world start.process ≡ Some start
      → member_of plain.crew start.process ≡ Some m → OverTicks ≡ after m.actor []
      → Tries after can_feed core limit state events (find (takes_turn core limit state) (start ∷ [])) (Ok (Some (plainly.Over start.process))) plain
  is_over plain m engine lives here known =
      let is = kept-is after can_feed core limit state events start plain.crew m engine.stands lives here OverTicks known in
      with-turn (plainly.Over start.process) plain (ap (λ a. not (is_blocked core state.world start.process a)) (sym is)) ((refl, sym is), engine)
