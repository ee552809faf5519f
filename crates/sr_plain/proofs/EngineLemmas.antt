-- What leaves an engine standing for its state, and input.
use Rattle.std.proofs.Common.{◌≡◌, ◌==◌, ◌||◌, ℕ, true, false, not, Option, true≢false, List, [], ◌∷◌, ◌++◌, None, Some, refl, ap, sym, ◌∙◌, subst, arith}
use Rattle.std.specs.HashMap.{HashMap}
use Rattle.std.specs.Map.{lookup}
use Rattle.std.specs.Prelude.{nat_eq}
use Rattle.sr_ask.specs.declared.answer.Answer.{Answer}
use Rattle.sr_ask.specs.declared.ask.Asks.{Asks}
use Rattle.sr_ask.specs.declared.start.Start.{Start}
use Rattle.sr_core.specs.declared.component.Core.{Core}
use Rattle.sr_meaning.specs.Processes.{ask}
use Rattle.sr_value.specs.declared.capability.Owner.{Owner}
use Rattle.sr_world.specs.Runs.{Event, Gives, Closes, Goes, State, first, where_true, with_input, without_more}
use Rattle.sr_world.specs.Worlds.{World, beginning, started}
use Rattle.sr_plain.specs.Crew.{AreLiving, LetsGo, Looks, member_of}
use Rattle.sr_plain.specs.Engine.{IsEngine, StandsFor}
use Rattle.sr_plain.specs.Ready.{AreAside}
use Rattle.sr_plain.specs.Waiting.{is_opened, is_woken, opens, waits, wakes}
use Rattle.sr_plain.specs.declared.change.Change.TheVariants.{Everything}
use Rattle.sr_plain.specs.declared.change.Woken.{Woken}
use Rattle.sr_plain.specs.declared.waiters.Waiters.{Waiters}
use Rattle.sr_plain.specs.Waking.{WakesUp}
use Rattle.sr_plain.proofs.AsideLemmas.{aside_input, aside_woken}
use Rattle.sr_actor.specs.declared.member.Member.{Member}
use Rattle.sr_plain.specs.declared.plain.Plain.{Plain}
use Rattle.sr_plain.proofs.LedLemmas.{last-more, led-more}
use Rattle.sr_plain.proofs.LivingLemmas.{living-everyone, living-left, living-same}
use Rattle.sr_plain.proofs.TurnLemmas.{kept-stands, looked-stands}

-- where everyone is woken nobody is aside
pub everyone : (core : Core) (limit : ℕ) (state : State) (waiters : Waiters) (woken : Option Woken) (w : Woken) → woken ≡ Some w → w.change ≡ Everything → AreAside core limit state waiters woken
everyone core limit state waiters woken w is everything = record { aside = λ q s lives unready unwoken. absurd (true≢false (sym (woken-all q) ∙ unwoken)); closed = λ owner op q here off. absurd (true≢false (sym (open-all owner op) ∙ off)) }
  where
    open-all : (owner : Owner) (op : ℕ) → is_opened woken owner op ≡ true
    open-all owner op = ap (λ o. is_opened o owner op) is ∙ ap (λ c. opens c owner op) everything

    woken-all : (q : ℕ) → is_woken waiters woken q ≡ true
    woken-all q = ap (λ o. is_woken waiters o q) is ∙ ap (λ c. wakes c (λ k. waits waiters k q) || (w.caller == q || w.made == q)) everything

module _ {A : Type 0} (after : A → List Answer → Asks) (can_feed : A → Type 0) (core : Core) (limit : ℕ) where
  pub looked_engine : (state : State) (events : List Event) (start : Start) (plain looked : Plain A) → IsEngine after can_feed core limit state events plain
      → started state.world start.process ≡ Some start → Looks after (ask core start limit) start.process plain.crew looked.crew → AreLiving state.world plain.woken looked.crew
      → IsEngine after can_feed core limit state events (record plain { crew = looked.crew })
  looked_engine state events start plain looked engine lives looks living = record {
    world = engine.world;
    ticks = engine.ticks;
    last = engine.last;
    stands = looked-stands after can_feed core limit state events start plain.crew looked.crew engine.stands lives looks;
    living = living;
    aside = engine.aside;
  }

  -- those whom the last step woke are ready, and those whom it ended have left
  pub woken_engine : (state : State) (events : List Event) (plain : Plain A) → IsEngine after can_feed core limit state events plain → (woken : Woken) → plain.woken ≡ Some woken
      → (kept : Plain A) → LetsGo plain.world woken plain.crew kept.crew → (waiters : Waiters) → WakesUp plain.world woken plain.waiters waiters
      → IsEngine after can_feed core limit state events (record plain { crew = kept.crew; waiters = waiters; woken = None })
  woken_engine state events plain engine woken is kept lets waiters wakes_up = record {
    world = engine.world;
    ticks = engine.ticks;
    last = engine.last;
    stands = kept-stands after can_feed core limit state events plain.crew kept.crew engine.stands (goes.keeps (engine.living.gone woken is));
    living = living-left state.world woken plain.crew kept.crew goes (subst (λ w. AreLiving state.world w plain.crew) is engine.living);
    aside = aside_woken core limit state engine.stands.next engine.stands.order.ascend plain.waiters waiters woken (subst (λ w. AreAside core limit state plain.waiters w) is engine.aside) (subst (λ v. WakesUp v woken plain.waiters waiters) engine.world wakes_up);
  }
    where
      goes : LetsGo state.world woken plain.crew kept.crew
      goes = subst (λ w. LetsGo w woken plain.crew kept.crew) engine.world lets

  nobody : {S : Type 0} (crew : HashMap ℕ (Member A) S) → crew.entries ≡ [] → (q : ℕ) → member_of crew q ≡ None
  nobody crew empty q = ap (lookup (nat_eq q)) empty

  -- an engine that has just begun stands for the first state
  pub first_engine : (plain : Plain A) → plain.world ≡ beginning → plain.ticks ≡ limit → plain.last ≡ 0 → plain.crew.entries ≡ [] → (woken : Woken) → plain.woken ≡ Some woken → woken.change ≡ Everything → woken.gone ≡ None
      → IsEngine after can_feed core limit first [] plain
  first_engine plain world ticks last empty woken woken_is everything none_gone = record {
    world = world;
    ticks = ticks;
    last = last;
    stands = record {
      leads = refl;
      living = λ q s is. subst (λ o. StandsFor after (ask core s limit) [] o) (sym (nobody plain.crew empty q)) refl;
      unborn = λ q none. nobody plain.crew empty q;
      next = 2;
      order = record { rise = (omega arith, refl); ascend = (omega arith, omega arith); in_line = omega arith };
    };
    living = living-everyone first.world plain.crew plain.woken woken woken_is everything none_gone unnamed;
    aside = everyone core limit first plain.waiters plain.woken woken woken_is everything;
  }
    where
      unnamed : (q : ℕ) (s : Start) (x : Member A) → started first.world q ≡ Some s → member_of plain.crew q ≡ Some x → x.instance ≡ s.instance
      unnamed q s x lives at = let none : member_of plain.crew q ≡ None = nobody plain.crew empty q in absurd (cc)

  module _ (state : State) (events : List Event) (plain : Plain A) (engine : IsEngine after can_feed core limit state events plain) (open_input : state.world.ended ≡ false) where
    pub given_engine : (bytes : List ℕ) (w' : World) → w' ≡ with_input bytes plain.world
        → IsEngine after can_feed core limit (record state { world = with_input bytes state.world }) (events ++ Gives bytes ∷ []) (record plain { world = w' })
    given_engine bytes w' is = record {
      world = is ∙ ap (with_input bytes) engine.world;
      ticks = engine.ticks;
      last = engine.last ∙ sym (last-more events (Gives bytes));
      stands = record {
        leads = led-more core limit events state (record state { world = with_input bytes state.world }) (Gives bytes) engine.stands.leads
            (ap (λ b. where_true (not b) (Goes (record state { world = with_input bytes state.world }))) open_input);
        living = engine.stands.living;
        unborn = engine.stands.unborn;
        next = engine.stands.next;
        order = record { rise = engine.stands.order.rise; ascend = engine.stands.order.ascend; in_line = engine.stands.order.in_line };
      };
      living = living-same state.world (with_input bytes state.world) plain.woken plain.crew refl engine.living;
      aside = aside_input core limit state (state.world.rest ++ bytes) state.world.ended plain.waiters plain.woken engine.aside;
    }

    pub closed_engine : (w' : World) → w' ≡ without_more plain.world
        → IsEngine after can_feed core limit (record state { world = without_more state.world }) (events ++ Closes ∷ []) (record plain { world = w' })
    closed_engine w' is = record {
      world = is ∙ ap without_more engine.world;
      ticks = engine.ticks;
      last = engine.last ∙ sym (last-more events Closes);
      stands = record {
        leads = led-more core limit events state (record state { world = without_more state.world }) Closes engine.stands.leads
            (ap (λ b. where_true (not b) (Goes (record state { world = without_more state.world }))) open_input);
        living = engine.stands.living;
        unborn = engine.stands.unborn;
        next = engine.stands.next;
        order = record { rise = engine.stands.order.rise; ascend = engine.stands.order.ascend; in_line = engine.stands.order.in_line };
      };
      living = living-same state.world (without_more state.world) plain.woken plain.crew refl engine.living;
      aside = aside_input core limit state state.world.rest true plain.waiters plain.woken engine.aside;
    }
