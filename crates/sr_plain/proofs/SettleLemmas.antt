-- The last actor is set aside where its next request can't be done.
use Rattle.std.proofs.Common.{◌≡◌, inl, inr, ℕ, List, [], None, Some, OnOk, Result, Ok, Err, sym, subst}
use Rattle.sr_ask.specs.declared.answer.Answer.{Answer}
use Rattle.sr_ask.specs.declared.ask.Ask.{Ask}
use Rattle.sr_ask.specs.declared.ask.Asks.{Asks}
use Rattle.sr_ask.specs.declared.ask.Asks.TheVariants.{Asked}
use Rattle.sr_ask.specs.declared.start.Start.{Start}
use Rattle.sr_core.specs.declared.component.Core.{Core}
use Rattle.sr_core.specs.declared.owner.Me.{Me}
use Rattle.sr_world.specs.Does.{IsNot, comes_to}
use Rattle.sr_world.specs.Runs.{Event, State, asks_next}
use Rattle.sr_world.specs.Steps.{does}
use Rattle.sr_world.specs.Worlds.{World, started}
use Rattle.sr_plain.specs.Crew.{member_of}
use Rattle.sr_plain.specs.Engine.{IsEngine}
use Rattle.sr_plain.specs.Noting.{IsSetAside, MaySetAside}
use Rattle.sr_plain.specs.Ready.{AreAside, me_at}
use Rattle.sr_actor.specs.declared.member.Member.{Member}
use Rattle.sr_plain.specs.declared.plain.Plain.{Plain}
use Rattle.sr_plain.specs.declared.waiters.Waiters.{Waiters}
use Rattle.sr_plain.proofs.AsideLemmas.{aside_set}
use Rattle.sr_plain.proofs.TurnLemmas.{kept-is}

module _ {A : Type 0} (after : A → List Answer → Asks) (can_feed : A → Type 0) (core : Core) (limit : ℕ) (state : State) (events : List Event) where
  module _ (start : Start) (plain : Plain A) (engine : IsEngine after can_feed core limit state events plain) (lives : started state.world start.process ≡ Some start) (awake : plain.woken ≡ None)
      (me : Me) (me_is : me ≡ me_at start) (m : Member A) (here : member_of plain.crew start.process ≡ Some m) (asks : Ask) (known : Asked asks ≡ after m.actor []) (waiters : Waiters) where
    asked-is : asks_next core limit state start ≡ Asked asks
    asked-is = sym (kept-is after can_feed core limit state events start plain.crew m engine.stands lives here (Asked asks) known)

    pub settled : MaySetAside core plain.world me asks plain.waiters waiters → IsEngine after can_feed core limit state events (record plain { waiters = waiters })
    settled (inl same) = subst (λ (w : Waiters). IsEngine after can_feed core limit state events (record plain { waiters = w })) (sym same) engine
    settled (inr set) = record {
      world = engine.world;
      ticks = engine.ticks;
      last = engine.last;
      stands = engine.stands;
      living = engine.living;
      aside = subst (λ w. AreAside core limit state waiters w) (sym awake)
          (aside_set core limit state start asks plain.waiters waiters lives asked-is cannot (subst (λ (x : Me). IsSetAside core x asks plain.waiters waiters) me_is set.1)
          (subst (λ w. AreAside core limit state plain.waiters w) awake engine.aside));
    }
      where
        cannot : comes_to (does core state.world start.process asks 0) ≡ IsNot
        cannot = subst (λ (v : World). comes_to (does core v start.process asks 0) ≡ IsNot) engine.world (subst (λ (x : Me). comes_to (does core plain.world x.process asks 0) ≡ IsNot) me_is set.0)

pub ok_then : {T E : Type 0} {P Q : Type 0} (r : Result T E) → OnOk r P → (P → Q) → OnOk r Q
ok_then (Ok x) h f = f h
ok_then (Err e) h f = h
