-- One turn of a player, and of a hand.
use Rattle.std.proofs.Common.{◌≡◌, ◌⊎◌, ◌+◌, ℕ, Bool, true, false, List, [], ◌∷◌, Some, Result, Ok, Err, IfOk, OnOk, MatchBool, length, slice_get, slice_set, refl, ap, sym, ◌∙◌, subst}
use Rattle.sr_actor.specs.Crew.{IsFed, IsSame}
use Rattle.sr_ask.specs.declared.answer.Answer.{Answer}
use Rattle.sr_ask.specs.declared.ask.Ask.{Ask}
use Rattle.sr_ask.specs.declared.ask.Asks.{Asks}
use Rattle.sr_ask.specs.declared.ask.Asks.TheVariants.{Asked, OverTicks}
use Rattle.sr_core.specs.declared.owner.Me.{Me}
use Rattle.sr_value.specs.declared.memory.NoMemory.{NoMemory}
use Rattle.sr_worker.specs.Desks.{IfDeclined, NotesAfter, Stays}
use Rattle.sr_worker.specs.Hands.{PassesOver, Works, processes_of}
use Rattle.sr_worker.specs.Notes.{WritesDown}
use Rattle.sr_worker.specs.Players.{IsPassedOver, MakesStep, Waits, me_of}
use Rattle.sr_worker.specs.declared.desk.Desked.{Desked}
use Rattle.sr_worker.specs.declared.desk.Desked.TheVariants.{Done}
use Rattle.sr_worker.specs.declared.hand.Hand.{Hand}
use Rattle.sr_worker.specs.declared.notes.Notes.{Notes}
use Rattle.sr_worker.specs.declared.player.Player.{Player}
use Rattle.sr_worker.proofs.Lists.{map-set-alike}
use Rattle.sr_worker.proofs.Works.{step-more, waits-hand, works-step, works-unchanged}

module _ {A S : Type 0} (after : A → List Answer → Asks) (declines : S → Me → Ask → Type 0) (old new : Player A) (same : IsSame after old.member new.member) (process : new.process ≡ old.process)
    (asks : Asks) (asked : asks ≡ after new.member.actor []) where
  me-is : me_of new ≡ me_of old
  me-is = ap (λ n. record { process = n; instance = new.member.instance }) process ∙ ap (λ n. record { process = old.process; instance = n }) same.instance

  from : after old.member.actor [] ≡ asks
  from = sym (same.actor []) ∙ sym asked

  -- it is over its ticks
  pub waits-over : asks ≡ OverTicks → (notes : Notes) (seat : S) → Waits after declines old new notes notes seat seat
  waits-over over notes seat = record {
    me = me-is;
    same = same.actor;
    nothing = refl;
    passed = subst (λ x. IsPassedOver (declines seat) (me_of old) x) (sym (from ∙ over)) tt;
    stays = λ m a was. was;
  }

  module _ (ask : Ask) (is : asks ≡ Asked ask) (me : Me) (me-new : me ≡ me_of new) (notes later : Notes) where
    -- it was declined
    pub waits-declined : (seat seat-later : S) → later ≡ notes → declines seat-later me ask × Stays declines seat seat-later → Waits after declines old new notes later seat seat-later
    waits-declined seat seat-later nothing declined = record {
      me = me-is;
      same = same.actor;
      nothing = nothing;
      passed = subst (λ x. IsPassedOver (declines seat-later) (me_of old) x) (sym (from ∙ is)) (subst (λ m. declines seat-later m ask) (me-new ∙ me-is) declined.0);
      stays = declined.1;
    }

    -- it made a step, and heard the answer
    pub steps : (can_feed : A → Type 0) (answer : Answer) (heard : Player A) → can_feed new.member.actor → IsFed after can_feed answer new.member heard.member → heard.process ≡ new.process
        → WritesDown me ask answer notes later → MakesStep after old heard notes later
    steps can_feed answer heard may fed same-process written = record {
      ask = ask;
      answer = answer;
      me = ap (λ n. record { process = n; instance = heard.member.instance }) same-process ∙ ap (λ n. record { process = new.process; instance = n }) fed.instance ∙ me-is;
      asked = from ∙ is;
      heard = λ more. fed.actor may more ∙ same.actor (answer ∷ more);
      written = subst (λ m. WritesDown m ask answer notes later) (me-new ∙ me-is) written;
    }

-- ---- a turn of a hand

module _ {A S : Type 0} (after : A → List Answer → Asks) (declines : S → Me → Ask → Type 0) (place : ℕ) (old new : Hand A) (p q : Player A) (seat later : S) (here : slice_get old.players place ≡ Some p)
    (is : new.players ≡ slice_set old.players place q) where
  abbrev Turn : Result Bool NoMemory → Type 0
  Turn r = IfOk r (λ went. MatchBool went (MakesStep after p q old.notes new.notes) (Waits after declines p q old.notes new.notes seat later))

  pub turn-works : (r : Result Bool NoMemory) → Turn r → OnOk r (Works after old new)
  turn-works (Ok true) step = works-step after place old new p q here is step
  turn-works (Ok false) waits =
      works-unchanged after old new (ap (λ ps. processes_of ps) is ∙ map-set-alike me_of old.players place p q here waits.me)
      (waits-hand after declines place old new p q seat later here is waits).unchanged
  turn-works (Err e) turn = tt

  pub turn-turn : (r : Result Bool NoMemory) → Turn r
      → IfOk r (λ went. MatchBool went (length new.notes.entries ≡ length old.notes.entries + 1) (PassesOver after declines place old new seat later))
  turn-turn (Ok true) step = step-more after place old new p q here is step
  turn-turn (Ok false) waits = waits-hand after declines place old new p q seat later here is waits
  turn-turn (Err e) turn = tt
