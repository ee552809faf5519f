-- What one player does, and one turn after another.
use Rattle.std.proofs.Common.{◌≡◌, ◌≢◌, ◌⊎◌, inl, inr, ◌==◌, ◌+◌, ◌<◌, ℕ, zero, suc, Bool, true, false, List, [], ◌∷◌, ◌++◌, Option, Some, length, length-append, map, slice_get, slice_set, refl, ap, sym, ◌∙◌, subst, ⊎_elim, append-nil, append_assoc, eq-eqb, eqb-true, arith}
use mathlib.Core.Logic.{dite}
use native.Mathlib.Decide.{ℕ_discrete}
use Rattle.sr_ask.specs.declared.answer.Answer.{Answer}
use Rattle.sr_ask.specs.declared.ask.Ask.{Ask}
use Rattle.sr_ask.specs.declared.ask.Asks.{Asks}
use Rattle.sr_ask.specs.declared.ask.Asks.TheVariants.{Asked}
use Rattle.sr_ask.specs.declared.entry.Entry.{Entry}
use Rattle.sr_core.specs.declared.owner.Me.{Me}
use Rattle.sr_worker.specs.Desks.{Stays}
use Rattle.sr_worker.specs.Hands.{Adds, AreApart, ArePassedOver, AskLike, AsksLike, IsAmong, IsMade, IsPlaying, IsUnchanged, PassesOver, Works, processes_of}
use Rattle.sr_worker.specs.Notes.{IsNamed, maker_of}
use Rattle.sr_worker.specs.Players.{IsPassedOver, MakesStep, Waits, me_of}
use Rattle.sr_worker.specs.Playing.{Follows, IsPlayed, answers_of}
use Rattle.sr_worker.specs.declared.hand.Hand.{Hand}
use Rattle.sr_worker.specs.declared.notes.Notes.{Notes}
use Rattle.sr_worker.specs.declared.notes.Worker.{Worker}
use Rattle.sr_worker.specs.declared.player.Player.{Player}
use Rattle.sr_worker.proofs.Entries.{follows-other, follows-own, played-more}
use Rattle.sr_worker.proofs.Lists.{get-append, get-map, get-set, get-set-other, map-set-alike}

module _ {A : Type 0} (after : A → List Answer → Asks) where
  -- ---- who asks the same

  pub like-itself : (players : List (Player A)) → AskLike after players players
  like-itself players = λ k p here. record { other = p; here = here; me = refl; same = λ more. refl }

  pub like-then : (first second third : List (Player A)) → AskLike after first second → AskLike after second third → AskLike after first third
  like-then first second third one two = λ k p here.
      let a = one k p here in
      let b = two k a.other a.here in
      record { other = b.other; here = b.here; me = b.me ∙ a.me; same = λ more. b.same more ∙ a.same more }

  -- one player of many asks the same
  module _ (players : List (Player A)) (place : ℕ) (p q : Player A) (here : slice_get players place ≡ Some p) (me : me_of q ≡ me_of p)
      (same : (more : List Answer) → after q.member.actor more ≡ after p.member.actor more) where
    pub like-set : AskLike after players (slice_set players place q)
    like-set = λ k x there. dite (ℕ_discrete place k)
        (λ is. let x-is : p ≡ x = cc (here, there, ap (slice_get players) is) in record {
          other = q;
          here = subst (λ j. slice_get (slice_set players place q) j ≡ Some q) is (get-set players place p q here);
          me = me ∙ ap me_of x-is;
          same = λ more. same more ∙ ap (λ (y : Player A). after y.member.actor more) x-is;
        })
        (λ off. record { other = x; here = get-set-other players place k q off ∙ there; me = refl; same = λ more. refl })

    pub set-like : AskLike after (slice_set players place q) players
    set-like = λ k x there. dite (ℕ_discrete place k)
        (λ is. let there' : slice_get (slice_set players place q) place ≡ Some x = subst (λ j. slice_get (slice_set players place q) j ≡ Some x) (sym is) there in
        let x-is : q ≡ x = cc (get-set players place p q here, there') in record {
          other = p;
          here = subst (λ j. slice_get players j ≡ Some p) is here;
          me = sym me ∙ ap me_of x-is;
          same = λ more. sym (same more) ∙ ap (λ (y : Player A). after y.member.actor more) x-is;
        })
        (λ off. record { other = x; here = sym (get-set-other players place k q off) ∙ there; me = refl; same = λ more. refl })

  -- ---- what is kept where nothing is written down

  pub unchanged-then : (a b c : Hand A) → IsUnchanged after a b → IsUnchanged after b c → IsUnchanged after a c
  unchanged-then a b c first second = record {
    nothing = second.nothing ∙ first.nothing;
    forth = like-then a.players b.players c.players first.forth second.forth;
    back = like-then c.players b.players a.players second.back first.back;
  }

  playing-unchanged : (old new : Hand A) → IsUnchanged after old new → (plays : ℕ → List Answer → Asks) → IsPlaying plays after old → IsPlaying plays after new
  playing-unchanged old new same plays playing = record {
    asked = subst (λ (n : Notes). IsPlayed plays n.entries) (sym same.nothing) playing.asked;
    follows = λ k p here.
        let before = same.back k p here in
        let process : before.other.process ≡ p.process = ap (λ (m : Me). m.process) before.me in
        subst (λ (n : Notes). Follows plays n.entries p.process (after p.member.actor)) (sym same.nothing)
        (λ more. sym (before.same more) ∙ playing.follows k before.other before.here more ∙ ap (λ n. plays n (answers_of n old.notes.entries ++ more)) process);
  }

  adds-nothing : (mes : List Me) (old new : Notes) → new ≡ old → Adds mes old new
  adds-nothing mes old new same = record {
    added = [];
    entries = ap (λ (n : Notes). n.entries) same ∙ sym (append-nil old.entries);
    worker = ap (λ (n : Notes). n.worker) same;
    made = λ k e here. absurd (cc (here));
  }

  pub works-unchanged : (old new : Hand A) → processes_of new.players ≡ processes_of old.players → IsUnchanged after old new → Works after old new
  works-unchanged old new players same = record {
    adds = adds-nothing (processes_of old.players) old.notes new.notes same.nothing;
    players = players;
    playing = λ apart. playing-unchanged old new same;
    none = λ length. same;
  }

  pub works-itself : (hand : Hand A) → Works after hand hand
  works-itself hand = works-unchanged hand hand refl (record { nothing = refl; forth = like-itself hand.players; back = like-itself hand.players })

  -- ---- one after another

  module _ (a b c : Hand A) (first : Works after a b) (second : Works after b c) where
    long : length c.notes.entries ≡ length a.notes.entries + length first.adds.added + length second.adds.added
    long = omega (arith, ap length first.adds.entries, ap length second.adds.entries, length-append a.notes.entries first.adds.added, length-append b.notes.entries second.adds.added)

    middle : length b.notes.entries ≡ length a.notes.entries + length first.adds.added
    middle = omega (arith, ap length first.adds.entries, length-append a.notes.entries first.adds.added)

    later-made : (j k : ℕ) (e : Entry) → k ≡ length first.adds.added + j → slice_get second.adds.added j ≡ Some e → IsMade a.notes.worker (processes_of a.players) (length a.notes.entries + k) e
    later-made j k e is here =
        let n : length b.notes.entries + j ≡ length a.notes.entries + k = omega (arith, middle) in
        subst (λ i. IsMade a.notes.worker (processes_of a.players) i e) n
        (subst (λ ms. IsMade a.notes.worker ms (length b.notes.entries + j) e) first.players
        (subst (λ (w : Worker). IsMade w (processes_of b.players) (length b.notes.entries + j) e) first.adds.worker (second.adds.made j e here)))

    pub works-then : Works after a c
    works-then = record {
      adds = record {
        added = first.adds.added ++ second.adds.added;
        entries = second.adds.entries ∙ ap (λ es. es ++ second.adds.added) first.adds.entries ∙ append_assoc a.notes.entries first.adds.added second.adds.added;
        worker = second.adds.worker ∙ first.adds.worker;
        made = λ k e here. ⊎_elim (λ inside. first.adds.made k e inside) (λ later. later-made later.0 k e later.1 later.2) (get-append first.adds.added second.adds.added k e here);
      };
      players = second.players ∙ first.players;
      playing = λ apart plays playing. second.playing (subst (λ ms. AreApart ms) (sym first.players) apart) plays (first.playing apart plays playing);
      none = λ length. unchanged-then a b c (first.none (omega (arith, long, middle))) (second.none (omega (arith, long, middle)));
    }

  -- ---- a player that makes no step

  pub passed-like : {S : Type 0} (declines : S → Me → Ask → Type 0) (seat : S) (players others : List (Player A)) → AskLike after others players → ArePassedOver after declines seat players → ArePassedOver after declines seat others
  passed-like declines seat players others like passed = λ k p here.
      let one = like k p here in
      subst (λ m. IsPassedOver (declines seat) m (after p.member.actor [])) one.me
      (subst (λ asks. IsPassedOver (declines seat) (me_of one.other) asks) (one.same []) (passed k one.other one.here))

  pub waits-hand : {S : Type 0} (declines : S → Me → Ask → Type 0) (place : ℕ) (old new : Hand A) (p q : Player A) (seat later : S) → slice_get old.players place ≡ Some p
      → new.players ≡ slice_set old.players place q → Waits after declines p q old.notes new.notes seat later → PassesOver after declines place old new seat later
  waits-hand declines place old new p q seat later here is waits = record {
    unchanged = record {
      nothing = waits.nothing;
      forth = subst (λ ps. AskLike after old.players ps) (sym is) (like-set old.players place p q here waits.me waits.same);
      back = subst (λ ps. AskLike after ps old.players) (sym is) (set-like old.players place p q here waits.me waits.same);
    };
    itself = λ x there. let x-is : p ≡ x = cc (here, there) in
        subst (λ (y : Player A). IsPassedOver (declines later) (me_of y) (after y.member.actor [])) x-is waits.passed;
    stays = waits.stays;
  }

  -- ---- a player that makes a step

  module _ (place : ℕ) (old new : Hand A) (p q : Player A) (here : slice_get old.players place ≡ Some p) (is : new.players ≡ slice_set old.players place q)
      (step : MakesStep after p q old.notes new.notes) where
    entry : Entry
    entry = step.written.entry

    same-processes : processes_of new.players ≡ processes_of old.players
    same-processes = ap (λ ps. processes_of ps) is ∙ map-set-alike me_of old.players place p q here step.me

    actor-is : step.written.entry.actor ≡ p.process
    actor-is = ap (λ (m : Me). m.process) step.written.maker

    adds-one : Adds (processes_of old.players) old.notes new.notes
    adds-one = record {
      added = step.written.entry ∷ [];
      entries = step.written.entries;
      worker = step.written.worker;
      made = λ k e there. at k e there;
    }
      where
        made : IsMade old.notes.worker (processes_of old.players) (length old.notes.entries) step.written.entry
        made = record {
          by = step.written.by;
          among = record { place = place; here = get-map me_of old.players place p here ∙ ap Some (sym step.written.maker) };
          named = step.written.named;
        }

        at : (k : ℕ) (e : Entry) → slice_get (step.written.entry ∷ []) k ≡ Some e → IsMade old.notes.worker (processes_of old.players) (length old.notes.entries + k) e
        at zero e there = let e-is : step.written.entry ≡ e = cc in
            subst (λ (x : Entry). IsMade old.notes.worker (processes_of old.players) (length old.notes.entries + 0) x) e-is
            (subst (λ n. IsMade old.notes.worker (processes_of old.players) n step.written.entry) (omega arith) made)
        at (suc k) e there = absurd (cc (there))

    module _ (apart : AreApart (processes_of old.players)) (plays : ℕ → List Answer → Asks) (playing : IsPlaying plays after old) where
      own : (step.written.entry.actor == p.process) ≡ true
      own = eq-eqb step.written.entry.actor p.process actor-is

      asks : plays step.written.entry.actor (answers_of step.written.entry.actor old.notes.entries) ≡ Asked step.written.entry.ask
      asks = subst (λ n. plays n (answers_of n old.notes.entries) ≡ Asked step.written.entry.ask) (sym actor-is)
          (ap (plays p.process) (sym (append-nil (answers_of p.process old.notes.entries))) ∙ sym (playing.follows place p here []) ∙ step.asked ∙ ap Asked (sym step.written.asked))

      hears : (more : List Answer) → after q.member.actor more ≡ after p.member.actor (step.written.entry.answer ∷ more)
      hears more = step.heard more ∙ ap (λ a. after p.member.actor (a ∷ more)) (sym step.written.answered)

      follows-at : (k : ℕ) (x : Player A) → slice_get (slice_set old.players place q) k ≡ Some x → Follows plays (old.notes.entries ++ step.written.entry ∷ []) x.process (after x.member.actor)
      follows-at k x there = dite (ℕ_discrete place k)
          (λ same.
          let there' : slice_get (slice_set old.players place q) place ≡ Some x = subst (λ j. slice_get (slice_set old.players place q) j ≡ Some x) (sym same) there in
          let x-is : q ≡ x = cc (get-set old.players place p q here, there') in
          subst (λ (y : Player A). Follows plays (old.notes.entries ++ step.written.entry ∷ []) y.process (after y.member.actor)) x-is
          (subst (λ n. Follows plays (old.notes.entries ++ step.written.entry ∷ []) n (after q.member.actor)) (sym (ap (λ (m : Me). m.process) step.me))
          (follows-own plays old.notes.entries step.written.entry p.process (after p.member.actor) (after q.member.actor) own (playing.follows place p here) hears)))
          (λ off.
          let x-here : slice_get old.players k ≡ Some x = sym (get-set-other old.players place k q off) ∙ there in
          follows-other plays old.notes.entries step.written.entry x.process (after x.member.actor)
          (another k x x-here off (step.written.entry.actor == x.process) refl) (playing.follows k x x-here))
        where
          another : (k : ℕ) (x : Player A) → slice_get old.players k ≡ Some x → place ≢ k → (b : Bool) → (step.written.entry.actor == x.process) ≡ b → (step.written.entry.actor == x.process) ≡ false
          another k x x-here off false is = is
          another k x x-here off true is = absurd (off (apart place k (me_of p) (me_of x) (get-map me_of old.players place p here) (get-map me_of old.players k x x-here)
              (sym actor-is ∙ eqb-true step.written.entry.actor x.process is)))

      pub step-playing : IsPlaying plays after new
      step-playing = record {
        asked = subst (λ es. IsPlayed plays es) (sym step.written.entries) (played-more plays old.notes.entries step.written.entry playing.asked asks);
        follows = λ k x there.
            subst (λ es. Follows plays es x.process (after x.member.actor)) (sym step.written.entries)
            (follows-at k x (subst (λ ps. slice_get ps k ≡ Some x) is there));
      }

    pub step-more : length new.notes.entries ≡ length old.notes.entries + 1
    step-more = omega (arith, ap length step.written.entries, length-append old.notes.entries (step.written.entry ∷ []))

    pub works-step : Works after old new
    works-step = record {
      adds = adds-one;
      players = same-processes;
      playing = λ apart plays playing. step-playing apart plays playing;
      none = λ same. absurd (omega (arith, step-more, same));
    }
