-- Rounds of turns.
use Rattle.std.proofs.Common.{◌≡◌, ◌≢◌, ◌⊎◌, inl, inr, ◌+◌, ◌-◌, ◌*◌, ◌<◌, ◌≤◌, ℕ, zero, suc, leb, true, false, List, [], Some, length, slice_get, refl, ap, sym, ◌∙◌, subst, ⊎_elim, true≢false, arith, suc-mul}
use Rattle.std.proofs.lemmas.List.{length-map}
use Rattle.std.proofs.lemmas.Option.{slice_get_within}
use mathlib.Core.Logic.{dite}
use native.Mathlib.Decide.{ℕ_discrete}
use Rattle.sr_ask.specs.declared.answer.Answer.{Answer}
use Rattle.sr_ask.specs.declared.ask.Ask.{Ask}
use Rattle.sr_ask.specs.declared.ask.Asks.{Asks}
use Rattle.sr_ask.specs.declared.ask.Asks.TheVariants.{Asked, OverTicks}
use Rattle.sr_ask.specs.declared.entry.Entry.{Entry}
use Rattle.sr_core.specs.declared.owner.Me.{Me}
use Rattle.sr_worker.specs.Desks.{Stays}
use Rattle.std.proofs.lemmas.Bool.Decides.{leb_tells}
use Rattle.sr_worker.specs.Hands.{IsNext, ArePassedOver, AskLike, IsUnchanged, PassesOver, Works, processes_of}
use Rattle.sr_worker.specs.Notes.{is_spent}
use Rattle.sr_worker.specs.Players.{IsPassedOver, me_of}
use Rattle.sr_worker.specs.declared.hand.Hand.{Hand}
use Rattle.sr_worker.specs.declared.notes.Notes.{Notes}
use Rattle.sr_worker.specs.declared.notes.Worker.{Worker}
use Rattle.sr_worker.specs.declared.player.Player.{Player}
use Rattle.sr_worker.proofs.Works.{passed-like, works-itself, works-then}

-- who is among the last that were asked
abbrev pub IsLately : ℕ → ℕ → ℕ → ℕ → Type 0
IsLately place idle count k = ((k < place) × (place ≤ k + idle)) ⊎ (count + place ≤ k + idle)

-- the last that were asked, as many as made no step since the last one that did, were passed over
pub record GoesRound {A S : Type 0} (after : A → List Answer → Asks) (declines : S → Me → Ask → Type 0) (first now : Hand A) (seat : S) (place idle : ℕ) : Type 0 where
  pub works : Works after first now
  pub place_in : 0 < length now.players → place < length now.players
  pub idle_in : idle ≤ length now.players
  pub passed : (k : ℕ) (p : Player A) → slice_get now.players k ≡ Some p → IsLately place idle (length now.players) k → IsPassedOver (declines seat) (me_of p) (after p.member.actor [])

lately-before : (place idle count next k : ℕ) → place ≢ k → k < count → IsNext count place next → IsLately next (idle + 1) count k → IsLately place idle count k
lately-before place idle count next k off low (inl up) (inl near) = inl (omega arith, omega arith)
lately-before place idle count next k off low (inl up) (inr far) = inr (omega arith)
lately-before place idle count next k off low (inr wraps) (inl near) = absurd (omega arith)
lately-before place idle count next k off low (inr wraps) (inr far) = inl (omega arith, omega arith)

lately-all : (place idle count k : ℕ) → place < count → k < count → count ≤ idle → IsLately place idle count k
lately-all place idle count k in-list low all = ⊎_elim (λ (t : (leb place k ≡ true) × (place ≤ k)). inr (omega arith)) (λ (t : (leb place k ≡ false) × (k < place)). inl (t.1, omega arith)) (leb_tells place k)

nobody-lately : (place count k : ℕ) → k < count → IsLately place 0 count k → ⊥
nobody-lately place count k low (inl near) = omega arith
nobody-lately place count k low (inr far) = omega arith

module _ {A S : Type 0} (after : A → List Answer → Asks) (declines : S → Me → Ask → Type 0) where
  pub same-count : (old new : Hand A) → Works after old new → length new.players ≡ length old.players
  same-count old new works = sym (length-map new.players me_of) ∙ ap length works.players ∙ length-map old.players me_of

  pub same-room : (old new : Hand A) → Works after old new → new.notes.worker.room ≡ old.notes.worker.room
  same-room old new works = ap (λ (w : Worker). w.room) works.adds.worker

  module _ (first old new : Hand A) (seat later : S) (place idle next : ℕ) (round : GoesRound after declines first old seat place idle) (works : Works after old new)
      (next-is : IsNext (length new.players) place next) (next-in : next < length new.players) where
    pub round-steps : GoesRound after declines first new later next 0
    round-steps = record {
      works = works-then after first old new round.works works;
      place_in = λ some. next-in;
      idle_in = omega arith;
      passed = λ k p here lately. absurd (nobody-lately next (length new.players) k (slice_get_within new.players k p here) lately);
    }

    pub round-waits : PassesOver after declines place old new seat later → idle < length old.players → GoesRound after declines first new later next (idle + 1)
    round-waits waits more = record {
      works = works-then after first old new round.works works;
      place_in = λ some. next-in;
      idle_in = omega (arith, same-count old new works);
      passed = passed;
    }
      where
        stays : (me : Me) (asks : Asks) → IsPassedOver (declines seat) me asks → IsPassedOver (declines later) me asks
        stays me (Asked ask) was = waits.stays me ask was
        stays me OverTicks was = tt

        at-other : (k : ℕ) (p : Player A) → slice_get old.players k ≡ Some p → IsLately next (idle + 1) (length new.players) k → IsPassedOver (declines later) (me_of p) (after p.member.actor [])
        at-other k p here lately = dite (ℕ_discrete place k)
            (λ is. waits.itself p (subst (λ j. slice_get old.players j ≡ Some p) (sym is) here))
            (λ off. stays (me_of p) (after p.member.actor [])
            (round.passed k p here
            (lately-before place idle (length old.players) next k off (slice_get_within old.players k p here)
            (subst (λ n. IsNext n place next) (same-count old new works) next-is)
            (subst (λ n. IsLately next (idle + 1) n k) (same-count old new works) lately))))

        passed : (k : ℕ) (p : Player A) → slice_get new.players k ≡ Some p → IsLately next (idle + 1) (length new.players) k → IsPassedOver (declines later) (me_of p) (after p.member.actor [])
        passed k p here lately =
            let one = waits.unchanged.back k p here in
            subst (λ m. IsPassedOver (declines later) m (after p.member.actor [])) one.me
            (subst (λ asks. IsPassedOver (declines later) (me_of one.other) asks) (one.same []) (at-other k one.other one.here lately))

  -- all were asked
  pub round-whole : (first now : Hand A) (seat : S) (place idle : ℕ) → GoesRound after declines first now seat place idle → length now.players ≤ idle → ArePassedOver after declines seat now.players
  round-whole first now seat place idle round whole = λ k p here.
      let low : k < length now.players = slice_get_within now.players k p here in
      round.passed k p here (lately-all place idle (length now.players) k (round.place_in (omega arith)) low whole)

  pub round-begins : (first : Hand A) (seat : S) → GoesRound after declines first first seat 0 0
  round-begins first seat = record {
    works = works-itself after first;
    place_in = λ some. some;
    idle_in = omega arith;
    passed = λ k p here lately. absurd (nobody-lately 0 (length first.players) k (slice_get_within first.players k p here) lately);
  }

  -- those who were passed over still are after a further one
  pub passed-still : (place : ℕ) (old new : Hand A) (seat later : S) → PassesOver after declines place old new seat later → ArePassedOver after declines seat old.players → ArePassedOver after declines later new.players
  passed-still place old new seat later waits passed = passed-like after declines later old.players new.players waits.unchanged.back (λ k p here. stays (me_of p) (after p.member.actor []) (passed k p here))
    where
      stays : (me : Me) (asks : Asks) → IsPassedOver (declines seat) me asks → IsPassedOver (declines later) me asks
      stays me (Asked ask) was = waits.stays me ask was
      stays me OverTicks was = tt

-- ---- what is left to do falls

pub falls-step : (room made made' count count' idle : ℕ) → count' ≡ count → made' ≡ made + 1 → made < room → idle < count → (room - made') * (count' + 1) + (count' - 0) < (room - made) * (count + 1) + (count - idle)
falls-step room made made' count count' idle same more low some =
    let left : ℕ = room - made - 1 in
    let one : (room - made) * (count + 1) ≡ suc left * (count + 1) = ap (λ (z : ℕ). z * (count + 1)) (omega arith) in
    let less : room - made' ≡ left = omega arith in
    let two : (room - made') * (count' + 1) ≡ left * (count + 1) = ap (λ (z : ℕ). z * (count' + 1)) less ∙ ap (λ (z : ℕ). left * (z + 1)) same in
    omega (arith, suc-mul left (count + 1), one, two)

pub falls-waits : (room made made' count count' idle : ℕ) → count' ≡ count → made' ≡ made → idle < count → (room - made') * (count' + 1) + (count' - (idle + 1)) < (room - made) * (count + 1) + (count - idle)
falls-waits room made made' count count' idle same more some =
    let two : (room - made') * (count' + 1) ≡ (room - made) * (count + 1) = ap (λ (z : ℕ). (room - z) * (count' + 1)) more ∙ ap (λ (z : ℕ). (room - made) * (z + 1)) same in
    omega (arith, two)

-- ---- what a loop keeps

-- so far a hand did what it may, and its seat is at rest
pub record GoesOn {A S : Type 0} (after : A → List Answer → Asks) (rests : S → Type 0) (made : S → List Entry) (first now : Hand A) (before seat : S) : Type 0 where
  pub works : Works after first now
  pub at_rest : rests seat
  pub same_entries : made before ≡ first.notes.entries → made seat ≡ now.notes.entries

pub record IsTrying {A S : Type 0} (after : A → List Answer → Asks) (declines : S → Me → Ask → Type 0) (rests : S → Type 0) (made : S → List Entry) (first now : Hand A) (before seat : S) : Type 0 where
  pub works : Works after first now
  pub at_rest : rests seat
  pub same_entries : made before ≡ first.notes.entries → made seat ≡ now.notes.entries
  pub idle : (is_spent now.notes ≡ true) ⊎ ArePassedOver after declines seat now.players

pub record IsAsking {A S : Type 0} (after : A → List Answer → Asks) (declines : S → Me → Ask → Type 0) (rests : S → Type 0) (made : S → List Entry) (first now : Hand A) (before seat : S) : Type 0 where
  pub works : Works after first now
  pub at_rest : rests seat
  pub same_entries : made before ≡ first.notes.entries → made seat ≡ now.notes.entries
  pub passed : ArePassedOver after declines seat now.players
  pub unspent : is_spent now.notes ≡ false
  pub unmoved : length now.notes.entries ≡ length first.notes.entries
  pub count : length now.players ≡ length first.players

pub record IsRound {A S : Type 0} (after : A → List Answer → Asks) (declines : S → Me → Ask → Type 0) (rests : S → Type 0) (made : S → List Entry) (first now : Hand A) (before seat : S) (place idle : ℕ) : Type 0 where
  pub round : GoesRound after declines first now seat place idle
  pub at_rest : rests seat
  pub same_entries : made before ≡ first.notes.entries → made seat ≡ now.notes.entries
