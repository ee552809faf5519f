-- What the loops of a hand keep.
use Rattle.std.proofs.Common.{◌≡◌, ◌⊎◌, inl, inr, ◌+◌, ◌-◌, ◌*◌, ◌<◌, ◌≤◌, ℕ, Bool, true, false, MatchBool, List, [], Some, Result, Ok, Err, OnOk, length, length-append, refl, ap, sym, ◌∙◌, subst, ⊎_elim, true≢false, arith}
use Rattle.sr_ask.specs.declared.answer.Answer.{Answer}
use Rattle.sr_ask.specs.declared.ask.Ask.{Ask}
use Rattle.sr_ask.specs.declared.ask.Asks.{Asks}
use Rattle.sr_ask.specs.declared.entry.Entry.{Entry}
use Rattle.sr_core.specs.declared.owner.Me.{Me}
use Rattle.sr_worker.specs.Hands.{ArePassedOver, IsNext, PassesOver, Turns, Works}
use Rattle.sr_worker.specs.Notes.{is_spent}
use Rattle.sr_worker.specs.declared.hand.Hand.{Hand}
use Rattle.sr_worker.specs.declared.notes.Notes.{Notes}
use Rattle.sr_worker.proofs.Rounds.{GoesOn, IsAsking, IsRound, IsTrying, falls-step, falls-waits, passed-still, round-begins, round-steps, round-waits, round-whole, same-count, same-room}
use Rattle.sr_worker.proofs.Works.{like-itself, passed-like, works-itself, works-then}

pub turn-went : (went : Bool) (P Q : Type 0) → went ≡ true → MatchBool went P Q → P
turn-went true P Q is h = h
turn-went false P Q is h = absurd (true≢false (sym is))

pub turn-waits : (went : Bool) (P Q : Type 0) → went ≡ false → MatchBool went P Q → Q
turn-waits false P Q is h = h
turn-waits true P Q is h = absurd (true≢false is)

pub both_ok : {B E : Type 0} {P Q R : Type 0} (r : Result B E) → (P → Q → R) → OnOk r P → OnOk r Q → OnOk r R
both_ok (Ok b) f p q = f p q
both_ok (Err e) f p q = tt

module _ {A S : Type 0} (after : A → List Answer → Asks) (declines : S → Me → Ask → Type 0) (rests : S → Type 0) (made : S → List Entry) where
  -- notes only grow
  pub works-grow : (old new : Hand A) → Works after old new → length old.notes.entries ≤ length new.notes.entries
  works-grow old new works = omega (arith, ap length works.adds.entries, length-append old.notes.entries works.adds.added)

  -- ---- going round

  pub round-first : (first : Hand A) (seat : S) → rests seat → IsRound after declines rests made first first seat seat 0 0
  round-first first seat rest = record { round = round-begins after declines first seat; at_rest = rest; same_entries = λ same. same }

  module _ (first old new : Hand A) (before seat later : S) (place idle next : ℕ) (round : IsRound after declines rests made first old before seat place idle) (works : Works after old new)
      (next-is : IsNext (length new.players) place next) (next-in : next < length new.players) (rest : rests later) (same : made seat ≡ old.notes.entries → made later ≡ new.notes.entries) where
    pub round-on-step : IsRound after declines rests made first new before later next 0
    round-on-step = record {
      round = round-steps after declines first old new seat later place idle next round.round works next-is next-in;
      at_rest = rest;
      same_entries = λ was. same (round.same_entries was);
    }

    pub round-on-wait : PassesOver after declines place old new seat later → idle < length old.players → IsRound after declines rests made first new before later next (idle + 1)
    round-on-wait waits more = record {
      round = round-waits after declines first old new seat later place idle next round.round works next-is next-in waits more;
      at_rest = rest;
      same_entries = λ was. same (round.same_entries was);
    }

    -- one turn more
    pub round-on : (waiting : ℕ) → Turns after declines place (idle + 1) waiting old new seat later → idle < length old.players → IsRound after declines rests made first new before later next waiting
    round-on waiting turns more = ⊎_elim
        (λ (t : (waiting ≡ 0) × (length new.notes.entries ≡ length old.notes.entries + 1)). subst (λ n. IsRound after declines rests made first new before later next n) (sym t.0) round-on-step)
        (λ (t : (waiting ≡ idle + 1) × PassesOver after declines place old new seat later). subst (λ n. IsRound after declines rests made first new before later next n) (sym t.0) (round-on-wait t.1 more))
        turns

  pub round-falls-step : (old new : Hand A) (idle : ℕ) → Works after old new → length new.notes.entries ≡ length old.notes.entries + 1 → idle < length old.players
      → (new.notes.worker.room - length new.notes.entries) * (length new.players + 1) + (length new.players - 0) < (old.notes.worker.room - length old.notes.entries) * (length old.players + 1) + (length old.players - idle)
  round-falls-step old new idle works more some =
      let room = same-room after declines old new works in
      let within = new.notes.within in
      subst (λ r. (r - length new.notes.entries) * (length new.players + 1) + (length new.players - 0) < (old.notes.worker.room - length old.notes.entries) * (length old.players + 1) + (length old.players - idle)) (sym room)
      (falls-step old.notes.worker.room (length old.notes.entries) (length new.notes.entries) (length old.players) (length new.players) idle (same-count after declines old new works) more (omega (arith, room, within, more)) some)

  pub round-falls-wait : (place : ℕ) (old new : Hand A) (seat later : S) (idle : ℕ) → Works after old new → PassesOver after declines place old new seat later → idle < length old.players
      → (new.notes.worker.room - length new.notes.entries) * (length new.players + 1) + (length new.players - (idle + 1)) < (old.notes.worker.room - length old.notes.entries) * (length old.players + 1) + (length old.players - idle)
  round-falls-wait place old new seat later idle works waits some =
      subst (λ r. (r - length new.notes.entries) * (length new.players + 1) + (length new.players - (idle + 1)) < (old.notes.worker.room - length old.notes.entries) * (length old.players + 1) + (length old.players - idle)) (sym (same-room after declines old new works))
      (falls-waits old.notes.worker.room (length old.notes.entries) (length new.notes.entries) (length old.players) (length new.players) idle (same-count after declines old new works) (ap (λ (n : Notes). length n.entries) waits.unchanged.nothing) some)

  pub round-falls : (place : ℕ) (old new : Hand A) (seat later : S) (idle waiting : ℕ) → Works after old new → Turns after declines place (idle + 1) waiting old new seat later → idle < length old.players
      → (new.notes.worker.room - length new.notes.entries) * (length new.players + 1) + (length new.players - waiting) < (old.notes.worker.room - length old.notes.entries) * (length old.players + 1) + (length old.players - idle)
  round-falls place old new seat later idle waiting works turns some = ⊎_elim
      (λ (t : (waiting ≡ 0) × (length new.notes.entries ≡ length old.notes.entries + 1)). subst (λ (n : ℕ). (new.notes.worker.room - length new.notes.entries) * (length new.players + 1) + (length new.players - n) < (old.notes.worker.room - length old.notes.entries) * (length old.players + 1) + (length old.players - idle)) (sym t.0) (round-falls-step old new idle works t.1 some))
      (λ (t : (waiting ≡ idle + 1) × PassesOver after declines place old new seat later). subst (λ (n : ℕ). (new.notes.worker.room - length new.notes.entries) * (length new.players + 1) + (length new.players - n) < (old.notes.worker.room - length old.notes.entries) * (length old.players + 1) + (length old.players - idle)) (sym t.0) (round-falls-wait place old new seat later idle works t.1 some))
      turns

  -- ---- asking again

  pub asking-first : (first : Hand A) (seat : S) → rests seat → is_spent first.notes ≡ false → ArePassedOver after declines seat first.players → IsAsking after declines rests made first first seat seat
  asking-first first seat rest unspent passed = record { works = works-itself after first; at_rest = rest; same_entries = λ same. same; passed = passed; unspent = unspent; unmoved = refl; count = refl }

  -- one whose desk wasn't busy isn't asked
  pub passes-itself : (place : ℕ) (hand : Hand A) (seat : S) → ArePassedOver after declines seat hand.players → PassesOver after declines place hand hand seat seat
  passes-itself place hand seat passed = record {
    unchanged = record { nothing = refl; forth = like-itself after hand.players; back = like-itself after hand.players };
    itself = λ p here. passed place p here;
    stays = λ me ask was. was;
  }

  pub asking-on : (place : ℕ) (first old new : Hand A) (before seat later : S) → IsAsking after declines rests made first old before seat → Works after old new → PassesOver after declines place old new seat later
      → rests later → (made seat ≡ old.notes.entries → made later ≡ new.notes.entries) → IsAsking after declines rests made first new before later
  asking-on place first old new before seat later asking works waits rest same = record {
    works = works-then after first old new asking.works works;
    at_rest = rest;
    same_entries = λ was. same (asking.same_entries was);
    passed = passed-still after declines place old new seat later waits asking.passed;
    unspent = ap is_spent waits.unchanged.nothing ∙ asking.unspent;
    unmoved = ap (λ (n : Notes). length n.entries) waits.unchanged.nothing ∙ asking.unmoved;
    count = same-count after declines old new works ∙ asking.count;
  }

  pub trying-first : (first : Hand A) (seat : S) → rests seat → (is_spent first.notes ≡ true) ⊎ ArePassedOver after declines seat first.players → IsTrying after declines rests made first first seat seat
  trying-first first seat rest idle = record { works = works-itself after first; at_rest = rest; same_entries = λ same. same; idle = idle }

  pub trying-on : (first old new : Hand A) (before seat later : S) → IsTrying after declines rests made first old before seat → Works after old new → ArePassedOver after declines later new.players
      → rests later → (made seat ≡ old.notes.entries → made later ≡ new.notes.entries) → IsTrying after declines rests made first new before later
  trying-on first old new before seat later trying works passed rest same = record {
    works = works-then after first old new trying.works works;
    at_rest = rest;
    same_entries = λ was. same (trying.same_entries was);
    idle = inr passed;
  }

  pub unspent-passed : (notes : Notes) (P : Type 0) → (is_spent notes ≡ true) ⊎ P → is_spent notes ≡ false → P
  unspent-passed notes P either unspent = ⊎_elim (λ spent. absurd (true≢false (sym spent ∙ unspent))) (λ p. p) either

  -- ---- the whole

  pub goes-first : (first : Hand A) (seat : S) → rests seat → GoesOn after rests made first first seat seat
  goes-first first seat rest = record { works = works-itself after first; at_rest = rest; same_entries = λ same. same }

  pub goes-on : (first old mid new : Hand A) (before seat between later : S) → GoesOn after rests made first old before seat → Works after old mid → Works after mid new → rests later
      → (made seat ≡ old.notes.entries → made between ≡ mid.notes.entries) → (made between ≡ mid.notes.entries → made later ≡ new.notes.entries) → GoesOn after rests made first new before later
  goes-on first old mid new before seat between later goes one two rest same again = record {
    works = works-then after first mid new (works-then after first old mid goes.works one) two;
    at_rest = rest;
    same_entries = λ was. again (same (goes.same_entries was));
  }

  pub whole-falls : (old mid new : Hand A) → Works after old mid → Works after mid new → length mid.notes.entries < length new.notes.entries
      → new.notes.worker.room - length new.notes.entries < old.notes.worker.room - length old.notes.entries
  whole-falls old mid new one two more =
      omega (arith, same-room after declines old mid one, same-room after declines mid new two, works-grow old mid one, new.notes.within, more)

  -- where nothing was written down, the players at the beginning were passed over
  pub none-passed : (old new : Hand A) (seat : S) → Works after old new → (is_spent new.notes ≡ true) ⊎ ArePassedOver after declines seat new.players
      → new.notes.entries ≡ old.notes.entries → is_spent old.notes ≡ false → ArePassedOver after declines seat old.players
  none-passed old new seat works idle same unspent =
      let unchanged = works.none (ap length same) in
      passed-like after declines seat new.players old.players unchanged.forth
      (unspent-passed new.notes (ArePassedOver after declines seat new.players) idle (ap is_spent unchanged.nothing ∙ unspent))
