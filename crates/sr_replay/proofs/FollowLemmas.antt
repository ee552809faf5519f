-- Items that are made one after the other.
use Rattle.std.proofs.Common.{◌≡◌, ◌+◌, ◌-◌, ◌<◌, ◌≤◌, inl, inr, ℕ, Bool, true, false, List, [], ◌∷◌, Option, Some, is_some, length, get_or, take, refl, ap, sym, ◌∙◌, subst, arith, true≢false}
use Rattle.std.proofs.lemmas.List.{take_more}
use Rattle.std.specs.Prelude.{IfOk, Result}
use Rattle.sr_ask.specs.declared.answer.Answer.{Answer}
use Rattle.sr_ask.specs.declared.ask.Asks.{Asks}
use Rattle.sr_ask.specs.declared.item.Item.{Item}
use Rattle.sr_core.specs.declared.component.Core.{Core}
use Rattle.sr_value.specs.declared.memory.NoMemory.{NoMemory}
use Rattle.sr_world.specs.Runs.{Goes, Illegal, Next, Over, State, and_then, begun, is_legal, next, run, run_from}
use Rattle.sr_world.proofs.LawProofs.{run-append}
use Rattle.sr_replay.specs.Replaying.{Follows, FollowsAll, IsAt}
use Rattle.sr_replay.specs.Replays.{IsFirstIllegal, Reaches, Replays}
use Rattle.sr_replay.specs.declared.whole.Replayed.{Replayed}
use Rattle.sr_replay.specs.declared.whole.Replayed.TheVariants as replayed
use Rattle.sr_replay.specs.Snapshots.{shown}
use Rattle.sr_replay.specs.declared.replayer.Replayer.{Replayer}

module _ {A : Type 0} (after : A → List Answer → Asks) (core : Core) (limit : ℕ) where
  -- what a replay has come to is a run
  pub at-legal : (now : Next) (replayer : Replayer A) → IsAt after core limit now replayer → is_legal now ≡ true
  at-legal (Goes state) replayer at = refl
  at-legal (Over ending state) replayer at = refl
  at-legal Illegal replayer at = absurd at

  pub follows-true : (now : Next) (legal : Bool) (replayer : Replayer A) → Follows after core limit now legal replayer → legal ≡ true → IsAt after core limit now replayer
  follows-true (Goes state) legal replayer follows is = follows.1
  follows-true (Over ending state) legal replayer follows is = follows.1
  follows-true Illegal legal replayer follows is = absurd (true≢false (sym is ∙ follows))

  pub follows-false : (now : Next) (legal : Bool) (replayer : Replayer A) → Follows after core limit now legal replayer → legal ≡ false → is_legal now ≡ false
  follows-false (Goes state) legal replayer follows is = absurd (true≢false (sym follows.0 ∙ is))
  follows-false (Over ending state) legal replayer follows is = absurd (true≢false (sym follows.0 ∙ is))
  follows-false Illegal legal replayer follows is = refl

  -- one item more
  pub more-made : (now : Next) (items : List Item) (place : ℕ) (d : Item) → place < length items
      → run_from core limit now (take (place + 1) items) ≡ and_then (run_from core limit now (take place items)) (λ state. next core limit state (get_or items place d))
  more-made now items place d within =
      ap (run_from core limit now) (take_more items place d within) ∙ run-append core limit now (take place items) (get_or items place d ∷ [])

  -- after the end of a run there is no item
  pub ended-follows : (now : Next) (replayer : Replayer A) (item : Item) → IsAt after core limit now replayer → is_some replayer.ending ≡ true
      → Follows after core limit (and_then now (λ state. next core limit state item)) false replayer
  ended-follows (Goes state) replayer item at is = absurd (true≢false (sym is ∙ ap is_some at.0))
  ended-follows (Over e state) replayer item at is = refl
  ended-follows Illegal replayer item at is = absurd at

  -- where the run goes on, what holds of its state
  pub going-follows : (now : Next) (old new : Replayer A) (item : Item) (r : Result (Option ℕ) NoMemory) → IsAt after core limit now old → is_some old.ending ≡ false
      → ((state : State) → IsAt after core limit (Goes state) old → IfOk r (λ named. Follows after core limit (next core limit state item) (is_some named) new))
      → IfOk r (λ named. Follows after core limit (and_then now (λ state. next core limit state item)) (is_some named) new)
  going-follows (Goes state) old new item r at is step = step state at
  going-follows (Over e state) old new item r at is step = absurd (true≢false (sym (ap is_some at.0) ∙ is))
  going-follows Illegal old new item r at is step = absurd at

-- ---- a whole list

module _ {A : Type 0} (after : A → List Answer → Asks) (core : Core) (steps ticks : ℕ) (input : List ℕ) (items : List Item) (upto count : ℕ) (replayer : Replayer A) where
  -- an item isn't one
  pub first-illegal : count ≤ upto → count ≤ steps → (place : ℕ) → FollowsAll after core ticks (Goes (begun input)) items count (Some place) replayer
      → IsFirstIllegal core steps ticks input items upto (place + 1)
  first-illegal fits least place follows =
      let within = follows.0 in
      record {
        first = omega arith;
        within = omega arith;
        most = omega arith;
        before = let same : place + 1 - 1 ≡ place = omega arith in ap (λ n. is_legal (run core ticks input (take n items))) same ∙ follows.1;
        here = inr follows.2;
      }

  -- there are more than a run may have
  too-many : IsAt after core ticks (run core ticks input (take count items)) replayer → count ≡ steps → steps < upto → IsFirstIllegal core steps ticks input items upto (steps + 1)
  too-many at is more = record {
    first = omega arith;
    within = omega arith;
    most = omega arith;
    before =
        let same : steps + 1 - 1 ≡ count = omega arith in
        ap (λ n. is_legal (run core ticks input (take n items))) same ∙ at-legal after core ticks (run core ticks input (take count items)) replayer at;
    here = inl refl;
  }

  -- all were made
  pub reached-so : IsAt after core ticks (run core ticks input (take count items)) replayer → (upto ≤ steps → count ≡ upto) → (steps < upto → count ≡ steps) → (replayed : Replayed)
      → Reaches core steps ticks upto (run core ticks input (take count items)) replayed → Replays core steps ticks input items upto replayed
  reached-so at all most (replayed.Illegal place) reaches =
      subst (λ n. IsFirstIllegal core steps ticks input items upto n) (sym reaches.0) (too-many at (most reaches.1) reaches.1)
  reached-so at all most (replayed.Reached snapshot) reaches = record {
    most = reaches.0;
    shows = ap (λ n. shown core ticks upto (run core ticks input (take n items))) (sym (all reaches.0)) ∙ reaches.1;
  }
