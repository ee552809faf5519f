-- What stands where after a change of a world.
use Rattle.std.proofs.Common.{◌≡◌, ℕ, zero, suc, ◌+◌, ◌<◌, ◌≤◌, ◌==◌, ◌&&◌, Bool, true, false, cond, List, [], ◌∷◌, ◌++◌, Some, refl, ap, sym, ◌∙◌, subst, arith, eq-eqb, eqb-true, true≢false}
use Rattle.std.specs.Prelude.{count_by, slice_get}
use Rattle.sr_ask.specs.declared.answer.Answer.{Answer}
use Rattle.sr_calls.specs.Calls.{answers_one, is_held_as, items_of}
use Rattle.sr_calls.specs.declared.held.Held.{Held}
use Rattle.sr_calls.specs.declared.held.Reply.{Reply}
use Rattle.sr_queue.specs.declared.pending.Pending.{Pending}
use Rattle.sr_world.specs.Updates.{add_pending, add_reply, drop_pending, drop_reply, end_all, end_process, hold, release, use_name}
use Rattle.sr_world.specs.Worlds.{World}
use Rattle.sr_world.specs.Runs.{State, with_answer}
use Rattle.sr_world.specs.Sound.{HasSoundDuties, times_used}
use Rattle.sr_world.specs.Spots.{Calls, Spot, Waiting, HeldBy, RepliedTo, TakenBy, Tests, Thing, astray, number_of, stands, tests_of}
use Rattle.sr_world.proofs.CallLemmas.{and-false, and-true, count-removed, count-with_item, count-without, items-empty}
use Rattle.sr_world.proofs.CountLemmas.{count-push, count-remove, one}

abbrev pub at : World → (ℕ → List Answer) → State
at world given = record { world = world; given = given }

-- ---- spots as a test

abbrev pub same_spot : Spot → Spot → Bool
same_spot Waiting Waiting = true
same_spot (HeldBy p) (HeldBy q) = p == q
same_spot (RepliedTo p) (RepliedTo q) = p == q
same_spot (TakenBy p) (TakenBy q) = p == q
same_spot _ _ = false

pub spots-same : (a b : Spot) → same_spot a b ≡ true → a ≡ b
spots-same Waiting Waiting is = refl
spots-same (HeldBy p) (HeldBy q) is = ap (λ n. HeldBy n) (eqb-true p q is)
spots-same (RepliedTo p) (RepliedTo q) is = ap (λ n. RepliedTo n) (eqb-true p q is)
spots-same (TakenBy p) (TakenBy q) is = ap (λ n. TakenBy n) (eqb-true p q is)
spots-same Waiting (HeldBy q) is = absurd (true≢false (sym is))
spots-same Waiting (RepliedTo q) is = absurd (true≢false (sym is))
spots-same Waiting (TakenBy q) is = absurd (true≢false (sym is))
spots-same (HeldBy p) Waiting is = absurd (true≢false (sym is))
spots-same (HeldBy p) (RepliedTo q) is = absurd (true≢false (sym is))
spots-same (HeldBy p) (TakenBy q) is = absurd (true≢false (sym is))
spots-same (RepliedTo p) Waiting is = absurd (true≢false (sym is))
spots-same (RepliedTo p) (HeldBy q) is = absurd (true≢false (sym is))
spots-same (RepliedTo p) (TakenBy q) is = absurd (true≢false (sym is))
spots-same (TakenBy p) Waiting is = absurd (true≢false (sym is))
spots-same (TakenBy p) (HeldBy q) is = absurd (true≢false (sym is))
spots-same (TakenBy p) (RepliedTo q) is = absurd (true≢false (sym is))

-- ---- changes

-- nothing stands where it didn't, and no number is forgotten
pub record Fewer (old new : State) : Type 0 where
  pub spots : (tests : Tests) (spot : Spot) → stands tests new spot ≤ stands tests old spot
  pub used : (name : ℕ) → times_used old.world name ≤ times_used new.world name

pub fewer-then : (a b c : State) → Fewer a b → Fewer b c → Fewer a c
fewer-then a b c first second = record {
  spots = λ tests spot. omega (arith, first.spots tests spot, second.spots tests spot);
  used = λ name. omega (arith, first.used name, second.used name);
}

-- one thing more stands at a spot
pub record Gains (old new : State) (spot : Spot) (mark : Tests → Bool) : Type 0 where
  pub spots : (tests : Tests) (other : Spot) → stands tests new other ≤ stands tests old other + one (mark tests && same_spot spot other)
  pub used : (name : ℕ) → times_used old.world name ≤ times_used new.world name

-- it stands nowhere
abbrev pub IsClear : Thing → State → Type 0
IsClear thing state = (spot : Spot) → stands (tests_of thing) state spot ≡ 0

pub clear-fewer : (old new : State) (thing : Thing) → Fewer old new → IsClear thing old → IsClear thing new
clear-fewer old new thing fewer clear = λ spot. omega (arith, fewer.spots (tests_of thing) spot, clear spot)

-- what stands at a spot and is taken away from there stands nowhere
pub clear-taken : (calls : Calls) (old new : State) (thing : Thing) (spot : Spot) → HasSoundDuties calls old → Fewer old new
    → times_used old.world (number_of thing) ≤ 1 → stands (tests_of thing) new spot < stands (tests_of thing) old spot → IsClear thing new
clear-taken calls old new thing spot sound fewer once less = λ other. by other (stands (tests_of thing) new other) refl
  where
    by : (other : Spot) (n : ℕ) → stands (tests_of thing) new other ≡ n → stands (tests_of thing) new other ≡ 0
    by other zero is = is
    by other (suc n) is =
        let here : 0 < stands (tests_of thing) old spot = omega (arith, less) in
        let there : 0 < stands (tests_of thing) old other = omega (arith, is, fewer.spots (tests_of thing) other) in
        let same : spot ≡ other = sound.places thing spot other here there in
        let gone : stands (tests_of thing) new other < stands (tests_of thing) old other = subst (λ s. stands (tests_of thing) new s < stands (tests_of thing) old s) same less in
        absurd (omega (arith, gone, is, sound.numbers thing other, once))

module _ (calls : Calls) (old new : State) (sound : HasSoundDuties calls old) where
  pub duties-fewer : Fewer old new → HasSoundDuties calls new
  duties-fewer fewer = record {
    numbers = λ thing spot. omega (arith, fewer.spots (tests_of thing) spot, sound.numbers thing spot, fewer.used (number_of thing));
    places = λ thing spot other here there.
        sound.places thing spot other (omega (arith, here, fewer.spots (tests_of thing) spot)) (omega (arith, there, fewer.spots (tests_of thing) other));
    callers = λ spot. omega (arith, fewer.spots (astray calls) spot, sound.callers spot);
  }

  module _ (spot : Spot) (mark : Tests → Bool) (gains : Gains old new spot mark)
      (clear : (thing : Thing) → mark (tests_of thing) ≡ true → IsClear thing old × (1 ≤ times_used new.world (number_of thing))) (right : mark (astray calls) ≡ false) where
    -- only what is marked comes, and only where it comes
    stays : (tests : Tests) (other : Spot) → mark tests ≡ false → stands tests new other ≤ stands tests old other
    stays tests other is =
        let none : one (mark tests && same_spot spot other) ≡ 0 = ap (λ b. one (b && same_spot spot other)) is in
        omega (arith, gains.spots tests other, none)

    comes : (tests : Tests) (other : Spot) → mark tests ≡ true → stands tests old other ≡ 0 → stands tests new other ≤ one (same_spot spot other)
    comes tests other is none =
        let some : one (mark tests && same_spot spot other) ≡ one (same_spot spot other) = ap (λ b. one (b && same_spot spot other)) is in
        omega (arith, gains.spots tests other, some, none)

    one-le : (b : Bool) → one b ≤ 1
    one-le true = omega arith
    one-le false = omega arith

    one-is : (b : Bool) → 0 < one b → b ≡ true
    one-is true h = refl
    one-is false h = absurd (omega (arith, h))

    numbers : (thing : Thing) (other : Spot) (b : Bool) → mark (tests_of thing) ≡ b → stands (tests_of thing) new other ≤ times_used new.world (number_of thing)
    numbers thing other true is =
        let had = clear thing is in
        omega (arith, comes (tests_of thing) other is (had.0 other), one-le (same_spot spot other), had.1)
    numbers thing other false is = omega (arith, stays (tests_of thing) other is, sound.numbers thing other, gains.used (number_of thing))

    places : (thing : Thing) (a b : Spot) (m : Bool) → mark (tests_of thing) ≡ m → 0 < stands (tests_of thing) new a → 0 < stands (tests_of thing) new b → a ≡ b
    places thing a b true is here there =
        let had = clear thing is in
        let at-a : spot ≡ a = spots-same spot a (one-is (same_spot spot a) (omega (arith, comes (tests_of thing) a is (had.0 a), here))) in
        let at-b : spot ≡ b = spots-same spot b (one-is (same_spot spot b) (omega (arith, comes (tests_of thing) b is (had.0 b), there))) in
        sym at-a ∙ at-b
    places thing a b false is here there =
        sound.places thing a b (omega (arith, stays (tests_of thing) a is, here)) (omega (arith, stays (tests_of thing) b is, there))

    pub duties-gained : HasSoundDuties calls new
    duties-gained = record {
      numbers = λ thing other. numbers thing other (mark (tests_of thing)) refl;
      places = λ thing a b here there. places thing a b (mark (tests_of thing)) refl here there;
      callers = λ other. omega (arith, stays (astray calls) other right, sound.callers other);
    }

-- ---- each update

module _ (given : ℕ → List Answer) where
  used-same : (w : World) (name : ℕ) → times_used w name ≤ times_used w name
  used-same w name = omega arith

  pub use_name-fewer : (name : ℕ) (w : World) → Fewer (at w given) (at (use_name name w) given)
  use_name-fewer name w = record { spots = λ tests spot. same tests spot; used = λ n. omega (arith, count-push (λ used. used == n) w.used name) }
    where
      same : (tests : Tests) (spot : Spot) → stands tests (at (use_name name w) given) spot ≤ stands tests (at w given) spot
      same tests Waiting = omega arith
      same tests (HeldBy p) = omega arith
      same tests (RepliedTo p) = omega arith
      same tests (TakenBy p) = omega arith

  pub add_pending-gains : (p : Pending) (w : World) → Gains (at w given) (at (add_pending p w) given) Waiting (λ tests. tests.pending p)
  add_pending-gains p w = record { spots = more; used = λ n. omega arith }
    where
      more : (tests : Tests) (other : Spot) → stands tests (at (add_pending p w) given) other ≤ stands tests (at w given) other + one (tests.pending p && same_spot Waiting other)
      more tests Waiting = omega (arith, count-push tests.pending w.pending p, and-true (tests.pending p))
      more tests (HeldBy q) = omega arith
      more tests (RepliedTo q) = omega arith
      more tests (TakenBy q) = omega arith

  pub drop_pending-fewer : (place : ℕ) (p : Pending) (w : World) → slice_get w.pending place ≡ Some p → Fewer (at w given) (at (drop_pending place w) given)
  drop_pending-fewer place p w is = record { spots = less; used = λ n. omega arith }
    where
      less : (tests : Tests) (spot : Spot) → stands tests (at (drop_pending place w) given) spot ≤ stands tests (at w given) spot
      less tests Waiting = omega (arith, count-remove tests.pending w.pending place p is)
      less tests (HeldBy q) = omega arith
      less tests (RepliedTo q) = omega arith
      less tests (TakenBy q) = omega arith

  pub drop_pending-takes : (place : ℕ) (p : Pending) (w : World) → slice_get w.pending place ≡ Some p → (tests : Tests) → tests.pending p ≡ true
      → stands tests (at (drop_pending place w) given) Waiting < stands tests (at w given) Waiting
  drop_pending-takes place p w is tests marked = omega (arith, count-remove tests.pending w.pending place p is, ap one marked)

  pub hold-gains : (process : ℕ) (h : Held) (w : World) → Gains (at w given) (at (hold process h w) given) (HeldBy process) (λ tests. tests.held h)
  hold-gains process h w = record { spots = more; used = λ n. omega arith }
    where
      more : (tests : Tests) (other : Spot) → stands tests (at (hold process h w) given) other ≤ stands tests (at w given) other + one (tests.held h && same_spot (HeldBy process) other)
      more tests Waiting = omega arith
      more tests (HeldBy q) = count-with_item tests.held w.held process q h
      more tests (RepliedTo q) = omega arith
      more tests (TakenBy q) = omega arith

  pub release-fewer : (process id : ℕ) (w : World) → Fewer (at w given) (at (release process id w) given)
  release-fewer process id w = record { spots = less; used = λ n. omega arith }
    where
      less : (tests : Tests) (spot : Spot) → stands tests (at (release process id w) given) spot ≤ stands tests (at w given) spot
      less tests Waiting = omega arith
      less tests (HeldBy q) = count-without tests.held (is_held_as id) w.held process q
      less tests (RepliedTo q) = omega arith
      less tests (TakenBy q) = omega arith

  pub add_reply-gains : (process : ℕ) (r : Reply) (w : World) → Gains (at w given) (at (add_reply process r w) given) (RepliedTo process) (λ tests. tests.reply process r)
  add_reply-gains process r w = record { spots = more; used = λ n. omega arith }
    where
      more : (tests : Tests) (other : Spot)
          → stands tests (at (add_reply process r w) given) other ≤ stands tests (at w given) other + one (tests.reply process r && same_spot (RepliedTo process) other)
      more tests Waiting = omega arith
      more tests (HeldBy q) = omega arith
      more tests (RepliedTo q) = by (process == q) refl (count-with_item (tests.reply q) w.replies process q r)
        where
          by : (b : Bool) → (process == q) ≡ b
              → count_by (tests.reply q) (items_of (add_reply process r w).replies q) ≤ count_by (tests.reply q) (items_of w.replies q) + one (tests.reply q r && b)
              → count_by (tests.reply q) (items_of (add_reply process r w).replies q) ≤ count_by (tests.reply q) (items_of w.replies q) + one (tests.reply process r && b)
          by true is h = let same : one (tests.reply q r && true) ≡ one (tests.reply process r && true) = ap (λ n. one (tests.reply n r && true)) (sym (eqb-true process q is)) in omega (arith, h, same)
          by false is h = omega (arith, h, and-false (tests.reply q r), and-false (tests.reply process r))
      more tests (TakenBy q) = omega arith

  pub drop_reply-fewer : (process : ℕ) (ids : List ℕ) (w : World) → Fewer (at w given) (at (drop_reply process ids w) given)
  drop_reply-fewer process ids w = record { spots = less; used = λ n. omega arith }
    where
      less : (tests : Tests) (spot : Spot) → stands tests (at (drop_reply process ids w) given) spot ≤ stands tests (at w given) spot
      less tests Waiting = omega arith
      less tests (HeldBy q) = omega arith
      less tests (RepliedTo q) = count-without (tests.reply q) (answers_one ids) w.replies process q
      less tests (TakenBy q) = omega arith

  pub end_process-fewer : (process : ℕ) (w : World) → Fewer (at w given) (at (end_process process w) given)
  end_process-fewer process w = record { spots = less; used = λ n. omega arith }
    where
      less : (tests : Tests) (spot : Spot) → stands tests (at (end_process process w) given) spot ≤ stands tests (at w given) spot
      less tests Waiting = omega arith
      less tests (HeldBy q) = count-removed tests.held w.held process q
      less tests (RepliedTo q) = count-removed (tests.reply q) w.replies process q
      less tests (TakenBy q) = omega arith

  pub end_all-fewer : (w : World) → Fewer (at w given) (at (end_all w) given)
  end_all-fewer w = record { spots = less; used = λ n. omega arith }
    where
      less : (tests : Tests) (spot : Spot) → stands tests (at (end_all w) given) spot ≤ stands tests (at w given) spot
      less tests Waiting = omega arith
      less tests (HeldBy q) = let none = ap (count_by tests.held) (items-empty {A = Held} q) in omega (arith, none)
      less tests (RepliedTo q) = let none = ap (count_by (tests.reply q)) (items-empty {A = Reply} q) in omega (arith, none)
      less tests (TakenBy q) = omega arith

-- an answer to a process
pub answer-gains : (actor : ℕ) (a : Answer) (w : World) (given : ℕ → List Answer) → Gains (at w given) (at w (with_answer actor a given)) (TakenBy actor) (λ tests. tests.answer actor a)
answer-gains actor a w given = record { spots = more; used = λ n. omega arith }
  where
    more : (tests : Tests) (other : Spot) → stands tests (at w (with_answer actor a given)) other ≤ stands tests (at w given) other + one (tests.answer actor a && same_spot (TakenBy actor) other)
    more tests Waiting = omega arith
    more tests (HeldBy q) = omega arith
    more tests (RepliedTo q) = omega arith
    more tests (TakenBy q) = by (q == actor) refl
      where
        by : (b : Bool) → (q == actor) ≡ b → count_by (tests.answer q) (cond b (given q ++ a ∷ []) (given q)) ≤ count_by (tests.answer q) (given q) + one (tests.answer actor a && (actor == q))
        by true is =
            let same : q ≡ actor = eqb-true q actor is in
            let here : one (tests.answer actor a && (actor == q)) ≡ one (tests.answer q a) =
            ap (λ b. one (tests.answer actor a && b)) (eq-eqb actor q (sym same)) ∙ and-true (tests.answer actor a) ∙ ap (λ n. one (tests.answer n a)) (sym same) in
            omega (arith, count-push (tests.answer q) (given q) a, here)
        by false is = omega arith
