-- What acts ask of a world holds in every valid state.
use Rattle.std.proofs.Common.{◌≡◌, ◌≢◌, ℕ, zero, suc, ◌<◌, ◌≤◌, ◌==◌, Bool, true, false, List, [], ◌∷◌, length, get_or, Some, refl, ap, sym, cond, arith, eqb-true, true≢false}
use Rattle.std.proofs.lemmas.Bool.{eq-eqb}
use Rattle.std.specs.Prelude.{AllPairs, count_by, find, is_some}
use Rattle.sr_ask.specs.declared.item.Item.{Item}
use Rattle.sr_ask.specs.declared.start.Start.{Start}
use Rattle.sr_processes.specs.Living.{is_process}
use Rattle.sr_queue.specs.declared.pending.Pending.{Pending}
use Rattle.sr_world.specs.Runs.{State, items_in}
use Rattle.sr_world.specs.Sound.{IsSound}
use Rattle.sr_world.specs.Spots.{OpenInvocation, Waiting}
use Rattle.sr_world.specs.Worlds.{is_live}
use Rattle.sr_world.proofs.CountLemmas.{count-cons, one}
use Rattle.sr_world.proofs.LawProofs.{every_state_is_sound}
use Rattle.sr_shard.specs.Laws.{Stands, ValidStatesStand}

module _ {A : Type 0} (test : A → Bool) where
  one_counted : (xs : List A) (j : ℕ) (d : A) → j < length xs → test (get_or xs j d) ≡ true → 1 ≤ count_by test xs
  one_counted [] j d lt is = absurd (omega arith)
  one_counted (x ∷ xs) zero d lt is = let first = ap one is in omega (arith, count-cons test x xs, first)
  one_counted (x ∷ xs) (suc j) d lt is = omega (arith, count-cons test x xs, one_counted xs j d (omega arith) is)

  two_counted : (xs : List A) (i j : ℕ) (d : A) → i < j → j < length xs → test (get_or xs i d) ≡ true → test (get_or xs j d) ≡ true → 2 ≤ count_by test xs
  two_counted [] i j d less lt is at = absurd (omega arith)
  two_counted (x ∷ xs) zero zero d less lt is at = absurd (omega arith)
  two_counted (x ∷ xs) zero (suc j) d less lt is at = let first = ap one is in omega (arith, count-cons test x xs, first, one_counted xs j d (omega arith) at)
  two_counted (x ∷ xs) (suc i) zero d less lt is at = absurd (omega arith)
  two_counted (x ∷ xs) (suc i) (suc j) d less lt is at = omega (arith, count-cons test x xs, two_counted xs i j d (omega arith) (omega arith) is at)

ids_differ : (items : List Pending) → ((id : ℕ) → count_by (λ p. p.id == id) items ≤ 1) → AllPairs (λ p q. p.id ≢ q.id) items
ids_differ items once = λ i j d less lt same.
    let id : ℕ = (get_or items i d).id in
    let two = two_counted (λ p. p.id == id) items i j d less lt (eq-eqb id id refl) (eq-eqb (get_or items j d).id id (sym same)) in
    let most = once id in
    absurd (omega (arith, two, most))

found_counted : (process : ℕ) (starts : List Start) → is_some (find (is_process process) starts) ≡ true → 1 ≤ count_by (λ start. start.process == process) starts
found_counted process [] is = absurd (true≢false (sym is))
found_counted process (start ∷ starts) is = by (process == start.process) refl is (found_counted process starts)
  where
    by : (b : Bool) → (process == start.process) ≡ b → is_some (cond b (Some start) (find (is_process process) starts)) ≡ true
        → (is_some (find (is_process process) starts) ≡ true → 1 ≤ count_by (λ s. s.process == process) starts) → 1 ≤ count_by (λ s. s.process == process) (start ∷ starts)
    by true at is later =
        let first = ap one (eq-eqb start.process process (sym (eqb-true process start.process at))) in
        omega (arith, count-cons (λ (s : Start). s.process == process) start starts, first)
    by false at is later = omega (arith, count-cons (λ (s : Start). s.process == process) start starts, later is)

sound_stands : (items : List Item) (state : State) → IsSound items state → Stands state.world
sound_stands items state sound = record {
  nobody = by (is_live state.world 0) refl;
  ids = ids_differ state.world.pending (λ id. let used = sound.duties.numbers (OpenInvocation id) Waiting in let once = sound.numbers.once id in omega (arith, used, once));
}
  where
    by : (b : Bool) → is_live state.world 0 ≡ b → b ≡ false
    by false is = refl
    by true is =
        let some = found_counted 0 state.world.live is in
        let used = sound.numbers.processes 0 in
        let never = sound.numbers.zero_never in
        absurd (omega (arith, some, used, never))

pub valid_states_stand : ValidStatesStand
valid_states_stand core limit state valid = sound_stands (items_in valid.0) state (every_state_is_sound core limit valid.0 state valid.1)
