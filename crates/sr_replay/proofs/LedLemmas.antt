-- What holds of every valid state.
use Rattle.std.proofs.Common.{◌≡◌, ◌≤◌, ◌==◌, ℕ, zero, suc, Bool, true, false, cond, List, [], ◌∷◌, ◌++◌, Some, is_some, refl, ap, sym, ◌∙◌, arith, eq-eqb, eqb-true, append-nil}
use Rattle.std.proofs.lemmas.List.Concat.{flat_map-append}
use Rattle.std.specs.Prelude.{count_by, find, slice_get}
use Rattle.sr_ask.specs.declared.item.Item.{Item}
use Rattle.sr_ask.specs.declared.start.Start.{Start}
use Rattle.sr_core.specs.declared.component.Core.{Core}
use Rattle.sr_world.specs.Runs.{Event, Makes_item, Gives, Closes, Goes, IsValid, Next, State, after, after_event, and_then, begun, first, items_in, led, next}
use Rattle.sr_world.specs.Sound.{IsSound, name_in, names_in, times_used}
use Rattle.sr_world.specs.Worlds.{started}
use Rattle.sr_world.proofs.CountLemmas.{count-cons, one, count-grows}
use Rattle.sr_world.proofs.KeepLemmas.{live-counts}
use Rattle.sr_world.proofs.RunLemmas.{sound-led, sound-next}

-- ---- one more event

module _ (core : Core) (limit : ℕ) where
  after-append : (now : Next) (events more : List Event) → after core limit now (events ++ more) ≡ after core limit (after core limit now events) more
  after-append now [] more = refl
  after-append now (event ∷ events) more = after-append (and_then now (λ state. after_event core limit state event)) events more

  led-more : (events : List Event) (state later : State) (event : Event) → led core limit events ≡ Goes state → after_event core limit state event ≡ Goes later → led core limit (events ++ event ∷ []) ≡ Goes later
  led-more events state later event is goes = after-append (Goes first) events (event ∷ []) ∙ ap (λ n. after core limit n (event ∷ [])) is ∙ goes

  -- a run with all of its input begins in a valid state
  pub valid-first : (input : List ℕ) → IsValid core limit (begun input)
  valid-first input = (Gives input ∷ Closes ∷ [], refl)

-- ---- numbers

-- ---- what is found under its number

module _ {X : Type 0} (key : X → ℕ) where
  counted : (xs : List X) (place : ℕ) (x : X) → slice_get xs place ≡ Some x → 1 ≤ count_by (λ y. key y == key x) xs
  counted [] zero x is = absurd (cc)
  counted [] (suc place) x is = absurd (cc)
  counted (y ∷ ys) zero x is =
      let same : y ≡ x = cc in
      let counts = ap one (eq-eqb (key y) (key x) (ap key same)) in omega (arith, count-cons (λ z. key z == key x) y ys, counts)
  counted (y ∷ ys) (suc place) x is = omega (arith, count-cons (λ z. key z == key x) y ys, counted ys place x is)

  -- what stands at a place is found under its number, where no number stands twice
  pub found-once : (xs : List X) (place : ℕ) (x : X) → slice_get xs place ≡ Some x → count_by (λ y. key y == key x) xs ≤ 1 → find (λ y. key x == key y) xs ≡ Some x
  found-once [] zero x is once = absurd (cc)
  found-once [] (suc place) x is once = absurd (cc)
  found-once (y ∷ ys) zero x is once =
      let same : y ≡ x = cc in ap (λ b. cond b (Some y) (find (λ z. key x == key z) ys)) (eq-eqb (key x) (key y) (sym (ap key same))) ∙ ap Some same
  found-once (y ∷ ys) (suc place) x is once = by (key x == key y) refl (λ less. found-once ys place x is less)
    where
      by : (b : Bool) → (key x == key y) ≡ b → (count_by (λ z. key z == key x) ys ≤ 1 → find (λ z. key x == key z) ys ≡ Some x) → cond b (Some y) (find (λ z. key x == key z) ys) ≡ Some x
      by true same more =
          let counts = ap one (eq-eqb (key y) (key x) (sym (eqb-true (key x) (key y) same))) in absurd (omega (arith, count-cons (λ z. key z == key x) y ys, counts, counted ys place x is, once))
      by false off more = more (omega (arith, count-cons (λ z. key z == key x) y ys, once))

module _ (core : Core) (limit : ℕ) (state : State) (valid : IsValid core limit state) where
  pub sound : IsSound (items_in valid.0) state
  sound = sound-led core limit valid.0 state valid.1

  -- an item leads to a valid state
  pub valid-more : (item : Item) (later : State) → next core limit state item ≡ Goes later → IsValid core limit later
  valid-more item later goes = (valid.0 ++ Makes_item item ∷ [], led-more core limit valid.0 state later (Makes_item item) valid.1 goes)

  -- what an item gave out comes after all that was given out before
  pub used-grown : (item : Item) (later : State) → next core limit state item ≡ Goes later → later.world.used ≡ state.world.used ++ name_in item
  used-grown item later goes =
      (sound-next (items_in valid.0) state sound core limit item later goes).used
      ∙ ap (λ names. 1 ∷ names) (flat_map-append name_in (items_in valid.0) (item ∷ []) ∙ ap (λ names. names_in (items_in valid.0) ++ names) (append-nil (name_in item)))
      ∙ sym (ap (λ used. used ++ name_in item) sound.used)

  -- what was given out stays so
  pub used-more : (item : Item) (later : State) → next core limit state item ≡ Goes later → (q : ℕ) → times_used state.world q ≤ times_used later.world q
  used-more item later goes q = omega (arith, count-grows (λ u. u == q) state.world.used (name_in item), ap (count_by (λ u. u == q)) (used-grown item later goes))

  -- who lives has a number that was given out
  pub lives-used : (q : ℕ) (s : Start) → started state.world q ≡ Some s → 1 ≤ times_used state.world q
  lives-used q s is = omega (arith, live-counts state.world.live q (ap is_some is), sound.numbers.processes q)

  -- who stands in the order of making is found under its number
  pub place-started : (place : ℕ) (s : Start) → slice_get state.world.live place ≡ Some s → started state.world s.process ≡ Some s
  place-started place s is = found-once (λ (x : Start). x.process) state.world.live place s is (omega (arith, sound.numbers.processes s.process, sound.numbers.once s.process))
