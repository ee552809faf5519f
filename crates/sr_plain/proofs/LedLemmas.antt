-- What holds of every state that events lead to.
use Rattle.std.proofs.Common.{◌≡◌, ◌<◌, ◌≤◌, ◌==◌, ◌&&◌, ◌||◌, ℕ, zero, suc, Bool, true, false, not, cond, List, [], ◌∷◌, ◌++◌, Option, None, Some, is_some, refl, ap, sym, ◌∙◌, subst, arith, eq-eqb, eqb-true, true≢false, append_assoc}
use Rattle.std.proofs.lemmas.List.Concat.{flat_map-append}
use Rattle.std.proofs.lemmas.List.Elements.{All-contains}
use Rattle.std.specs.Prelude.{count_by, find, fold, slice_get}
use Rattle.std.specs.List.{Contains, list_any}
use Rattle.sr_ask.specs.declared.item.Item.{Item}
use Rattle.sr_ask.specs.declared.item.Item.TheVariants.{Step, Quiesce, Tick}
use Rattle.sr_ask.specs.declared.start.Start.{Start}
use Rattle.sr_core.specs.declared.component.Core.{Core}
use Rattle.sr_processes.specs.Living.{is_process}
use Rattle.sr_world.specs.Runs.{Event, Makes_item, Gives, Closes, Goes, Over, Illegal, Next, State, after, after_event, and_then, first, is_new, is_used, item_in, items_in, led, next as next_by, step_of, with_input, without_more}
use Rattle.sr_world.specs.Sound.{IsSound, name_in, names_in, times_used}
use Rattle.sr_world.specs.Worlds.{World, started}
use Rattle.sr_world.proofs.CountLemmas.{count-cons, one, count-grows}
use Rattle.sr_world.proofs.KeepLemmas.{live-counts}
use Rattle.sr_world.proofs.RunLemmas.{goes-where, illegal-after, new-number, sound-first, sound-input, sound-led, sound-next, over-after}
use Rattle.sr_plain.specs.Engine.{last_by, last_in}
use Rattle.sr_plain.specs.Order.{IsNext}
use Rattle.sr_plain.specs.Turns.{last_after}

-- ---- one more event

module _ (core : Core) (limit : ℕ) where
  after-append : (now : Next) (events more : List Event) → after core limit now (events ++ more) ≡ after core limit (after core limit now events) more
  after-append now [] more = refl
  after-append now (event ∷ events) more = after-append (and_then now (λ state. after_event core limit state event)) events more

  pub led-more : (events : List Event) (state later : State) (event : Event) → led core limit events ≡ Goes state → after_event core limit state event ≡ Goes later → led core limit (events ++ event ∷ []) ≡ Goes later
  led-more events state later event is goes = after-append (Goes first) events (event ∷ []) ∙ ap (λ n. after core limit n (event ∷ [])) is ∙ goes

last-from : (last : ℕ) (events : List Event) (event : Event) → fold last_by last (events ++ event ∷ []) ≡ last_by (fold last_by last events) event
last-from last [] event = refl
last-from last (e ∷ es) event = last-from (last_by last e) es event

pub last-more : (events : List Event) (event : Event) → last_in (events ++ event ∷ []) ≡ last_by (last_in events) event
last-more events event = last-from 0 events event

-- ---- numbers

items-append : (events more : List Event) → items_in (events ++ more) ≡ items_in events ++ items_in more
items-append [] more = refl
items-append (e ∷ es) more = ap (λ items. item_in e ++ items) (items-append es more) ∙ sym (append_assoc (item_in e) (items_in es) (items_in more))

module _ (core : Core) (limit : ℕ) (events : List Event) (state : State) (leads : led core limit events ≡ Goes state) where
  pub sound : IsSound (items_in events) state
  sound = sound-led core limit events state leads

  -- what an event gave out comes after all that was given out before
  pub used-grown : (event : Event) (later : State) → led core limit (events ++ event ∷ []) ≡ Goes later → later.world.used ≡ state.world.used ++ names_in (items_in (event ∷ []))
  used-grown event later goes =
      let s = sound-led core limit (events ++ event ∷ []) later goes in
      s.used ∙ ap (λ items. 1 ∷ names_in items) (items-append events (event ∷ [])) ∙ ap (λ names. 1 ∷ names) (flat_map-append name_in (items_in events) (items_in (event ∷ [])))
      ∙ sym (ap (λ used. used ++ names_in (items_in (event ∷ []))) sound.used)

  -- what was given out stays so
  pub used-more : (event : Event) (later : State) → led core limit (events ++ event ∷ []) ≡ Goes later → (q : ℕ) → times_used state.world q ≤ times_used later.world q
  used-more event later goes q =
      omega (arith, count-grows (λ u. u == q) state.world.used (names_in (items_in (event ∷ []))), ap (count_by (λ u. u == q)) (used-grown event later goes))

  -- who lives has a number that was given out
  pub lives-used : (q : ℕ) (s : Start) → started state.world q ≡ Some s → 1 ≤ times_used state.world q
  lives-used q s is = omega (arith, live-counts state.world.live q (ap is_some is), sound.numbers.processes q)

  counted : (live : List Start) (place : ℕ) (s : Start) → slice_get live place ≡ Some s → 1 ≤ count_by (λ x. x.process == s.process) live
  counted [] zero s is = absurd (cc)
  counted [] (suc place) s is = absurd (cc)
  counted (x ∷ xs) zero s is =
      let same : x ≡ s = cc in
      let named : (x.process == s.process) ≡ true = eq-eqb x.process s.process (ap (λ (y : Start). y.process) same) in
      let counts = ap one named in omega (arith, count-cons (λ (y : Start). y.process == s.process) x xs, counts)
  counted (x ∷ xs) (suc place) s is = omega (arith, count-cons (λ (y : Start). y.process == s.process) x xs, counted xs place s is)

  found-once : (live : List Start) (place : ℕ) (s : Start) → slice_get live place ≡ Some s → count_by (λ x. x.process == s.process) live ≤ 1 → find (is_process s.process) live ≡ Some s
  found-once [] zero s is once = absurd (cc)
  found-once [] (suc place) s is once = absurd (cc)
  found-once (x ∷ xs) zero s is once =
      let same : x ≡ s = cc in
      let named : (s.process == x.process) ≡ true = eq-eqb s.process x.process (sym (ap (λ (y : Start). y.process) same)) in
      ap (λ b. cond b (Some x) (find (is_process s.process) xs)) named ∙ ap Some same
  found-once (x ∷ xs) (suc place) s is once = by (s.process == x.process) refl (λ less. found-once xs place s is less)
    where
      by : (b : Bool) → (s.process == x.process) ≡ b → (count_by (λ y. y.process == s.process) xs ≤ 1 → find (is_process s.process) xs ≡ Some s) → cond b (Some x) (find (is_process s.process) xs) ≡ Some s
      by true same more =
          let named : (x.process == s.process) ≡ true = eq-eqb x.process s.process (sym (eqb-true s.process x.process same)) in
          let counts = ap one named in
          absurd (omega (arith, count-cons (λ (y : Start). y.process == s.process) x xs, counts, counted xs place s is, once))
      by false off more = more (omega (arith, count-cons (λ (y : Start). y.process == s.process) x xs, once))

  -- who stands in the order of making is found under its number
  pub place-started : (place : ℕ) (s : Start) → slice_get state.world.live place ≡ Some s → started state.world s.process ≡ Some s
  place-started place s is = found-once state.world.live place s is (omega (arith, sound.numbers.processes s.process, sound.numbers.once s.process))

-- ---- new numbers

pub any-contains : (xs : List ℕ) (n : ℕ) → list_any (λ used. used == n) xs ≡ true → Contains xs n
any-contains [] n is = absurd (true≢false (sym is))
any-contains (x ∷ xs) n is = by (x == n) refl is (any-contains xs n)
  where
    by : (b : Bool) → (x == n) ≡ b → (b || list_any (λ used. used == n) xs) ≡ true → (list_any (λ used. used == n) xs ≡ true → Contains xs n) → Contains (x ∷ xs) n
    by true same h more = (0, omega arith, eqb-true x n same)
    by false off h more = let found = more h in (suc found.0, omega (arith, found.1), found.2)

pub next-new : (w : World) (name : ℕ) → IsNext w.used name → is_new w name ≡ true
next-new w name next = by (name == 0) refl (is_used w name) refl
  where
    by : (b : Bool) → (name == 0) ≡ b → (d : Bool) → is_used w name ≡ d → (not b && not d) ≡ true
    by true zeroed d is = absurd (let none = eqb-true name 0 zeroed in omega (arith, none, next.one_more))
    by false off true is =
        let within = All-contains (λ n. n ≤ next.greatest) w.used name next.is_greatest.bound (any-contains w.used name is) in absurd (omega (arith, within, next.one_more))
    by false off false is = refl

pub next-unused : (w : World) (name : ℕ) → IsNext w.used name → times_used w name ≡ 0
next-unused w name next = (new-number w name (next-new w name next)).1

-- what an item gives out comes after all that was given out before
pub used-item : (items : List Item) (state later : State) (item : Item) → IsSound items state → IsSound (items ++ item ∷ []) later → later.world.used ≡ state.world.used ++ names_in (item ∷ [])
used-item items state later item sound sound' =
    sound'.used ∙ ap (λ names. 1 ∷ names) (flat_map-append name_in items (item ∷ [])) ∙ sym (ap (λ used. used ++ names_in (item ∷ [])) sound.used)

-- ---- who made the last step

-- a process that makes a step lives
pub stepped-lives : (core : Core) (limit : ℕ) (state later : State) (actor name : ℕ) → next_by core limit state (Step actor name) ≡ Goes later → (start : Start) × (started state.world actor ≡ Some start)
stepped-lives core limit state later actor name goes = by (started state.world actor) refl goes
  where
    by : (o : Option Start) → started state.world actor ≡ o → step_of core limit state actor name o ≡ Goes later → (start : Start) × (started state.world actor ≡ Some start)
    by None is h = absurd (cc)
    by (Some start) is h = (start, is)

-- the last actor was given out
abbrev IsKnown : ℕ → State → Type 0
IsKnown last state = 0 < last → 1 ≤ times_used state.world last

known-after : (core : Core) (limit : ℕ) (items : List Item) (last : ℕ) (state later : State) (events : List Event) → IsSound items state → IsKnown last state
    → after core limit (Goes state) events ≡ Goes later → IsKnown (fold last_by last events) later
known-after core limit items last state later [] sound known is = let same : state ≡ later = cc in subst (IsKnown last) same known
known-after core limit items last state later (event ∷ events) sound known is =
    by event (after_event core limit state event) refl is (λ items' last' s sound' known' h. known-after core limit items' last' s later events sound' known' h)
  where
    by : (e : Event) (n : Next) → after_event core limit state e ≡ n → after core limit n events ≡ Goes later
        → ((items' : List Item) (last' : ℕ) (s : State) → IsSound items' s → IsKnown last' s → after core limit (Goes s) events ≡ Goes later → IsKnown (fold last_by last' events) later)
        → IsKnown (fold last_by (last_by last e) events) later
    by e Illegal is' h more = let stuck = illegal-after core limit events in absurd (cc)
    by e (Over ending s) is' h more = absurd (over-after core limit ending s later events h)
    by (Makes_item item) (Goes s) is' h more =
        let sound' : IsSound (items ++ item ∷ []) s = sound-next items state sound core limit item s is' in
        more (items ++ item ∷ []) (last_after last item) s sound' (known-item item is' sound') h
      where
        grown : (i : Item) → IsSound (items ++ i ∷ []) s → (q : ℕ) → times_used state.world q ≤ times_used s.world q
        grown i sound' q = omega (arith, count-grows (λ u. u == q) state.world.used (names_in (i ∷ [])), ap (count_by (λ u. u == q)) (used-item items state s i sound sound'))

        known-item : (i : Item) → next_by core limit state i ≡ Goes s → IsSound (items ++ i ∷ []) s → IsKnown (last_after last i) s
        known-item (Step actor name) goes sound' some =
            let lives = stepped-lives core limit state s actor name goes in
            let was : 1 ≤ times_used state.world actor = omega (arith, live-counts state.world.live actor (ap is_some lives.1), sound.numbers.processes actor) in
            omega (arith, was, grown (Step actor name) sound' actor)
        known-item (Quiesce name) goes sound' some = omega (arith, known some, grown (Quiesce name) sound' last)
        known-item (Tick to) goes sound' some = omega (arith, known some, grown (Tick to) sound' last)
    by (Gives bytes) (Goes s) is' h more =
        let parts = goes-where (not state.world.ended) (Goes (record state { world = with_input bytes state.world })) s is' in
        let same : record state { world = with_input bytes state.world } ≡ s = cc in
        more items last s (subst (IsSound items) same (sound-input items state sound (state.world.rest ++ bytes) state.world.ended)) (subst (IsKnown last) same known) h
    by Closes (Goes s) is' h more =
        let parts = goes-where (not state.world.ended) (Goes (record state { world = without_more state.world })) s is' in
        let same : record state { world = without_more state.world } ≡ s = cc in
        more items last s (subst (IsSound items) same (sound-input items state sound state.world.rest true)) (subst (IsKnown last) same known) h

pub last-used : (core : Core) (limit : ℕ) (events : List Event) (state : State) → led core limit events ≡ Goes state → 0 < last_in events → 1 ≤ times_used state.world (last_in events)
last-used core limit events state leads = known-after core limit [] 0 first state events sound-first (λ none. absurd (omega (arith, none))) leads
