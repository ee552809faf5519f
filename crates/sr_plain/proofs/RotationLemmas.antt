-- Events whose items are made in turn, and input in pieces.
use Rattle.std.proofs.Common.{◌≡◌, ◌⊎◌, inl, inr, ◌<◌, ◌≤◌, ◌-◌, ◌==◌, ◌||◌, ℕ, zero, suc, not, Bool, true, false, cond, List, [], ◌∷◌, ◌++◌, Some, refl, ap, sym, ◌∙◌, subst, arith, eq-eqb, eqb-true, true≢false, append-nil, append_assoc}
use Rattle.std.proofs.lemmas.Bool.{cases_eq, cases_lt}
use Rattle.std.proofs.lemmas.List.Elements.{All-contains}
use Rattle.std.specs.List.{list_any}
use Rattle.std.specs.Prelude.{find, fold}
use Rattle.sr_ask.specs.Items.{number_of}
use Rattle.sr_ask.specs.declared.item.Item.{Item}
use Rattle.sr_ask.specs.declared.item.Item.TheVariants.{Step, Quiesce, Tick}
use Rattle.sr_ask.specs.declared.start.Start.{Start}
use Rattle.sr_core.specs.declared.component.Core.{Core}
use Rattle.sr_world.specs.Runs.{Event, Makes_item, Gives, Closes, Next, Goes, Over, Illegal, State, after, after_event, asks_next, bytes_in, first, is_legal, items_in, next, where_true, with_input, without_more}
use Rattle.sr_world.specs.Names.{IsLeastUnused}
use Rattle.sr_world.specs.Sound.{IsSound, given_out, names_in}
use Rattle.sr_world.specs.Worlds.{World}
use Rattle.sr_world.proofs.PieceLemmas.{all-next, ended-next, legal-after, no-bytes, over-last, same-blocked}
use Rattle.sr_world.proofs.RunLemmas.{goes-where, illegal-after, sound-first, sound-input, sound-next, over-after}
use Rattle.sr_world.specs.Laws.{closes, next_with_all, with_all, with_all_in}
use Rattle.sr_plain.specs.Engine.{last_by}
use Rattle.sr_plain.specs.Order.{IsNext, IsNumbered}
use Rattle.sr_plain.specs.Rotation.{GoOnInTurn, InTurnIsRotation, IsInTurn, NextIsLeastUnused, OneMoreInTurn}
use Rattle.sr_plain.specs.Turns.{IsName, IsTurn, Rotates, last_after, takes_turn, turn, walk}
use Rattle.sr_plain.proofs.LedLemmas.{any-contains, used-item}
use Rattle.sr_plain.proofs.OrderLemmas.{contains-any}

-- ---- numbers that were given out one after the other

-- each number from `low` on and below `high` was given out, in this order
abbrev AreCounted : ℕ → List ℕ → ℕ → Type 0
AreCounted low [] high = low ≡ high
AreCounted low (name ∷ names) high = (name ≡ low) × AreCounted (suc low) names high

reach : (low : ℕ) (names : List ℕ) (high : ℕ) → AreCounted low names high → low ≤ high
reach low [] high is = omega arith
reach low (n ∷ ns) high is = let more = reach (suc low) ns high is.1 in omega arith

-- a number in between is among them
within : (low : ℕ) (names : List ℕ) (high q : ℕ) → AreCounted low names high → low ≤ q → q < high → list_any (λ n. n == q) names ≡ true
within low [] high q is from to = absurd (omega arith)
within low (n ∷ ns) high q is from to = by (n == q) refl (λ off. within (suc low) ns high q is.1 (beyond-first off) to)
  where
    beyond-first : (n == q) ≡ false → suc low ≤ q
    beyond-first off = at (cases_eq q low)
      where
        at : (q ≡ low) ⊎ (q ≡ low → ⊥) → suc low ≤ q
        at (inl same) = absurd (true≢false (sym (eq-eqb n q (is.0 ∙ sym same)) ∙ off))
        at (inr apart) = omega arith

    by : (b : Bool) → (n == q) ≡ b → ((n == q) ≡ false → list_any (λ m. m == q) ns ≡ true) → (b || list_any (λ m. m == q) ns) ≡ true
    by true here more = refl
    by false off more = more off

-- none beyond is
beyond : (low : ℕ) (names : List ℕ) (high q : ℕ) → AreCounted low names high → high ≤ q → list_any (λ n. n == q) names ≡ false
beyond low [] high q is over = refl
beyond low (n ∷ ns) high q is over = by (n == q) refl (beyond (suc low) ns high q is.1 over)
  where
    by : (b : Bool) → (n == q) ≡ b → list_any (λ m. m == q) ns ≡ false → (b || list_any (λ m. m == q) ns) ≡ false
    by true here more = let same : n ≡ q = eqb-true n q here in let first = is.0 in let far = reach (suc low) ns high is.1 in absurd (omega arith)
    by false off more = more

counted-more : (low : ℕ) (names : List ℕ) (high : ℕ) → AreCounted low names high → AreCounted low (names ++ high ∷ []) (suc high)
counted-more low [] high is = (sym is, ap suc is)
counted-more low (n ∷ ns) high is = (is.0, counted-more (suc low) ns high is.1)

module _ (names : List ℕ) (next name : ℕ) (counted : AreCounted 1 names next) (is : IsNext names name) where
  no-less : next ≤ name
  no-less = by (cases_lt 1 next)
    where
      by : (1 < next) ⊎ (next ≤ 1) → next ≤ name
      by (inl some) =
          let here = within 1 names next (next - 1) counted (omega arith) (omega arith) in
          let bound = All-contains (λ n. n ≤ is.greatest) names (next - 1) is.is_greatest.bound (any-contains names (next - 1) here) in
          omega (arith, bound, is.one_more)
      by (inr none) = omega (arith, is.one_more)

  no-more : name ≤ next
  no-more = by (cases_lt 0 is.greatest) (cases_lt is.greatest next)
    where
      by : (0 < is.greatest) ⊎ (is.greatest ≤ 0) → (is.greatest < next) ⊎ (next ≤ is.greatest) → name ≤ next
      by some (inl under) = omega (arith, is.one_more)
      by (inl some) (inr over) = absurd (true≢false (sym (contains-any names is.greatest (is.is_greatest.found some)) ∙ beyond 1 names next is.greatest counted over))
      by (inr none) (inr over) = let from = reach 1 names next counted in absurd (omega arith)

  -- the next number is the one after those that were given out
  next-counted : name ≡ next
  next-counted = omega (arith, no-less, no-more)

  -- no lesser number is left
  next-least : IsLeastUnused names name
  next-least = record {
    positive = omega (arith, is.one_more);
    unused = λ found. let under = All-contains (λ n. n ≤ is.greatest) names name is.is_greatest.bound found in absurd (omega (arith, under, is.one_more));
    least = λ k some less. any-contains names k (within 1 names next k counted (omega arith) (omega (arith, no-more)));
  }

-- what an item makes has the least unused number
least-name : (world : World) (next name : ℕ) → AreCounted 1 world.used next → IsNumbered world name → IsName world name
least-name world next zero counted here = tt
least-name world next (suc n) counted here = next-least world.used next (suc n) counted here

-- after an item the numbers are still counted
counted-after : (items : List Item) (state later : State) (item : Item) (next : ℕ) → IsSound items state → IsSound (items ++ item ∷ []) later → AreCounted 1 state.world.used next
    → IsNumbered state.world (number_of item) → (n : ℕ) × AreCounted 1 later.world.used n
counted-after items state later item next sound sound' counted here = by item (used-item items state later item sound sound') here
  where
    with-name : (name : ℕ) → later.world.used ≡ state.world.used ++ (given_out name ++ []) → IsNumbered state.world name → (n : ℕ) × AreCounted 1 later.world.used n
    with-name zero used h = (next, subst (λ names. AreCounted 1 names next) (sym (used ∙ append-nil state.world.used)) counted)
    with-name (suc n) used h =
        let named : suc n ≡ next = next-counted state.world.used next (suc n) counted h in
        (suc next, subst (λ names. AreCounted 1 names (suc next)) (sym (used ∙ ap (λ k. state.world.used ++ k ∷ []) named)) (counted-more 1 state.world.used next counted))

    by : (i : Item) → later.world.used ≡ state.world.used ++ names_in (i ∷ []) → IsNumbered state.world (number_of i) → (n : ℕ) × AreCounted 1 later.world.used n
    by (Step actor name) used h = with-name name used h
    by (Quiesce name) used h = with-name name used h
    by (Tick to) used h = with-name 0 used h

module _ (core : Core) (limit : ℕ) where
  -- ---- one more event

  none-in-turn : (now : Next) (last : ℕ) → GoOnInTurn core limit now last []
  none-in-turn (Goes state) last = tt
  none-in-turn (Over ending state) last = tt
  none-in-turn Illegal last = tt

  go-on-more : (events : List Event) (now : Next) (last : ℕ) (state : State) (event : Event) → after core limit now events ≡ Goes state
      → GoOnInTurn core limit now last events → IsInTurn core limit state (fold last_by last events) event → GoOnInTurn core limit now last (events ++ event ∷ [])
  go-on-more [] (Goes s) last state event leads turns here =
      let same : s ≡ state = cc in (subst (λ v. IsInTurn core limit v last event) (sym same) here, none-in-turn (after_event core limit s event) (last_by last event))
  go-on-more [] (Over ending s) last state event leads turns here = absurd (cc)
  go-on-more [] Illegal last state event leads turns here = absurd (cc)
  go-on-more (e ∷ es) (Goes s) last state event leads turns here = (turns.0, go-on-more es (after_event core limit s e) (last_by last e) state event leads turns.1 here)
  go-on-more (e ∷ es) (Over ending s) last state event leads turns here = absurd turns
  go-on-more (e ∷ es) Illegal last state event leads turns here = absurd turns

  -- ---- the turn, with all of the input

  module _ (bytes : List ℕ) (state : State) (closed : state.world.ended ≡ true → bytes ≡ []) where
    same-find : (starts : List Start) → find (takes_turn core limit (with_all_in bytes state)) starts ≡ find (takes_turn core limit state) starts
    same-find [] = refl
    same-find (s ∷ ss) =
        ap (λ b. cond (not b) (Some s) (find (takes_turn core limit (with_all_in bytes state)) ss)) (same-blocked core limit bytes state closed s.process (asks_next core limit state s))
        ∙ ap (cond (takes_turn core limit state s) (Some s)) (same-find ss)

    same-turn : (last : ℕ) → turn core limit (with_all_in bytes state) last ≡ turn core limit state last
    same-turn last = same-find (walk state.world last)

    name-with-all : (name : ℕ) → IsName state.world name → IsName (with_all bytes state.world) name
    name-with-all zero here = here
    name-with-all (suc n) here = here

    turn-with-all : (last : ℕ) (item : Item) → IsTurn (turn core limit state last) item → IsTurn (turn core limit (with_all_in bytes state) last) item
    turn-with-all last item here = subst (λ t. IsTurn t item) (sym (same-turn last)) here

  -- ---- along events

  in-rotation : (more : List ℕ) (items : List Item) (last next_name : ℕ) (state : State) (events : List Event) → IsSound items state → AreCounted 1 state.world.used next_name → is_legal (after core limit (Goes state) events) ≡ true
      → (state.world.ended ≡ true → bytes_in events ++ more ≡ []) → (closes events ≡ true → more ≡ []) → GoOnInTurn core limit (Goes state) last events
      → Rotates core limit (Goes (with_all_in (bytes_in events ++ more) state)) last (items_in events)
  in-rotation more items last next_name state [] sound counted legal closed ends turns = tt
  in-rotation more items last next_name state (Makes_item item ∷ events) sound counted legal closed ends turns = (
    turn-with-all (bytes_in events ++ more) state closed last item turns.0.0,
    name-with-all (bytes_in events ++ more) state closed (number_of item) (least-name state.world next_name (number_of item) counted turns.0.1),
    subst (λ now. Rotates core limit now (last_after last item) (items_in events))
        (sym (all-next core limit (bytes_in events ++ more) state closed item (legal-after core limit (next core limit state item) events legal)))
        (by (next core limit state item) refl legal turns.1 (λ us n s sound counted' h closed' go. in-rotation more us (last_after last item) n s events sound counted' h closed' ends go)),
  )
    where
      by : (now : Next) → next core limit state item ≡ now → is_legal (after core limit now events) ≡ true → GoOnInTurn core limit now (last_after last item) events
          → ((us : List Item) (n : ℕ) (s : State) → IsSound us s → AreCounted 1 s.world.used n → is_legal (after core limit (Goes s) events) ≡ true → (s.world.ended ≡ true → bytes_in events ++ more ≡ [])
          → GoOnInTurn core limit (Goes s) (last_after last item) events → Rotates core limit (Goes (with_all_in (bytes_in events ++ more) s)) (last_after last item) (items_in events))
          → Rotates core limit (next_with_all (bytes_in events ++ more) now) (last_after last item) (items_in events)
      by (Goes s) is h go later =
          let sound' : IsSound (items ++ item ∷ []) s = sound-next items state sound core limit item s is in
          let counted' = counted-after items state s item next_name sound sound' counted turns.0.1 in
          later (items ++ item ∷ []) counted'.0 s sound' counted'.1 h (λ e. closed (sym (ended-next core limit items state s item sound is) ∙ e)) go
      by (Over ending s) is h go later =
          subst (λ es. Rotates core limit (Over ending (with_all_in (bytes_in es ++ more) s)) (last_after last item) (items_in es)) (sym (over-last core limit ending s events h)) tt
      by Illegal is h go later = absurd (true≢false (sym h ∙ ap is_legal (illegal-after core limit events)))
  in-rotation more items last next_name state (Gives bytes ∷ events) sound counted legal closed ends turns =
      by state.world.ended refl legal turns.1 (λ s sound counted' h closed' go. in-rotation more items last next_name s events sound counted' h closed' ends go)
    where
      given : State
      given = record state { world = with_input bytes state.world }

      moved : with_all_in ((bytes ++ bytes_in events) ++ more) state ≡ with_all_in (bytes_in events ++ more) given
      moved =
          ap (λ bs. record state { world = record state.world { rest = bs; ended = true } })
          (ap (λ bs. state.world.rest ++ bs) (append_assoc bytes (bytes_in events) more) ∙ sym (append_assoc state.world.rest bytes (bytes_in events ++ more)))

      by : (b : Bool) → state.world.ended ≡ b → is_legal (after core limit (where_true (not b) (Goes given)) events) ≡ true → GoOnInTurn core limit (where_true (not b) (Goes given)) last events
          → ((s : State) → IsSound items s → AreCounted 1 s.world.used next_name → is_legal (after core limit (Goes s) events) ≡ true → (s.world.ended ≡ true → bytes_in events ++ more ≡ [])
          → GoOnInTurn core limit (Goes s) last events → Rotates core limit (Goes (with_all_in (bytes_in events ++ more) s)) last (items_in events))
          → Rotates core limit (Goes (with_all_in ((bytes ++ bytes_in events) ++ more) state)) last (items_in events)
      by false is h go later =
          subst (λ s. Rotates core limit (Goes s) last (items_in events)) (sym moved)
          (later given (sound-input items state sound (state.world.rest ++ bytes) state.world.ended) counted h (λ e. absurd (true≢false (sym e ∙ is))) go)
      by true is h go later = absurd (true≢false (sym h ∙ ap is_legal (illegal-after core limit events)))
  in-rotation more items last next_name state (Closes ∷ events) sound counted legal closed ends turns =
      by state.world.ended refl legal turns.1 (λ s sound counted' h closed' go. in-rotation more items last next_name s events sound counted' h closed' (λ e. ends refl) go)
    where
      shut : State
      shut = record state { world = without_more state.world }

      by : (b : Bool) → state.world.ended ≡ b → is_legal (after core limit (where_true (not b) (Goes shut)) events) ≡ true → GoOnInTurn core limit (where_true (not b) (Goes shut)) last events
          → ((s : State) → IsSound items s → AreCounted 1 s.world.used next_name → is_legal (after core limit (Goes s) events) ≡ true → (s.world.ended ≡ true → bytes_in events ++ more ≡ [])
          → GoOnInTurn core limit (Goes s) last events → Rotates core limit (Goes (with_all_in (bytes_in events ++ more) s)) last (items_in events))
          → Rotates core limit (Goes (with_all_in (bytes_in events ++ more) state)) last (items_in events)
      by false is h go later =
          let sound' : IsSound items shut = sound-input items state sound state.world.rest true in
          later shut sound' counted h (λ e. ap (λ bs. bs ++ more) (no-bytes core limit items shut events sound' refl h) ∙ ends refl) go
      by true is h go later = absurd (true≢false (sym h ∙ ap is_legal (illegal-after core limit events)))

  -- where all items came in turn, the numbers are counted
  counted-led : (items : List Item) (last next_name : ℕ) (state later : State) (events : List Event) → IsSound items state → AreCounted 1 state.world.used next_name
      → after core limit (Goes state) events ≡ Goes later → GoOnInTurn core limit (Goes state) last events → (n : ℕ) × AreCounted 1 later.world.used n
  counted-led items last next_name state later [] sound counted is turns = let same : state ≡ later = cc in (next_name, subst (λ (s : State). AreCounted 1 s.world.used next_name) same counted)
  counted-led items last next_name state later (event ∷ events) sound counted is turns =
      by event (after_event core limit state event) refl is turns (λ us l n s sound' counted' h go. counted-led us l n s later events sound' counted' h go)
    where
      by : (e : Event) (n : Next) → after_event core limit state e ≡ n → after core limit n events ≡ Goes later → IsInTurn core limit state last e × GoOnInTurn core limit (after_event core limit state e) (last_by last e) events
          → ((us : List Item) (l n : ℕ) (s : State) → IsSound us s → AreCounted 1 s.world.used n → after core limit (Goes s) events ≡ Goes later → GoOnInTurn core limit (Goes s) l events → (n : ℕ) × AreCounted 1 later.world.used n)
          → (n : ℕ) × AreCounted 1 later.world.used n
      by e Illegal is' h go more = let stuck = illegal-after core limit events in absurd (cc)
      by e (Over ending s) is' h go more = absurd (over-after core limit ending s later events h)
      by (Makes_item item) (Goes s) is' h go more =
          let sound' : IsSound (items ++ item ∷ []) s = sound-next items state sound core limit item s is' in
          let counted' = counted-after items state s item next_name sound sound' counted go.0.1 in
          more (items ++ item ∷ []) (last_after last item) counted'.0 s sound' counted'.1 h (subst (λ n. GoOnInTurn core limit n (last_after last item) events) is' go.1)
      by (Gives bytes) (Goes s) is' h go more =
          let parts = goes-where (not state.world.ended) (Goes (record state { world = with_input bytes state.world })) s is' in
          let same : record state { world = with_input bytes state.world } ≡ s = cc in
          more items last next_name s (subst (IsSound items) same (sound-input items state sound (state.world.rest ++ bytes) state.world.ended))
          (subst (λ (t : State). AreCounted 1 t.world.used next_name) same counted) h (subst (λ n. GoOnInTurn core limit n last events) is' go.1)
      by Closes (Goes s) is' h go more =
          let parts = goes-where (not state.world.ended) (Goes (record state { world = without_more state.world })) s is' in
          let same : record state { world = without_more state.world } ≡ s = cc in
          more items last next_name s (subst (IsSound items) same (sound-input items state sound state.world.rest true))
          (subst (λ (t : State). AreCounted 1 t.world.used next_name) same counted) h (subst (λ n. GoOnInTurn core limit n last events) is' go.1)

pub next_is_least_unused : NextIsLeastUnused
next_is_least_unused core limit events state name leads turns is =
    let counted = counted-led core limit [] 0 2 first state events sound-first (refl, refl) leads turns in
    next-least state.world.used counted.0 name counted.1 is

pub one_more_in_turn : OneMoreInTurn
one_more_in_turn core limit events state event leads turns here = go-on-more core limit events (Goes first) 0 state event leads turns here

pub in_turn_is_rotation : InTurnIsRotation
in_turn_is_rotation core limit events more legal ends turns = in-rotation core limit more [] 0 2 first events sound-first (refl, refl) legal (λ e. absurd (true≢false (sym e))) ends turns
