-- Items stay arranged as events come.
use Rattle.std.proofs.Common.{◌≡◌, ◌⊎◌, inl, inr, ◌+◌, ◌<◌, ◌≤◌, ◌||◌, ℕ, Bool, true, false, List, [], ◌∷◌, ◌++◌, length, map, Option, Some, None, IsSome, refl, ap, sym, ◌∙◌, subst, arith, true≢false, append-nil, append_assoc, length-append}
use Rattle.sr_ask.specs.declared.item.Item.{Item}
use Rattle.sr_ask.specs.declared.item.Item.TheVariants.{Step, Quiesce, Tick}
use Rattle.sr_ask.specs.declared.start.Start.{Start}
use Rattle.sr_core.specs.declared.component.Core.{Core}
use Rattle.sr_plain.proofs.RotationLemmas.{in_turn_is_rotation, one_more_in_turn}
use Rattle.sr_plain.proofs.StretchInputLemmas.{stretches_stay}
use Rattle.sr_plain.specs.Engine.{last_in}
use Rattle.sr_plain.specs.Rotation.{AreInTurn, IsInTurn}
use Rattle.sr_plain.specs.Stretches.{IsStretch, nobody_could}
use Rattle.sr_plain.specs.Turns.{IsTurn, turn}
use Rattle.sr_run.proofs.Events.{bytes-along, bytes-more, closes-along, closes-more, items-more, led-more, or-false, or-true}
use Rattle.sr_run.proofs.Following.{followed-cut, followed-end, followed-full, followed-on}
use Rattle.sr_run.specs.Arranged.{AreStretches, Arrangement, InTurn, InRounds, IsArranged, IsStretchFrom, LackStretches, LacksStretch, TakesNoTime}
use Rattle.sr_run.specs.UnderWay.{ArrangedSoFar, LacksLast, Stage, Whole, Open}
use Rattle.sr_run.specs.declared.stretch.Stretch.{Stretch}
use Rattle.sr_world.proofs.LawProofs.{run-append}
use Rattle.sr_world.proofs.PieceLemmas.{items_give_the_run}
use Rattle.sr_world.specs.Laws.{closes, next_with_all, with_all_in}
use Rattle.sr_world.specs.Runs.{Event, Makes_item, Gives, Closes, Goes, Illegal, Next, Over, State, after_event, begun, bytes_in, ending_of, is_legal, items_in, led, next, run, run_from}
use Rattle.sr_world.specs.declared.ends.End.{End}

-- an item in its turn is no tick
pub takes-no-time : (turn : Option Start) (item : Item) → IsTurn turn item → TakesNoTime item
takes-no-time turn (Step actor name) here = tt
takes-no-time turn (Quiesce name) here = tt
takes-no-time None (Tick to) here = here
takes-no-time (Some start) (Tick to) here = here

-- ---- a run that may have been cut off

module _ (core : Core) (class : ℕ → ℕ) (ticks steps workers : ℕ) where
  cut-lacks : (now : Next) (made : ℕ) (item : Item) (items : List Item) → LacksStretch core class ticks steps workers false now made item items → LacksStretch core class ticks steps workers true now made item items
  cut-lacks now made item items (inl full) = inl full
  cut-lacks now made item items (inr (none, inl ends)) = inr (none, inl ends)
  cut-lacks now made item items (inr (none, inr off)) = absurd (true≢false (sym off))

  cut-lacking : (now : Next) (made : ℕ) (items : List Item) → LackStretches core class ticks steps workers false now made items → LackStretches core class ticks steps workers true now made items
  cut-lacking now made [] lack = tt
  cut-lacking now made (i ∷ is) lack = (lack.0, cut-lacks now made i is lack.1, cut-lacking (run_from core ticks now (i ∷ [])) (made + 1) is lack.2)

  cut-more : (stretches : List Stretch) (now : Next) (made : ℕ) (items : List Item) → AreStretches core class ticks steps workers false now made items stretches → AreStretches core class ticks steps workers true now made items stretches
  cut-more [] now made items are = cut-lacking now made items are
  cut-more (s ∷ ss) now made [] are = absurd are
  cut-more (s ∷ ss) now made (i ∷ is) are = (are.0, are.1, are.2, are.3, are.4, cut-more ss _ _ _ are.5)

module _ (core : Core) (ticks steps : ℕ) (events : List Event) (items : List Item) (makes : items_in events ≡ items) where
  -- where the items lead with all of the input
  pub run-is : (now : Next) → led core ticks events ≡ now → is_legal now ≡ true → (more : List ℕ) → (closes events ≡ true → more ≡ []) → run core ticks (bytes_in events ++ more) items ≡ next_with_all more now
  run-is now leads legal more last =
      subst (λ is. run core ticks (bytes_in events ++ more) is ≡ next_with_all more now) makes
      (items_give_the_run core ticks events more (ap is_legal leads ∙ legal) last ∙ ap (next_with_all more) leads)

  module _ (now : Next) (leads : led core ticks events ≡ now) (legal : is_legal now ≡ true) (more : List ℕ) (last : closes events ≡ true → more ≡ []) where
    in-rotation : AreInTurn core ticks events → (cut : Bool) → IsArranged InTurn core ticks steps cut (bytes_in events ++ more) items
    in-rotation turns cut = subst (λ is. IsArranged InTurn core ticks steps cut (bytes_in events ++ more) is) makes
        (in_turn_is_rotation core ticks events more (ap is_legal leads ∙ legal) last turns)

    pub arranged-whole : (arrangement : Arrangement) → ArrangedSoFar arrangement Whole core ticks steps events items → IsArranged arrangement core ticks steps false (bytes_in events ++ more) items
    arranged-whole InTurn turns = in-rotation turns false
    arranged-whole (InRounds class workers stretches) arranged = arranged more last

    pub arranged-cut : (arrangement : Arrangement) (stage : Stage) → ArrangedSoFar arrangement stage core ticks steps events items → IsArranged arrangement core ticks steps true (bytes_in events ++ more) items
    arranged-cut InTurn stage turns = in-rotation turns true
    arranged-cut (InRounds class workers stretches) Whole arranged = cut-more core class ticks steps workers stretches (Goes (begun (bytes_in events ++ more))) 0 items (arranged more last)
    arranged-cut (InRounds class workers stretches) Open lacks = subst (λ is. AreStretches core class ticks steps workers true (Goes (begun (bytes_in events ++ more))) 0 is stretches) (sym lacks.last)
        (followed-cut core class ticks steps workers lacks.before stretches (Goes (begun (bytes_in events ++ more))) (with_all_in more lacks.state) (lacks.arranged more last) (lacks.leads more last) lacks.item lacks.plain)

-- ---- more input

module _ (core : Core) (ticks steps : ℕ) (events : List Event) (items : List Item) (state : State) (leads : led core ticks events ≡ Goes state) where
  pub arranged-given : (arrangement : Arrangement) → closes events ≡ false → (bytes : List ℕ) → ArrangedSoFar arrangement Whole core ticks steps events items → ArrangedSoFar arrangement Whole core ticks steps (events ++ Gives bytes ∷ []) items
  arranged-given InTurn shut bytes turns = one_more_in_turn core ticks events state (Gives bytes) leads turns tt
  arranged-given (InRounds class workers stretches) shut bytes arranged = λ more last.
      subst (λ bs. IsArranged (InRounds class workers stretches) core ticks steps false bs items)
      (sym (append_assoc (bytes_in events) bytes more) ∙ ap (λ bs. bs ++ more) (sym (bytes-more events (Gives bytes))))
      (arranged (bytes ++ more) (λ e. absurd (true≢false (sym e ∙ shut))))

  pub arranged-closed : (arrangement : Arrangement) → closes events ≡ false → ArrangedSoFar arrangement Whole core ticks steps events items → ArrangedSoFar arrangement Whole core ticks steps (events ++ Closes ∷ []) items
  arranged-closed InTurn shut turns = one_more_in_turn core ticks events state Closes leads turns tt
  arranged-closed (InRounds class workers stretches) shut arranged = λ more last.
      subst (λ bs. IsArranged (InRounds class workers stretches) core ticks steps false (bs ++ more) items) (sym (bytes-more events Closes ∙ append-nil (bytes_in events)))
      (arranged more (λ e. absurd (true≢false (sym e ∙ shut))))

  -- ---- one item more

  module _ (makes : items_in events ≡ items) (item : Item) (turn_of : IsInTurn core ticks state (last_in events) (Makes_item item)) where
    bytes-same : bytes_in (events ++ Makes_item item ∷ []) ≡ bytes_in events
    bytes-same = bytes-more events (Makes_item item) ∙ append-nil (bytes_in events)

    closes-same : closes (events ++ Makes_item item ∷ []) ≡ closes events
    closes-same = closes-more events (Makes_item item) ∙ or-false (closes events)

    pub arranged-item : (arrangement : Arrangement) → ArrangedSoFar arrangement Whole core ticks steps events items → ArrangedSoFar arrangement Open core ticks steps (events ++ Makes_item item ∷ []) (items ++ item ∷ [])
    arranged-item InTurn turns = one_more_in_turn core ticks events state (Makes_item item) leads turns turn_of
    arranged-item (InRounds class workers stretches) arranged = record {
      before = items;
      item = item;
      last = refl;
      plain = takes-no-time (turn core ticks state (last_in events)) item turn_of.0;
      state = state;
      leads = λ more last. subst (λ bs. run core ticks (bs ++ more) items ≡ Goes (with_all_in more state)) (sym bytes-same) (run-is core ticks steps events items makes (Goes state) leads refl more (λ e. last (closes-same ∙ e)));
      arranged = λ more last. subst (λ bs. IsArranged (InRounds class workers stretches) core ticks steps false (bs ++ more) items) (sym bytes-same) (arranged more (λ e. last (closes-same ∙ e)));
    }

    -- the one that ends the run
    pub arranged-end : (arrangement : Arrangement) (ending : End) → next core ticks state item ≡ Over ending state → ArrangedSoFar arrangement Whole core ticks steps events items → (more : List ℕ)
        → (closes (events ++ Makes_item item ∷ []) ≡ true → more ≡ []) → IsArranged arrangement core ticks steps false (bytes_in (events ++ Makes_item item ∷ []) ++ more) (items ++ item ∷ [])
    arranged-end InTurn ending ends turns more last =
        in-rotation core ticks steps (events ++ Makes_item item ∷ []) (items ++ item ∷ []) (items-more events (Makes_item item) ∙ ap (λ is. is ++ item ∷ []) makes) (Over ending state)
        (led-more core ticks events (Makes_item item) state (Over ending state) leads ends) refl more last (one_more_in_turn core ticks events state (Makes_item item) leads turns turn_of) false
    arranged-end (InRounds class workers stretches) ending ends arranged more last =
        let made : items_in (events ++ Makes_item item ∷ []) ≡ items ++ item ∷ [] = items-more events (Makes_item item) ∙ ap (λ is. is ++ item ∷ []) makes in
        let led-over = led-more core ticks events (Makes_item item) state (Over ending state) leads ends in
        let before : run core ticks (bytes_in events ++ more) items ≡ Goes (with_all_in more state) = run-is core ticks steps events items makes (Goes state) leads refl more (λ e. last (closes-same ∙ e)) in
        let whole : run core ticks (bytes_in events ++ more) (items ++ item ∷ []) ≡ Over ending (with_all_in more state) =
        sym (ap (λ bs. run core ticks (bs ++ more) (items ++ item ∷ [])) bytes-same) ∙ run-is core ticks steps (events ++ Makes_item item ∷ []) (items ++ item ∷ []) made (Over ending state) led-over refl more last in
        let one : run_from core ticks (Goes (with_all_in more state)) (item ∷ []) ≡ Over ending (with_all_in more state) =
        sym (ap (λ n. run_from core ticks n (item ∷ [])) before) ∙ sym (run-append core ticks (Goes (begun (bytes_in events ++ more))) items (item ∷ [])) ∙ whole in
        subst (λ bs. AreStretches core class ticks steps workers false (Goes (begun (bs ++ more))) 0 (items ++ item ∷ []) stretches) (sym bytes-same)
        (followed-end core class ticks steps workers items stretches (Goes (begun (bytes_in events ++ more))) (with_all_in more state) (arranged more (λ e. last (closes-same ∙ e))) before item (takes-no-time (turn core ticks state (last_in events)) item turn_of.0)
        (subst (λ n. IsSome (ending_of n)) (sym one) refl) false)

-- ---- the stretch after an item

module _ (core : Core) (ticks steps : ℕ) (events : List Event) (items : List Item) (makes : items_in events ≡ items) (state : State) (leads : led core ticks events ≡ Goes state) where
  -- there is no room for one
  pub arranged-full : (class : ℕ → ℕ) (workers : ℕ) (stretches : List Stretch) → steps < length items + workers → ArrangedSoFar (InRounds class workers stretches) Open core ticks steps events items
      → ArrangedSoFar (InRounds class workers stretches) Whole core ticks steps events items
  arranged-full class workers stretches full lacks = λ more last.
      subst (λ is. AreStretches core class ticks steps workers false (Goes (begun (bytes_in events ++ more))) 0 is stretches) (sym lacks.last)
      (followed-full core class ticks steps workers lacks.before stretches (Goes (begun (bytes_in events ++ more))) (with_all_in more lacks.state) (lacks.arranged more last) (lacks.leads more last) lacks.item lacks.plain
      (omega (arith, full, ap (λ is. length is) lacks.last, length-append lacks.before (lacks.item ∷ []))) false)

  module _ (class : ℕ → ℕ) (workers : ℕ) (stretches : List Stretch) (lacks : ArrangedSoFar (InRounds class workers stretches) Open core ticks steps events items) (later : State) (tail : List Item)
      (stretch : Stretch) (from : stretch.from ≡ length items) (count : stretch.count ≡ length tail) (room : length items + workers ≤ steps)
      (is_stretch : IsStretch core class ticks state tail later) (empty : (tail ≡ [] → nobody_could core class ticks state ≡ true) × (nobody_could core class ticks state ≡ true → tail ≡ [])) where
    pub arranged-round : (state.world.ended ≡ true → closes events ≡ true) → ArrangedSoFar (InRounds class workers (stretches ++ stretch ∷ [])) Whole core ticks steps (events ++ map Makes_item tail) (items ++ tail)
    arranged-round shut = λ more last.
        let last' : closes events ≡ true → more ≡ [] = λ e. last (closes-along events tail ∙ e) in
        let one : run_from core ticks (Goes (with_all_in more lacks.state)) (lacks.item ∷ []) ≡ Goes (with_all_in more state) =
        sym (ap (λ n. run_from core ticks n (lacks.item ∷ [])) (lacks.leads more last'))
        ∙ sym (run-append core ticks (Goes (begun (bytes_in events ++ more))) lacks.before (lacks.item ∷ []))
        ∙ sym (ap (run core ticks (bytes_in events ++ more)) lacks.last) ∙ run-is core ticks steps events items makes (Goes state) leads refl more last' in
        let stays = stretches_stay core class ticks events state later tail more leads (λ e. last' (shut e)) is_stretch in
        let from_here : IsStretchFrom core class ticks steps workers (Goes (with_all_in more state)) tail =
        ((with_all_in more later, stays.0), ((λ none. stays.1 ∙ empty.0 none), (λ nobody. empty.1 (sym stays.1 ∙ nobody)))) in
        let size : length items ≡ length lacks.before + 1 = omega (arith, ap (λ is. length is) lacks.last, length-append lacks.before (lacks.item ∷ [])) in
        subst (λ bs. AreStretches core class ticks steps workers false (Goes (begun (bs ++ more))) 0 (items ++ tail) (stretches ++ stretch ∷ [])) (sym (bytes-along events tail))
        (subst (λ is. AreStretches core class ticks steps workers false (Goes (begun (bytes_in events ++ more))) 0 is (stretches ++ stretch ∷ []))
        (sym (append_assoc lacks.before (lacks.item ∷ []) tail) ∙ ap (λ is. is ++ tail) (sym lacks.last))
        (followed-on core class ticks steps workers lacks.before stretches (Goes (begun (bytes_in events ++ more))) (with_all_in more lacks.state) (lacks.arranged more last') (lacks.leads more last') lacks.item lacks.plain
        tail stretch (omega (arith, from, size)) count (omega (arith, room, size))
        (subst (λ n. IsStretchFrom core class ticks steps workers n tail) (sym one) from_here) false))
