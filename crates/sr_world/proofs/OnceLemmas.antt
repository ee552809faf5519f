-- No invocation is serviced twice in a history.
use Rattle.std.proofs.Common.{◌≡◌, ℕ, zero, suc, ◌+◌, ◌<◌, ◌≤◌, ◌==◌, ◌&&◌, Bool, true, false, cond, List, [], ◌∷◌, ◌++◌, drop, length, Option, None, Some, refl, ap, ◌∙◌, subst, arith, eq-eqb, eqb-true}
use Rattle.std.proofs.lemmas.List.Sums.{sum_by-append}
use Rattle.std.specs.Prelude.{count_by, filter}
use Rattle.sr_ask.specs.declared.answer.Answer.{Answer}
use Rattle.sr_ask.specs.declared.answer.Answer.TheVariants as answer
use Rattle.sr_ask.specs.declared.item.Item.{Item}
use Rattle.sr_ask.specs.declared.item.Item.TheVariants.{Step, Quiesce, Tick}
use Rattle.sr_ask.specs.declared.start.Start.{Start}
use Rattle.sr_core.specs.declared.component.Core.{Core}
use Rattle.sr_queue.specs.declared.pending.Pending.{Pending}
use Rattle.sr_world.specs.Does.{Does, Did, Makes, Cannot, Ends, Undecided}
use Rattle.sr_world.specs.Endings.{quiesce}
use Rattle.sr_world.specs.Histories.{Entry, Mark, Arrives, Serves, all_from, arrived, entries_in, marks_by, marks_in, marks_of, is_mark_in, serves, taken_up, waiting_as}
use Rattle.sr_world.specs.Runs.{Next, Goes, Over, Illegal, State, asks_for, asks_next, begun, comes_after, heeds_time, is_new, next, no_step, rested, step_of, stepped, with_answer}
use Rattle.sr_world.specs.Sound.{IsSound}
use Rattle.sr_world.specs.Spots.{Spot, Waiting, TakenBy, ServiceOf, is_picked}
use Rattle.sr_world.specs.Updates.{pass_to}
use Rattle.sr_world.specs.Worlds.{World, started}
use Rattle.sr_world.proofs.CountLemmas.{count-cons, count-filter, count-push, one}
use Rattle.sr_world.proofs.HistoryLemmas.{all-filter, all-legal, count-map, count-never}
use Rattle.sr_world.proofs.LawProofs.{sound-run}
use Rattle.sr_world.specs.Laws.{EveryHistoryIsLegal}
use Rattle.sr_world.proofs.RunLemmas.{goes-where, sound-next}

-- how many marks service an invocation
abbrev pub served : ℕ → List Mark → ℕ
served id marks = count_by (serves id) marks

module _ (id : ℕ) where
  none-filtered : (other : ℕ) (ps : List Pending) → (other == id) ≡ false → count_by (λ p. p.id == id) (filter (λ p. p.id == other) ps) ≡ 0
  none-filtered other [] apart = refl
  none-filtered other (p ∷ ps) apart = by (p.id == other) refl (none-filtered other ps apart)
    where
      others : (p.id == other) ≡ true → (p.id == id) ≡ false
      others is = ap (λ n. n == id) (eqb-true p.id other is) ∙ apart

      by : (b : Bool) → (p.id == other) ≡ b → count_by (λ q. q.id == id) (filter (λ q. q.id == other) ps) ≡ 0
          → count_by (λ q. q.id == id) (cond b (p ∷ filter (λ q. q.id == other) ps) (filter (λ q. q.id == other) ps)) ≡ 0
      by true is more = let e = ap one (others is) in let c = count-cons (λ (q : Pending). q.id == id) p (filter (λ (q : Pending). q.id == other) ps) in omega (arith, c, e, more)
      by false is more = more

  -- what is taken up waits
  taken-waits : (world : World) (actor : ℕ) (a : Answer) → served id (taken_up world actor a) ≤ count_by (λ p. p.id == id) world.pending
  taken-waits world actor (answer.Picked other arm args back) =
      let e = count-map (serves id) (λ p. Serves actor p arm) (waiting_as other world) in
      omega (arith, e, count-filter (λ (p : Pending). p.id == id) (λ p. p.id == other) world.pending)
  taken-waits world actor answer.Done = omega arith
  taken-waits world actor (answer.Got v) = omega arith
  taken-waits world actor (answer.Made n) = omega arith
  taken-waits world actor answer.Ready = omega arith
  taken-waits world actor answer.Else = omega arith
  taken-waits world actor (answer.Took n results) = omega arith
  taken-waits world actor (answer.Number n) = omega arith
  taken-waits world actor answer.Bad = omega arith
  taken-waits world actor answer.End = omega arith

  -- and its process is told so
  taken-told : (world : World) (actor : ℕ) (a : Answer) → 0 < served id (taken_up world actor a) → is_picked id a ≡ true
  taken-told world actor (answer.Picked other arm args back) some = by (other == id) refl
    where
      by : (b : Bool) → (other == id) ≡ b → b ≡ true
      by true is = refl
      by false is =
          let e = count-map (serves id) (λ p. Serves actor p arm) (waiting_as other world) in
          absurd (omega (arith, some, e, none-filtered other world.pending is))
  taken-told world actor answer.Done some = absurd (omega (arith, some))
  taken-told world actor (answer.Got v) some = absurd (omega (arith, some))
  taken-told world actor (answer.Made n) some = absurd (omega (arith, some))
  taken-told world actor answer.Ready some = absurd (omega (arith, some))
  taken-told world actor answer.Else some = absurd (omega (arith, some))
  taken-told world actor (answer.Took n results) some = absurd (omega (arith, some))
  taken-told world actor (answer.Number n) some = absurd (omega (arith, some))
  taken-told world actor answer.Bad some = absurd (omega (arith, some))
  taken-told world actor answer.End some = absurd (omega (arith, some))

  none-arrived : (before after : World) → served id (arrived before after) ≡ 0
  none-arrived before after = count-map (serves id) (λ p. Arrives p) (drop (length before.pending) after.pending) ∙ count-never (drop (length before.pending) after.pending)

  marks-wait : (world : World) (actor : ℕ) (d : Does) → served id (marks_of world actor d) ≤ count_by (λ p. p.id == id) world.pending
  marks-wait world actor (Did after a) = taken-waits world actor a
  marks-wait world actor (Makes after a) = let e = none-arrived world after in omega (arith, e)
  marks-wait world actor Cannot = omega arith
  marks-wait world actor (Ends ending) = omega arith
  marks-wait world actor Undecided = omega arith

  -- how often a process was told that it services it
  abbrev told : State → ℕ → ℕ
  told state process = count_by (is_picked id) (state.given process)

  more-told : (state : State) (actor process : ℕ) (a : Answer) (b : Bool) → (process == actor) ≡ b → count_by (is_picked id) (cond b (state.given process ++ a ∷ []) (state.given process)) ≡ told state process + one (b && is_picked id a)
  more-told state actor process a true is = count-push (is_picked id) (state.given process) a
  more-told state actor process a false is = omega arith

  module _ (core : Core) (limit : ℕ) where
    -- whoever was told stays so, and who takes it up is told
    record Tells (state later : State) (marks : List Mark) : Type 0 where
      stays : (process : ℕ) → told state process ≤ told later process
      new : 0 < served id marks → (process : ℕ) × (0 < told later process)

    tells-step : (state later : State) (actor name : ℕ) (d : Does) → stepped state actor name d ≡ Goes later → Tells state later (marks_of state.world actor d)
    tells-step state later actor name (Did after a) is =
        let parts = goes-where (name == 0) (Goes (record { world = after; given = with_answer actor a state.given })) later is in
        let same : record { world = after; given = with_answer actor a state.given } ≡ later = cc in
        subst (λ s. Tells state s (taken_up state.world actor a)) same
        (record {
          stays = λ process. let e = more-told state actor process a (process == actor) refl in omega (arith, e);
          new = λ some. (
            actor,
            let e = more-told state actor actor a (actor == actor) refl in
                let here : one ((actor == actor) && is_picked id a) ≡ 1 = ap (λ b. one (b && is_picked id a)) (eq-eqb actor actor refl) ∙ ap one (taken-told state.world actor a some) in
                omega (arith, e, here),
          );
        })
    tells-step state later actor name (Makes after a) is =
        let parts = goes-where (is_new state.world name) (Goes (record { world = after; given = with_answer actor a state.given })) later is in
        let same : record { world = after; given = with_answer actor a state.given } ≡ later = cc in
        subst (λ s. Tells state s (arrived state.world after)) same
        (record {
          stays = λ process. let e = more-told state actor process a (process == actor) refl in omega (arith, e);
          new = λ some. absurd (let e = none-arrived state.world after in omega (arith, some, e));
        })
    tells-step state later actor name Cannot is = absurd (cc)
    tells-step state later actor name (Ends ending) is = let parts = goes-where (name == 0) (Over ending state) later is in absurd (cc)
    tells-step state later actor name Undecided is = absurd (cc)

    tells-by : (state later : State) (actor name : ℕ) (o : Option Start) → step_of core limit state actor name o ≡ Goes later → Tells state later (marks_by core limit state actor name o)
    tells-by state later actor name None is = absurd (cc)
    tells-by state later actor name (Some start) is = tells-step state later actor name (asks_for core state.world actor name (asks_next core limit state start)) is

    tells-rested : (state later : State) (name : ℕ) (d : Does) → rested state name d ≡ Goes later → Tells state later []
    tells-rested state later name (Makes after a) is =
        let parts = goes-where (is_new state.world name) (Goes (record state { world = after })) later is in
        let same : record state { world = after } ≡ later = cc in
        subst (λ s. Tells state s []) same (record { stays = λ process. omega arith; new = λ some. absurd (omega (arith, some)) })
    tells-rested state later name (Did after a) is = absurd (cc)
    tells-rested state later name Cannot is = absurd (cc)
    tells-rested state later name (Ends ending) is = let parts = goes-where (name == 0) (Over ending state) later is in absurd (cc)
    tells-rested state later name Undecided is = absurd (cc)

    tells : (state later : State) (item : Item) → next core limit state item ≡ Goes later → Tells state later (marks_in core limit state item)
    tells state later (Step actor name) is = tells-by state later actor name (started state.world actor) is
    tells state later (Quiesce name) is =
        let parts = goes-where (no_step core limit state) (rested state name (quiesce core name state.world)) later is in
        tells-rested state later name (quiesce core name state.world) parts.1
    tells state later (Tick to) is =
        let parts = goes-where (comes_after state.world.moment to && heeds_time core limit state) (Goes (record state { world = pass_to to state.world })) later is in
        let same : record state { world = pass_to to state.world } ≡ later = cc in
        subst (λ s. Tells state s []) same (record { stays = λ process. omega arith; new = λ some. absurd (omega (arith, some)) })

    by-waits : (state : State) (actor name : ℕ) (o : Option Start) → served id (marks_by core limit state actor name o) ≤ count_by (λ p. p.id == id) state.world.pending
    by-waits state actor name None = omega arith
    by-waits state actor name (Some start) = marks-wait state.world actor (asks_for core state.world actor name (asks_next core limit state start))

    item-waits : (state : State) (item : Item) → served id (marks_in core limit state item) ≤ count_by (λ p. p.id == id) state.world.pending
    item-waits state (Step actor name) = by-waits state actor name (started state.world actor)
    item-waits state (Quiesce name) = omega arith
    item-waits state (Tick to) = omega arith

    apart-spots : (process : ℕ) → ◌≡◌ {A = Spot} Waiting (TakenBy process) → ⊥
    apart-spots process is = cc

    no-more : (n : ℕ) → (0 < n → ⊥) → n ≡ 0
    no-more zero h = refl
    no-more (suc n) h = absurd (h (omega arith))

    -- who was told of it, for such it waits no more
    waits-not : (items : List Item) (state : State) (process : ℕ) → IsSound items state → 0 < told state process → count_by (λ p. p.id == id) state.world.pending ≡ 0
    waits-not items state process sound some = no-more (count_by (λ p. p.id == id) state.world.pending) (λ waits. apart-spots process (sound.duties.places (ServiceOf id) Waiting (TakenBy process) waits some))

    -- ---- along a run

    abbrev pub served_by : List Entry → ℕ
    served_by entries = count_by (λ entry. serves id entry.mark) entries

    split : (state : State) (item : Item) (rest : List Entry) → served_by (entries_in core limit state item ++ rest) ≡ served id (marks_in core limit state item) + served_by rest
    split state item rest =
        sum_by-append (λ entry. one (serves id entry.mark)) (entries_in core limit state item) rest
        ∙ ap (λ n. n + served_by rest) (count-map (λ entry. serves id entry.mark) (λ mark. record { state = state; mark = mark }) (marks_in core limit state item))

    ends-here : (now : Next) (rest : List Item) → ((s : State) → now ≡ Goes s → ⊥) → served_by (all_from core limit now rest) ≡ 0
    ends-here (Goes s) rest h = absurd (h s refl)
    ends-here (Over ending s) [] h = refl
    ends-here (Over ending s) (i ∷ is) h = refl
    ends-here Illegal [] h = refl
    ends-here Illegal (i ∷ is) h = refl

    -- once a process has it, nobody takes it up again
    pub never-again : (items rest : List Item) (state : State) (process : ℕ) → IsSound items state → 0 < told state process → served_by (all_from core limit (Goes state) rest) ≡ 0
    never-again items [] state process sound some = refl
    never-again items (item ∷ rest) state process sound some =
        let none : served id (marks_in core limit state item) ≡ 0 = let w = waits-not items state process sound some in omega (arith, item-waits state item, w) in
        split state item (all_from core limit (next core limit state item) rest)
        ∙ ap (λ n. n + served_by (all_from core limit (next core limit state item) rest)) none
        ∙ by (next core limit state item) refl (λ us s sound some. never-again us rest s process sound some)
      where
        by : (now : Next) → next core limit state item ≡ now → ((us : List Item) (s : State) → IsSound us s → 0 < told s process → served_by (all_from core limit (Goes s) rest) ≡ 0)
            → 0 + served_by (all_from core limit now rest) ≡ 0
        by (Goes s) is more =
            let e = more (items ++ item ∷ []) s (sound-next items state sound core limit item s is) (omega (arith, some, (tells state s item is).stays process)) in omega (arith, e)
        by (Over ending s) is more = let e = ends-here (Over ending s) rest (λ s' e. cc) in omega (arith, e)
        by Illegal is more = let e = ends-here Illegal rest (λ s' e. cc) in omega (arith, e)

    pub at-most-once : (items rest : List Item) (state : State) → IsSound items state → served_by (all_from core limit (Goes state) rest) ≤ 1
    at-most-once items [] state sound = omega arith
    at-most-once items (item ∷ rest) state sound =
        let e = split state item (all_from core limit (next core limit state item) rest) in
        let few : served id (marks_in core limit state item) ≤ 1 = omega (arith, item-waits state item, sound.duties.numbers (ServiceOf id) Waiting, sound.numbers.once id) in
        let total = by (next core limit state item) refl few (λ us s sound. at-most-once us rest s sound) in omega (arith, e, total)
      where
        both : (n m : ℕ) → n ≤ 1 → m ≤ 1 → (0 < n → m ≡ 0) → n + m ≤ 1
        both zero m hn hm h = omega (arith, hm)
        both (suc n) m hn hm h = let none = h (omega arith) in omega (arith, hn, none)

        by : (now : Next) → next core limit state item ≡ now → served id (marks_in core limit state item) ≤ 1
            → ((us : List Item) (s : State) → IsSound us s → served_by (all_from core limit (Goes s) rest) ≤ 1)
            → served id (marks_in core limit state item) + served_by (all_from core limit now rest) ≤ 1
        by (Goes s) is few more =
            let later = sound-next items state sound core limit item s is in
            both (served id (marks_in core limit state item)) (served_by (all_from core limit (Goes s) rest)) few (more (items ++ item ∷ []) s later)
            (λ some. let told' = (tells state s item is).new some in never-again (items ++ item ∷ []) rest s told'.0 later told'.1)
        by (Over ending s) is few more = let e = ends-here (Over ending s) rest (λ s' e. cc) in omega (arith, few, e)
        by Illegal is few more = let e = ends-here Illegal rest (λ s' e. cc) in omega (arith, few, e)

-- a run begins in a state that is sound
pub every_history_is_legal : EveryHistoryIsLegal
every_history_is_legal core limit input items owner class legal =
    let sound : IsSound [] (begun input) = sound-run core limit input [] (begun input) refl in
    let all : List Entry = all_from core limit (Goes (begun input)) items in
    record {
      chosen = all-filter core limit (λ entry. is_mark_in owner class entry.mark) all (all-legal core limit [] items (begun input) sound legal);
      once = λ id. omega (arith, at-most-once id core limit [] items (begun input) sound, count-filter (λ (entry : Entry). serves id entry.mark) (λ entry. is_mark_in owner class entry.mark) all);
    }
