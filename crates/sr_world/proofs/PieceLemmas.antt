-- A run is the same in whatever pieces its input comes: along whole runs.
use Rattle.std.proofs.Common.{◌≡◌, ℕ, ◌==◌, ◌&&◌, not, Bool, true, false, cond, List, [], ◌∷◌, ◌++◌, Option, None, Some, is_some, refl, ap, sym, ◌∙◌, true≢false, append_assoc}
use Rattle.std.specs.List.{list_all}
use Rattle.sr_ask.specs.declared.ask.Asks.{Asks}
use Rattle.sr_ask.specs.declared.ask.Asks.TheVariants.{Asked, OverTicks}
use Rattle.sr_ask.specs.declared.item.Item.{Item}
use Rattle.sr_ask.specs.declared.item.Item.TheVariants.{Step, Quiesce, Tick}
use Rattle.sr_ask.specs.declared.request.Request.{Request}
use Rattle.sr_ask.specs.declared.request.Request.TheVariants as request
use Rattle.sr_ask.specs.declared.start.Start.{Start}
use Rattle.sr_core.specs.declared.component.Core.{Core}
use Rattle.sr_instances.specs.Instances.{Instance}
use Rattle.sr_ask.specs.declared.answer.Answer.TheVariants as answer
use Rattle.sr_meaning.specs.Processes.{first_line}
use Rattle.sr_world.specs.Making.{run_final}
use Rattle.sr_world.specs.Updates.{end_all, fix, pass_to}
use Rattle.sr_world.specs.Callers.{makes_duty}
use Rattle.sr_world.specs.Deciding.{awaits_input, can_do, is_select}
use Rattle.sr_world.specs.Does.{Does, Did, Makes, Cannot, Ends, Undecided, comes_to, is_possible, is_undecided}
use Rattle.sr_world.specs.Endings.{close_or, main_instance, may_close, quiesce, rest_of}
use Rattle.sr_world.specs.Runs.{Event, Makes_item, Gives, Closes, Next, Goes, Over, Illegal, State, after, asks_for, asks_next, bytes_in, comes_after, first, heeds_time, is_blocked, is_legal, is_new, items_in, next, no_step, rested, run_from, step_of, stepped, where_true, with_answer, with_input, without_more}
use Rattle.sr_world.specs.Sound.{IsSound, is_call}
use Rattle.sr_world.specs.Steps.{does}
use Rattle.sr_world.specs.Worlds.{World, started}
use Rattle.sr_world.specs.declared.ends.End.{End}
use Rattle.sr_world.proofs.DecideLemmas.{waits_is}
use Rattle.sr_world.proofs.ReadyLemmas.{can_is}
use Rattle.sr_world.proofs.RunInputLemmas.{all, all-does, all-quiesce}
use Rattle.sr_world.proofs.RequestLemmas.{Well, well}
use Rattle.sr_world.proofs.RunLemmas.{goes-where, illegal-after, kept-of, sound-first, sound-input, sound-next}
use Rattle.sr_world.specs.Laws.{ItemsGiveTheRun, closes, next_with_all, with_all, with_all_in}

module _ (core : Core) (limit : ℕ) where
  -- ---- items leave the end of the input

  ended-stepped : (items : List Item) (state later : State) (actor name : ℕ) (selects asks : Bool) (d : Does) → Well (is_call items) state.given actor name selects asks state.world d → stepped state actor name d ≡ Goes later
      → later.world.ended ≡ state.world.ended
  ended-stepped items state later actor name selects asks (Did w a) h is =
      let parts = goes-where (name == 0) (Goes (record { world = w; given = with_answer actor a state.given })) later is in
      let same : record { world = w; given = with_answer actor a state.given } ≡ later = cc in
      ap (λ (s : State). s.world.ended) (sym same) ∙ h.ended
  ended-stepped items state later actor name selects asks (Makes w a) h is =
      let parts = goes-where (is_new state.world name) (Goes (record { world = w; given = with_answer actor a state.given })) later is in
      let same : record { world = w; given = with_answer actor a state.given } ≡ later = cc in
      ap (λ (s : State). s.world.ended) (sym same) ∙ h.ended
  ended-stepped items state later actor name selects asks Cannot h is = absurd (cc)
  ended-stepped items state later actor name selects asks (Ends ending) h is = let parts = goes-where (name == 0) (Over ending state) later is in absurd (cc)
  ended-stepped items state later actor name selects asks Undecided h is = absurd (cc)

  ended-step : (items : List Item) (state later : State) (actor name : ℕ) (o : Option Start) → IsSound items state → started state.world actor ≡ o → step_of core limit state actor name o ≡ Goes later
      → later.world.ended ≡ state.world.ended
  ended-step items state later actor name None sound found is = absurd (cc)
  ended-step items state later actor name (Some start) sound found is = by (asks_next core limit state start) is
    where
      by : (asks : Asks) → stepped state actor name (asks_for core state.world actor name asks) ≡ Goes later → later.world.ended ≡ state.world.ended
      by (Asked ask) h =
          ended-stepped items state later actor name (is_select ask.request) (makes_duty ask.request) (does core state.world actor ask name)
          (well (is_call items) state.given actor name (is_select ask.request) (makes_duty ask.request) state.world (kept-of items state sound) (ap is_some found) core ask.place ask.role ask.request refl refl) h
      by OverTicks h = absurd (cc)

  ended-closed : (state later : State) (name : ℕ) (main : Option Instance) → rested state name (close_or core name None (rest_of state.world.fixed) state.world main) ≡ Goes later → later.world.ended ≡ state.world.ended
  ended-closed state later name None is = let parts = goes-where (name == 0) (Over (rest_of state.world.fixed) state) later is in absurd (cc)
  ended-closed state later name (Some main) is = by (may_close core main) is
    where
      w : World
      w = run_final core name main.name 0 (fix None (end_all state.world))

      by : (b : Bool) → rested state name (cond b (Makes w answer.Done) (Ends (rest_of state.world.fixed))) ≡ Goes later → later.world.ended ≡ state.world.ended
      by true h =
          let parts = goes-where (is_new state.world name) (Goes (record state { world = w })) later h in
          let same : record state { world = w } ≡ later = cc in
          ap (λ (s : State). s.world.ended) (sym same)
      by false h = let parts = goes-where (name == 0) (Over (rest_of state.world.fixed) state) later h in absurd (cc)

  pub ended-next : (items : List Item) (state later : State) (item : Item) → IsSound items state → next core limit state item ≡ Goes later → later.world.ended ≡ state.world.ended
  ended-next items state later (Step actor name) sound is = ended-step items state later actor name (started state.world actor) sound refl is
  ended-next items state later (Quiesce name) sound is =
      let parts = goes-where (no_step core limit state) (rested state name (quiesce core name state.world)) later is in
      ended-closed state later name (main_instance core state.world) parts.1
  ended-next items state later (Tick to) sound is =
      let parts = goes-where (comes_after state.world.moment to && heeds_time core limit state) (Goes (record state { world = pass_to to state.world })) later is in
      let same : record state { world = pass_to to state.world } ≡ later = cc in
      ap (λ (s : State). s.world.ended) (sym same)

  -- ---- one item, with all of the input

  module _ (bytes : List ℕ) (state : State) where
    all-goes : (b : Bool) (s : State) → where_true b (Goes (with_all_in bytes s)) ≡ next_with_all bytes (where_true b (Goes s))
    all-goes true s = refl
    all-goes false s = refl

    all-over : (b : Bool) (ending : End) → where_true b (Over ending (with_all_in bytes state)) ≡ next_with_all bytes (where_true b (Over ending state))
    all-over true ending = refl
    all-over false ending = refl

    all-stepped : (actor name : ℕ) (d : Does) → stepped (with_all_in bytes state) actor name (all bytes d) ≡ next_with_all bytes (stepped state actor name d)
    all-stepped actor name (Did w a) = all-goes (name == 0) (record { world = w; given = with_answer actor a state.given })
    all-stepped actor name (Makes w a) = all-goes (is_new state.world name) (record { world = w; given = with_answer actor a state.given })
    all-stepped actor name Cannot = refl
    all-stepped actor name (Ends ending) = all-over (name == 0) ending
    all-stepped actor name Undecided = refl

    all-rested : (name : ℕ) (d : Does) → rested (with_all_in bytes state) name (all bytes d) ≡ next_with_all bytes (rested state name d)
    all-rested name (Did w a) = refl
    all-rested name (Makes w a) = all-goes (is_new state.world name) (record state { world = w })
    all-rested name Cannot = refl
    all-rested name (Ends ending) = all-over (name == 0) ending
    all-rested name Undecided = refl

    -- a step that is legal is decided
    decided : (actor name : ℕ) (d : Does) → is_legal (stepped state actor name d) ≡ true → is_undecided (comes_to d) ≡ true → ⊥
    decided actor name (Did w a) legal is = true≢false (sym is)
    decided actor name (Makes w a) legal is = true≢false (sym is)
    decided actor name Cannot legal is = true≢false (sym is)
    decided actor name (Ends ending) legal is = true≢false (sym is)
    decided actor name Undecided legal is = true≢false (sym legal)

    module _ (closed : state.world.ended ≡ true → bytes ≡ []) where
      all-step : (actor name : ℕ) (o : Option Start) → is_legal (step_of core limit state actor name o) ≡ true
          → step_of core limit (with_all_in bytes state) actor name o ≡ next_with_all bytes (step_of core limit state actor name o)
      all-step actor name None legal = refl
      all-step actor name (Some start) legal = by (asks_next core limit state start) legal
        where
          by : (asks : Asks) → is_legal (stepped state actor name (asks_for core state.world actor name asks)) ≡ true
              → stepped (with_all_in bytes state) actor name (asks_for core (with_all bytes state.world) actor name asks) ≡ next_with_all bytes (stepped state actor name (asks_for core state.world actor name asks))
          by (Asked ask) h =
              let d : Does = does core state.world actor ask name in
              let sure : awaits_input state.world ask.request ≡ true → ⊥ = λ waits. decided actor name d h (waits_is core ask.place name state.world actor ask.role ask.request ∙ waits) in
              ap (stepped (with_all_in bytes state) actor name) (all-does bytes core ask.place name state.world actor ask.role ask.request closed sure) ∙ all-stepped actor name d
          by OverTicks h = refl

      same-possible : (d : Does) → is_possible (comes_to (all bytes d)) ≡ is_possible (comes_to d)
      same-possible (Did w a) = refl
      same-possible (Makes w a) = refl
      same-possible Cannot = refl
      same-possible (Ends ending) = refl
      same-possible Undecided = refl

      waits-can : (actor : ℕ) (r : Request) → awaits_input state.world r ≡ true → can_do core (with_all bytes state.world) actor r ≡ can_do core state.world actor r
      waits-can actor (request.Read kind) is = refl
      waits-can actor r is = absurd (true≢false (sym is))

      pub same-blocked : (process : ℕ) (asks : Asks) → is_blocked core (with_all bytes state.world) process asks ≡ is_blocked core state.world process asks
      same-blocked process OverTicks = refl
      same-blocked process (Asked ask) = by (awaits_input state.world ask.request) refl
        where
          by : (b : Bool) → awaits_input state.world ask.request ≡ b → is_blocked core (with_all bytes state.world) process (Asked ask) ≡ is_blocked core state.world process (Asked ask)
          by true is =
              ap not
              (can_is core ask.place 0 (with_all bytes state.world) process ask.role ask.request ∙ waits-can process ask.request is ∙ sym (can_is core ask.place 0 state.world process ask.role ask.request))
          by false is =
              ap (λ d. not (is_possible (comes_to d))) (all-does bytes core ask.place 0 state.world process ask.role ask.request closed (λ e. true≢false (sym e ∙ is)))
              ∙ ap not (same-possible (does core state.world process ask 0))

      same-no_step : (starts : List Start)
          → list_all (λ start. is_blocked core (with_all bytes state.world) start.process (asks_next core limit state start)) starts
          ≡ list_all (λ start. is_blocked core state.world start.process (asks_next core limit state start)) starts
      same-no_step [] = refl
      same-no_step (start ∷ starts) =
          ap (λ b. b && list_all (λ s. is_blocked core (with_all bytes state.world) s.process (asks_next core limit state s)) starts) (same-blocked start.process (asks_next core limit state start))
          ∙ ap (λ b. is_blocked core state.world start.process (asks_next core limit state start) && b) (same-no_step starts)

      all-where-true : (b : Bool) (now now' : Next) → now' ≡ next_with_all bytes now → where_true b now' ≡ next_with_all bytes (where_true b now)
      all-where-true true now now' is = is
      all-where-true false now now' is = refl

      pub all-next : (item : Item) → is_legal (next core limit state item) ≡ true → next core limit (with_all_in bytes state) item ≡ next_with_all bytes (next core limit state item)
      all-next (Step actor name) legal = all-step actor name (started state.world actor) legal
      all-next (Quiesce name) legal =
          ap (λ b. where_true b (rested (with_all_in bytes state) name (quiesce core name (with_all bytes state.world)))) (same-no_step state.world.live)
          ∙ all-where-true (no_step core limit state) (rested state name (quiesce core name state.world)) (rested (with_all_in bytes state) name (quiesce core name (with_all bytes state.world)))
          (ap (rested (with_all_in bytes state) name) (all-quiesce bytes core first_line name state.world) ∙ all-rested name (quiesce core name state.world))
      all-next (Tick to) legal = all-goes (comes_after state.world.moment to && heeds_time core limit state) (record state { world = pass_to to state.world })

  -- ---- along events

  pub legal-after : (now : Next) (events : List Event) → is_legal (after core limit now events) ≡ true → is_legal now ≡ true
  legal-after (Goes s) events legal = refl
  legal-after (Over ending s) events legal = refl
  legal-after Illegal events legal = sym (ap is_legal (illegal-after core limit events)) ∙ legal

  -- after an end nothing comes
  pub over-last : (ending : End) (s : State) (events : List Event) → is_legal (after core limit (Over ending s) events) ≡ true → events ≡ []
  over-last ending s [] legal = refl
  over-last ending s (event ∷ events) legal = absurd (true≢false (sym legal ∙ ap is_legal (illegal-after core limit events)))

  legal-where : (b : Bool) (now : Next) → is_legal (where_true b now) ≡ true → b ≡ true
  legal-where true now legal = refl
  legal-where false now legal = absurd (true≢false (sym legal))

  -- no bytes come after the end of the input
  pub no-bytes : (items : List Item) (state : State) (events : List Event) → IsSound items state → state.world.ended ≡ true → is_legal (after core limit (Goes state) events) ≡ true → bytes_in events ≡ []
  no-bytes items state [] sound ended legal = refl
  no-bytes items state (Makes_item item ∷ events) sound ended legal =
      by (next core limit state item) refl legal (λ us s sound ended h. no-bytes us s events sound ended h)
    where
      by : (now : Next) → next core limit state item ≡ now → is_legal (after core limit now events) ≡ true
          → ((us : List Item) (s : State) → IsSound us s → s.world.ended ≡ true → is_legal (after core limit (Goes s) events) ≡ true → bytes_in events ≡ []) → bytes_in events ≡ []
      by (Goes s) is h more = more (items ++ item ∷ []) s (sound-next items state sound core limit item s is) (ended-next items state s item sound is ∙ ended) h
      by (Over ending s) is h more = ap bytes_in (over-last ending s events h)
      by Illegal is h more = absurd (true≢false (sym h ∙ ap is_legal (illegal-after core limit events)))
  no-bytes items state (Gives bytes ∷ events) sound ended legal =
      let now = where_true (not state.world.ended) (Goes (record state { world = with_input bytes state.world })) in
      absurd (true≢false (sym (legal-where (not state.world.ended) (Goes (record state { world = with_input bytes state.world })) (legal-after now events legal)) ∙ ap not ended))
  no-bytes items state (Closes ∷ events) sound ended legal =
      let now = where_true (not state.world.ended) (Goes (record state { world = without_more state.world })) in
      absurd (true≢false (sym (legal-where (not state.world.ended) (Goes (record state { world = without_more state.world })) (legal-after now events legal)) ∙ ap not ended))

  abbrev Same : List ℕ → State → List Event → Type 0
  Same more state events = run_from core limit (Goes (with_all_in (bytes_in events ++ more) state)) (items_in events) ≡ next_with_all more (after core limit (Goes state) events)

  pub pieces : (more : List ℕ) (items : List Item) (state : State) (events : List Event) → IsSound items state → is_legal (after core limit (Goes state) events) ≡ true
      → (state.world.ended ≡ true → bytes_in events ++ more ≡ []) → (closes events ≡ true → more ≡ []) → Same more state events
  pieces more items state [] sound legal closed last = refl
  pieces more items state (Makes_item item ∷ events) sound legal closed last =
      ap (λ now. run_from core limit now (items_in events)) (all-next (bytes_in events ++ more) state closed item (legal-after (next core limit state item) events legal))
      ∙ by (next core limit state item) refl legal (λ us s sound h closed'. pieces more us s events sound h closed' last)
    where
      by : (now : Next) → next core limit state item ≡ now → is_legal (after core limit now events) ≡ true
          → ((us : List Item) (s : State) → IsSound us s → is_legal (after core limit (Goes s) events) ≡ true → (s.world.ended ≡ true → bytes_in events ++ more ≡ []) → Same more s events)
          → run_from core limit (next_with_all (bytes_in events ++ more) now) (items_in events) ≡ next_with_all more (after core limit now events)
      by (Goes s) is h later =
          later (items ++ item ∷ []) s (sound-next items state sound core limit item s is) h (λ e. closed (sym (ended-next items state s item sound is) ∙ e))
      by (Over ending s) is h later =
          let none = over-last ending s events h in
          ap (λ es. run_from core limit (Over ending (with_all_in (bytes_in es ++ more) s)) (items_in es)) none ∙ sym (ap (λ es. next_with_all more (after core limit (Over ending s) es)) none)
      by Illegal is h later = absurd (true≢false (sym h ∙ ap is_legal (illegal-after core limit events)))
  pieces more items state (Gives bytes ∷ events) sound legal closed last =
      by state.world.ended refl legal (λ s sound h closed'. pieces more items s events sound h closed' last)
    where
      given : State
      given = record state { world = with_input bytes state.world }

      moved : with_all_in ((bytes ++ bytes_in events) ++ more) state ≡ with_all_in (bytes_in events ++ more) given
      moved =
          ap (λ bs. record state { world = record state.world { rest = bs; ended = true } })
          (ap (λ bs. state.world.rest ++ bs) (append_assoc bytes (bytes_in events) more) ∙ sym (append_assoc state.world.rest bytes (bytes_in events ++ more)))

      by : (b : Bool) → state.world.ended ≡ b → is_legal (after core limit (where_true (not b) (Goes given)) events) ≡ true
          → ((s : State) → IsSound items s → is_legal (after core limit (Goes s) events) ≡ true → (s.world.ended ≡ true → bytes_in events ++ more ≡ []) → Same more s events)
          → run_from core limit (Goes (with_all_in ((bytes ++ bytes_in events) ++ more) state)) (items_in events) ≡ next_with_all more (after core limit (where_true (not b) (Goes given)) events)
      by false is h later =
          ap (λ s. run_from core limit (Goes s) (items_in events)) moved
          ∙ later given (sound-input items state sound (state.world.rest ++ bytes) state.world.ended) h (λ e. absurd (true≢false (sym e ∙ is)))
      by true is h later = absurd (true≢false (sym h ∙ ap is_legal (illegal-after core limit events)))
  pieces more items state (Closes ∷ events) sound legal closed last =
      by state.world.ended refl legal (λ s sound h closed'. pieces more items s events sound h closed' (λ e. last refl))
    where
      shut : State
      shut = record state { world = without_more state.world }

      by : (b : Bool) → state.world.ended ≡ b → is_legal (after core limit (where_true (not b) (Goes shut)) events) ≡ true
          → ((s : State) → IsSound items s → is_legal (after core limit (Goes s) events) ≡ true → (s.world.ended ≡ true → bytes_in events ++ more ≡ []) → Same more s events)
          → run_from core limit (Goes (with_all_in (bytes_in events ++ more) state)) (items_in events) ≡ next_with_all more (after core limit (where_true (not b) (Goes shut)) events)
      by false is h later =
          let sound' : IsSound items shut = sound-input items state sound state.world.rest true in
          later shut sound' h (λ e. ap (λ bs. bs ++ more) (no-bytes items shut events sound' refl h) ∙ last refl)
      by true is h later = absurd (true≢false (sym h ∙ ap is_legal (illegal-after core limit events)))

pub items_give_the_run : ItemsGiveTheRun
items_give_the_run core limit events more legal last = pieces core limit more [] first events sound-first legal (λ e. absurd (true≢false (sym e))) last
