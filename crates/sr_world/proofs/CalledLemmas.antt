-- Who gets a reply has made the call.
use Rattle.std.proofs.Common.{◌≡◌, ℕ, ◌<◌, ◌≤◌, ◌==◌, ◌&&◌, ◌||◌, not, Bool, true, false, List, [], ◌∷◌, ◌++◌, Option, None, Some, refl, ap, sym, ◌∙◌, subst, arith, eq-eqb, eqb-true, true≢false, append_assoc}
use Rattle.std.specs.Prelude.{count_by, remove, slice_get}
use Rattle.sr_ask.specs.declared.ask.Asks.{Asks}
use Rattle.sr_ask.specs.declared.ask.Asks.TheVariants.{Asked, OverTicks}
use Rattle.sr_ask.specs.declared.item.Item.TheVariants.{Step, Quiesce, Tick}
use Rattle.sr_ask.specs.declared.request.Request.{Request}
use Rattle.sr_ask.specs.declared.request.Request.TheVariants as request
use Rattle.sr_ask.specs.declared.start.Start.{Start}
use Rattle.sr_calls.specs.Calls.{items_of}
use Rattle.sr_core.specs.declared.component.Core.{Core}
use Rattle.sr_queue.specs.declared.pending.Pending.{Pending}
use Rattle.sr_world.specs.Answering.{duty_held}
use Rattle.sr_world.specs.Callers.{duty_by, makes_duty}
use Rattle.sr_world.specs.Does.{Does, Did, Makes, Cannot, Ends, Undecided}
use Rattle.sr_world.specs.Laws.{MakesCall, RepliesGoToCallers}
use Rattle.sr_world.specs.Runs.{Event, Makes_item, Gives, Closes, Next, Goes, Over, Illegal, State, after, after_event, asks_for, asks_next, first, is_new, led, step_of, stepped, with_answer, with_input, without_more}
use Rattle.sr_world.specs.Sound.{is_call, times_used}
use Rattle.sr_world.specs.Spots.{Calls, Waiting, RepliedTo, TakenBy, DutyOf, astray, is_astray, is_took, stands, tests_of}
use Rattle.sr_world.specs.Worlds.{World, started}
use Rattle.sr_world.proofs.CountLemmas.{count-remove}
use Rattle.sr_world.proofs.KeepLemmas.{Keeps, is-known, none-marked, quiet-kept}
use Rattle.sr_world.proofs.LawProofs.{took-known, waits-known}
use Rattle.sr_world.proofs.MoveLemmas.{released-hand}
use Rattle.sr_world.proofs.RunLemmas.{both-true, either-true, goes-where, illegal-after, is_asking, is_call_in, kept-of, led-more, left-next, makes_own_duty, more-kept, other-true, over-after, sound-first}
use Rattle.sr_world.proofs.StandLemmas.{drop_pending-takes}

module _ (core : Core) (limit : ℕ) where
  -- ---- the calls of a run

  abbrev called_at : State → Event → Calls
  called_at state (Makes_item item) process id = is_call_in core limit state item process id
  called_at state (Gives bytes) process id = false
  called_at state Closes process id = false

  abbrev called_in : Next → List Event → Calls
  called_in now [] process id = false
  called_in (Goes state) (event ∷ events) process id = called_at state event process id || called_in (after_event core limit state event) events process id
  called_in (Over ending state) (event ∷ events) process id = false
  called_in Illegal (event ∷ events) process id = false

  regroup : (a b c : Bool) → ((a || b) || c) ≡ true → (a || (b || c)) ≡ true
  regroup true b c is = refl
  regroup false b c is = is

  abbrev with_more : Calls → Calls → Calls
  with_more calls more process id = calls process id || more process id

  -- what an event leaves
  kept-event : (calls : Calls) (state later : State) (event : Event) → Keeps calls state → after_event core limit state event ≡ Goes later → Keeps (with_more calls (called_at state event)) later
  kept-event calls state later event k is = by event is (more-kept calls (with_more calls (called_at state event)) (λ c i h. either-true (calls c i) (called_at state event c i) h) state k)
    where
      input : (now : Calls) (rest : List ℕ) (ended : Bool) → Keeps now state → Keeps now (record state { world = record state.world { rest = rest; ended = ended } })
      input now rest ended k = quiet-kept now state.given state.world state.world.variables rest state.world.output ended state.world.fixed state.world.moment k

      by : (e : Event) → after_event core limit state e ≡ Goes later → Keeps (with_more calls (called_at state e)) state → Keeps (with_more calls (called_at state e)) later
      by (Makes_item item) is k =
          (left-next (with_more calls (called_at state (Makes_item item))) state k core limit item later
          (λ c i h. other-true (calls c i) (is_call_in core limit state item c i) h) is).kept
      by (Gives bytes) is k =
          let parts = goes-where (not state.world.ended) (Goes (record state { world = with_input bytes state.world })) later is in
          let same : record state { world = with_input bytes state.world } ≡ later = cc in
          subst (Keeps (with_more calls (called_at state (Gives bytes)))) same (input (with_more calls (called_at state (Gives bytes))) (state.world.rest ++ bytes) state.world.ended k)
      by Closes is k =
          let parts = goes-where (not state.world.ended) (Goes (record state { world = without_more state.world })) later is in
          let same : record state { world = without_more state.world } ≡ later = cc in
          subst (Keeps (with_more calls (called_at state Closes))) same (input (with_more calls (called_at state Closes)) state.world.rest true k)

  kept-after : (calls : Calls) (state later : State) (events : List Event) → Keeps calls state → after core limit (Goes state) events ≡ Goes later → Keeps (with_more calls (called_in (Goes state) events)) later
  kept-after calls state later [] k is =
      let same : state ≡ later = cc in
      subst (Keeps (with_more calls (called_in (Goes state) []))) same (more-kept calls (with_more calls (called_in (Goes state) [])) (λ c i h. either-true (calls c i) false h) state k)
  kept-after calls state later (event ∷ events) k is =
      by (after_event core limit state event) refl is (λ now s k' h. kept-after now s later events k' h)
    where
      by : (n : Next) → after_event core limit state event ≡ n → after core limit n events ≡ Goes later
          → ((now : Calls) (s : State) → Keeps now s → after core limit (Goes s) events ≡ Goes later → Keeps (with_more now (called_in (Goes s) events)) later)
          → Keeps (with_more calls (called_in (Goes state) (event ∷ events))) later
      by Illegal is' h more = let stuck = illegal-after core limit events in absurd (cc)
      by (Over ending s) is' h more = absurd (over-after core limit ending s later events h)
      by (Goes s) is' h more =
          let now : Calls = with_more calls (called_at state event) in
          more-kept (with_more now (called_in (Goes s) events)) (with_more calls (called_in (Goes state) (event ∷ events)))
          (λ c i is''. ap (λ n. calls c i || (called_at state event c i || called_in n events c i)) is' ∙ regroup (calls c i) (called_at state event c i) (called_in (Goes s) events c i) is'')
          later (more now s (kept-event calls state s event k is') h)

  -- ---- the call of a number

  own-duty : (world : World) (process id : ℕ) (r : Request) → makes_duty r ≡ true → duty_by world process id r ≡ record { back = process; back_id = id }
  own-duty world process id (request.Declare block var shape) is = absurd (true≢false (sym is))
  own-duty world process id (request.Load block var path) is = absurd (true≢false (sym is))
  own-duty world process id (request.Store block var path value) is = absurd (true≢false (sym is))
  own-duty world process id (request.Invoke target args true) is = refl
  own-duty world process id (request.Invoke target args false) is = absurd (true≢false (sym is))
  own-duty world process id (request.Select site env) is = absurd (true≢false (sym is))
  own-duty world process id (request.Take ids) is = absurd (true≢false (sym is))
  own-duty world process id (request.Reply held back results) is = absurd (true≢false (sym is))
  own-duty world process id (request.Forward held back target args) is = absurd (true≢false (sym is))
  own-duty world process id (request.Count op) is = absurd (true≢false (sym is))
  own-duty world process id (request.Write bytes) is = absurd (true≢false (sym is))
  own-duty world process id (request.Read kind) is = absurd (true≢false (sym is))
  own-duty world process id (request.EnsureGlobal global vm) is = absurd (true≢false (sym is))
  own-duty world process id (request.Create resource args vm) is = refl
  own-duty world process id request.MakeVm is = absurd (true≢false (sym is))
  own-duty world process id (request.Destroy target) is = refl
  own-duty world process id (request.Finish answered back results) is = absurd (true≢false (sym is))
  own-duty world process id (request.Stop status) is = absurd (true≢false (sym is))
  own-duty world process id (request.Fail fault) is = absurd (true≢false (sym is))
  own-duty world process id request.Age is = absurd (true≢false (sym is))
  own-duty world process id (request.Wake until) is = absurd (true≢false (sym is))

  module _ (process id : ℕ) (some : (id == 0) ≡ false) where
    -- only what makes something has a number
    made-new : (state later : State) (d : Does) → stepped state process id d ≡ Goes later → is_new state.world id ≡ true
    made-new state later (Did w a) is = absurd (true≢false (sym (goes-where (id == 0) (Goes (record { world = w; given = with_answer process a state.given })) later is).0 ∙ some))
    made-new state later (Makes w a) is = (goes-where (is_new state.world id) (Goes (record { world = w; given = with_answer process a state.given })) later is).0
    made-new state later Cannot is = absurd (cc)
    made-new state later (Ends ending) is = let parts = goes-where (id == 0) (Over ending state) later is in absurd (cc)
    made-new state later Undecided is = absurd (cc)

    module _ (earlier : List Event) (state : State) (leads : led core limit earlier ≡ Goes state) (later : State) (events : List Event) where
      made-here : is_asking core limit state (started state.world process) ≡ true → step_of core limit state process id (started state.world process) ≡ Goes later
          → MakesCall core limit (earlier ++ Makes_item (Step process id) ∷ events) process id
      made-here asking is = by (started state.world process) refl asking is
        where
          asked : (start : Start) → started state.world process ≡ Some start → (asks : Asks) → asks_next core limit state start ≡ asks → is_asking core limit state (Some start) ≡ true
              → stepped state process id (asks_for core state.world process id asks) ≡ Goes later → MakesCall core limit (earlier ++ Makes_item (Step process id) ∷ events) process id
          asked start found OverTicks at asking is = absurd (cc)
          asked start found (Asked ask) at asking is =
              let makes : makes_duty ask.request ≡ true = sym (ap makes_own_duty at) ∙ asking in
              record {
                earlier = earlier;
                later = events;
                splits = refl;
                before = state;
                leads = leads;
                start = start;
                lives = found;
                ask = ask;
                asks = at;
                calls = makes;
                duty = own-duty state.world process id ask.request makes;
                unused = made-new state later _ is;
              }

          by : (o : Option Start) → started state.world process ≡ o → is_asking core limit state o ≡ true → step_of core limit state process id o ≡ Goes later
              → MakesCall core limit (earlier ++ Makes_item (Step process id) ∷ events) process id
          by None found asking is = absurd (true≢false (sym asking))
          by (Some start) found asking is = asked start found (asks_next core limit state start) refl asking is

    made-at : (earlier : List Event) (state later : State) (event : Event) (events : List Event) → led core limit earlier ≡ Goes state → called_at state event process id ≡ true
        → after_event core limit state event ≡ Goes later → MakesCall core limit (earlier ++ event ∷ events) process id
    made-at earlier state later (Gives bytes) events leads called is = absurd (true≢false (sym called))
    made-at earlier state later Closes events leads called is = absurd (true≢false (sym called))
    made-at earlier state later (Makes_item (Quiesce name)) events leads called is = absurd (true≢false (sym called))
    made-at earlier state later (Makes_item (Tick to)) events leads called is = absurd (true≢false (sym called))
    made-at earlier state later (Makes_item (Step a n)) events leads called is =
        let parts = both-true ((a == process) && (n == id)) (is_asking core limit state (started state.world a)) called in
        let same = both-true (a == process) (n == id) parts.0 in
        let At : ℕ → ℕ → Type 0 = λ a n. is_asking core limit state (started state.world a) ≡ true → step_of core limit state a n (started state.world a) ≡ Goes later
        → MakesCall core limit (earlier ++ Makes_item (Step a n) ∷ events) process id in
        subst (λ a. At a n) (sym (eqb-true a process same.0)) (subst (λ n. At process n) (sym (eqb-true n id same.1)) (made-here earlier state leads later events)) parts.1 is

    made-by : (earlier : List Event) (state later : State) (events : List Event) → led core limit earlier ≡ Goes state → after core limit (Goes state) events ≡ Goes later
        → called_in (Goes state) events process id ≡ true → MakesCall core limit (earlier ++ events) process id
    made-by earlier state later [] leads is called = absurd (true≢false (sym called))
    made-by earlier state later (event ∷ events) leads is called =
        by (after_event core limit state event) refl is called (λ earlier' s leads' is' called'. made-by earlier' s later events leads' is' called')
      where
        by : (n : Next) → after_event core limit state event ≡ n → after core limit n events ≡ Goes later → (called_at state event process id || called_in n events process id) ≡ true
            → ((earlier' : List Event) (s : State) → led core limit earlier' ≡ Goes s → after core limit (Goes s) events ≡ Goes later → called_in (Goes s) events process id ≡ true
            → MakesCall core limit (earlier' ++ events) process id) → MakesCall core limit (earlier ++ event ∷ events) process id
        by Illegal at is called more = let stuck = illegal-after core limit events in absurd (cc)
        by (Over ending s) at is called more = absurd (over-after core limit ending s later events is)
        by (Goes s) at is called more = here (called_at state event process id) refl called
          where
            here : (b : Bool) → called_at state event process id ≡ b → (b || called_in (Goes s) events process id) ≡ true → MakesCall core limit (earlier ++ event ∷ events) process id
            here true now called = made-at earlier state s event events leads now at
            here false now called =
                subst (λ all. MakesCall core limit all process id) (append_assoc earlier (event ∷ []) events)
                (more (earlier ++ event ∷ []) s (led-more core limit earlier state s event leads at) is called)

  -- ---- the states of a run

  module _ (events : List Event) (state : State) (leads : led core limit events ≡ Goes state) where
    abbrev calls : Calls
    calls = called_in (Goes first) events

    kept : Keeps calls state
    kept = kept-after (is_call []) first state events (kept-of [] first sound-first) leads

    -- a number that was given out isn't 0
    some-number : (id : ℕ) → 1 ≤ times_used state.world id → (id == 0) ≡ false
    some-number id used = by (id == 0) refl
      where
        by : (b : Bool) → (id == 0) ≡ b → b ≡ false
        by false is = refl
        by true is = let none = ap (times_used state.world) (eqb-true id 0 is) in absurd (omega (arith, used, none, kept.numbers.zero_never))

    made : (process id : ℕ) → 1 ≤ times_used state.world id → calls process id ≡ true → MakesCall core limit events process id
    made process id used called = made-by process id (some-number id used) [] first state events refl leads called

    pub taken-made : (process id : ℕ) → 0 < count_by (is_took id) (state.given process) → MakesCall core limit events process id
    taken-made process id taken =
        made process id (omega (arith, taken, kept.duties.numbers (DutyOf id) (TakenBy process)))
        (took-known calls process id (state.given process) (kept.duties.callers (TakenBy process)) taken)

    pub waits-made : (process id : ℕ) → 0 < count_by (λ r. r.id == id) (items_of state.world.replies process) → MakesCall core limit events process id
    waits-made process id waits =
        made process id (omega (arith, waits, kept.duties.numbers (DutyOf id) (RepliedTo process)))
        (waits-known calls process id (items_of state.world.replies process) (kept.duties.callers (RepliedTo process)) waits)

    pub held-made : (process number : ℕ) → ((duty_held state.world process number).back == 0) ≡ false
        → MakesCall core limit events (duty_held state.world process number).back (duty_held state.world process number).back_id
    held-made process number some =
        let hand = released-hand calls state.given state.world process number kept in
        made (duty_held state.world process number).back (duty_held state.world process number).back_id (hand.used some) (hand.known some)

    pub waiting-made : (place : ℕ) (p : Pending) → slice_get state.world.pending place ≡ Some p → (p.back == 0) ≡ false → MakesCall core limit events p.back p.back_id
    waiting-made place p found some =
        let marked : (not (p.back == 0) && (p.back_id == p.back_id)) ≡ true = ap (λ b. not b && (p.back_id == p.back_id)) some ∙ eq-eqb p.back_id p.back_id refl in
        let less = drop_pending-takes state.given place p state.world found (tests_of (DutyOf p.back_id)) marked in
        made p.back p.back_id (omega (arith, less, kept.duties.numbers (DutyOf p.back_id) Waiting))
        (is-known calls p.back p.back_id
        (none-marked (count_by (astray calls).pending (remove state.world.pending place)) (stands (astray calls) state Waiting) (is_astray calls p.back p.back_id)
        (count-remove (astray calls).pending state.world.pending place p found) (kept.duties.callers Waiting)) some)

pub replies_go_to_callers : RepliesGoToCallers
replies_go_to_callers = record {
  taken = λ core limit events state process id leads taken. taken-made core limit events state leads process id taken;
  replied = λ core limit events state process id leads waits. waits-made core limit events state leads process id waits;
  held = λ core limit events state process number leads some. held-made core limit events state leads process number some;
  waiting = λ core limit events state place p leads found some. waiting-made core limit events state leads place p found some;
}
