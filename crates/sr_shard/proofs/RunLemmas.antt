-- A list of entries that replays is a run.
use Rattle.std.proofs.Common.{◌≡◌, ◌≢◌, ◌⊎◌, inl, inr, ℕ, ◌==◌, ◌&&◌, ◌||◌, Bool, true, false, not, List, [], ◌∷◌, ◌++◌, map, Option, None, Some, refl, ap, sym, ◌∙◌, subst, cond, eqb-true, true≢false}
use Rattle.std.proofs.lemmas.Bool.{eq-eqb, ne_eqb}
use Rattle.std.proofs.lemmas.List.Folds.{list_any-append}
use Rattle.std.specs.List.{list_all, list_any}
use Rattle.std.specs.Prelude.{filter, find, is_some}
use Rattle.sr_ask.specs.declared.ask.Asks.TheVariants.{Asked}
use Rattle.sr_ask.specs.declared.ask.Role.TheVariants.{Proc as proc_role}
use Rattle.sr_ask.specs.declared.entry.Entry.{Entry}
use Rattle.sr_ask.specs.declared.item.Item.{Item}
use Rattle.sr_ask.specs.declared.request.Request.{Request}
use Rattle.sr_ask.specs.declared.request.Request.TheVariants as request
use Rattle.sr_ask.specs.declared.start.Start.{Start}
use Rattle.sr_core.specs.declared.component.Core.{Core}
use Rattle.sr_instances.specs.Instances.{Placed}
use Rattle.sr_meaning.specs.Processes.{ask}
use Rattle.sr_orders.proofs.ListLemmas.{AllAfter, Sorted, sorted_of}
use Rattle.sr_orders.proofs.OrderLemmas as order
use Rattle.sr_processes.specs.Living.{is_process}
use Rattle.sr_touch.specs.Touched.{is_wide}
use Rattle.sr_value.specs.declared.value.Value.{Value}
use Rattle.sr_world.specs.Making.{start_in}
use Rattle.sr_world.specs.Runs.{Goes, IsValid, Makes_item, State, asks_next, is_new, is_used, next, run_from, with_answer}
use Rattle.sr_world.specs.Updates.{add_reply, use_name}
use Rattle.sr_world.specs.Worlds.{World, is_live, started}
use Rattle.sr_world.specs.declared.duty.Duty.{Duty}
use Rattle.sr_world.proofs.RunLemmas.{led-more}
use Rattle.sr_shard.specs.Acts.{Act, Answers, Begins, Comes, Counts, Declares, Finds, Fits, Frees, Goes as GoesAway, HasCome, Holds, Lives, Never, Owes, Passes, RunsIn, Sees, Serves, Stores, Takes, apply, part}
use Rattle.sr_shard.specs.Entries.{acts_of, me_in}
use Rattle.sr_shard.specs.Items.{is_numbered, with_number}
use Rattle.sr_shard.specs.Laws.{ReplaysIn, world_after}
use Rattle.sr_shard.specs.Masks.{mask}
use Rattle.sr_shard.specs.Runs.{AsksInTurn, BeginsIt, EntriesAreARun, IsBegun, IsStarted, acts_in, given_after, is_by, item_of, numbers_after, state_after}
use Rattle.sr_shard.proofs.ItemLemmas.{acts_leave_numbers, entries_are_items}
use Rattle.sr_shard.proofs.ListLemmas.{and_parts, same_number}
use Rattle.sr_shard.proofs.LocalLemmas.{acts_are_local}

-- ---- acts one after another

replay_append : (core : Core) (class : ℕ → ℕ) (acts more : List Act) (w : World) → ReplaysIn core class (acts ++ more) w
    → ReplaysIn core class acts w × ReplaysIn core class more (world_after core class acts w)
replay_append core class [] more w h = (tt, h)
replay_append core class (act ∷ acts) more w h = let rest = replay_append core class acts more (apply core act w) h.1 in ((h.0, rest.0), rest.1)

after_append : (core : Core) (class : ℕ → ℕ) (acts more : List Act) (w : World) → world_after core class (acts ++ more) w ≡ world_after core class more (world_after core class acts w)
after_append core class [] more w = refl
after_append core class (act ∷ acts) more w = after_append core class acts more (apply core act w)

-- ---- what acts leave alone

answered_places : (duty : Duty) (results : Option (List Value)) (w : World) (b : Bool) → (cond b (add_reply duty.back (record { id = duty.back_id; results = results }) w) w).places ≡ w.places
answered_places duty results w true = refl
answered_places duty results w false = refl

same_places : (core : Core) (act : Act) (w : World) → (apply core act w).places ≡ w.places
same_places core (Answers duty results) w = answered_places duty results w (is_live w duty.back)
same_places core (Lives process) w = refl
same_places core (RunsIn process instance) w = refl
same_places core (Finds process instance) w = refl
same_places core (HasCome process until) w = refl
same_places core (Declares block var shape) w = refl
same_places core (Sees block var path value) w = refl
same_places core (Stores block var path value) w = refl
same_places core (Counts owner op count) w = refl
same_places core (Comes pending) w = refl
same_places core (Holds process held) w = refl
same_places core (Owes process id duty) w = refl
same_places core (Frees process id) w = refl
same_places core (Takes process ids reply) w = refl
same_places core (Begins process instance proc args back) w = refl
same_places core (GoesAway process) w = refl
same_places core (Serves me site env seen invocation arm) w = refl
same_places core (Passes me site env seen op) w = refl
same_places core (Never process) w = refl

answered_used : (duty : Duty) (results : Option (List Value)) (w : World) (b : Bool) → (cond b (add_reply duty.back (record { id = duty.back_id; results = results }) w) w).used ≡ w.used
answered_used duty results w true = refl
answered_used duty results w false = refl

same_used : (core : Core) (act : Act) (w : World) → (apply core act w).used ≡ w.used
same_used core (Answers duty results) w = answered_used duty results w (is_live w duty.back)
same_used core (Lives process) w = refl
same_used core (RunsIn process instance) w = refl
same_used core (Finds process instance) w = refl
same_used core (HasCome process until) w = refl
same_used core (Declares block var shape) w = refl
same_used core (Sees block var path value) w = refl
same_used core (Stores block var path value) w = refl
same_used core (Counts owner op count) w = refl
same_used core (Comes pending) w = refl
same_used core (Holds process held) w = refl
same_used core (Owes process id duty) w = refl
same_used core (Frees process id) w = refl
same_used core (Takes process ids reply) w = refl
same_used core (Begins process instance proc args back) w = refl
same_used core (GoesAway process) w = refl
same_used core (Serves me site env seen invocation arm) w = refl
same_used core (Passes me site env seen op) w = refl
same_used core (Never process) w = refl

used_after : (core : Core) (class : ℕ → ℕ) (acts : List Act) (w : World) → (world_after core class acts w).used ≡ w.used
used_after core class [] w = refl
used_after core class (act ∷ acts) w = used_after core class acts (apply core act w) ∙ same_used core act w

places_after : (core : Core) (class : ℕ → ℕ) (acts : List Act) (w : World) → (world_after core class acts w).places ≡ w.places
places_after core class [] w = refl
places_after core class (act ∷ acts) w = places_after core class acts (apply core act w) ∙ same_places core act w

-- ---- who lives

start_there : (core : Core) (v w : World) (process instance proc : ℕ) (args : List Value) (back : ℕ) → v.places ≡ w.places
    → start_in core v process instance proc_role proc args back ≡ start_in core w process instance proc_role proc args back
start_there core v w process instance proc args back same = ap (λ (places : Placed). start_in core (record w { places = places }) process instance proc_role proc args back) same

begins_there : (core : Core) (v w : World) (process : ℕ) (start : Start) (act : Act) → v.places ≡ w.places → BeginsIt core v process start act → BeginsIt core w process start act
begins_there core v w process start (Begins new instance proc args back) same h = (h.0, h.1 ∙ start_there core v w new instance proc args back same)
begins_there core v w process start (Answers duty results) same h = absurd h
begins_there core v w process start (Lives p) same h = absurd h
begins_there core v w process start (RunsIn p instance) same h = absurd h
begins_there core v w process start (Finds p instance) same h = absurd h
begins_there core v w process start (HasCome p until) same h = absurd h
begins_there core v w process start (Declares block var shape) same h = absurd h
begins_there core v w process start (Sees block var path value) same h = absurd h
begins_there core v w process start (Stores block var path value) same h = absurd h
begins_there core v w process start (Counts owner op count) same h = absurd h
begins_there core v w process start (Comes pending) same h = absurd h
begins_there core v w process start (Holds p held) same h = absurd h
begins_there core v w process start (Owes p id duty) same h = absurd h
begins_there core v w process start (Frees p id) same h = absurd h
begins_there core v w process start (Takes p ids reply) same h = absurd h
begins_there core v w process start (GoesAway p) same h = absurd h
begins_there core v w process start (Serves me site env seen invocation arm) same h = absurd h
begins_there core v w process start (Passes me site env seen op) same h = absurd h
begins_there core v w process start (Never p) same h = absurd h

begun_there : (core : Core) (v w : World) (process : ℕ) (start : Start) (acts : List Act) → v.places ≡ w.places → IsBegun core v process start acts → IsBegun core w process start acts
begun_there core v w process start [] same h = h
begun_there core v w process start (act ∷ acts) same (inl h) = inl (begins_there core v w process start act same h)
begun_there core v w process start (act ∷ acts) same (inr h) = inr (begun_there core v w process start acts same h)

begun_front : (core : Core) (w : World) (process : ℕ) (start : Start) (acts more : List Act) → IsBegun core w process start acts → IsBegun core w process start (acts ++ more)
begun_front core w process start [] more h = absurd h
begun_front core w process start (act ∷ acts) more (inl h) = inl h
begun_front core w process start (act ∷ acts) more (inr h) = inr (begun_front core w process start acts more h)

begun_later : (core : Core) (w : World) (process : ℕ) (start : Start) (acts more : List Act) → IsBegun core w process start more → IsBegun core w process start (acts ++ more)
begun_later core w process start [] more h = h
begun_later core w process start (act ∷ acts) more h = inr (begun_later core w process start acts more h)

-- who lives after others have ended lived before
left_over : (process ended : ℕ) (starts : List Start) (start : Start) → find (is_process process) (filter (λ s. not (is_process ended s)) starts) ≡ Some start → find (is_process process) starts ≡ Some start
left_over process ended [] start h = h
left_over process ended (first ∷ starts) start h = by (is_process ended first) refl (is_process process first) refl h (left_over process ended starts start)
  where
    gone : (b c : Bool) → is_process ended first ≡ true → is_process process first ≡ true → find (is_process process) (filter (λ s. not (is_process ended s)) starts) ≡ Some start → ⊥
    gone b c ends is h = none starts (eqb-true process first.process is ∙ sym (eqb-true ended first.process ends)) h
      where
        none : (rest : List Start) → process ≡ ended → find (is_process process) (filter (λ s. not (is_process ended s)) rest) ≡ Some start → ⊥
        none [] same k = cc k
        none (s ∷ rest) same k = one (is_process ended s) refl k (none rest same)
          where
            one : (d : Bool) → is_process ended s ≡ d → find (is_process process) (cond (not d) (s ∷ filter (λ t. not (is_process ended t)) rest) (filter (λ t. not (is_process ended t)) rest)) ≡ Some start
                → (find (is_process process) (filter (λ t. not (is_process ended t)) rest) ≡ Some start → ⊥) → ⊥
            one true at k more = more k
            one false at k more =
                more (sym (ap (λ e. cond e (Some s) (find (is_process process) (filter (λ t. not (is_process ended t)) rest))) (ap (λ n. n == s.process) same ∙ at)) ∙ k)

    by : (b : Bool) → is_process ended first ≡ b → (c : Bool) → is_process process first ≡ c
        → find (is_process process) (cond (not b) (first ∷ filter (λ s. not (is_process ended s)) starts) (filter (λ s. not (is_process ended s)) starts)) ≡ Some start
        → (find (is_process process) (filter (λ s. not (is_process ended s)) starts) ≡ Some start → find (is_process process) starts ≡ Some start)
        → find (is_process process) (first ∷ starts) ≡ Some start
    by true ends true is h more = absurd (gone true true ends is h)
    by true ends false is h more = ap (λ c. cond c (Some first) (find (is_process process) starts)) is ∙ more h
    by false ends true is h more =
        ap (λ c. cond c (Some first) (find (is_process process) starts)) is
        ∙ sym (ap (λ c. cond c (Some first) (find (is_process process) (filter (λ s. not (is_process ended s)) starts))) is) ∙ h
    by false ends false is h more =
        ap (λ c. cond c (Some first) (find (is_process process) starts)) is
        ∙ more (sym (ap (λ c. cond c (Some first) (find (is_process process) (filter (λ s. not (is_process ended s)) starts))) is) ∙ h)

one_more : (process : ℕ) (starts : List Start) (new start : Start) → find (is_process process) (starts ++ new ∷ []) ≡ Some start
    → (find (is_process process) starts ≡ Some start) ⊎ ((new.process ≡ process) × (start ≡ new))
one_more process [] new start h = by (is_process process new) refl h
  where
    by : (b : Bool) → is_process process new ≡ b → cond b (Some new) None ≡ Some start → (None ≡ Some start) ⊎ ((new.process ≡ process) × (start ≡ new))
    by true is h = inr (sym (eqb-true process new.process is), cc h)
    by false is h = absurd (cc h)
one_more process (first ∷ starts) new start h = by (is_process process first) h (one_more process starts new start)
  where
    by : (b : Bool) → cond b (Some first) (find (is_process process) (starts ++ new ∷ [])) ≡ Some start
        → (find (is_process process) (starts ++ new ∷ []) ≡ Some start → (find (is_process process) starts ≡ Some start) ⊎ ((new.process ≡ process) × (start ≡ new)))
        → (cond b (Some first) (find (is_process process) starts) ≡ Some start) ⊎ ((new.process ≡ process) × (start ≡ new))
    by true h more = inl h
    by false h more = more h

answered_live : (duty : Duty) (results : Option (List Value)) (w : World) (b : Bool) → (cond b (add_reply duty.back (record { id = duty.back_id; results = results }) w) w).live ≡ w.live
answered_live duty results w true = refl
answered_live duty results w false = refl

lived : (core : Core) (act : Act) (w : World) (process : ℕ) (start : Start) → started (apply core act w) process ≡ Some start → (started w process ≡ Some start) ⊎ BeginsIt core w process start act
lived core (Begins new instance proc args back) w process start h = one_more process w.live (start_in core w new instance proc_role proc args back) start h
lived core (GoesAway ended) w process start h = inl (left_over process ended w.live start h)
lived core (Answers duty results) w process start h = inl (sym (ap (find (is_process process)) (answered_live duty results w (is_live w duty.back))) ∙ h)
lived core (Lives p) w process start h = inl h
lived core (RunsIn p instance) w process start h = inl h
lived core (Finds p instance) w process start h = inl h
lived core (HasCome p until) w process start h = inl h
lived core (Declares block var shape) w process start h = inl h
lived core (Sees block var path value) w process start h = inl h
lived core (Stores block var path value) w process start h = inl h
lived core (Counts owner op count) w process start h = inl h
lived core (Comes pending) w process start h = inl h
lived core (Holds p held) w process start h = inl h
lived core (Owes p id duty) w process start h = inl h
lived core (Frees p id) w process start h = inl h
lived core (Takes p ids reply) w process start h = inl h
lived core (Serves me site env seen invocation arm) w process start h = inl h
lived core (Passes me site env seen op) w process start h = inl h
lived core (Never p) w process start h = inl h

-- who lives after acts lived before, or began
lived_after : (core : Core) (class : ℕ → ℕ) (acts : List Act) (w : World) (process : ℕ) (start : Start) → started (world_after core class acts w) process ≡ Some start
    → (started w process ≡ Some start) ⊎ IsBegun core w process start acts
lived_after core class [] w process start h = inl h
lived_after core class (act ∷ acts) w process start h = by (lived_after core class acts (apply core act w) process start h)
  where
    first : (started w process ≡ Some start) ⊎ BeginsIt core w process start act → (started w process ≡ Some start) ⊎ IsBegun core w process start (act ∷ acts)
    first (inl h) = inl h
    first (inr h) = inr (inl h)

    by : (started (apply core act w) process ≡ Some start) ⊎ IsBegun core (apply core act w) process start acts → (started w process ≡ Some start) ⊎ IsBegun core w process start (act ∷ acts)
    by (inl h) = first (lived core act w process start h)
    by (inr h) = inr (inr (begun_there core (apply core act w) w process start acts (same_places core act w) h))

found_it : (process : ℕ) (starts : List Start) (start : Start) → find (is_process process) starts ≡ Some start → start.process ≡ process
found_it process [] start h = absurd (cc h)
found_it process (first ∷ starts) start h = by (is_process process first) refl h (found_it process starts start)
  where
    by : (b : Bool) → is_process process first ≡ b → cond b (Some first) (find (is_process process) starts) ≡ Some start → (find (is_process process) starts ≡ Some start → start.process ≡ process)
        → start.process ≡ process
    by true is h more = let same : first ≡ start = cc h in ap (λ (s : Start). s.process) (sym same) ∙ sym (eqb-true process first.process is)
    by false is h more = more h

-- ---- numbers

numbered_there : (v w : World) (asked : Request) (name : ℕ) → v.used ≡ w.used → is_numbered v asked name ≡ true → is_numbered w asked name ≡ true
numbered_there v w (request.Invoke target args wants) name same h = sym (ap (λ (used : List ℕ). not (name == 0) && not (list_any (λ u. u == name) used)) same) ∙ h
numbered_there v w (request.Forward held back target args) name same h = sym (ap (λ (used : List ℕ). not (name == 0) && not (list_any (λ u. u == name) used)) same) ∙ h
numbered_there v w _ name same h = h

new_later : (w : World) (used name : ℕ) → (used == name) ≡ false → is_new w name ≡ true → is_new (use_name used w) name ≡ true
new_later w used name apart h =
    ap (λ b. not (name == 0) && not b) (list_any-append (λ u. u == name) w.used (used ∷ []) ∙ ap (λ b. is_used w name || (b || false)) apart ∙ or_false (is_used w name)) ∙ h
  where
    or_false : (b : Bool) → (b || (false || false)) ≡ b
    or_false true = refl
    or_false false = refl

numbered_later : (w : World) (asked : Request) (used name : ℕ) → (used == name) ≡ false → is_numbered w asked name ≡ true → is_numbered (use_name used w) asked name ≡ true
numbered_later w (request.Invoke target args wants) used name apart h = new_later w used name apart h
numbered_later w (request.Forward held back target args) used name apart h = new_later w used name apart h
numbered_later w _ used name apart h = h

not_zero : (w : World) (name : ℕ) → is_new w name ≡ true → (name == 0) ≡ false
not_zero w name h = by (name == 0) h
  where
    by : (b : Bool) → (not b && not (is_used w name)) ≡ true → b ≡ false
    by true h = absurd (true≢false (sym h))
    by false h = refl

numbered_with : (w : World) (first other : Request) (used name : ℕ) → is_numbered w first used ≡ true → ((used == 0) ≡ false → used ≢ name) → is_numbered w other name ≡ true
    → is_numbered (with_number first used w) other name ≡ true
numbered_with w (request.Invoke target args wants) other used name new apart h = numbered_later w other used name (ne_eqb used name (apart (not_zero w used new))) h
numbered_with w (request.Forward held back target args) other used name new apart h = numbered_later w other used name (ne_eqb used name (apart (not_zero w used new))) h
numbered_with w _ other used name new apart h = h

abbrev Apart : Entry → Entry → Type 0
Apart entry other = (entry.name == 0) ≡ false → entry.name ≢ other.name

all_numbered : (w : World) (entry : Entry) (entries : List Entry) → is_numbered w entry.ask.request entry.name ≡ true → AllAfter Apart entry entries
    → list_all (λ e. is_numbered w e.ask.request e.name) entries ≡ true → list_all (λ e. is_numbered (with_number entry.ask.request entry.name w) e.ask.request e.name) entries ≡ true
all_numbered w entry [] new apart h = refl
all_numbered w entry (e ∷ es) new apart h =
    let parts = and_parts (is_numbered w e.ask.request e.name) (list_all (λ f. is_numbered w f.ask.request f.name) es) h in
    ap (λ b. b && list_all (λ f. is_numbered (with_number entry.ask.request entry.name w) f.ask.request f.name) es) (numbered_with w entry.ask.request e.ask.request entry.name e.name new apart.0 parts.0)
    ∙ all_numbered w entry es new apart.1 parts.1

all_there : (v w : World) (entries : List Entry) → v.used ≡ w.used → list_all (λ e. is_numbered v e.ask.request e.name) entries ≡ true → list_all (λ e. is_numbered w e.ask.request e.name) entries ≡ true
all_there v w [] same h = refl
all_there v w (e ∷ es) same h =
    let parts = and_parts (is_numbered v e.ask.request e.name) (list_all (λ f. is_numbered v f.ask.request f.name) es) h in
    ap (λ b. b && list_all (λ f. is_numbered w f.ask.request f.name) es) (numbered_there v w e.ask.request e.name same parts.0) ∙ all_there v w es same parts.1

-- a number that was given out changes nothing but that
number_started : (asked : Request) (name : ℕ) (w : World) (process : ℕ) → started (with_number asked name w) process ≡ started w process
number_started (request.Invoke target args wants) name w process = refl
number_started (request.Forward held back target args) name w process = refl
number_started _ name w process = refl

number_places : (asked : Request) (name : ℕ) (w : World) → (with_number asked name w).places ≡ w.places
number_places (request.Invoke target args wants) name w = refl
number_places (request.Forward held back target args) name w = refl
number_places _ name w = refl

number_replays : (core : Core) (class : ℕ → ℕ) (acts : List Act) (asked : Request) (name : ℕ) (w : World) → ReplaysIn core class acts w
    → ReplaysIn core class acts (with_number asked name w) × (world_after core class acts (with_number asked name w) ≡ with_number asked name (world_after core class acts w))
number_replays core class acts (request.Invoke target args wants) name w h = acts_leave_numbers core class acts name w h
number_replays core class acts (request.Forward held back target args) name w h = acts_leave_numbers core class acts name w h
number_replays core class acts _ name w h = (h, refl)

-- ---- runs

not_true : (b : Bool) → not b ≡ true → b ≡ false
not_true true h = absurd (true≢false (sym h))
not_true false h = refl

goes_on : (core : Core) (limit : ℕ) (state later : State) (item : Item) → IsValid core limit state → next core limit state item ≡ Goes later → IsValid core limit later
goes_on core limit state later item valid goes = (valid.0 ++ Makes_item item ∷ [], led-more core limit valid.0 state later (Makes_item item) valid.1 goes)

module _ (core : Core) (class : ℕ → ℕ) (limit : ℕ) where
  abbrev Asks_all : State → List Entry → Type 0
  Asks_all state entries = (process : ℕ) (start : Start) → IsStarted core state.world process start entries → AsksInTurn core limit start (state.given process) (filter (is_by process) entries)

  abbrev left : Entry → State → World
  left entry state = world_after core class (acts_of core entry) state.world

  abbrev later_of : Entry → State → State
  later_of entry state = record { world = with_number entry.ask.request entry.name (left entry state); given = with_answer entry.actor entry.answer state.given }

  -- whoever lives after an entry, or begins later, is one of those before it
  known : (entry : Entry) (entries : List Entry) (state : State) (process : ℕ) (start : Start) → IsStarted core (later_of entry state).world process start entries → IsStarted core state.world process start (entry ∷ entries)
  known entry entries state process start (inl h) = by (lived_after core class (acts_of core entry) state.world process start (sym (number_started entry.ask.request entry.name (left entry state) process) ∙ h))
    where
      by : (started state.world process ≡ Some start) ⊎ IsBegun core state.world process start (acts_of core entry) → IsStarted core state.world process start (entry ∷ entries)
      by (inl k) = inl k
      by (inr k) = inr (begun_front core state.world process start (acts_of core entry) (acts_in core entries) k)
  known entry entries state process start (inr h) =
      inr (begun_later core state.world process start (acts_of core entry) (acts_in core entries)
      (begun_there core (later_of entry state).world state.world process start (acts_in core entries)
      (number_places entry.ask.request entry.name (left entry state) ∙ places_after core class (acts_of core entry) state.world) h))

  asks_later : (entry : Entry) (entries : List Entry) (state : State) → Asks_all state (entry ∷ entries) → Asks_all (later_of entry state) entries
  asks_later entry entries state asks process start h = by (entry.actor == process) refl (asks process start (known entry entries state process start h))
    where
      by : (b : Bool) → (entry.actor == process) ≡ b → AsksInTurn core limit start (state.given process) (cond b (entry ∷ filter (is_by process) entries) (filter (is_by process) entries))
          → AsksInTurn core limit start (with_answer entry.actor entry.answer state.given process) (filter (is_by process) entries)
      by true is turn =
          subst (λ c. AsksInTurn core limit start (cond c (state.given process ++ entry.answer ∷ []) (state.given process)) (filter (is_by process) entries)) (sym (same_number entry.actor process true is)) turn.1
      by false is turn =
          subst (λ c. AsksInTurn core limit start (cond c (state.given process ++ entry.answer ∷ []) (state.given process)) (filter (is_by process) entries)) (sym (same_number entry.actor process false is)) turn

  -- what the first entry says is what its process asks
  asked_first : (entry : Entry) (entries : List Entry) (state : State) (start : Start) → started state.world entry.actor ≡ Some start → Asks_all state (entry ∷ entries) → asks_next core limit state start ≡ Asked entry.ask
  asked_first entry entries state start lives asks =
      ap (λ n. ask core start limit (state.given n)) (found_it entry.actor state.world.live start lives)
      ∙ (subst (λ b. AsksInTurn core limit start (state.given entry.actor) (cond b (entry ∷ filter (is_by entry.actor) entries) (filter (is_by entry.actor) entries))) (eq-eqb entry.actor entry.actor refl)
      (asks entry.actor start (inl lives))).0

  one_item : (entry : Entry) (entries : List Entry) (state : State) (it : Option Start) → IsValid core limit state → started state.world entry.actor ≡ it → is_some it ≡ true → Asks_all state (entry ∷ entries)
      → is_wide core class (me_in entry) entry.ask ≡ false → is_numbered state.world entry.ask.request entry.name ≡ true → ReplaysIn core class (acts_of core entry) state.world
      → next core limit state (item_of entry) ≡ Goes (later_of entry state)
  one_item entry entries state None valid lives some asks narrow numbered h = absurd (true≢false (sym some))
  one_item entry entries state (Some start) valid lives some asks narrow numbered h =
      entries_are_items core class limit entry state start valid lives (asked_first entry entries state start lives asks) narrow numbered h

  all_items : (entries : List Entry) (state : State) → IsValid core limit state → list_all (λ entry. not (is_wide core class (me_in entry) entry.ask)) entries ≡ true
      → list_all (λ entry. is_numbered state.world entry.ask.request entry.name) entries ≡ true → Sorted Apart entries → Asks_all state entries → ReplaysIn core class (acts_in core entries) state.world
      → run_from core limit (Goes state) (map item_of entries) ≡ Goes (state_after core class entries state)
  all_items [] state valid narrow numbered apart asks h = refl
  all_items (entry ∷ entries) state valid narrow numbered apart asks h =
      let thin = and_parts (not (is_wide core class (me_in entry) entry.ask)) (list_all (λ e. not (is_wide core class (me_in e) e.ask)) entries) narrow in
      let new = and_parts (is_numbered state.world entry.ask.request entry.name) (list_all (λ e. is_numbered state.world e.ask.request e.name) entries) numbered in
      let acts = replay_append core class (acts_of core entry) (acts_in core entries) state.world h in
      let goes : next core limit state (item_of entry) ≡ Goes (later_of entry state) =
      one_item entry entries state (started state.world entry.actor) valid refl acts.0.0 asks (not_true (is_wide core class (me_in entry) entry.ask) thin.0) new.0 acts.0 in
      let rest = number_replays core class (acts_in core entries) entry.ask.request entry.name (left entry state) acts.1 in
      let used : state.world.used ≡ (left entry state).used = sym (used_after core class (acts_of core entry) state.world) in
      let more = all_items entries (later_of entry state) (goes_on core limit state (later_of entry state) (item_of entry) valid goes) thin.1
      (all_numbered (left entry state) entry entries (numbered_there state.world (left entry state) entry.ask.request entry.name used new.0) apart.0 (all_there state.world (left entry state) entries used new.1))
      apart.1 (asks_later entry entries state asks) rest.0 in
      ap (λ n. run_from core limit n (map item_of entries)) goes ∙ more
      ∙ ap (λ (w : World). Goes (record { world = numbers_after entries w; given = given_after (entry ∷ entries) state.given }))
      (rest.1 ∙ ap (with_number entry.ask.request entry.name) (sym (after_append core class (acts_of core entry) (acts_in core entries) state.world)))

pub entries_are_a_run : EntriesAreARun
entries_are_a_run core class limit state entries valid are =
    all_items core class limit entries state valid are.narrow are.numbered (sorted_of Apart entries are.different) are.asks
    (order.all_replay 32 (part class) (mask class) (Fits core class) (apply core) (acts_are_local core class) (acts_in core entries) state.world are.replay)
