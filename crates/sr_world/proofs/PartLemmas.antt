-- Changes of a world as changes of its parts.
use Rattle.std.proofs.Common.{◌≡◌, ◌≢◌, ℕ, zero, suc, ◌==◌, Bool, true, false, cond, not, List, [], ◌∷◌, ◌++◌, Option, None, Some, IsSome, refl, ap, sym, ◌∙◌, subst, true≢false}
use Rattle.std.specs.Prelude.{find}
use Rattle.sr_ask.specs.declared.ask.Role.{Role}
use Rattle.sr_ask.specs.declared.ask.Role.TheVariants.{Boot, Initial, Proc, Final}
use Rattle.sr_ask.specs.declared.start.Start.{Start}
use Rattle.sr_calls.specs.Calls.{ByProcess, Called, with_item}
use Rattle.sr_calls.specs.declared.held.Held.{Held}
use Rattle.sr_calls.specs.declared.held.Reply.{Reply}
use Rattle.sr_instances.specs.Instances.{Placed, state_of, with_state}
use Rattle.sr_instances.specs.declared.state.State.{State}
use Rattle.sr_instances.specs.declared.state.State.TheVariants.{Starting, Ready, Closing, Gone}
use Rattle.sr_processes.specs.Living.{IsLive, Living, is_process, numbers_in, without_process}
use Rattle.sr_value.specs.declared.value.Value.{Value}
use Rattle.sr_world.specs.Answering.{answer, duty_held}
use Rattle.sr_world.specs.Endings.{end_after, finish}
use Rattle.sr_world.specs.Invoking.{instance_of_process}
use Rattle.sr_world.specs.Making.{make_ready, ready_from}
use Rattle.sr_world.specs.Parts.{People, numbers_after, people_in, people_of, places_after, ready_in, ready_own, ready_when, replies_after, replies_unless, with_people, without_all, without_one}
use Rattle.sr_world.specs.Steps.{ready_after}
use Rattle.sr_world.specs.Updates.{add_reply, end_instance, end_process, end_processes, processes_of, set_state, use_name}
use Rattle.sr_world.specs.Worlds.{World, is_live}
use Rattle.sr_world.specs.declared.duty.Duty.{Duty}

-- ---- one part

pub answer_is : (duty : Duty) (results : Option (List Value)) (world : World) → answer duty results world ≡ record world { replies = replies_after world.live duty results world.replies }
answer_is duty results world = by (is_live world duty.back)
  where
    by : (b : Bool) → cond b (add_reply duty.back (record { id = duty.back_id; results = results }) world) world
        ≡ record world { replies = cond b (with_item world.replies duty.back (record { id = duty.back_id; results = results })) world.replies }
    by true = refl
    by false = refl

pub ready_is : (instance : ℕ) (world : World) → make_ready instance world ≡ record world { places = ready_in world.places instance }
ready_is instance world = by (state_of world.places instance)
  where
    by : (s : Option State) → ready_from s instance world ≡ record world { places = ready_when s instance world.places }
    by None = refl
    by (Some Starting) = refl
    by (Some Ready) = refl
    by (Some Closing) = refl
    by (Some Gone) = refl

-- ---- processes that end

pub ended_is : (processes : List ℕ) (world : World) → end_processes processes world ≡ with_people (without_all (people_in world) processes) world
ended_is [] world = refl
ended_is (p ∷ ps) world = ended_is ps (end_process p world)

pub end_after_is : (role : Role) (process back : ℕ) (world : World)
    → end_after role back process world
    ≡ with_people (without_all (without_one (people_in world) process) (numbers_after role process back world)) (record world { places = places_after role back (instance_of_process world process) world.places })
end_after_is Boot process back world = refl
end_after_is Proc process back world = refl
end_after_is Initial process back world = ready_is (instance_of_process world process) (end_process process world)
end_after_is Final process zero world = refl
end_after_is Final process (suc caller) world =
    let instance = instance_of_process world process in
    let ended = end_process process world in
    ended_is (processes_of instance ended) (set_state instance Gone ended)

pub finish_is : (role : Role) (process : ℕ) (is_answered : Bool) (back : ℕ) (results : List Value) (world : World) (after : People)
    → after ≡ without_all (without_one (people_in world) process) (numbers_after role process back world)
    → finish role process is_answered back results world
    ≡ record world {
      live = after.live;
      held = after.held;
      replies = replies_unless is_answered after.live (duty_held world process process) (Some results) after.replies;
      places = places_after role back (instance_of_process world process) world.places;
    }
finish_is role process true back results world after is =
    end_after_is role process back world
    ∙ ap (λ p. with_people p (record world { places = places_after role back (instance_of_process world process) world.places })) (sym is)
finish_is role process false back results world after is =
    answer_is (duty_held world process process) (Some results) (end_after role back process world)
    ∙ ap (λ (w : World). record w { replies = replies_after w.live (duty_held world process process) (Some results) w.replies })
    (end_after_is role process back world ∙ ap (λ p. with_people p (record world { places = places_after role back (instance_of_process world process) world.places })) (sym is))

pub ready_after_is : (role : Role) (own : Bool) (actor : ℕ) (world : World)
    → ready_after role own actor world ≡ record world { places = ready_own role own (instance_of_process world actor) world.places }
ready_after_is Initial true actor world = ready_is (instance_of_process world actor) world
ready_after_is Initial false actor world = refl
ready_after_is Boot own actor world = refl
ready_after_is Proc own actor world = refl
ready_after_is Final own actor world = refl

-- any other reply leaves each instance as it is
pub ready_kept : (role : Role) (own : Bool) (actor : ℕ) (world : World) → role ≢ Initial → ready_after role own actor world ≡ world
ready_kept Initial own actor world not = absurd (not refl)
ready_kept Boot own actor world not = refl
ready_kept Proc own actor world not = refl
ready_kept Final own actor world not = refl

-- who lives after a process has ended is another, and lived before
pub live_without : (starts : List Start) (process p : ℕ) → IsLive (without_process starts process) p → (p ≢ process) × IsLive starts p
live_without [] process p live = absurd (true≢false (sym live))
live_without (s ∷ ss) process p live = by (process == s.process) refl (p == s.process) refl live (live_without ss process p)
  where
    by : (b : Bool) → (process == s.process) ≡ b → (d : Bool) → (p == s.process) ≡ d
        → IsSome (find (is_process p) (cond (not b) (s ∷ without_process ss process) (without_process ss process)))
        → (IsLive (without_process ss process) p → (p ≢ process) × IsLive ss p)
        → (p ≢ process) × IsSome (cond d (Some s) (find (is_process p) ss))
    by true is true at live more = ((more live).0, refl)
    by true is false at live more = more live
    by false is true at live more = ((λ e. true≢false (sym (ap (λ n. n == s.process) (sym e) ∙ at) ∙ is)), refl)
    by false is false at live more = more (subst (λ d. IsSome (cond d (Some s) (find (is_process p) (without_process ss process)))) at live)

-- ---- as the code puts it together

abbrev pub parts : World → List Start → ByProcess (List Held) → ByProcess (List Reply) → Placed → List ℕ → World
parts view live held replies places used = record view { live = live; held = held; replies = replies; places = places; used = used }

parts_same : (view : World) (live : List Start) (h h' : ByProcess (List Held)) (r r' : ByProcess (List Reply)) (p p' : Placed) (u u' : List ℕ) → h ≡ h' → r ≡ r' → p ≡ p' → u ≡ u'
    → parts view live h r p u ≡ parts view live h' r' p' u'
parts_same view live h h' r r' p p' u u' eh er ep eu =
    ap (λ x. parts view live x r p u) eh ∙ ap (λ x. parts view live h' x p u) er ∙ ap (λ x. parts view live h' r' x u) ep ∙ ap (parts view live h' r' p') eu

abbrev with_those : List Start → ByProcess (List Held) → ByProcess (List Reply) → People
with_those live held replies = record { live = live; held = held; replies = replies }

pub same_people : (processes : Living) (calls calls' : Called) → calls'.held ≡ calls.held → calls'.replies ≡ calls.replies → people_of processes calls' ≡ people_of processes calls
same_people processes calls calls' h r =
    ap (λ x. with_those processes.starts x calls'.replies) h ∙ ap (with_those processes.starts calls.held) r

pub finish_as : (role : Role) (actor back : ℕ) (answered : Bool) (results results' : List Value) (view world w1 w2 w3 : World) (duty : Duty) (instance : ℕ) (numbers : List ℕ) (after : People)
    (held : ByProcess (List Held)) (replies : ByProcess (List Reply)) (places : Placed)
    → duty ≡ duty_held w1 actor actor → instance ≡ instance_of_process w2 actor → numbers ≡ numbers_after role actor back w3 → results' ≡ results
    → w1 ≡ world → w2 ≡ world → w3 ≡ world → view ≡ world
    → after ≡ without_all (without_one (people_in view) actor) numbers
    → held ≡ after.held → replies ≡ replies_unless answered after.live duty (Some results') after.replies → places ≡ places_after role back instance view.places
    → parts view after.live held replies places view.used ≡ finish role actor answered back results world
finish_as role actor back answered results results' view world w1 w2 w3 duty instance numbers after held replies places e1 e2 e3 er h1 h2 h3 same is eh erep ep =
    let d : duty ≡ duty_held view actor actor = e1 ∙ ap (λ w. duty_held w actor actor) (h1 ∙ sym same) in
    let i : instance ≡ instance_of_process view actor = e2 ∙ ap (λ w. instance_of_process w actor) (h2 ∙ sym same) in
    let n : numbers ≡ numbers_after role actor back view = e3 ∙ ap (numbers_after role actor back) (h3 ∙ sym same) in
    parts_same view after.live held after.held replies (replies_unless answered after.live (duty_held view actor actor) (Some results) after.replies) places (places_after role back (instance_of_process view actor) view.places)
    view.used view.used eh
    (erep ∙ ap (λ x. replies_unless answered after.live x (Some results') after.replies) d ∙ ap (λ x. replies_unless answered after.live (duty_held view actor actor) (Some x) after.replies) er)
    (ep ∙ ap (λ x. places_after role back x view.places) i) refl
    ∙ sym (finish_is role actor answered back results view after (is ∙ ap (without_all (without_one (people_in view) actor)) n))
    ∙ ap (finish role actor answered back results) same

abbrev gone_in : ℕ → ℕ → World → World
gone_in instance name world = set_state instance Gone (use_name name world)

pub ended_as : (name instance : ℕ) (duty : Duty) (results : List Value) (view world : World) (numbers : List ℕ) (after : People)
    (held : ByProcess (List Held)) (replies : ByProcess (List Reply)) (places : Placed) (used : List ℕ)
    → view ≡ world → numbers ≡ numbers_in view.live instance → results ≡ []
    → after ≡ without_all (people_in view) numbers
    → held ≡ after.held → replies ≡ replies_after after.live duty (Some results) after.replies → places ≡ with_state view.places instance Gone → used ≡ view.used ++ name ∷ []
    → parts view after.live held replies places used ≡ answer duty (Some []) (end_instance instance (use_name name world))
ended_as name instance duty results view world numbers after held replies places used same en er is eh erep ep eu =
    parts_same view after.live held after.held replies (replies_after after.live duty (Some []) after.replies) places (with_state view.places instance Gone) used (view.used ++ name ∷ []) eh
    (erep ∙ ap (λ x. replies_after after.live duty (Some x) after.replies) er) ep eu
    ∙ sym (answer_is duty (Some []) (end_instance instance (use_name name view))
    ∙ ap (λ (w : World). record w { replies = replies_after w.live duty (Some []) w.replies })
    (ended_is (numbers_in view.live instance) (gone_in instance name view) ∙ ap (λ p. with_people p (gone_in instance name view)) (sym (is ∙ ap (without_all (people_in view)) en))))
    ∙ ap (λ w. answer duty (Some []) (end_instance instance (use_name name w))) same
