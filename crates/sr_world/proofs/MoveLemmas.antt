-- What every state keeps, through what steps are made of.
use Rattle.std.proofs.Common.{◌≡◌, ℕ, zero, suc, ◌<◌, ◌≤◌, ◌==◌, ◌&&◌, not, Bool, true, false, cond, List, [], ◌∷◌, ◌++◌, Option, None, Some, unwrap_or, refl, ap, sym, ◌∙◌, subst, arith, eq-eqb, eqb-true, true≢false}
use Rattle.std.specs.Prelude.{count_by}
use Rattle.std.specs.Option.{option_map}
use Rattle.sr_ask.specs.declared.answer.Answer.{Answer}
use Rattle.sr_ask.specs.declared.ask.Role.{Role}
use Rattle.sr_ask.specs.declared.ask.Role.TheVariants.{Boot, Initial, Proc as proc_role, Final}
use Rattle.sr_ask.specs.declared.start.Start.{Start}
use Rattle.sr_calls.specs.Calls.{held_as, is_held_as, items_of, without_first}
use Rattle.sr_calls.specs.declared.held.Held.{Held}
use Rattle.sr_core.specs.declared.component.Core.{Core}
use Rattle.sr_instances.specs.Instances.{state_of}
use Rattle.sr_instances.specs.declared.state.State.{State as InstanceState}
use Rattle.sr_instances.specs.declared.state.State.TheVariants.{Starting, Ready, Closing, Gone}
use Rattle.sr_processes.specs.Living.{is_process}
use Rattle.sr_value.specs.declared.value.Value.{Value}
use Rattle.sr_world.specs.Answering.{answer as answered, duty_held, duty_of, held_of, no_duty}
use Rattle.sr_world.specs.Endings.{end_after}
use Rattle.sr_world.specs.Invoking.{instance_of_process}
use Rattle.sr_world.specs.Making.{make_ready, ready_from, run_final, run_initial, run_proc, start_in}
use Rattle.sr_world.specs.Steps.{duty_for}
use Rattle.sr_world.specs.Updates.{add_instance, add_process, add_reply, end_all, end_instance, end_process, end_processes, fix, hold, processes_of, release, set_state, use_name}
use Rattle.sr_world.specs.Worlds.{World, is_live}
use Rattle.sr_world.specs.declared.duty.Duty.{Duty}
use Rattle.sr_world.specs.Runs.{with_answer}
use Rattle.sr_world.specs.Sound.{times_used}
use Rattle.sr_world.specs.Spots.{Calls, HeldBy, TakenBy, Tests, Thing, DutyOf, OpenInvocation, ServiceOf, astray, is_astray, is_picked, is_took, number_of, stands, tests_of}
use Rattle.sr_world.proofs.CallLemmas.{count-taken, removed-at}
use Rattle.sr_world.proofs.CountLemmas.{count-push, count-without_first, found-last, one}
use Rattle.sr_world.proofs.StandLemmas.{Fewer, IsClear, answer-gains, at, clear-fewer, clear-taken, duties-gained, end_all-fewer, end_process-fewer, fewer-then, release-fewer, use_name-fewer}
use Rattle.sr_world.proofs.KeepLemmas.{InHand, IsFresh, Keeps, add_instance-kept, add_process-kept, end_all-kept, end_process-kept, fresh-fewer, fresh-is, hold-kept, in_hand-fewer, is-known, no-hand, none-marked, quiet-kept, same-fewer, set_state-kept, use_name-kept}

-- what changes neither the numbers nor the output nor what waits nor the end of the input
pub record Same (w w' : World) : Type 0 where
  pub used : w'.used ≡ w.used
  pub output : w'.output ≡ w.output
  pub pending : w'.pending ≡ w.pending
  pub ended : w'.ended ≡ w.ended

pub same-then : (a b c : World) → Same a b → Same b c → Same a c
same-then a b c first second = record { used = second.used ∙ first.used; output = second.output ∙ first.output; pending = second.pending ∙ first.pending; ended = second.ended ∙ first.ended }

pub answered-same : (duty : Duty) (results : Option (List Value)) (w : World) → Same w (answered duty results w)
answered-same duty results w = by (is_live w duty.back)
  where
    by : (b : Bool) → Same w (cond b (add_reply duty.back (record { id = duty.back_id; results = results }) w) w)
    by true = record { used = refl; output = refl; pending = refl; ended = refl }
    by false = record { used = refl; output = refl; pending = refl; ended = refl }

module _ (calls : Calls) (given : ℕ → List Answer) where
  abbrev pub K : World → Type 0
  K w = Keeps calls (at w given)

  abbrev pub Hand : World → Duty → Type 0
  Hand w duty = InHand calls (at w given) duty

  -- ---- what only takes away

  pub record Loses (w w' : World) : Type 0 where
    pub kept : K w → K w'
    pub fewer : Fewer (at w given) (at w' given)
    pub same : Same w w'

  pub loses-nothing : (w : World) → Loses w w
  loses-nothing w = record { kept = λ k. k; fewer = same-fewer given w w refl refl refl refl; same = record { used = refl; output = refl; pending = refl; ended = refl } }

  pub loses-then : (a b c : World) → Loses a b → Loses b c → Loses a c
  loses-then a b c first second = record {
    kept = λ k. second.kept (first.kept k);
    fewer = fewer-then (at a given) (at b given) (at c given) first.fewer second.fewer;
    same = same-then a b c first.same second.same;
  }

  pub end_process-loses : (process : ℕ) (w : World) → Loses w (end_process process w)
  end_process-loses process w = record { kept = end_process-kept calls given process w; fewer = end_process-fewer given process w; same = record { used = refl; output = refl; pending = refl; ended = refl } }

  pub end_all-loses : (w : World) → Loses w (end_all w)
  end_all-loses w = record { kept = end_all-kept calls given w; fewer = end_all-fewer given w; same = record { used = refl; output = refl; pending = refl; ended = refl } }

  pub set_state-loses : (instance : ℕ) (state : InstanceState) (w : World) → Loses w (set_state instance state w)
  set_state-loses instance state w = record {
    kept = set_state-kept calls given instance state w;
    fewer = same-fewer given w (set_state instance state w) refl refl refl refl;
    same = record { used = refl; output = refl; pending = refl; ended = refl };
  }

  pub end_processes-loses : (processes : List ℕ) (w : World) → Loses w (end_processes processes w)
  end_processes-loses [] w = loses-nothing w
  end_processes-loses (p ∷ ps) w = loses-then w (end_process p w) (end_processes ps (end_process p w)) (end_process-loses p w) (end_processes-loses ps (end_process p w))

  pub end_instance-loses : (instance : ℕ) (w : World) → Loses w (end_instance instance w)
  end_instance-loses instance w =
      loses-then w (set_state instance Gone w) (end_instance instance w) (set_state-loses instance Gone w) (end_processes-loses (processes_of instance w) (set_state instance Gone w))

  pub make_ready-loses : (instance : ℕ) (w : World) → Loses w (make_ready instance w)
  make_ready-loses instance w = by (state_of w.places instance)
    where
      by : (s : Option InstanceState) → Loses w (ready_from s instance w)
      by (Some Starting) = set_state-loses instance Ready w
      by (Some Ready) = loses-nothing w
      by (Some Closing) = loses-nothing w
      by (Some Gone) = loses-nothing w
      by None = loses-nothing w

  -- what follows the end of a process
  pub end_after-loses : (role : Role) (back process : ℕ) (w : World) → Loses (end_process process w) (end_after role back process w)
  end_after-loses Boot back process w = loses-nothing (end_process process w)
  end_after-loses proc_role back process w = loses-nothing (end_process process w)
  end_after-loses Initial back process w = make_ready-loses (instance_of_process w process) (end_process process w)
  end_after-loses Final zero process w = loses-nothing (end_process process w)
  end_after-loses Final (suc caller) process w = end_instance-loses (instance_of_process w process) (end_process process w)

  -- ---- what is taken in hand

  -- what a process holds is its duty; it stands nowhere once the process holds it no longer
  held-hand : (w w' : World) (process id : ℕ) → K w → Fewer (at w given) (at w' given)
      → ((tests : Tests) (h : Held) → held_as w.held process id ≡ Some h → tests.held h ≡ true → stands tests (at w' given) (HeldBy process) < stands tests (at w given) (HeldBy process))
      → Hand w' (duty_held w process id)
  held-hand w w' process id k fewer taken = by (held_as w.held process id) refl
    where
      known : (h : Held) → held_as w.held process id ≡ Some h → (h.back == 0) ≡ false → calls h.back h.back_id ≡ true
      known h found some =
          is-known calls h.back h.back_id
          (none-marked (count_by (astray calls).held (without_first (is_held_as id) (items_of w.held process))) (stands (astray calls) (at w given) (HeldBy process)) (is_astray calls h.back h.back_id)
          (count-without_first (astray calls).held (is_held_as id) (items_of w.held process) h found) (k.duties.callers (HeldBy process))) some

      marked : (h : Held) → (h.back == 0) ≡ false → (tests_of (DutyOf h.back_id)).held h ≡ true
      marked h some = ap (λ b. not b && (h.back_id == h.back_id)) some ∙ eq-eqb h.back_id h.back_id refl

      by : (o : Option Held) → held_as w.held process id ≡ o → Hand w' (unwrap_or (option_map duty_of o) (no_duty id))
      by None found = no-hand calls (at w' given) id
      by (Some h) found = record {
        clear = λ some. clear-taken calls (at w given) (at w' given) (DutyOf h.back_id) (HeldBy process) k.duties fewer (k.numbers.once h.back_id)
            (taken (tests_of (DutyOf h.back_id)) h found (marked h some));
        used = λ some.
            let less = taken (tests_of (DutyOf h.back_id)) h found (marked h some) in
            omega (arith, less, k.duties.numbers (DutyOf h.back_id) (HeldBy process), fewer.used h.back_id);
        known = known h found;
      }

  pub released-hand : (w : World) (process id : ℕ) → K w → Hand (release process id w) (duty_held w process id)
  released-hand w process id k =
      held-hand w (release process id w) process id k (release-fewer given process id w)
      (λ tests h found marked. omega (arith, count-taken tests.held (is_held_as id) w.held process h found, ap one marked))

  pub ended-hand : (w : World) (process id : ℕ) → K w → Hand (end_process process w) (duty_held w process id)
  ended-hand w process id k =
      held-hand w (end_process process w) process id k (end_process-fewer given process w)
      (λ tests h found marked.
      let none = ap (count_by tests.held) (removed-at w.held process process (eq-eqb process process refl)) in
      omega (arith, count-without_first tests.held (is_held_as id) (items_of w.held process) h found, ap one marked, none))

  -- ---- what gets a new number

  -- the number of a step that makes something
  pub record IsNamed (w : World) (actor name : ℕ) (asks : Bool) : Type 0 where
    pub new : times_used w name ≡ 0
    pub nonzero : (name == 0) ≡ false
    -- a step that makes a duty to its process is a call
    pub called : asks ≡ true → calls actor name ≡ true

  pub used-once : (w : World) (name : ℕ) → times_used (use_name name w) name ≡ suc (times_used w name)
  used-once w name =
      let grown = count-push (λ used. used == name) w.used name in
      let some = ap one (eq-eqb name name refl) in omega (arith, grown, some)

  pub new-fresh : (w : World) (name : ℕ) → K w → times_used w name ≡ 0 → IsFresh name (at w given)
  new-fresh w name k new = fresh-is calls (at w given) name k.duties new

  -- the duty of a new call
  pub new-hand : (w : World) (actor name : ℕ) (wants asks : Bool) → wants ≡ asks → K w → IsNamed w actor name asks → Hand (use_name name w) (duty_for wants actor name)
  new-hand w actor name false asks is k named = no-hand calls (at (use_name name w) given) name
  new-hand w actor name true asks is k named = record {
    clear = λ some. clear-fewer (at w given) (at (use_name name w) given) (DutyOf name) (use_name-fewer given name w) (new-fresh w name k named.new (DutyOf name) refl);
    used = λ some. omega (arith, used-once w name);
    known = λ some. named.called (sym is);
  }

  -- a new process
  began-live : (w : World) (start : Start) (name : ℕ) → start.process ≡ name → is_live (add_process start w) name ≡ true
  began-live w start name is = found-last (is_process name) w.live start (eq-eqb name start.process (sym is))

  -- of a world whose number was just used
  pub run_proc-kept : (core : Core) (name instance proc : ℕ) (args : List Value) (duty : Duty) (w : World) → K w → times_used w name ≡ 0 → (name == 0) ≡ false
      → Hand (use_name name w) duty → K (run_proc core name instance proc args duty w)
  run_proc-kept core name instance proc args duty w k new nonzero hand =
      let used : World = use_name name w in
      let start : Start = start_in core used name instance proc_role proc args duty.back in
      let named : K used = use_name-kept calls given name w k new nonzero in
      let began : K (add_process start used) = add_process-kept calls given start used named (omega (arith, new, k.numbers.processes name, used-once w name)) in
      let before = same-fewer given used (add_process start used) refl refl refl refl in
      let fresh : IsFresh name (at (add_process start used) given) =
      fresh-fewer name (at used given) (at (add_process start used) given) before (fresh-fewer name (at w given) (at used given) (use_name-fewer given name w) (new-fresh w name k new)) in
      hold-kept calls given (add_process start used) name name duty began (began-live used start name refl) (in_hand-fewer calls (at used given) (at (add_process start used) given) duty before hand)
      (fresh (OpenInvocation name) refl) (omega (arith, used-once w name))

  -- a process that holds nothing
  pub run_initial-kept : (core : Core) (name component machine : ℕ) (args : List Value) (back : ℕ) (w : World) → K w → times_used w name ≡ 0 → (name == 0) ≡ false
      → K (run_initial core name component machine args back w)
  run_initial-kept core name component machine args back w k new nonzero =
      let used : World = use_name name w in
      let placed : World = add_instance name component machine used in
      let named : K used = use_name-kept calls given name w k new nonzero in
      let made : K placed = add_instance-kept calls given name component machine used named (omega (arith, new, k.numbers.instances name, used-once w name)) in
      add_process-kept calls given (start_in core placed name name Initial component args back) placed made (omega (arith, new, k.numbers.processes name, used-once w name))

  pub run_final-kept : (core : Core) (name instance back : ℕ) (w : World) → K w → times_used w name ≡ 0 → (name == 0) ≡ false → K (run_final core name instance back w)
  run_final-kept core name instance back w k new nonzero =
      let used : World = use_name name w in
      let closing : World = set_state instance Closing used in
      let named : K used = use_name-kept calls given name w k new nonzero in
      add_process-kept calls given (start_in core used name instance Final _ [] back) closing (set_state-kept calls given instance Closing used named)
      (omega (arith, new, k.numbers.processes name, used-once w name))

  -- it holds the duty to answer
  pub hold-new : (name : ℕ) (duty : Duty) (start : Start) (w before : World) → start.process ≡ name → K w → times_used w name ≡ 0 → Hand (use_name name w) duty
      → Fewer (at (use_name name w) given) (at before given) → K (add_process start before) → K (hold name (held_of name duty) (add_process start before))
  hold-new name duty start w before is k new hand fewer began =
      let used : World = use_name name w in
      let after : World = add_process start before in
      let later = fewer-then (at used given) (at before given) (at after given) fewer (same-fewer given before after refl refl refl refl) in
      let fresh : IsFresh name (at after given) =
      fresh-fewer name (at used given) (at after given) later (fresh-fewer name (at w given) (at used given) (use_name-fewer given name w) (new-fresh w name k new)) in
      hold-kept calls given after name name duty began (began-live before start name is) (in_hand-fewer calls (at used given) (at after given) duty later hand)
      (fresh (OpenInvocation name) refl) (omega (arith, used-once w name, later.used name))

  pub fix-kept : (status : Option ℕ) (w : World) → K w → K (fix status w)
  fix-kept None w k = k
  fix-kept (Some n) w k = quiet-kept calls given w w.variables w.rest w.output w.ended (Some n) w.moment k

  -- ---- answers

  pub given-kept : (w : World) (actor : ℕ) (a : Answer) → K w → 1 ≤ times_used w actor
      → ((thing : Thing) → (tests_of thing).answer actor a ≡ true → IsClear thing (at w given) × (1 ≤ times_used w (number_of thing))) → (astray calls).answer actor a ≡ false
      → Keeps calls (at w (with_answer actor a given))
  given-kept w actor a k used clear right = record {
    numbers = k.numbers;
    processes = record { holders = k.processes.holders; callers = k.processes.callers; hearers = λ p none. heard p (p == actor) refl none };
    duties = duties-gained calls (at w given) (at w (with_answer actor a given)) k.duties (TakenBy actor) (λ tests. tests.answer actor a) (answer-gains actor a w given) clear right;
  }
    where
      heard : (p : ℕ) (b : Bool) → (p == actor) ≡ b → times_used w p ≡ 0 → cond b (given p ++ a ∷ []) (given p) ≡ []
      heard p true is none = let some : 1 ≤ times_used w p = subst (λ n. 1 ≤ times_used w n) (sym (eqb-true p actor is)) used in absurd (omega (arith, some, none))
      heard p false is none = k.processes.hearers p none

  -- an answer that takes nothing up
  pub plain-kept : (w : World) (actor : ℕ) (a : Answer) → K w → 1 ≤ times_used w actor → ((id : ℕ) → is_took id a ≡ false) → ((id : ℕ) → is_picked id a ≡ false) → (astray calls).answer actor a ≡ false
      → Keeps calls (at w (with_answer actor a given))
  plain-kept w actor a k used no_took no_picked right = given-kept w actor a k used none right
    where
      none : (thing : Thing) → (tests_of thing).answer actor a ≡ true → IsClear thing (at w given) × (1 ≤ times_used w (number_of thing))
      none (DutyOf id) is = absurd (true≢false (sym is ∙ no_took id))
      none (OpenInvocation id) is = absurd (true≢false (sym is))
      none (ServiceOf id) is = absurd (true≢false (sym is ∙ no_picked id))
