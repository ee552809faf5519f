-- What every state keeps, through each change of a world.
use Rattle.std.proofs.Common.{◌≡◌, ℕ, suc, ◌+◌, ◌≤◌, ◌==◌, ◌&&◌, not, Bool, true, false, cond, List, [], ◌∷◌, Option, None, Some, is_some, refl, ap, sym, ◌∙◌, subst, arith, eq-eqb, eqb-true, true≢false}
use Rattle.std.proofs.lemmas.Bool.{eqb-false}
use Rattle.std.specs.Prelude.{count_by, find, map, slice_get}
use Rattle.std.specs.FinMap as fin
use Rattle.sr_ask.specs.declared.answer.Answer.{Answer}
use Rattle.sr_ask.specs.declared.start.Start.{Start}
use Rattle.sr_calls.specs.Calls.{ByProcess, answers_one, is_held_as, items_of}
use Rattle.sr_calls.specs.declared.held.Held.{Held}
use Rattle.sr_calls.specs.declared.held.Reply.{Reply}
use Rattle.sr_instances.specs.Instances.{Instance, in_state}
use Rattle.sr_instances.specs.declared.state.State.{State as InstanceState}
use Rattle.sr_instances.specs.declared.state.State.TheVariants.{Starting}
use Rattle.sr_processes.specs.Living.{is_process, without_process}
use Rattle.sr_queue.specs.declared.pending.Pending.{Pending}
use Rattle.sr_store.specs.Variables.{Variables}
use Rattle.sr_value.specs.declared.capability.Owner.{Owner}
use Rattle.sr_value.specs.declared.value.Value.{Value}
use Rattle.sr_world.specs.Answering.{answer as answered, held_of, no_duty}
use Rattle.sr_world.specs.Updates.{add_instance, add_machine, add_pending, add_process, add_reply, drop_pending, drop_reply, end_all, end_process, hold, release, set_state, use_name}
use Rattle.sr_world.specs.Worlds.{World, is_live}
use Rattle.sr_world.specs.declared.duty.Duty.{Duty}
use Rattle.sr_world.specs.Runs.{State}
use Rattle.sr_world.specs.Sound.{HasSoundDuties, HasSoundNumbers, HasSoundProcesses, times_used}
use Rattle.sr_world.specs.Spots.{Calls, Spot, Waiting, HeldBy, RepliedTo, TakenBy, Tests, Thing, DutyOf, OpenInvocation, ServiceOf, is_astray, is_duty, number_of, stands, tests_of}
use Rattle.sr_world.proofs.CallLemmas.{empty-removed, empty-with_item, empty-without, items-empty, removed-at}
use Rattle.sr_world.proofs.CountLemmas.{count-cons, count-filter, count-push, count-without_first, find-passes, found-append, one}
use Rattle.sr_world.proofs.StandLemmas.{Fewer, IsClear, add_pending-gains, add_reply-gains, at, clear-fewer, drop_pending-fewer, drop_reply-fewer, duties-fewer, duties-gained, end_all-fewer, end_process-fewer, hold-gains, release-fewer, use_name-fewer}

pub record Keeps (calls : Calls) (state : State) : Type 0 where
  pub numbers : HasSoundNumbers state.world
  pub processes : HasSoundProcesses state
  pub duties : HasSoundDuties calls state

-- ---- who lives

-- a process counts where it is found
pub live-counts : (live : List Start) (p : ℕ) → is_some (find (is_process p) live) ≡ true → 1 ≤ count_by (λ start. start.process == p) live
live-counts live p is = by (find (is_process p) live) refl is
  where
    by : (o : Option Start) → find (is_process p) live ≡ o → is_some o ≡ true → 1 ≤ count_by (λ start. start.process == p) live
    by None found h = absurd (true≢false (sym h))
    by (Some s) found h =
        let passes : (s.process == p) ≡ true = eq-eqb s.process p (sym (eqb-true p s.process (find-passes (is_process p) live s found))) in
        omega (arith, count-without_first (λ start. start.process == p) (is_process p) live s found, ap one passes)

-- who isn't the one that ended, and doesn't live after, didn't live before
pub live-without : (live : List Start) (process q : ℕ) → (process == q) ≡ false → is_some (find (is_process q) (without_process live process)) ≡ false → is_some (find (is_process q) live) ≡ false
live-without [] process q off none = refl
live-without (s ∷ ss) process q off none = by (process == s.process) refl (q == s.process) refl none (live-without ss process q off)
  where
    by : (b : Bool) → (process == s.process) ≡ b → (d : Bool) → (q == s.process) ≡ d
        → is_some (find (is_process q) (cond (not b) (s ∷ without_process ss process) (without_process ss process))) ≡ false
        → (is_some (find (is_process q) (without_process ss process)) ≡ false → is_some (find (is_process q) ss) ≡ false)
        → is_some (cond d (Some s) (find (is_process q) ss)) ≡ false
    by true is true is' none more =
        let p-is : process ≡ s.process = eqb-true process s.process is in
        let q-is : q ≡ s.process = eqb-true q s.process is' in
        absurd (eqb-false process q off (p-is ∙ sym q-is))
    by false is true is' none more = sym (ap (λ d. is_some (cond d (Some s) (find (is_process q) (without_process ss process)))) is') ∙ none
    by true is false is' none more = more none
    by false is false is' none more = more (sym (ap (λ d. is_some (cond d (Some s) (find (is_process q) (without_process ss process)))) is') ∙ none)

-- ---- a duty that stands nowhere, and is to a process that made the call

pub record InHand (calls : Calls) (state : State) (duty : Duty) : Type 0 where
  pub clear : (duty.back == 0) ≡ false → IsClear (DutyOf duty.back_id) state
  pub used : (duty.back == 0) ≡ false → 1 ≤ times_used state.world duty.back_id
  pub known : (duty.back == 0) ≡ false → calls duty.back duty.back_id ≡ true

pub in_hand-fewer : (calls : Calls) (old new : State) (duty : Duty) → Fewer old new → InHand calls old duty → InHand calls new duty
in_hand-fewer calls old new duty fewer hand = record {
  clear = λ some. clear-fewer old new (DutyOf duty.back_id) fewer (hand.clear some);
  used = λ some. omega (arith, hand.used some, fewer.used duty.back_id);
  known = hand.known;
}

-- nobody waits for it
pub no-hand : (calls : Calls) (state : State) (id : ℕ) → InHand calls state (no_duty id)
no-hand calls state id = record { clear = λ some. absurd (true≢false some); used = λ some. absurd (true≢false some); known = λ some. absurd (true≢false some) }

pub duty-marked : (id back back_id : ℕ) → is_duty id back back_id ≡ true → ((back == 0) ≡ false) × (back_id ≡ id)
duty-marked id back back_id is = by (back == 0) refl (back_id == id) refl is
  where
    by : (b : Bool) → (back == 0) ≡ b → (d : Bool) → (back_id == id) ≡ d → (not b && d) ≡ true → ((back == 0) ≡ false) × (back_id ≡ id)
    by true is d at h = absurd (true≢false (sym h))
    by false is true at h = (is, eqb-true back_id id at)
    by false is false at h = absurd (true≢false (sym h))

pub not-astray : (calls : Calls) (back back_id : ℕ) → ((back == 0) ≡ false → calls back back_id ≡ true) → is_astray calls back back_id ≡ false
not-astray calls back back_id known = by (back == 0) refl
  where
    by : (b : Bool) → (back == 0) ≡ b → (not b && not (calls back back_id)) ≡ false
    by true is = refl
    by false is = ap not (known is)

-- a duty that doesn't go astray is known
pub is-known : (calls : Calls) (back back_id : ℕ) → is_astray calls back back_id ≡ false → (back == 0) ≡ false → calls back back_id ≡ true
is-known calls back back_id right some = by (calls back back_id) (sym (ap (λ b. not b && not (calls back back_id)) some) ∙ right)
  where
    by : (b : Bool) → not b ≡ false → b ≡ true
    by true h = refl
    by false h = absurd (true≢false h)

pub none-marked : (n m : ℕ) (b : Bool) → n + one b ≡ m → m ≡ 0 → b ≡ false
none-marked n m true e none = absurd (omega (arith, e, none))
none-marked n m false e none = refl

-- ---- numbers that are new

-- nothing stands anywhere under this number
abbrev pub IsFresh : ℕ → State → Type 0
IsFresh name state = (thing : Thing) → number_of thing ≡ name → IsClear thing state

pub fresh-fewer : (name : ℕ) (old new : State) → Fewer old new → IsFresh name old → IsFresh name new
fresh-fewer name old new fewer fresh = λ thing is. clear-fewer old new thing fewer (fresh thing is)

pub fresh-is : (calls : Calls) (state : State) (name : ℕ) → HasSoundDuties calls state → times_used state.world name ≡ 0 → IsFresh name state
fresh-is calls state name sound none = λ thing is spot.
    let unused : times_used state.world (number_of thing) ≡ 0 = subst (λ n. times_used state.world n ≡ 0) (sym is) none in
    omega (arith, sound.numbers thing spot, unused)

-- ---- updates that take nothing that stands anywhere

module _ (given : ℕ → List Answer) where
  -- the same lists
  pub same-fewer : (w w' : World) → w'.pending ≡ w.pending → w'.held ≡ w.held → w'.replies ≡ w.replies → w'.used ≡ w.used → Fewer (at w given) (at w' given)
  same-fewer w w' pending held replies used = record { spots = same; used = λ n. let e = ap (count_by (λ u. u == n)) used in omega (arith, e) }
    where
      same : (tests : Tests) (spot : Spot) → stands tests (at w' given) spot ≤ stands tests (at w given) spot
      same tests Waiting = let e = ap (count_by tests.pending) pending in omega (arith, e)
      same tests (HeldBy p) = let e = ap (λ all. count_by tests.held (items_of all p)) held in omega (arith, e)
      same tests (RepliedTo p) = let e = ap (λ all. count_by (tests.reply p) (items_of all p)) replies in omega (arith, e)
      same tests (TakenBy p) = omega arith

module _ (calls : Calls) (given : ℕ → List Answer) where
  abbrev K : World → Type 0
  K w = Keeps calls (at w given)

  -- variables, input, output, the fixed status and the time don't matter
  pub quiet-kept : (w : World) (variables : Variables) (rest output : List ℕ) (ended : Bool) (fixed : Option ℕ) (moment : ℕ) → K w
      → K (record w { variables = variables; rest = rest; ended = ended; output = output; fixed = fixed; moment = moment })
  quiet-kept w variables rest output ended fixed moment k =
      let now : World = record w { variables = variables; rest = rest; ended = ended; output = output; fixed = fixed; moment = moment } in
      record {
        numbers = record {
          once = k.numbers.once;
          zero_never = k.numbers.zero_never;
          processes = k.numbers.processes;
          instances = k.numbers.instances;
          machines = k.numbers.machines;
        };
        processes = record { holders = k.processes.holders; callers = k.processes.callers; hearers = k.processes.hearers };
        duties = duties-fewer calls (at w given) (at now given) k.duties (same-fewer given w now refl refl refl refl);
      }

  pub use_name-kept : (name : ℕ) (w : World) → K w → times_used w name ≡ 0 → (name == 0) ≡ false → K (use_name name w)
  use_name-kept name w k new nonzero = record {
    numbers = record {
      once = λ n. by n (name == n) refl;
      zero_never = let none = ap one nonzero in omega (arith, k.numbers.zero_never, count-push (λ used. used == 0) w.used name, none);
      processes = λ n. omega (arith, k.numbers.processes n, count-push (λ used. used == n) w.used name);
      instances = λ n. omega (arith, k.numbers.instances n, count-push (λ used. used == n) w.used name);
      machines = λ n. omega (arith, k.numbers.machines n, count-push (λ used. used == n) w.used name);
    };
    processes = record {
      holders = k.processes.holders;
      callers = k.processes.callers;
      hearers = λ p none. k.processes.hearers p (omega (arith, none, count-push (λ used. used == p) w.used name));
    };
    duties = duties-fewer calls (at w given) (at (use_name name w) given) k.duties (use_name-fewer given name w);
  }
    where
      by : (n : ℕ) (b : Bool) → (name == n) ≡ b → times_used (use_name name w) n ≤ 1
      by n true is =
          let unused : times_used w n ≡ 0 = subst (λ m. times_used w m ≡ 0) (eqb-true name n is) new in
          let some = ap one is in omega (arith, unused, some, count-push (λ used. used == n) w.used name)
      by n false is = let none = ap one is in omega (arith, none, k.numbers.once n, count-push (λ used. used == n) w.used name)

  -- one more of what there is room for under its number
  one-more : (old used number n : ℕ) (b : Bool) → (number == n) ≡ b → (number ≡ n → suc old ≤ used) → old ≤ used → old + one b ≤ used
  one-more old used number n true is room had = omega (arith, room (eqb-true number n is))
  one-more old used number n false is room had = omega (arith, had)

  pub add_process-kept : (start : Start) (w : World) → K w → suc (count_by (λ s. s.process == start.process) w.live) ≤ times_used w start.process → K (add_process start w)
  add_process-kept start w k room = record {
    numbers = record {
      once = k.numbers.once;
      zero_never = k.numbers.zero_never;
      processes = λ n.
          let more = one-more (count_by (λ s. s.process == n) w.live) (times_used w n) start.process n (start.process == n) refl
          (λ e. subst (λ m. suc (count_by (λ s. s.process == m) w.live) ≤ times_used w m) e room) (k.numbers.processes n) in
          omega (arith, more, count-push (λ s. s.process == n) w.live start);
      instances = k.numbers.instances;
      machines = k.numbers.machines;
    };
    processes = record {
      holders = λ p gone. k.processes.holders p (found-append (is_process p) w.live (start ∷ []) gone);
      callers = λ p gone. k.processes.callers p (found-append (is_process p) w.live (start ∷ []) gone);
      hearers = k.processes.hearers;
    };
    duties = duties-fewer calls (at w given) (at (add_process start w) given) k.duties (same-fewer given w (add_process start w) refl refl refl refl);
  }

  pub add_instance-kept : (name component machine : ℕ) (w : World) → K w → suc (count_by (λ i. i.name == name) w.places.instances) ≤ times_used w name → K (add_instance name component machine w)
  add_instance-kept name component machine w k room = record {
    numbers = record {
      once = k.numbers.once;
      zero_never = k.numbers.zero_never;
      processes = k.numbers.processes;
      instances = λ n.
          let more = one-more (count_by (λ i. i.name == n) w.places.instances) (times_used w n) name n (name == n) refl
          (λ e. subst (λ m. suc (count_by (λ i. i.name == m) w.places.instances) ≤ times_used w m) e room) (k.numbers.instances n) in
          let made : Instance = record { name = name; component = component; machine = machine; state = Starting } in
          omega (arith, more, count-push (λ (i : Instance). i.name == n) w.places.instances made);
      machines = k.numbers.machines;
    };
    processes = record { holders = k.processes.holders; callers = k.processes.callers; hearers = k.processes.hearers };
    duties = duties-fewer calls (at w given) (at (add_instance name component machine w) given) k.duties (same-fewer given w (add_instance name component machine w) refl refl refl refl);
  }

  pub add_machine-kept : (name : ℕ) (w : World) → K w → suc (count_by (λ m. m == name) w.places.machines) ≤ times_used w name → K (add_machine name w)
  add_machine-kept name w k room = record {
    numbers = record {
      once = k.numbers.once;
      zero_never = k.numbers.zero_never;
      processes = k.numbers.processes;
      instances = k.numbers.instances;
      machines = λ n.
          let more = one-more (count_by (λ m. m == n) w.places.machines) (times_used w n) name n (name == n) refl
          (λ e. subst (λ m. suc (count_by (λ i. i == m) w.places.machines) ≤ times_used w m) e room) (k.numbers.machines n) in
          omega (arith, more, count-push (λ m. m == n) w.places.machines name);
    };
    processes = record { holders = k.processes.holders; callers = k.processes.callers; hearers = k.processes.hearers };
    duties = duties-fewer calls (at w given) (at (add_machine name w) given) k.duties (same-fewer given w (add_machine name w) refl refl refl refl);
  }

  pub set_state-kept : (instance : ℕ) (state : InstanceState) (w : World) → K w → K (set_state instance state w)
  set_state-kept instance state w k = record {
    numbers = record {
      once = k.numbers.once;
      zero_never = k.numbers.zero_never;
      processes = k.numbers.processes;
      instances = λ n. let e = names n w.places.instances in omega (arith, e, k.numbers.instances n);
      machines = k.numbers.machines;
    };
    processes = record { holders = k.processes.holders; callers = k.processes.callers; hearers = k.processes.hearers };
    duties = duties-fewer calls (at w given) (at (set_state instance state w) given) k.duties (same-fewer given w (set_state instance state w) refl refl refl refl);
  }
    where
      same-name : (n : ℕ) (i : Instance) (b : Bool) → ((cond b (record i { state = state }) i).name == n) ≡ (i.name == n)
      same-name n i true = refl
      same-name n i false = refl

      names : (n : ℕ) (is : List Instance) → count_by (λ i. i.name == n) (map (in_state instance state) is) ≡ count_by (λ i. i.name == n) is
      names n [] = refl
      names n (i ∷ is) =
          count-cons (λ (x : Instance). x.name == n) (in_state instance state i) (map (in_state instance state) is)
          ∙ ap (λ b. one b + count_by (λ (x : Instance). x.name == n) (map (in_state instance state) is)) (same-name n i (instance == i.name))
          ∙ ap (λ m. one (i.name == n) + m) (names n is) ∙ sym (count-cons (λ (x : Instance). x.name == n) i is)

  -- ---- who lives has a number

  pub live-used : (w : World) (process : ℕ) → K w → is_live w process ≡ true → 1 ≤ times_used w process
  live-used w process k live = omega (arith, live-counts w.live process live, k.numbers.processes process)

  pub live-not-zero : (w : World) (process : ℕ) → K w → is_live w process ≡ true → (process == 0) ≡ false
  live-not-zero w process k live = by (process == 0) refl
    where
      by : (b : Bool) → (process == 0) ≡ b → b ≡ false
      by true is =
          let none : times_used w process ≡ 0 = subst (λ n. times_used w n ≡ 0) (sym (eqb-true process 0 is)) k.numbers.zero_never in
          absurd (omega (arith, live-used w process k live, none))
      by false is = refl

  -- ---- what comes to stand somewhere

  pub add_pending-kept : (w : World) (name op : ℕ) (owner : Owner) (args : List Value) (duty : Duty) → K w → InHand calls (at w given) duty
      → IsFresh name (at w given) → 1 ≤ times_used w name → K (add_pending (record { id = name; op = op; owner = owner; args = args; back = duty.back; back_id = duty.back_id }) w)
  add_pending-kept w name op owner args duty k hand fresh used = record {
    numbers = record { once = k.numbers.once; zero_never = k.numbers.zero_never; processes = k.numbers.processes; instances = k.numbers.instances; machines = k.numbers.machines };
    processes = record { holders = k.processes.holders; callers = k.processes.callers; hearers = k.processes.hearers };
    duties = duties-gained calls (at w given) (at (add_pending p w) given) k.duties Waiting (λ tests. tests.pending p) (add_pending-gains given p w) clear (not-astray calls duty.back duty.back_id hand.known);
  }
    where
      p : Pending
      p = record { id = name; op = op; owner = owner; args = args; back = duty.back; back_id = duty.back_id }

      clear : (thing : Thing) → (tests_of thing).pending p ≡ true → IsClear thing (at w given) × (1 ≤ times_used w (number_of thing))
      clear (DutyOf id) is =
          let real = duty-marked id duty.back duty.back_id is in
          (subst (λ n. IsClear (DutyOf n) (at w given)) real.1 (hand.clear real.0), subst (λ n. 1 ≤ times_used w n) real.1 (hand.used real.0))
      clear (OpenInvocation id) is = (fresh (OpenInvocation id) (sym (eqb-true name id is)), subst (λ n. 1 ≤ times_used w n) (eqb-true name id is) used)
      clear (ServiceOf id) is = (fresh (ServiceOf id) (sym (eqb-true name id is)), subst (λ n. 1 ≤ times_used w n) (eqb-true name id is) used)

  -- not the one that lives
  other-one : (w : World) (process q : ℕ) → is_live w process ≡ true → is_live w q ≡ false → (process == q) ≡ false
  other-one w process q live gone = by (process == q) refl
    where
      by : (b : Bool) → (process == q) ≡ b → b ≡ false
      by true is = absurd (true≢false (sym live ∙ ap (is_live w) (eqb-true process q is) ∙ gone))
      by false is = refl

  pub hold-kept : (w : World) (process id : ℕ) (duty : Duty) → K w → is_live w process ≡ true → InHand calls (at w given) duty
      → IsClear (OpenInvocation id) (at w given) → 1 ≤ times_used w id → K (hold process (held_of id duty) w)
  hold-kept w process id duty k live hand unheld used = record {
    numbers = record { once = k.numbers.once; zero_never = k.numbers.zero_never; processes = k.numbers.processes; instances = k.numbers.instances; machines = k.numbers.machines };
    processes = record {
      holders = λ q gone. empty-with_item w.held process q (held_of id duty) (other-one w process q live gone) (k.processes.holders q gone);
      callers = k.processes.callers;
      hearers = k.processes.hearers;
    };
    duties = duties-gained calls (at w given) (at (hold process (held_of id duty) w) given) k.duties (HeldBy process) (λ tests. tests.held (held_of id duty))
        (hold-gains given process (held_of id duty) w) clear (not-astray calls duty.back duty.back_id hand.known);
  }
    where
      clear : (thing : Thing) → (tests_of thing).held (held_of id duty) ≡ true → IsClear thing (at w given) × (1 ≤ times_used w (number_of thing))
      clear (DutyOf n) is =
          let real = duty-marked n duty.back duty.back_id is in
          (subst (λ m. IsClear (DutyOf m) (at w given)) real.1 (hand.clear real.0), subst (λ m. 1 ≤ times_used w m) real.1 (hand.used real.0))
      clear (OpenInvocation n) is = (subst (λ m. IsClear (OpenInvocation m) (at w given)) (eqb-true id n is) unheld, subst (λ m. 1 ≤ times_used w m) (eqb-true id n is) used)
      clear (ServiceOf n) is = absurd (true≢false (sym is))

  pub add_reply-kept : (w : World) (process id : ℕ) (results : Option (List Value)) → K w → is_live w process ≡ true → InHand calls (at w given) (record { back = process; back_id = id })
      → K (add_reply process (record { id = id; results = results }) w)
  add_reply-kept w process id results k live hand = record {
    numbers = record { once = k.numbers.once; zero_never = k.numbers.zero_never; processes = k.numbers.processes; instances = k.numbers.instances; machines = k.numbers.machines };
    processes = record {
      holders = k.processes.holders;
      callers = λ q gone. empty-with_item w.replies process q reply (other-one w process q live gone) (k.processes.callers q gone);
      hearers = k.processes.hearers;
    };
    duties = duties-gained calls (at w given) (at (add_reply process reply w) given) k.duties (RepliedTo process) (λ tests. tests.reply process reply)
        (add_reply-gains given process reply w) clear (ap not (hand.known (live-not-zero w process k live)));
  }
    where
      reply : Reply
      reply = record { id = id; results = results }

      clear : (thing : Thing) → (tests_of thing).reply process reply ≡ true → IsClear thing (at w given) × (1 ≤ times_used w (number_of thing))
      clear (DutyOf n) is =
          let some = live-not-zero w process k live in
          (subst (λ m. IsClear (DutyOf m) (at w given)) (eqb-true id n is) (hand.clear some), subst (λ m. 1 ≤ times_used w m) (eqb-true id n is) (hand.used some))
      clear (OpenInvocation n) is = absurd (true≢false (sym is))
      clear (ServiceOf n) is = absurd (true≢false (sym is))

  -- a caller that lives gets its reply, and one that has ended nothing
  pub answered-kept : (w : World) (duty : Duty) (results : Option (List Value)) → K w → InHand calls (at w given) duty → K (answered duty results w)
  answered-kept w duty results k hand = by (is_live w duty.back) refl
    where
      by : (b : Bool) → is_live w duty.back ≡ b → K (cond b (add_reply duty.back (record { id = duty.back_id; results = results }) w) w)
      by true live = add_reply-kept w duty.back duty.back_id results k live hand
      by false live = k

  -- ---- what is taken away

  pub end_process-kept : (process : ℕ) (w : World) → K w → K (end_process process w)
  end_process-kept process w k = record {
    numbers = record {
      once = k.numbers.once;
      zero_never = k.numbers.zero_never;
      processes = λ n. omega (arith, k.numbers.processes n, count-filter (λ s. s.process == n) (λ s. not (is_process process s)) w.live);
      instances = k.numbers.instances;
      machines = k.numbers.machines;
    };
    processes = record {
      holders = λ q gone. none w.held q (process == q) refl gone (k.processes.holders q);
      callers = λ q gone. none w.replies q (process == q) refl gone (k.processes.callers q);
      hearers = k.processes.hearers;
    };
    duties = duties-fewer calls (at w given) (at (end_process process w) given) k.duties (end_process-fewer given process w);
  }
    where
      none : {A : Type 0} (all : ByProcess (List A)) (q : ℕ) (b : Bool) → (process == q) ≡ b → is_live (end_process process w) q ≡ false → (is_live w q ≡ false → items_of all q ≡ [])
          → items_of (fin.remove all process) q ≡ []
      none all q true is gone had = removed-at all process q is
      none all q false is gone had = empty-removed all process q (had (live-without w.live process q is gone))

  pub end_all-kept : (w : World) → K w → K (end_all w)
  end_all-kept w k = record {
    numbers = record { once = k.numbers.once; zero_never = k.numbers.zero_never; processes = λ n. omega arith; instances = k.numbers.instances; machines = k.numbers.machines };
    processes = record { holders = λ q gone. items-empty {A = Held} q; callers = λ q gone. items-empty {A = Reply} q; hearers = k.processes.hearers };
    duties = duties-fewer calls (at w given) (at (end_all w) given) k.duties (end_all-fewer given w);
  }

  pub release-kept : (process id : ℕ) (w : World) → K w → K (release process id w)
  release-kept process id w k = record {
    numbers = record { once = k.numbers.once; zero_never = k.numbers.zero_never; processes = k.numbers.processes; instances = k.numbers.instances; machines = k.numbers.machines };
    processes = record {
      holders = λ q gone. empty-without (is_held_as id) w.held process q (k.processes.holders q gone);
      callers = k.processes.callers;
      hearers = k.processes.hearers;
    };
    duties = duties-fewer calls (at w given) (at (release process id w) given) k.duties (release-fewer given process id w);
  }

  pub drop_reply-kept : (process : ℕ) (ids : List ℕ) (w : World) → K w → K (drop_reply process ids w)
  drop_reply-kept process ids w k = record {
    numbers = record { once = k.numbers.once; zero_never = k.numbers.zero_never; processes = k.numbers.processes; instances = k.numbers.instances; machines = k.numbers.machines };
    processes = record {
      holders = k.processes.holders;
      callers = λ q gone. empty-without (answers_one ids) w.replies process q (k.processes.callers q gone);
      hearers = k.processes.hearers;
    };
    duties = duties-fewer calls (at w given) (at (drop_reply process ids w) given) k.duties (drop_reply-fewer given process ids w);
  }

  pub drop_pending-kept : (place : ℕ) (p : Pending) (w : World) → slice_get w.pending place ≡ Some p → K w → K (drop_pending place w)
  drop_pending-kept place p w is k = record {
    numbers = record { once = k.numbers.once; zero_never = k.numbers.zero_never; processes = k.numbers.processes; instances = k.numbers.instances; machines = k.numbers.machines };
    processes = record { holders = k.processes.holders; callers = k.processes.callers; hearers = k.processes.hearers };
    duties = duties-fewer calls (at w given) (at (drop_pending place w) given) k.duties (drop_pending-fewer given place p w is);
  }
