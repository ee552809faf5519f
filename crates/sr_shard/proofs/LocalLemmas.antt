-- Each act is on its part alone.
use Rattle.std.proofs.Common.{◌≡◌, ℕ, ◌==◌, ◌<◌, ◌+◌, Bool, true, false, not, List, [], ◌∷◌, ◌++◌, Option, Some, Result, Ok, Err, refl, ap, sym, ◌∙◌, subst, cond, arith, eqb-true, true≢false}
use Rattle.std.proofs.lemmas.Bool.{eq-eqb}
use Rattle.std.specs.FinMap as map
use Rattle.std.specs.Option.{option_map}
use Rattle.std.specs.Prelude.{◌↔◌, filter, find, is_some, unwrap_or}
use Rattle.sr_ask.specs.declared.ask.Role.TheVariants.{Proc as proc_role}
use Rattle.sr_ask.specs.declared.start.Start.{Start}
use Rattle.sr_calls.specs.Calls.{ByProcess, answers_one, held_as, is_held_as, items_of, without_first}
use Rattle.sr_calls.specs.declared.held.Held.{Held}
use Rattle.sr_calls.specs.declared.held.Reply.{Reply}
use Rattle.sr_ask.specs.declared.entry.Seen.{Seen}
use Rattle.sr_core.specs.declared.component.Core.{Core}
use Rattle.sr_core.specs.declared.owner.Me.{Me}
use Rattle.sr_core.specs.declared.site.Site.{Site}
use Rattle.sr_orders.specs.Acts.{AreLocal}
use Rattle.sr_orders.proofs.ListLemmas.{filters_turned}
use Rattle.sr_processes.specs.Living.{is_process, start_of, without_process}
use Rattle.sr_queue.specs.Queues.{is_of, waiting}
use Rattle.sr_queue.specs.declared.pending.Pending.{Pending}
use Rattle.sr_select.specs.Choices.{choice, owner_in}
use Rattle.sr_select.specs.Laws.{Chosen, Services_it, Runs_else, chosen_in, is_in_class}
use Rattle.sr_select.specs.Readings.{Reading}
use Rattle.sr_select.specs.Worlds.{listed}
use Rattle.sr_select.proofs.LawProofs.{one-class-decides}
use Rattle.sr_store.specs.Variables.{ByNumber, Variables, block_of, block_loaded, block_stored, declared_in, with_block, with_variable}
use Rattle.sr_store.specs.declared.variable.Variable.{Variable}
use Rattle.sr_buckets.specs.Parts.{home}
use Rattle.sr_touch.specs.Homes.{line_home, owner_number}
use Rattle.sr_value.specs.declared.capability.Owner.{Owner}
use Rattle.sr_value.specs.declared.capability.Owner.TheVariants.{Inst, Proc}
use Rattle.sr_value.specs.declared.fault.Fault.{Fault}
use Rattle.sr_value.specs.declared.shape.Shape.{Shape}
use Rattle.sr_value.specs.declared.value.Value.{Value}
use Rattle.sr_value.specs.Operators.{owner_eq}
use Rattle.sr_value.specs.Parts.{with_ok}
use Rattle.sr_value.specs.Shapes.{default_value}
use Rattle.sr_world.specs.Answering.{answer, duty_of, no_duty}
use Rattle.sr_world.specs.Making.{start_in}
use Rattle.sr_world.specs.Updates.{add_reply, end_process}
use Rattle.sr_world.specs.Worlds.{World, is_live}
use Rattle.sr_world.specs.declared.duty.Duty.{Duty}
use Rattle.sr_shard.specs.Acts.{Act, Answers, Begins, Comes, Counts, Declares, Finds, Fits, Frees, Goes, HasCome, Holds, IsDone, Lives, Never, Owes, Passes, RunsIn, Sees, Serves, StandsInLine, Stores, Takes, apply, is_it, or_same, part, Chooses}
use Rattle.sr_shard.specs.Masks.{mask}
use Rattle.sr_shard.proofs.ListLemmas.{and_parts, count_within, filter_in, filter_out, filter_within, find_within, without_away, without_here}
use Rattle.sr_shard.proofs.MapLemmas.{changed_here, get_here, insert_away, insert_here, items_here, remove_away, remove_here, with_away}

at_home : (n : ℕ) → (n == n) ≡ true
at_home n = eq-eqb n n refl

same_fact : {P Q : Type 0} → P ≡ Q → P ↔ Q
same_fact {P} e = subst (λ Q. P ↔ Q) e (λ p. p, λ p. p)

-- ---- who lives

own_process : (process : ℕ) (start : Start) → is_process process start ≡ true → (home start.process == home process) ≡ true
own_process process start is = ap (λ n. home n == home process) (sym (eqb-true process start.process is)) ∙ at_home (home process)

started_here : (class : ℕ → ℕ) (process : ℕ) (w : World) → start_of (mask class (home process) w).live process ≡ start_of w.live process
started_here class process w = find_within (is_process process) (λ start. home start.process == home process) (own_process process) w.live

lives_here : (class : ℕ → ℕ) (process : ℕ) (w : World) → is_live (mask class (home process) w) process ≡ is_live w process
lives_here class process w = ap is_some (started_here class process w)

other_process : (s process : ℕ) → (home process == s) ≡ false → (start : Start) → (home start.process == s) ≡ true → not (is_process process start) ≡ true
other_process s process off start at = by (is_process process start) refl
  where
    by : (b : Bool) → is_process process start ≡ b → not b ≡ true
    by true is = absurd (true≢false (sym at ∙ ap (λ n. home n == s) (sym (eqb-true process start.process is)) ∙ off))
    by false is = refl

-- ---- pending invocations

same_owner : (a b : Owner) → owner_eq a b ≡ true → a ≡ b
same_owner (Inst m) (Inst n) is = ap Inst (eqb-true m n is)
same_owner (Inst m) (Proc n) is = absurd (true≢false (sym is))
same_owner (Proc m) (Inst n) is = absurd (true≢false (sym is))
same_owner (Proc m) (Proc n) is = ap Proc (eqb-true m n is)

own_line : (class : ℕ → ℕ) (owner : Owner) (op : ℕ) (p : Pending) → is_of owner op p ≡ true → (line_home class p.owner p.op == line_home class owner op) ≡ true
own_line class owner op p is =
    let parts = and_parts (p.op == op) (owner_eq p.owner owner) is in
    ap (λ (o : Owner). line_home class o p.op == line_home class owner op) (same_owner p.owner owner parts.1)
    ∙ ap (λ n. line_home class owner n == line_home class owner op) (eqb-true p.op op parts.0) ∙ at_home (line_home class owner op)

waiting_here : (class : ℕ → ℕ) (owner : Owner) (op : ℕ) (w : World) → waiting owner op (mask class (line_home class owner op) w).pending ≡ waiting owner op w.pending
waiting_here class owner op w = count_within (is_of owner op) (λ p. line_home class p.owner p.op == line_home class owner op) (own_line class owner op) w.pending

-- those of a class of an owner stand in one line
in_line : (class : ℕ → ℕ) (owner : Owner) (op : ℕ) (p : Pending) → is_in_class owner (λ n. class n == class op) p ≡ true → (line_home class p.owner p.op == line_home class owner op) ≡ true
in_line class owner op p is =
    let parts = and_parts (class p.op == class op) (owner_eq p.owner owner) is in
    ap (λ (o : Owner). line_home class o p.op == line_home class owner op) (same_owner p.owner owner parts.1)
    ∙ ap (λ n. home (owner_number owner + 1 + n) == line_home class owner op) (eqb-true (class p.op) (class op) parts.0) ∙ at_home (line_home class owner op)

-- the choice among the invocations of a line is that among all
chosen_here : (class : ℕ → ℕ) (site : Site) (me : Me) (env : List Value) (op : ℕ) (reading : Reading) (items : List Pending) → StandsInLine class op site
    → chosen_in (filter (λ p. line_home class p.owner p.op == line_home class (owner_in site.scope me) op) items)
    (choice reading site me env (filter (λ p. line_home class p.owner p.op == line_home class (owner_in site.scope me) op) items))
    ≡ chosen_in items (choice reading site me env items)
chosen_here class site me env op reading items stands =
    let line : Pending → Bool = λ p. line_home class p.owner p.op == line_home class (owner_in site.scope me) op in
    one-class-decides reading reading site me env (filter line items) items (λ n. class n == class op) stands.0
    (filter_within (is_in_class (owner_in site.scope me) (λ n. class n == class op)) line (in_line class (owner_in site.scope me) op) items)
    (listed site) stands.1 (record { cells = λ home var block path listed at. refl; counts = λ n listed. refl; literals = refl })

chooses_here : (core : Core) (class : ℕ → ℕ) (site : Site) (me : Me) (env : List Value) (op : ℕ) (seen : List Seen) (chosen : Chosen) (items : List Pending) → StandsInLine class op site
    → Chooses core me site env seen chosen (filter (λ p. line_home class p.owner p.op == line_home class (owner_in site.scope me) op) items) ↔ Chooses core me site env seen chosen items
chooses_here core class site me env op seen chosen items stands = (
  λ h reading names shows. sym (chosen_here class site me env op reading items stands) ∙ h reading names shows,
  λ h reading names shows. chosen_here class site me env op reading items stands ∙ h reading names shows,
)

-- ---- variables

module _ (s : ℕ) where
  abbrev in_block : ℕ → Bool
  in_block block = home block == s

  abbrev variables_in : Variables → Variables
  variables_in all = map.retain_keys all in_block

  block_here : (all : Variables) (block : ℕ) → (home block == s) ≡ true → block_of (variables_in all) block ≡ block_of all block
  block_here all block at = ap (λ o. unwrap_or o map.empty) (get_here in_block all block at)

  with_block_here : (all : Variables) (block : ℕ) (held : ByNumber Variable) → (home block == s) ≡ true → variables_in (with_block all block held) ≡ with_block (variables_in all) block held
  with_block_here all block held at = by (map.len held == 0)
    where
      by : (b : Bool) → variables_in (cond b (map.remove all block) (map.insert all block held)) ≡ cond b (map.remove (variables_in all) block) (map.insert (variables_in all) block held)
      by true = remove_here in_block all block at
      by false = insert_here in_block all block held at

  with_block_away : (all : Variables) (block : ℕ) (held : ByNumber Variable) → (home block == s) ≡ false → variables_in (with_block all block held) ≡ variables_in all
  with_block_away all block held off = by (map.len held == 0)
    where
      by : (b : Bool) → variables_in (cond b (map.remove all block) (map.insert all block held)) ≡ variables_in all
      by true = remove_away in_block all block off
      by false = insert_away in_block all block held off

  -- a block that changes by what it was, or a fault
  abbrev changed : Variables → ℕ → Result (ByNumber Variable) Fault → Result Variables Fault
  changed all block o = with_ok o (λ held. Ok (with_block all block held))

  changed_block : (all : Variables) (block : ℕ) (o : Result (ByNumber Variable) Fault) → (home block == s) ≡ true
      → variables_in (or_same all (changed all block o)) ≡ or_same (variables_in all) (changed (variables_in all) block o)
  changed_block all block (Ok held) at = with_block_here all block held at
  changed_block all block (Err fault) at = refl

  changed_away : (all : Variables) (block : ℕ) (o : Result (ByNumber Variable) Fault) → (home block == s) ≡ false → variables_in (or_same all (changed all block o)) ≡ variables_in all
  changed_away all block (Ok held) off = with_block_away all block held off
  changed_away all block (Err fault) off = refl

  done_both : (one other : Variables) (block : ℕ) (o : Result (ByNumber Variable) Fault) → IsDone (changed one block o) ↔ IsDone (changed other block o)
  done_both one other block (Ok held) = (λ h. h, λ h. h)
  done_both one other block (Err fault) = (λ h. h, λ h. h)

  -- a declaration as a change of its block
  abbrev declared : ByNumber Variable → ℕ → Shape → Result Value Fault → Result (ByNumber Variable) Fault
  declared held var shape default = with_ok default (λ value. Ok (map.insert held var (record { shape = shape; value = value })))

  as_change : (all : Variables) (block var : ℕ) (shape : Shape) → declared_in all block var shape ≡ changed all block (declared (block_of all block) var shape (default_value shape))
  as_change all block var shape = by (default_value shape)
    where
      by : (default : Result Value Fault)
          → with_ok default (λ value. Ok (with_variable all block var (record { shape = shape; value = value }))) ≡ changed all block (declared (block_of all block) var shape default)
      by (Ok value) = refl
      by (Err fault) = refl

  -- a change of a block by what it was, here and in the part
  change_here : (f : ByNumber Variable → Result (ByNumber Variable) Fault) (all : Variables) (block : ℕ) → (home block == s) ≡ true
      → variables_in (or_same all (changed all block (f (block_of all block)))) ≡ or_same (variables_in all) (changed (variables_in all) block (f (block_of (variables_in all) block)))
  change_here f all block at =
      changed_block all block (f (block_of all block)) at ∙ ap (λ held. or_same (variables_in all) (changed (variables_in all) block (f held))) (sym (block_here all block at))

  change_fits : (f : ByNumber Variable → Result (ByNumber Variable) Fault) (all : Variables) (block : ℕ) → (home block == s) ≡ true
      → IsDone (changed (variables_in all) block (f (block_of (variables_in all) block))) ↔ IsDone (changed all block (f (block_of all block)))
  change_fits f all block at =
      subst (λ held. IsDone (changed (variables_in all) block (f held)) ↔ IsDone (changed all block (f (block_of all block)))) (sym (block_here all block at))
      (done_both (variables_in all) all block (f (block_of all block)))

-- ---- an act fits in its part where it fits

module _ (core : Core) (class : ℕ → ℕ) where
  held_here : (process id : ℕ) (w : World) → held_as (mask class (home process) w).held process id ≡ held_as w.held process id
  held_here process id w = ap (find (is_held_as id)) (items_here (λ n. home n == home process) w.held process (at_home (home process)))

  declares_fits : (block var : ℕ) (shape : Shape) (w : World) → Fits core class (Declares block var shape) (mask class (home block) w) ↔ Fits core class (Declares block var shape) w
  declares_fits block var shape w =
      subst (λ r. IsDone (declared_in (variables_in (home block) w.variables) block var shape) ↔ IsDone r) (sym (as_change (home block) w.variables block var shape))
      (subst (λ r. IsDone r ↔ IsDone (changed (home block) w.variables block (declared (home block) (block_of w.variables block) var shape (default_value shape))))
      (sym (as_change (home block) (variables_in (home block) w.variables) block var shape))
      (change_fits (home block) (λ held. declared (home block) held var shape (default_value shape)) w.variables block (at_home (home block))))

  serves_fits : (me : Me) (site : Site) (env : List Value) (seen : List Seen) (invocation : Pending) (arm : ℕ) (w : World)
      → Fits core class (Serves me site env seen invocation arm) (mask class (line_home class invocation.owner invocation.op) w) ↔ Fits core class (Serves me site env seen invocation arm) w
  serves_fits me site env seen invocation arm w =
      let chosen : Chosen = Services_it (Some invocation) arm in (
        λ h. (
          h.0,
          h.1,
          (chooses_here core class site me env invocation.op seen chosen w.pending h.1).0
              (subst (λ owner. Chooses core me site env seen chosen (filter (λ p. line_home class p.owner p.op == line_home class owner invocation.op) w.pending)) h.0 h.2),
        ),
        λ h. (
          h.0,
          h.1,
          subst (λ owner. Chooses core me site env seen chosen (filter (λ p. line_home class p.owner p.op == line_home class owner invocation.op) w.pending)) (sym h.0)
              ((chooses_here core class site me env invocation.op seen chosen w.pending h.1).1 h.2),
        ),
      )

  passes_fits : (me : Me) (site : Site) (env : List Value) (seen : List Seen) (op : ℕ) (w : World)
      → Fits core class (Passes me site env seen op) (mask class (line_home class (owner_in site.scope me) op) w) ↔ Fits core class (Passes me site env seen op) w
  passes_fits me site env seen op w =
      (λ h. (h.0, (chooses_here core class site me env op seen Runs_else w.pending h.0).0 h.1), λ h. (h.0, (chooses_here core class site me env op seen Runs_else w.pending h.0).1 h.1))

  pub here_fits : (act : Act) (w : World) → Fits core class act (mask class (part class act) w) ↔ Fits core class act w
  here_fits (Lives process) w = same_fact (ap (λ b. b ≡ true) (lives_here class process w))
  here_fits (RunsIn process instance) w = same_fact (ap (λ o. unwrap_or (option_map (λ start. start.instance) o) 0 ≡ instance) (started_here class process w))
  here_fits (Finds process instance) w = (λ h. h, λ h. h)
  here_fits (HasCome process until) w = (λ h. h, λ h. h)
  here_fits (Declares block var shape) w = declares_fits block var shape w
  here_fits (Sees block var path value) w = same_fact (ap (λ held. block_loaded held var path ≡ Ok value) (block_here (home block) w.variables block (at_home (home block))))
  here_fits (Stores block var path value) w = change_fits (home block) (λ held. block_stored held var path value) w.variables block (at_home (home block))
  here_fits (Counts owner op count) w = same_fact (ap (λ n. n ≡ count) (waiting_here class owner op w))
  here_fits (Comes pending) w = (λ h. h, λ h. h)
  here_fits (Holds process held) w = (λ h. h, λ h. h)
  here_fits (Owes process id duty) w = same_fact (ap (λ o. unwrap_or (option_map duty_of o) (no_duty id) ≡ duty) (held_here process id w))
  here_fits (Frees process id) w = (λ h. h, λ h. h)
  here_fits (Answers duty results) w = (λ h. h, λ h. h)
  here_fits (Takes process ids reply) w = same_fact (ap (λ items. find (answers_one ids) items ≡ Some reply) (items_here (λ n. home n == home process) w.replies process (at_home (home process))))
  here_fits (Begins process instance proc args back) w = (λ h. h, λ h. h)
  here_fits (Goes process) w = (λ h. h, λ h. h)
  here_fits (Serves me site env seen invocation arm) w = serves_fits me site env seen invocation arm w
  here_fits (Passes me site env seen op) w = passes_fits me site env seen op w
  here_fits (Never process) w = (λ h. h, λ h. h)

  -- ---- its part changes as the world does

  answer_here : (duty : Duty) (results : Option (List Value)) (w : World) (b : Bool) → is_live w duty.back ≡ b
      → mask class (home duty.back) (cond b (add_reply duty.back (record { id = duty.back_id; results = results }) w) w) ≡ answer duty results (mask class (home duty.back) w)
  answer_here duty results w true is =
      let reply : Reply = record { id = duty.back_id; results = results } in
      let s : ℕ = home duty.back in
      ap (λ (m : ByProcess (List Reply)). record (mask class s w) { replies = m })
      (changed_here (λ n. home n == s) (λ items. items ++ reply ∷ []) w.replies duty.back (at_home s))
      ∙ ap (λ b. cond b (add_reply duty.back reply (mask class s w)) (mask class s w)) (sym (lives_here class duty.back w ∙ is))
  answer_here duty results w false is =
      let reply : Reply = record { id = duty.back_id; results = results } in
      let s : ℕ = home duty.back in
      ap (λ b. cond b (add_reply duty.back reply (mask class s w)) (mask class s w)) (sym (lives_here class duty.back w ∙ is))

  it_in_line : (invocation p : Pending) → is_it invocation p ≡ true → (line_home class p.owner p.op == line_home class invocation.owner invocation.op) ≡ true
  it_in_line invocation p is = own_line class invocation.owner invocation.op p (and_parts (p.id == invocation.id) (is_of invocation.owner invocation.op p) is).1

  it_elsewhere : (s : ℕ) (invocation : Pending) → (line_home class invocation.owner invocation.op == s) ≡ false → (p : Pending) → is_it invocation p ≡ true → (line_home class p.owner p.op == s) ≡ false
  it_elsewhere s invocation off p is =
      ap (λ n. n == s) (eqb-true (line_home class p.owner p.op) (line_home class invocation.owner invocation.op) (it_in_line invocation p is)) ∙ off

  abbrev with_held : ℕ → World → ByProcess (List Held) → World
  with_held s w m = record (mask class s w) { held = m }

  pub here : (act : Act) (w : World) → mask class (part class act) (apply core act w) ≡ apply core act (mask class (part class act) w)
  here (Lives process) w = refl
  here (RunsIn process instance) w = refl
  here (Finds process instance) w = refl
  here (HasCome process until) w = refl
  here (Declares block var shape) w =
      let s : ℕ = home block in
      ap (λ (all : Variables). record (mask class s w) { variables = all })
      (ap (λ r. variables_in s (or_same w.variables r)) (as_change s w.variables block var shape)
      ∙ change_here s (λ held. declared s held var shape (default_value shape)) w.variables block (at_home s)
      ∙ ap (or_same (variables_in s w.variables)) (sym (as_change s (variables_in s w.variables) block var shape)))
  here (Sees block var path value) w = refl
  here (Stores block var path value) w =
      let s : ℕ = home block in
      ap (λ (all : Variables). record (mask class s w) { variables = all }) (change_here s (λ held. block_stored held var path value) w.variables block (at_home s))
  here (Counts owner op count) w = refl
  here (Comes pending) w =
      let s : ℕ = line_home class pending.owner pending.op in
      ap (λ (ps : List Pending). record (mask class s w) { pending = ps }) (filter_in (λ p. line_home class p.owner p.op == s) w.pending pending (at_home s))
  here (Holds process held) w =
      let s : ℕ = home process in ap (with_held s w) (changed_here (λ n. home n == s) (λ items. items ++ held ∷ []) w.held process (at_home s))
  here (Owes process id duty) w = refl
  here (Frees process id) w =
      let s : ℕ = home process in ap (with_held s w) (changed_here (λ n. home n == s) (without_first (is_held_as id)) w.held process (at_home s))
  here (Answers duty results) w = answer_here duty results w (is_live w duty.back) refl
  here (Takes process ids reply) w =
      let s : ℕ = home process in
      ap (λ (m : ByProcess (List Reply)). record (mask class s w) { replies = m }) (changed_here (λ n. home n == s) (without_first (answers_one ids)) w.replies process (at_home s))
  here (Begins process instance proc args back) w =
      let s : ℕ = home process in
      ap (λ (ps : List Start). record (mask class s w) { live = ps }) (filter_in (λ start. home start.process == s) w.live (start_in core w process instance proc_role proc args back) (at_home s))
  here (Goes process) w =
      let s : ℕ = home process in
      let gone : World = end_process process w in
      ap (λ (starts : List Start). record (mask class s gone) { live = starts }) (filters_turned (λ start. home start.process == s) (λ start. not (is_process process start)) w.live)
      ∙ ap (λ (m : ByProcess (List Held)). record (mask class s gone) { live = without_process (mask class s w).live process; held = m }) (remove_here (λ n. home n == s) w.held process (at_home s))
      ∙ ap (λ (m : ByProcess (List Reply)). record (end_process process (mask class s w)) { replies = m }) (remove_here (λ n. home n == s) w.replies process (at_home s))
  here (Serves me site env seen invocation arm) w =
      let s : ℕ = line_home class invocation.owner invocation.op in
      ap (λ (ps : List Pending). record (mask class s w) { pending = ps }) (without_here (is_it invocation) (λ p. line_home class p.owner p.op == s) (it_in_line invocation) w.pending)
  here (Passes me site env seen op) w = refl
  here (Never process) w = refl

  -- ---- no other part changes

  answer_away : (s : ℕ) (duty : Duty) (results : Option (List Value)) (w : World) (b : Bool) → (home duty.back == s) ≡ false
      → mask class s (cond b (add_reply duty.back (record { id = duty.back_id; results = results }) w) w) ≡ mask class s w
  answer_away s duty results w true off =
      let reply : Reply = record { id = duty.back_id; results = results } in
      ap (λ (m : ByProcess (List Reply)). record (mask class s w) { replies = m }) (with_away (λ n. home n == s) w.replies duty.back (items_of w.replies duty.back ++ reply ∷ []) off)
  answer_away s duty results w false off = refl

  pub away : (s : ℕ) (act : Act) (w : World) → (part class act == s) ≡ false → mask class s (apply core act w) ≡ mask class s w
  away s (Lives process) w off = refl
  away s (RunsIn process instance) w off = refl
  away s (Finds process instance) w off = refl
  away s (HasCome process until) w off = refl
  away s (Declares block var shape) w off =
      ap (λ (all : Variables). record (mask class s w) { variables = all })
      (ap (λ r. variables_in s (or_same w.variables r)) (as_change s w.variables block var shape)
      ∙ changed_away s w.variables block (declared s (block_of w.variables block) var shape (default_value shape)) off)
  away s (Sees block var path value) w off = refl
  away s (Stores block var path value) w off =
      ap (λ (all : Variables). record (mask class s w) { variables = all }) (changed_away s w.variables block (block_stored (block_of w.variables block) var path value) off)
  away s (Counts owner op count) w off = refl
  away s (Comes pending) w off =
      ap (λ (ps : List Pending). record (mask class s w) { pending = ps }) (filter_out (λ p. line_home class p.owner p.op == s) w.pending pending off)
  away s (Holds process held) w off = ap (with_held s w) (with_away (λ n. home n == s) w.held process (items_of w.held process ++ held ∷ []) off)
  away s (Owes process id duty) w off = refl
  away s (Frees process id) w off = ap (with_held s w) (with_away (λ n. home n == s) w.held process (without_first (is_held_as id) (items_of w.held process)) off)
  away s (Answers duty results) w off = answer_away s duty results w (is_live w duty.back) off
  away s (Takes process ids reply) w off =
      ap (λ (m : ByProcess (List Reply)). record (mask class s w) { replies = m }) (with_away (λ n. home n == s) w.replies process (without_first (answers_one ids) (items_of w.replies process)) off)
  away s (Begins process instance proc args back) w off =
      ap (λ (ps : List Start). record (mask class s w) { live = ps }) (filter_out (λ start. home start.process == s) w.live (start_in core w process instance proc_role proc args back) off)
  away s (Goes process) w off =
      ap (λ (starts : List Start). record (mask class s (end_process process w)) { live = starts })
      (filter_within (λ start. home start.process == s) (λ start. not (is_process process start)) (other_process s process off) w.live)
      ∙ ap (λ (m : ByProcess (List Held)). record (mask class s (end_process process w)) { live = (mask class s w).live; held = m }) (remove_away (λ n. home n == s) w.held process off)
      ∙ ap (λ (m : ByProcess (List Reply)). record (mask class s w) { replies = m }) (remove_away (λ n. home n == s) w.replies process off)
  away s (Serves me site env seen invocation arm) w off =
      ap (λ (ps : List Pending). record (mask class s w) { pending = ps }) (without_away (is_it invocation) (λ p. line_home class p.owner p.op == s) (it_elsewhere s invocation off) w.pending)
  away s (Passes me site env seen op) w off = refl
  away s (Never process) w off = refl

  -- ---- and each part is one of 32

  home_below : (n : ℕ) → home n < 32
  home_below n = omega arith

  pub below : (act : Act) → part class act < 32
  below (Lives process) = home_below process
  below (RunsIn process instance) = home_below process
  below (Finds process instance) = home_below process
  below (HasCome process until) = home_below process
  below (Declares block var shape) = home_below block
  below (Sees block var path value) = home_below block
  below (Stores block var path value) = home_below block
  below (Counts owner op count) = omega arith
  below (Comes pending) = omega arith
  below (Holds process held) = home_below process
  below (Owes process id duty) = home_below process
  below (Frees process id) = home_below process
  below (Answers duty results) = home_below duty.back
  below (Takes process ids reply) = home_below process
  below (Begins process instance proc args back) = home_below process
  below (Goes process) = home_below process
  below (Serves me site env seen invocation arm) = omega arith
  below (Passes me site env seen op) = omega arith
  below (Never process) = home_below process

  pub acts_are_local : AreLocal 32 (part class) (mask class) (Fits core class) (apply core)
  acts_are_local = record { here_fits = here_fits; here = here; away = away; below = below }
