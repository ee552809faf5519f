-- The acts of an entry are on the parts that its request touches.
use Rattle.std.proofs.Common.{◌≡◌, ℕ, zero, suc, ℤ, pos, negsuc, ◌==◌, ◌||◌, ◌&&◌, ◌+◌, Bool, true, false, not, List, [], ◌∷◌, ◌++◌, length, Option, None, Some, Result, Ok, Err, refl, ap, sym, ◌∙◌, subst, cond, arith, eqb-true, true≢false}
use Rattle.std.proofs.lemmas.Bool.{eq-eqb, or_right, or_left}
use Rattle.std.specs.List.{cons_option, list_all, list_any}
use Rattle.std.specs.Option.{option_map}
use Rattle.std.specs.Prelude.{Contains, filter_map, fold, nat_le, nat_lt, slice_get}
use Rattle.sr_ask.specs.declared.answer.Answer.{Answer}
use Rattle.sr_ask.specs.declared.answer.Answer.TheVariants as answer
use Rattle.sr_ask.specs.declared.ask.Role.{Role}
use Rattle.sr_ask.specs.declared.entry.Entry.{Entry}
use Rattle.sr_ask.specs.declared.entry.Seen.{Seen}
use Rattle.sr_ask.specs.declared.entry.Seen.TheVariants.{Cell, Pending as pending_count}
use Rattle.sr_ask.specs.declared.request.Request.{Request}
use Rattle.sr_ask.specs.declared.request.Request.TheVariants as request
use Rattle.sr_core.specs.declared.component.Core.{Core}
use Rattle.sr_core.specs.declared.component.Operation.{Operation}
use Rattle.sr_core.specs.declared.site.Arm.{Arm}
use Rattle.sr_core.specs.declared.site.SharedRead.{SharedRead}
use Rattle.sr_core.specs.declared.site.Site.{Site}
use Rattle.sr_queue.specs.declared.pending.Pending.{Pending}
use Rattle.sr_select.specs.Choices.{owner_in}
use Rattle.sr_select.specs.Guards.{guard_block, home_seen}
use Rattle.sr_select.specs.Worlds.{listed, reads_only}
use Rattle.sr_buckets.specs.Parts.{home}
use Rattle.sr_touch.specs.Homes.{line_home, owner_number}
use Rattle.sr_touch.specs.Orders.{in_order, with_part}
use Rattle.sr_touch.specs.Touched.{answer_parts, arrival_part, block_part, caller_parts, count_part, has_one_class, invoked_parts, is_wide_request, is_wide_site, line_parts, one_part, operation_parts, parts_beside, parts_of, read_part, select_parts, site_parts}
use Rattle.sr_value.specs.declared.capability.Cap.{Cap}
use Rattle.sr_value.specs.declared.capability.Cap.TheVariants as cap
use Rattle.sr_value.specs.declared.capability.Owner.{Owner}
use Rattle.sr_value.specs.declared.capability.Owner.TheVariants.{Inst, Proc}
use Rattle.sr_value.specs.declared.fault.Fault.{Fault}
use Rattle.sr_value.specs.declared.shape.Sel.{Sel}
use Rattle.sr_value.specs.declared.value.Value.{Value}
use Rattle.sr_world.specs.Selecting.{held_from}
use Rattle.sr_world.specs.Steps.{duty_for}
use Rattle.sr_world.specs.declared.duty.Duty.{Duty}
use Rattle.sr_shard.specs.Acts.{Act, Declares, HasCome, Holds, Never, Passes, Sees, Serves, Stores, part}
use Rattle.sr_shard.specs.Entries.{acts_of, acts_to, all_seen_first, answer_acts, arrival_acts, asked_acts, chosen_acts, counted_acts, counted_by, counted_seen, duty_in, else_acts, finish_acts, forward_acts, invoke_acts, is_block, lists_block, lists_count, loaded_acts, me_in, on_done, on_made, operation_acts, picked, picked_acts, reply_acts, seen_first, select_acts, taken_acts}
use Rattle.sr_shard.proofs.ListLemmas.{and_parts}

-- ---- parts in order

abbrev pub among : List ℕ → ℕ → Bool
among parts s = list_any (λ other. other == s) parts

itself : (s : ℕ) → (s == s) ≡ true
itself s = eq-eqb s s refl

first_among : (s : ℕ) (others : List ℕ) → among (s ∷ others) s ≡ true
first_among s others = or_left (s == s) (among others s) (itself s)

later_among : (first s : ℕ) (others : List ℕ) → among others s ≡ true → among (first ∷ others) s ≡ true
later_among first s others h = or_right (first == s) (among others s) h

among_front : (front more : List ℕ) (s : ℕ) → among front s ≡ true → among (front ++ more) s ≡ true
among_front [] more s h = absurd (true≢false (sym h))
among_front (x ∷ xs) more s h = by (x == s) h (among_front xs more s)
  where
    by : (b : Bool) → (b || among xs s) ≡ true → (among xs s ≡ true → among (xs ++ more) s ≡ true) → (b || among (xs ++ more) s) ≡ true
    by true is later = refl
    by false is later = later is

among_back : (front more : List ℕ) (s : ℕ) → among more s ≡ true → among (front ++ more) s ≡ true
among_back [] more s h = h
among_back (x ∷ xs) more s h = or_right (x == s) (among (xs ++ more) s) (among_back xs more s h)

kept : (parts : List ℕ) (more s : ℕ) → among parts s ≡ true → among (with_part parts more) s ≡ true
kept [] more s h = absurd (true≢false (sym h))
kept (x ∷ xs) more s h = by (more == x) (nat_lt more x) (kept xs more s)
  where
    last : (b : Bool) → (b || among xs s) ≡ true → (among xs s ≡ true → among (with_part xs more) s ≡ true) → (b || among (with_part xs more) s) ≡ true
    last true is later = refl
    last false is later = later is

    by : (b c : Bool) → (among xs s ≡ true → among (with_part xs more) s ≡ true) → among (cond b (x ∷ xs) (cond c (more ∷ x ∷ xs) (x ∷ with_part xs more))) s ≡ true
    by true c later = h
    by false true later = or_right (more == s) (among (x ∷ xs) s) h
    by false false later = last (x == s) h later

put : (parts : List ℕ) (more : ℕ) → among (with_part parts more) more ≡ true
put [] more = first_among more []
put (x ∷ xs) more = by (more == x) refl (nat_lt more x) (put xs more)
  where
    by : (b : Bool) → (more == x) ≡ b → (c : Bool) → among (with_part xs more) more ≡ true → among (cond b (x ∷ xs) (cond c (more ∷ x ∷ xs) (x ∷ with_part xs more))) more ≡ true
    by true is c later = or_left (x == more) (among xs more) (ap (λ n. x == n) (eqb-true more x is) ∙ itself x)
    by false is true later = first_among more (x ∷ xs)
    by false is false later = or_right (x == more) (among (with_part xs more) more) later

kept_all : (parts more : List ℕ) (s : ℕ) → among parts s ≡ true → among (fold with_part parts more) s ≡ true
kept_all parts [] s h = h
kept_all parts (x ∷ xs) s h = kept_all (with_part parts x) xs s (kept parts x s h)

put_all : (parts more : List ℕ) (s : ℕ) → among more s ≡ true → among (fold with_part parts more) s ≡ true
put_all parts [] s h = absurd (true≢false (sym h))
put_all parts (x ∷ xs) s h = by (x == s) refl h (put_all (with_part parts x) xs s)
  where
    by : (b : Bool) → (x == s) ≡ b → (b || among xs s) ≡ true → (among xs s ≡ true → among (fold with_part (with_part parts x) xs) s ≡ true) → among (fold with_part (with_part parts x) xs) s ≡ true
    by true is h later = kept_all (with_part parts x) xs s (subst (λ n. among (with_part parts x) n ≡ true) (eqb-true x s is) (put parts x))
    by false is h later = later h

pub contained : (parts : List ℕ) (s : ℕ) → among parts s ≡ true → Contains parts s
contained [] s h = absurd (true≢false (sym h))
contained (x ∷ xs) s h = by (x == s) refl h (contained xs s)
  where
    by : (b : Bool) → (x == s) ≡ b → (b || among xs s) ≡ true → (among xs s ≡ true → Contains xs s) → Contains (x ∷ xs) s
    by true is h later = (0, omega arith, eqb-true x s is)
    by false is h later = let more = later h in (suc more.0, let less = more.1 in omega arith, more.2)

-- ---- acts on these parts

module _ (core : Core) (class : ℕ → ℕ) (entry : Entry) where
  abbrev pub own : ℕ
  own = home entry.actor

  -- each act is on one of these parts or on that of the actor
  abbrev pub Covered : List ℕ → List Act → Type 0
  Covered parts [] = Unit {0}
  Covered parts (act ∷ acts) = (among (own ∷ parts) (part class act) ≡ true) × Covered parts acts

  covered_any : (parts : List ℕ) (acts : List Act) (s : ℕ) → Covered parts acts → list_any (λ act. part class act == s) acts ≡ true → among (own ∷ parts) s ≡ true
  covered_any parts [] s all h = absurd (true≢false (sym h))
  covered_any parts (act ∷ acts) s all h = by (part class act == s) refl h (covered_any parts acts s all.1)
    where
      by : (b : Bool) → (part class act == s) ≡ b → (b || list_any (λ a. part class a == s) acts) ≡ true
          → (list_any (λ a. part class a == s) acts ≡ true → among (own ∷ parts) s ≡ true) → among (own ∷ parts) s ≡ true
      by true is h later = subst (λ n. among (own ∷ parts) n ≡ true) (eqb-true (part class act) s is) all.0
      by false is h later = later h

  here : (parts : List ℕ) → among (own ∷ parts) own ≡ true
  here parts = first_among own parts

  never : (parts : List ℕ) → Covered parts (Never entry.actor ∷ [])
  never parts = (here parts, tt)

  done_covered : (parts : List ℕ) (acts : List Act) (given : Answer) → Covered parts acts → Covered parts (on_done entry acts given)
  done_covered parts acts answer.Done all = all
  done_covered parts acts _ all = never parts

  made_covered : (parts : List ℕ) (acts : List Act) (given : Answer) → Covered parts acts → Covered parts (on_made entry acts given)
  made_covered parts acts (answer.Made made) all = by (made == entry.name)
    where
      by : (b : Bool) → Covered parts (cond b acts (Never entry.actor ∷ []))
      by true = all
      by false = never parts
  made_covered parts acts _ all = never parts

  loaded_covered : (block var : ℕ) (path : List Sel) (given : Answer) → Covered (home block ∷ []) (loaded_acts entry block var path given)
  loaded_covered block var path (answer.Got value) = (later_among own (home block) (home block ∷ []) (first_among (home block) []), tt)
  loaded_covered block var path _ = never (home block ∷ [])

  taken_covered : (ids : List ℕ) (given : Answer) → Covered [] (taken_acts entry ids given)
  taken_covered ids (answer.Took id results) = (here [], tt)
  taken_covered ids _ = never []

  one_among : (n : ℕ) → among (own ∷ n ∷ []) n ≡ true
  one_among n = later_among own n (n ∷ []) (first_among n [])

  -- ---- counts

  number_covered : (op : ℕ) (number : ℤ) (operation : Option Operation) → slice_get core.operations op ≡ operation
      → Covered (one_part (count_part core class (me_in entry) op)) (counted_by entry op number operation)
  number_covered op (pos n) (Some operation) is =
      let line : ℕ = line_home class (owner_in operation.scope (me_in entry)) op in
      let parts : one_part (count_part core class (me_in entry) op) ≡ line ∷ [] = ap (λ o. one_part (option_map (λ found. line_home class (owner_in found.scope (me_in entry)) op) o)) is in
      (subst (λ ps. among (own ∷ ps) line ≡ true) (sym parts) (one_among line), tt)
  number_covered op (pos n) None is = never (one_part (count_part core class (me_in entry) op))
  number_covered op (negsuc n) operation is = never (one_part (count_part core class (me_in entry) op))

  counted_covered : (op : ℕ) (given : Answer) → Covered (one_part (count_part core class (me_in entry) op)) (counted_acts core entry op given)
  counted_covered op (answer.Number number) = number_covered op number (slice_get core.operations op) refl
  counted_covered op _ = never (one_part (count_part core class (me_in entry) op))

  -- ---- answers and invocations

  caller_covered : (back : ℕ) (duty : Duty) (results : Option (List Value)) → duty.back ≡ back → Covered (caller_parts back) (acts_to back duty results)
  caller_covered zero duty results is = tt
  caller_covered (suc n) duty results is = (subst (λ m. among (own ∷ home (suc n) ∷ []) (home m) ≡ true) (sym is) (one_among (home (suc n))), tt)

  arrival_covered : (owner : Owner) (op : ℕ) (args : List Value) (duty : Duty) (operation : Operation) (proc : Option ℕ) → operation.proc ≡ proc
      → Covered (operation_parts class entry.name owner op (Some operation)) (arrival_acts entry owner op args duty proc)
  arrival_covered (Inst instance) op args duty operation (Some proc) is =
      let at : among (own ∷ arrival_part class entry.name (Inst instance) op operation.proc ∷ []) (home entry.name) ≡ true =
      subst (λ o. among (own ∷ arrival_part class entry.name (Inst instance) op o ∷ []) (home entry.name) ≡ true) (sym is) (one_among (home entry.name)) in
      (at, (at, tt))
  arrival_covered (Proc process) op args duty operation (Some proc) is = never (operation_parts class entry.name (Proc process) op (Some operation))
  arrival_covered (Inst instance) op args duty operation None is =
      let line : ℕ = line_home class (Inst instance) op in
      (subst (λ o. among (own ∷ arrival_part class entry.name (Inst instance) op o ∷ []) line ≡ true) (sym is) (one_among line), tt)
  arrival_covered (Proc process) op args duty operation None is =
      let line : ℕ = line_home class (Proc process) op in (
        subst (λ o. among (own ∷ home process ∷ arrival_part class entry.name (Proc process) op o ∷ []) line ≡ true) (sym is)
            (later_among own line (home process ∷ line ∷ []) (later_among (home process) line (line ∷ []) (first_among line []))),
        tt,
      )

  operation_covered : (owner : Owner) (op : ℕ) (args : List Value) (duty : Duty) (operation : Option Operation)
      → Covered (operation_parts class entry.name owner op operation) (operation_acts entry owner op args duty operation)
  operation_covered owner op args duty None = never []
  operation_covered (Inst instance) op args duty (Some operation) = (here (operation_parts class entry.name (Inst instance) op (Some operation)), arrival_covered (Inst instance) op args duty operation operation.proc refl)
  operation_covered (Proc process) op args duty (Some operation) = (
    later_among own (home process) (home process ∷ arrival_part class entry.name (Proc process) op operation.proc ∷ [])
        (first_among (home process) (arrival_part class entry.name (Proc process) op operation.proc ∷ [])),
    arrival_covered (Proc process) op args duty operation operation.proc refl,
  )

  invoke_covered : (back : ℕ) (target : Cap) (args : List Value) (duty : Duty) → Covered (caller_parts back) (answer_acts duty None)
      → Covered (invoked_parts core class entry.name back target) (invoke_acts core entry target args duty)
  invoke_covered back cap.Null args duty answers = never []
  invoke_covered back cap.Noop args duty answers = answers
  invoke_covered back (cap.Op owner op) args duty answers = operation_covered owner op args duty (slice_get core.operations op)
  invoke_covered back (cap.Res instance) args duty answers = never []
  invoke_covered back (cap.Vm machine) args duty answers = never []

  call_covered : (wants : Bool) → Covered (caller_parts entry.actor) (answer_acts (duty_for wants entry.actor entry.name) None)
  call_covered true = caller_covered entry.actor (duty_for true entry.actor entry.name) None refl
  call_covered false = tt

  finish_covered : (answered : Bool) (back : ℕ) (results : List Value) → Covered (answer_parts answered back) (finish_acts entry answered back results)
  finish_covered true back results = (here [], tt)
  finish_covered false back results = (here (caller_parts back), (here (caller_parts back), caller_covered back (duty_in entry back) (Some results) refl))

  -- ---- the choice of a statement

  abbrev reads_of : Site → List Value → List SharedRead → List ℕ
  reads_of site env reads = filter_map (read_part (me_in entry) site.names env) reads

  block_among : (site : Site) (env : List Value) (block : ℕ) (reads : List SharedRead)
      → list_any (λ read. is_block block (guard_block (me_in entry) (home_seen site.names env) read.home)) reads ≡ true → among (reads_of site env reads) (home block) ≡ true
  block_among site env block [] h = absurd (true≢false (sym h))
  block_among site env block (read ∷ reads) h = by (guard_block (me_in entry) (home_seen site.names env) read.home) h (block_among site env block reads)
    where
      one : (other : ℕ) (b : Bool) → (other == block) ≡ b → (b || list_any (λ r. is_block block (guard_block (me_in entry) (home_seen site.names env) r.home)) reads) ≡ true
          → (list_any (λ r. is_block block (guard_block (me_in entry) (home_seen site.names env) r.home)) reads ≡ true → among (reads_of site env reads) (home block) ≡ true)
          → among (home other ∷ reads_of site env reads) (home block) ≡ true
      one other true is h later = subst (λ n. among (home other ∷ reads_of site env reads) (home n) ≡ true) (eqb-true other block is) (first_among (home other) (reads_of site env reads))
      one other false is h later = later_among (home other) (home block) (reads_of site env reads) (later h)

      by : (found : Result ℕ Fault) → (is_block block found || list_any (λ r. is_block block (guard_block (me_in entry) (home_seen site.names env) r.home)) reads) ≡ true
          → (list_any (λ r. is_block block (guard_block (me_in entry) (home_seen site.names env) r.home)) reads ≡ true → among (reads_of site env reads) (home block) ≡ true)
          → among (cons_option (block_part found) (reads_of site env reads)) (home block) ≡ true
      by (Ok other) h later = one other (other == block) refl h later
      by (Err fault) h later = later h

  abbrev counted_line : Operation → ℕ → ℕ
  counted_line operation op = line_home class (owner_in operation.scope (me_in entry)) op

  skipped : (o : Option ℕ) (rest : List ℕ) (line : ℕ) → among rest line ≡ true → among (cons_option o rest) line ≡ true
  skipped None rest line h = h
  skipped (Some n) rest line h = later_among n line rest h

  count_among : (op : ℕ) (operation : Operation) (counts : List ℕ) → slice_get core.operations op ≡ Some operation → list_any (λ other. other == op) counts ≡ true
      → among (filter_map (count_part core class (me_in entry)) counts) (line_home class (owner_in operation.scope (me_in entry)) op) ≡ true
  count_among op operation [] is h = absurd (true≢false (sym h))
  count_among op operation (other ∷ counts) is h = by (other == op) refl h (count_among op operation counts is)
    where
      by : (b : Bool) → (other == op) ≡ b → (b || list_any (λ n. n == op) counts) ≡ true
          → (list_any (λ n. n == op) counts ≡ true → among (filter_map (count_part core class (me_in entry)) counts) (counted_line operation op) ≡ true)
          → among (cons_option (count_part core class (me_in entry) other) (filter_map (count_part core class (me_in entry)) counts)) (counted_line operation op) ≡ true
      by true at h later =
          let found : count_part core class (me_in entry) other ≡ Some (counted_line operation op) =
          ap (count_part core class (me_in entry)) (eqb-true other op at) ∙ ap (λ o. option_map (λ x. line_home class (owner_in x.scope (me_in entry)) op) o) is in
          subst (λ o. among (cons_option o (filter_map (count_part core class (me_in entry)) counts)) (counted_line operation op) ≡ true) (sym found) (first_among (counted_line operation op) (filter_map (count_part core class (me_in entry)) counts))
      by false at h later = skipped (count_part core class (me_in entry) other) (filter_map (count_part core class (me_in entry)) counts) (counted_line operation op) (later h)

  abbrev parts_at : List Value → Site → List ℕ
  parts_at env site = site_parts core class (me_in entry) env site

  block_there : (env : List Value) (site : Site) (block : ℕ) → lists_block entry site env block ≡ true → among (own ∷ parts_at env site) (home block) ≡ true
  block_there env site block h =
      later_among own (home block) (parts_at env site)
      (among_back (line_parts class (owner_in site.scope (me_in entry)) site.arms) (reads_of site env site.reads ++ filter_map (count_part core class (me_in entry)) site.counts) (home block)
      (among_front (reads_of site env site.reads) (filter_map (count_part core class (me_in entry)) site.counts) (home block) (block_among site env block site.reads h)))

  count_there : (env : List Value) (site : Site) (op : ℕ) (operation : Operation) → slice_get core.operations op ≡ Some operation → lists_count site op ≡ true
      → among (own ∷ parts_at env site) (line_home class (owner_in operation.scope (me_in entry)) op) ≡ true
  count_there env site op operation is h =
      let line : ℕ = line_home class (owner_in operation.scope (me_in entry)) op in
      later_among own line (parts_at env site)
      (among_back (line_parts class (owner_in site.scope (me_in entry)) site.arms) (reads_of site env site.reads ++ filter_map (count_part core class (me_in entry)) site.counts) line
      (among_back (reads_of site env site.reads) (filter_map (count_part core class (me_in entry)) site.counts) line (count_among op operation site.counts is h)))

  same_class : (first : Arm) (arms : List Arm) (n : ℕ) (arm : Arm) → list_all (λ other. class other.op == class first.op) arms ≡ true → slice_get arms n ≡ Some arm
      → (class arm.op == class first.op) ≡ true
  same_class first [] n arm all at = absurd (cc at)
  same_class first (x ∷ xs) zero arm all at =
      let it : x ≡ arm = cc at in
      subst (λ a. (class a.op == class first.op) ≡ true) it (and_parts (class x.op == class first.op) (list_all (λ other. class other.op == class first.op) xs) all).0
  same_class first (x ∷ xs) (suc n) arm all at =
      same_class first xs n arm (and_parts (class x.op == class first.op) (list_all (λ other. class other.op == class first.op) xs) all).1 at

  line_among : (owner : Owner) (arms : List Arm) (n : ℕ) (arm : Arm) → has_one_class class arms ≡ true → slice_get arms n ≡ Some arm
      → among (line_parts class owner arms) (line_home class owner arm.op) ≡ true
  line_among owner [] n arm all at = absurd (cc at)
  line_among owner (first ∷ arms) zero arm all at =
      let it : first ≡ arm = cc at in
      subst (λ a. among (line_home class owner first.op ∷ []) (line_home class owner a.op) ≡ true) it (first_among (line_home class owner first.op) [])
  line_among owner (first ∷ arms) (suc n) arm all at =
      subst (λ k. among (line_home class owner first.op ∷ []) (home (owner_number owner + 1 + k)) ≡ true)
      (sym (eqb-true (class arm.op) (class first.op) (same_class first arms n arm all at))) (first_among (line_home class owner first.op) [])

  line_there : (env : List Value) (site : Site) (number : ℕ) (arm : Arm) → has_one_class class site.arms ≡ true → slice_get site.arms number ≡ Some arm
      → among (own ∷ parts_at env site) (line_home class (owner_in site.scope (me_in entry)) arm.op) ≡ true
  line_there env site number arm one is =
      let line : ℕ = line_home class (owner_in site.scope (me_in entry)) arm.op in
      later_among own line (parts_at env site)
      (among_front (line_parts class (owner_in site.scope (me_in entry)) site.arms) (reads_of site env site.reads ++ filter_map (count_part core class (me_in entry)) site.counts) line
      (line_among (owner_in site.scope (me_in entry)) site.arms number arm one is))

  counted_there : (env : List Value) (site : Site) (op n : ℕ) (operation : Option Operation) (later : List Act) → slice_get core.operations op ≡ operation → lists_count site op ≡ true
      → Covered (parts_at env site) later → Covered (parts_at env site) (counted_seen entry op n operation later)
  counted_there env site op zero None later is h all = all
  counted_there env site op (suc n) None later is h all = never (parts_at env site)
  counted_there env site op n (Some operation) later is h all = (count_there env site op operation is h, all)

  first_there : (env : List Value) (site : Site) (one : Seen) (later : List Act) → Covered (parts_at env site) later → Covered (parts_at env site) (seen_first core entry site env one later)
  first_there env site (Cell block var path value) later all = by (lists_block entry site env block) refl
    where
      by : (b : Bool) → lists_block entry site env block ≡ b → Covered (parts_at env site) (cond b (Sees block var path value ∷ later) (Never entry.actor ∷ []))
      by true is = (block_there env site block is, all)
      by false is = never (parts_at env site)
  first_there env site (pending_count op n) later all = by (lists_count site op) refl
    where
      by : (b : Bool) → lists_count site op ≡ b → Covered (parts_at env site) (cond b (counted_seen entry op n (slice_get core.operations op) later) (Never entry.actor ∷ []))
      by true is = counted_there env site op n (slice_get core.operations op) later refl is all
      by false is = never (parts_at env site)

  all_there : (env : List Value) (site : Site) (seen : List Seen) (later : List Act) → Covered (parts_at env site) later → Covered (parts_at env site) (all_seen_first core entry site env seen later)
  all_there env site [] later all = all
  all_there env site (one ∷ others) later all = first_there env site one (all_seen_first core entry site env others later) (all_there env site others later all)

  picked_there : (env : List Value) (site : Site) (id number : ℕ) (args : List Value) (back : ℕ) (arm : Option Arm) → has_one_class class site.arms ≡ true → slice_get site.arms number ≡ arm
      → Covered (parts_at env site) (picked_acts core entry site env id number args back arm)
  picked_there env site id number args back None one is = never (parts_at env site)
  picked_there env site id number args back (Some arm) one is =
      let p : Pending = picked entry site arm id args back in
      all_there env site entry.reads (Serves (me_in entry) site env entry.reads p number ∷ Holds entry.actor (held_from p) ∷ [])
      (line_there env site number arm one is, (here (parts_at env site), tt))

  else_there : (env : List Value) (site : Site) (arms : List Arm) → site.arms ≡ arms → has_one_class class site.arms ≡ true → Covered (parts_at env site) (else_acts core entry site env arms)
  else_there env site [] is one = by site.has_else
    where
      by : (b : Bool) → Covered (parts_at env site) (cond b [] (Never entry.actor ∷ []))
      by true = tt
      by false = never (parts_at env site)
  else_there env site (arm ∷ arms) is one =
      all_there env site entry.reads (Passes (me_in entry) site env entry.reads arm.op ∷ []) (line_there env site 0 arm one (ap (λ l. slice_get l 0) is), tt)

  chosen_there : (env : List Value) (site : Site) (given : Answer) → has_one_class class site.arms ≡ true → Covered (parts_at env site) (chosen_acts core entry env site given)
  chosen_there env site (answer.Picked id number args back) one = picked_there env site id number args back (slice_get site.arms number) one refl
  chosen_there env site answer.Else one = else_there env site site.arms refl one
  chosen_there env site _ one = never (parts_at env site)

  narrow_parts : (a b : Bool) → not (a && b) ≡ false → a ≡ true
  narrow_parts true b h = refl
  narrow_parts false b h = absurd (true≢false h)

  select_there : (env : List Value) (site : Option Site) → is_wide_site core class (me_in entry) env site ≡ false → Covered (select_parts core class (me_in entry) env site) (select_acts core entry env site)
  select_there env None narrow = never []
  select_there env (Some site) narrow =
      chosen_there env site entry.answer
      (narrow_parts (has_one_class class site.arms) (reads_only (listed site) site && nat_le (length (in_order (home entry.actor ∷ parts_at env site))) 3) narrow)

  -- ---- the table

  covered : (role : Role) (asked : Request) → is_wide_request core class (me_in entry) role asked ≡ false → Covered (parts_beside core class (me_in entry) entry.name asked) (asked_acts core entry asked)
  covered role (request.Declare block var shape) narrow = done_covered (home block ∷ []) (Declares block var shape ∷ []) entry.answer (one_among (home block), tt)
  covered role (request.Load block var path) narrow = loaded_covered block var path entry.answer
  covered role (request.Store block var path value) narrow = done_covered (home block ∷ []) (Stores block var path value ∷ []) entry.answer (one_among (home block), tt)
  covered role (request.Invoke target args wants) narrow =
      made_covered (invoked_parts core class entry.name entry.actor target) (invoke_acts core entry target args (duty_for wants entry.actor entry.name)) entry.answer
      (invoke_covered entry.actor target args (duty_for wants entry.actor entry.name) (call_covered wants))
  covered role (request.Select site env) narrow = select_there env (slice_get core.sites site) narrow
  covered role (request.Take ids) narrow = taken_covered ids entry.answer
  covered role (request.Reply held back results) narrow =
      done_covered (caller_parts back) (reply_acts entry held back results) entry.answer
      (here (caller_parts back), (here (caller_parts back), caller_covered back (duty_in entry back) (Some results) refl))
  covered role (request.Forward held back target args) narrow =
      let parts : List ℕ = invoked_parts core class entry.name back target in
      made_covered parts (forward_acts core entry held back target args) entry.answer
      (here parts, (here parts, invoke_covered back target args (duty_in entry back) (caller_covered back (duty_in entry back) None refl)))
  covered role (request.Count op) narrow = counted_covered op entry.answer
  covered role (request.Finish answered back results) narrow = done_covered (answer_parts answered back) (finish_acts entry answered back results) entry.answer (finish_covered answered back results)
  covered role (request.Wake until) narrow = done_covered [] (HasCome entry.actor until ∷ []) entry.answer (here [], tt)
  covered role _ narrow = never []

  pub touched_by : (s : ℕ) → is_wide_request core class (me_in entry) entry.ask.role entry.ask.request ≡ false → list_any (λ act. part class act == s) (acts_of core entry) ≡ true
      → among (parts_of core class (me_in entry) entry.name entry.ask.request) s ≡ true
  touched_by s narrow h =
      let parts : List ℕ = parts_beside core class (me_in entry) entry.name entry.ask.request in
      put_all [] (own ∷ parts) s (covered_any parts (acts_of core entry) s (here parts, (here parts, covered entry.ask.role entry.ask.request narrow)) h)
