-- Calls, `create` and `read`: their code asks what they ask.
use Rattle.std.proofs.Common.{◌≡◌, ℕ, suc, ◌+◌, ◌≤◌, min, true, List, [], ◌∷◌, length, Option, Some, None, refl, sym, ◌∙◌, ap, arith}
use Rattle.sr_value.specs.declared.place.Place.{Place}
use Rattle.sr_value.specs.declared.shape.Shape.{Shape}
use Rattle.sr_value.specs.declared.value.Value.{Value}
use Rattle.sr_ask.specs.Asking.{made, read_item, ready}
use Rattle.sr_ask.specs.Behaviors.{Stage, Outcome, Came, Stops, Doing, and_then, give}
use Rattle.sr_ask.specs.Invocations.{at_end, default_given as default_at, instance_in, number_read as number_at, places_back, read_all as items_read, read_next, value_after, values_sent}
use Rattle.sr_ask.specs.Here.{request as request_at}
use Rattle.sr_ask.specs.Places.{own_store, store_at, store_place as place_store, store_results as results_store}
use Rattle.sr_ask.specs.declared.ask.Asks.{Asks}
use Rattle.sr_ask.specs.declared.environment.Located.{Located}
use Rattle.sr_ask.specs.declared.environment.ReadTarget.{ReadTarget}
use Rattle.sr_ask.specs.declared.environment.Sent.{Sent}
use Rattle.sr_ask.specs.declared.environment.Spot.{Spot}
use Rattle.sr_ask.specs.declared.environment.Spot.TheVariants.{Own as an_own, Shared as a_shared}
use Rattle.sr_ask.specs.declared.forms.InputItem.{InputItem}
use Rattle.sr_ask.specs.declared.forms.InputItem.TheVariants.{Value as read_value, NotOfKind, NoMore}
use Rattle.sr_ask.specs.declared.request.Request.TheVariants.{Invoke as invoke_request, Create as create_request, EnsureGlobal as ensure_request, Read as read_request}
use Rattle.sr_core.specs.Values.{cap_of}
use Rattle.sr_core.specs.declared.component.Core.{Core}
use Rattle.sr_core.specs.declared.expression.Argument.TheOpen.{Expr-F}
use Rattle.sr_code.specs.Acts.{Point, point, after_item, after_reply, store_one, store_some}
use Rattle.sr_code.specs.Operands.{call_of, join_target, put_call, put_cap, put_list, put_name, put_reading, put_targets, put_value}
use Rattle.sr_code.specs.Runs.{Machine, go, here_at, then_asks}
use Rattle.sr_code.specs.Stretches.{Emits, Extends, Follows, Has}
use Rattle.sr_code.specs.declared.code.Coded.{Coded}
use Rattle.sr_code.specs.declared.instruction.Instruction.TheVariants.{ToCap, ToCall, Invoke, Take, StoreResults, Default, EnsureGlobal, Create, TakeInstance, NoReadings, ReadNext, StoreRead, NumberRead, EndRead, Jump}
use Rattle.sr_code.specs.declared.operands.Operands.{Operands}
use Rattle.sr_code.proofs.Stretches.{extends_one, extends_self, extends_then, follows_give, follows_then, lower_part, follows_as, follows_from, runs_act, runs_first, runs_past, runs_to, upper_part, emitted_length}
use Rattle.sr_meaning.specs.Expressions.{Meaning, ensured, give_back, in_order, needs_of, node_meaning, read_all, taken}
use Rattle.sr_meaning.specs.Here.{request, settle}
use Rattle.sr_gen_expr.specs.Emitting.{Gives, Takes, answer_meaning, call_meaning, create_meaning, join_all, join_sent, keep_top, put_arguments, put_invoked, put_only, put_places, tree_here}
use Rattle.sr_gen_expr.proofs.Joining.{joined_sent, joined_targets}
use Rattle.sr_gen_expr.proofs.Stretching.{follows_at, follows_last, gives_before, gives_taken, passes}

lower_of : (to next : ℕ) → to ≤ next → min to next ≡ to
lower_of to next h = omega arith

-- ---- results

-- one result, and then what follows; a store that asks begins the instruction again
stored_one : (spot : Spot) (place : Located) (value : Value) (m : Machine) (line : Place) (again : Point) (later : Doing Point) (rest : Doing (List Value)) (last : Value → Stage → Asks) (stage : Stage)
    → ((after : Stage) → then_asks (later after) (go m) ≡ then_asks (and_then (rest after) (λ left. give (value_after left))) last)
    → ((after : Stage) → go m again after ≡ then_asks (and_then (rest after) (λ left. give (value_after left))) last)
    → then_asks (store_one spot place value (here_at m line) again later stage) (go m)
    ≡ then_asks (and_then (and_then (store_at spot place.path value (here_at m line) stage) (λ _. rest)) (λ left. give (value_after left))) last
stored_one (an_own var) place value m line again later rest last stage goes_on again_on =
    after_store (own_store var place.path value (here_at m line) stage) later rest (go m) last goes_on where
      after_store : (o : Outcome (Unit {0})) (later : Doing Point) (rest : Doing (List Value)) (next : Point → Stage → Asks) (last : Value → Stage → Asks)
          → ((after : Stage) → then_asks (later after) next ≡ then_asks (and_then (rest after) (λ left. give (value_after left))) last)
          → then_asks (and_then o (λ _. later)) next ≡ then_asks (and_then (and_then o (λ _. rest)) (λ left. give (value_after left))) last
      after_store (Came u stage) later rest next last h = h stage
      after_store (Stops asks) later rest next last h = refl
stored_one (a_shared block var) place value m line again later rest last stage goes_on again_on =
    after_ask (store_at (a_shared block var) place.path value (here_at m line) stage) again rest (go m) last again_on where
      after_ask : (o : Outcome (Unit {0})) (again : Point) (rest : Doing (List Value)) (next : Point → Stage → Asks) (last : Value → Stage → Asks)
          → ((after : Stage) → next again after ≡ then_asks (and_then (rest after) (λ left. give (value_after left))) last)
          → then_asks (and_then o (λ _. give again)) next ≡ then_asks (and_then (and_then o (λ _. rest)) (λ left. give (value_after left))) last
      after_ask (Came u stage) again rest next last h = h stage
      after_ask (Stops asks) again rest next last h = refl

-- the results go to their places, and what is left is the value
pub stored_some : (m : Machine) {line : Place} (c0 : List Coded) {c1 c2 : List Coded} → Emits line (StoreResults (length c0)) c1 c2 → Has c2 (length c1) (length c2) m.code → length c0 ≤ length c1
    → (places : List Located) (values : List Value) (on : Operands) (stage : Stage)
    → then_asks (store_some places values (length c0) (here_at m line) (length c1) on stage) (go m)
    ≡ then_asks (and_then (results_store places values (here_at m line) stage) (λ left. give (value_after left))) (λ v. go m (point (length c0) (put_value v on)))
stored_some m c0 {c1 = c1} e h low [] values on stage = ap (λ n. go m (point n (put_value (value_after values) on)) stage) (lower_of (length c0) (length c1) low)
stored_some m c0 {c1 = c1} e h low (place ∷ places) [] on stage = ap (λ n. go m (point n (put_value (value_after []) on)) stage) (lower_of (length c0) (length c1) low)
stored_some m {line = line} c0 {c1 = c1} {c2 = c2} e h low (place ∷ places) (value ∷ values) on stage =
    let again = put_targets places (put_list values on) in
    stored_one place.spot place value m line (point (suc (length c1)) again) (store_some places values (length c0) (here_at m line) (length c1) on)
    (results_store places values (here_at m line)) (λ v. go m (point (length c0) (put_value v on))) stage
    (λ after. stored_some m c0 e h low places values on after)
    (λ after.
    ap (λ n. go m (point n again) after) (sym (emitted_length e))
    ∙ (runs_act m e h again).same after
    ∙ stored_some m c0 e h low places values on after)

-- ---- calls

-- the reply, and the stores of its results
pub takes_answer : {line : Place} {returns : Option Shape} {c0 c1 c2 c3 : List Coded} → Emits line (Default returns) c0 c1 → Emits line (StoreResults (length c0)) c1 c2
    → Emits line (Take (length c1)) c2 c3 → (core : Core) → Takes put_invoked (put_only put_value) core line (answer_meaning returns) c0 c3
takes_answer {line = line} {returns = returns} {c0 = c0} {c1 = c1} {c2 = c2} {c3 = c3} default store take core = record {
  grows = extends_then to_store (extends_one take);
  runs = λ m same h invoked on.
      let storing = lower_part (extends_one take) h in
      follows_then (runs_to m take (upper_part to_store h) (put_invoked invoked on) (taken invoked.0 (tree_here m line))
      (λ reply. after_reply reply (length c1) (length c2) (put_targets invoked.1 on)) refl) (λ reply.
      replied m (upper_part (extends_one default) storing) (lower_part (extends_one store) storing) invoked.1 reply on);
} where
  to_store : Extends c0 c2
  to_store = extends_then (extends_one default) (extends_one store)

  replied : (m : Machine) → Has c2 (length c1) (length c2) m.code → Has c1 (length c0) (length c1) m.code
      → (places : List Located) (reply : Option (List Value)) (on : Operands)
      → Follows (go m (after_reply reply (length c1) (length c2) (put_targets places on))) (give_back places returns reply (tree_here m line)) (λ v. go m (point (length c0) (put_value v on)))
  replied m stores defaults places None on = runs_past m default defaults on (default_at returns (here_at m line)) (λ v. put_value v on) refl
  replied m stores defaults places (Some results) on = record {
    same = λ stage.
        (runs_act m store stores (put_list results (put_targets places on))).same stage ∙ stored_some m c0 store stores (extends_one default).above places results on stage;
  }

pub takes_call : {core : Core} {line : Place} (args : List (Meaning Sent)) (returns : Option Shape) {c0 c1 c2 c3 c4 : List Coded}
    → Takes put_invoked (put_only put_value) core line (answer_meaning returns) c0 c1 → Emits line Invoke c1 c2 → Gives (join_all join_sent) core line (in_order args) c2 c3
    → Emits line ToCall c3 c4 → Takes put_value (put_only put_value) core line (call_meaning args returns) c0 c4
takes_call {line = line} args returns {c0 = c0} {c1 = c1} {c2 = c2} answered invoke given to_call = record {
  grows = extends_then (extends_then (extends_then answered.grows (extends_one invoke)) given.grows) (extends_one to_call);
  runs = λ m same h target on.
      let to_invoke = extends_then answered.grows (extends_one invoke) in
      let below = lower_part (extends_one to_call) h in
      let invoking = lower_part given.grows below in
      follows_then (runs_past m to_call (upper_part (extends_then to_invoke given.grows) h) (put_value target on) (settle (cap_of target) (tree_here m line)) (λ cap. put_call (call_of cap) on) refl) (λ cap.
      follows_then (follows_last (λ sent stage. ap (λ o. go m (point (length c2) o) stage) (joined_sent sent cap [] [] on)) (given.runs m same (upper_part to_invoke below) (put_call (call_of cap) on))) (λ sent.
      follows_then (runs_past m invoke (upper_part answered.grows invoking) (put_call (record { target = cap; values = values_sent sent; places = places_back sent }) on)
      (request made (invoke_request cap (values_sent sent) true) (tree_here m line)) (λ name. put_name name (put_targets (places_back sent) on)) refl) (λ id.
      answered.runs m same (lower_part (extends_one invoke) invoking) (id, places_back sent) on)));
}

-- ---- create

pub ensures_none : (core : Core) (line : Place) (c0 : List Coded) → Takes put_cap (keep_top put_cap) core line (λ vm. ensured [] vm) c0 c0
ensures_none core line c0 = record {
  grows = extends_self c0;
  runs = λ m same h vm on. follows_give (λ _. go m (point (length c0) (put_cap vm on))) tt;
}

pub ensures_more : {core : Core} {line : Place} (global : ℕ) (globals : List ℕ) {c0 c1 c2 : List Coded} → Emits line (EnsureGlobal global) c1 c2
    → Takes put_cap (keep_top put_cap) core line (λ vm. ensured globals vm) c0 c1 → Takes put_cap (keep_top put_cap) core line (λ vm. ensured (global ∷ globals) vm) c0 c2
ensures_more {line = line} global globals e t = record {
  grows = extends_then t.grows (extends_one e);
  runs = λ m same h vm on.
      follows_then (runs_past m e (upper_part t.grows h) (put_cap vm on) (request ready (ensure_request global vm) (tree_here m line)) (λ _. put_cap vm on) refl) (λ _.
      t.runs m same (lower_part (extends_one e) h) vm on);
}

pub takes_create : {core : Core} {line : Place} (resource : ℕ) {c0 c1 c2 c3 c4 : List Coded} → Emits line TakeInstance c0 c1 → Emits line (Create resource) c1 c2
    → Takes put_cap (keep_top put_cap) core line (λ vm. ensured (needs_of core resource) vm) c2 c3 → Emits line ToCap c3 c4
    → Takes put_arguments (put_only put_value) core line (create_meaning resource) c0 c4
takes_create {core = core} {line = line} resource {c0 = c0} {c2 = c2} {c3 = c3} answer make needed to_cap = record {
  grows = extends_then to_needed (extends_one to_cap);
  runs = λ m same h arguments on.
      let below = lower_part (extends_one to_cap) h in
      let making = lower_part needed.grows below in
      let answers = lower_part (extends_one make) making in
      let values = arguments.0 in
      follows_then (runs_past m to_cap (upper_part to_needed h) (put_arguments arguments on) (settle (cap_of arguments.1) (tree_here m line)) (λ vm. put_cap vm (put_list values on)) refl) (λ vm.
      follows_then (follows_as (ap (λ c. ensured (needs_of c resource) vm (tree_here m line)) same) (needed.runs m same (upper_part to_make below) vm (put_list values on))) (λ _.
      follows_then (runs_past m make (upper_part (extends_one answer) making) (put_cap vm (put_list values on)) (request made (create_request resource values vm) (tree_here m line)) (λ name. put_name name on) refl) (λ name.
      follows_then (runs_past m answer answers (put_name name on) (taken name (tree_here m line)) (λ reply. put_value (instance_in reply) on) refl) (λ reply.
      follows_give (λ v. go m (point (length c0) (put_value v on))) (instance_in reply)))));
} where
  to_make : Extends c0 c2
  to_make = extends_then (extends_one answer) (extends_one make)

  to_needed : Extends c0 c3
  to_needed = extends_then to_make needed.grows

-- the arguments, the machine, and then the rest
pub gives_create : {core : Core} {line : Place} (resource : ℕ) (args : List (Meaning Value)) {machine : Meaning Value} {c0 c1 c2 c3 : List Coded}
    → Takes put_arguments (put_only put_value) core line (create_meaning resource) c0 c1 → Gives put_value core line machine c1 c2 → Gives put_list core line (in_order args) c2 c3
    → Gives put_value core line (node_meaning (Expr-F.Create resource args machine)) c0 c3
gives_create resource args t machine given = record {
  grows = extends_then t.grows (extends_then machine.grows given.grows);
  runs = λ m same h on.
      let below = lower_part given.grows h in
      follows_then (given.runs m same (upper_part (extends_then t.grows machine.grows) h) on) (λ values.
      follows_then (machine.runs m same (upper_part t.grows below) (put_list values on)) (λ vm.
      t.runs m same (lower_part machine.grows below) (values, vm) on));
}

-- ---- read

-- the reads and stores, one after another
pub takes_reads : {line : Place} {store : ℕ} {c0 c1 c2 c3 c4 c5 c6 : List Coded} → Emits line EndRead c0 c1
    → Emits line (Jump (length c0)) c1 c2 → Emits line NumberRead c2 c3 → Emits line (ReadNext store (length c1)) c3 c4 → store ≡ suc (suc (length c3)) → Emits line StoreRead c4 c5
    → Emits line (Jump (length c4)) c5 c6 → (core : Core) → Takes put_places (put_only put_value) core line (λ targets. read_all 0 targets) c0 c6
takes_reads {line = line} {store = store} {c0 = c0} {c1 = c1} {c2 = c2} {c3 = c3} {c4 = c4} {c5 = c5} {c6 = c6} ended skip counted next store_is stored back core = record {
  grows = extends_then to_stored (extends_one back);
  runs = λ m same h targets on.
      follows_at (λ stage.
      passes m back (upper_part to_stored h) (put_places targets on) (point (min (length c4) (length c5)) (put_places targets on)) refl stage
      ∙ ap (λ n. go m (point n (put_places targets on)) stage) (lower_of (length c4) (length c5) (extends_one stored).above))
      (reads m (lower_part (extends_one back) h) targets 0 on);
} where
  to_skip : Extends c0 c2
  to_skip = extends_then (extends_one ended) (extends_one skip)

  to_next : Extends c0 c4
  to_next = extends_then to_skip (extends_then (extends_one counted) (extends_one next))

  to_stored : Extends c0 c5
  to_stored = extends_then to_next (extends_one stored)

  counts : (m : Machine) → Has c3 (length c0) (length c3) m.code → (targets : List ReadTarget) (count : ℕ) (on : Operands)
      → Follows (go m (point (length c3) (put_reading (record { targets = targets; count = count }) on))) (number_at count (here_at m line)) (λ v. go m (point (length c0) (put_value v on)))
  counts m h targets count on =
      follows_last (λ v stage.
      passes m skip (upper_part (extends_one ended) (lower_part (extends_one counted) h)) (put_value v on) (point (min (length c0) (length c1)) (put_value v on)) refl stage
      ∙ ap (λ n. go m (point n (put_value v on)) stage) (lower_of (length c0) (length c1) (extends_one ended).above))
      (runs_past m counted (upper_part to_skip h) (put_reading (record { targets = targets; count = count }) on) (number_at count (here_at m line)) (λ v. put_value v on) refl)

  ends : (m : Machine) → Has c1 (length c0) (length c1) m.code → (targets : List ReadTarget) (count : ℕ) (on : Operands)
      → Follows (go m (point (length c1) (put_reading (record { targets = targets; count = count }) on))) (at_end count (here_at m line)) (λ v. go m (point (length c0) (put_value v on)))
  ends m h targets count on = runs_past m ended h (put_reading (record { targets = targets; count = count }) on) (at_end count (here_at m line)) (λ v. put_value v on) refl

  stored_at : store ≡ length c5
  stored_at = store_is ∙ ap suc (sym (emitted_length next)) ∙ sym (emitted_length stored)

  heard_item : (m : Machine) → Has c5 (length c0) (length c5) m.code → (target : ReadTarget) (targets : List ReadTarget) (count : ℕ) (on : Operands) (item : InputItem)
      → ((more : Operands) → Follows (go m (point (length c4) (put_reading (record { targets = targets; count = suc count }) more))) (items_read (suc count) targets (here_at m line)) (λ v. go m (point (length c0) (put_value v more))))
      → Follows (go m (after_item item store (length c1) (length c3) (put_reading (record { targets = target ∷ targets; count = count }) on)))
      (read_next count target (items_read (suc count) targets) item (here_at m line)) (λ v. go m (point (length c0) (put_value v on)))
  heard_item m h target targets count on (read_value value) rest =
      follows_from (ap (λ n. go m (point n (put_value value (put_reading (record { targets = target ∷ targets; count = count }) on)))) stored_at)
      (follows_then (runs_past m stored (upper_part to_next h) (put_value value (put_reading (record { targets = target ∷ targets; count = count }) on)) (place_store target.place value (here_at m line))
      (λ _. put_reading (record { targets = targets; count = suc count }) on) refl) (λ _. rest on))
  heard_item m h target targets count on NotOfKind rest = counts m (lower_part (extends_then (extends_one next) (extends_one stored)) h) (target ∷ targets) count on
  heard_item m h target targets count on NoMore rest =
      ends m (lower_part (extends_then (extends_one skip) (extends_then (extends_one counted) (extends_then (extends_one next) (extends_one stored)))) h) (target ∷ targets) count on

  reads : (m : Machine) → Has c5 (length c0) (length c5) m.code → (targets : List ReadTarget) (count : ℕ) (on : Operands)
      → Follows (go m (point (length c4) (put_reading (record { targets = targets; count = count }) on))) (items_read count targets (here_at m line)) (λ v. go m (point (length c0) (put_value v on)))
  reads m h [] count on =
      runs_first m next (upper_part (extends_then to_skip (extends_one counted)) (lower_part (extends_one stored) h)) (put_reading (record { targets = []; count = count }) on)
      (point (length c3) (put_reading (record { targets = []; count = count }) on)) refl
      (counts m (lower_part (extends_then (extends_one next) (extends_one stored)) h) [] count on)
  reads m h (target ∷ targets) count on =
      follows_then (runs_to m next (upper_part (extends_then to_skip (extends_one counted)) (lower_part (extends_one stored) h)) (put_reading (record { targets = target ∷ targets; count = count }) on)
      (request_at read_item (read_request target.kind) (here_at m line)) (λ item. after_item item store (length c1) (length c3) (put_reading (record { targets = target ∷ targets; count = count }) on)) refl) (λ item.
      heard_item m h target targets count on item (λ more. reads m h targets (suc count) more))

-- the places, and then the reads
pub gives_read : {core : Core} {line : Place} (readings : List (Meaning ReadTarget)) {c0 c1 c2 c3 : List Coded} → Takes put_places (put_only put_value) core line (λ targets. read_all 0 targets) c0 c1
    → Gives (join_all join_target) core line (in_order readings) c1 c2 → Emits line NoReadings c2 c3 → Gives put_value core line (node_meaning (Expr-F.Read readings)) c0 c3
gives_read readings t given begin =
    gives_taken (λ targets. read_all 0 targets) t (gives_before begin given (put_places []) (λ m on. refl) (λ targets on. joined_targets targets [] on))

-- ---- whole calls and `create`s

pub gives_call : {core : Core} {line : Place} (args : List (Meaning Sent)) (returns : Option Shape) {target : Meaning Value} {c0 c1 c2 : List Coded}
    → Takes put_value (put_only put_value) core line (call_meaning args returns) c0 c1 → Gives put_value core line target c1 c2 → Gives put_value core line (node_meaning (Expr-F.Call target args returns)) c0 c2
gives_call args returns t g = gives_taken (call_meaning args returns) t g

pub two_more : (n : ℕ) → n + 2 ≡ suc (suc n)
two_more n = omega arith
