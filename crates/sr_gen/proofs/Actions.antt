-- Statements without blocks: their code asks what they ask.
use Rattle.std.proofs.Common.{◌≡◌, ℕ, ℤ, pos, negsuc, ◌+ℤ◌, Bool, false, List, [], ◌∷◌, length, map, Option, None, refl, sym, ◌∙◌, ap}
use Rattle.sr_value.specs.declared.capability.Cap.{Cap}
use Rattle.sr_value.specs.declared.place.Place.{Place}
use Rattle.sr_value.specs.declared.value.Value.TheVariants.{Int}
use Rattle.sr_value.specs.Operators.{value_of}
use Rattle.sr_ask.specs.Asking.{done, made, moment, none_takes, until_moment}
use Rattle.sr_ask.specs.Behaviors.{Stage, Outcome, Came, Stops, Doing, and_then, give, heard, ◌>>=◌}
use Rattle.sr_ask.specs.Invocations.{values_sent}
use Rattle.sr_ask.specs.declared.answer.Answer.{Answer}
use Rattle.sr_ask.specs.declared.ask.Asks.{Asks}
use Rattle.sr_ask.specs.declared.environment.Sent.{Sent}
use Rattle.sr_ask.specs.declared.request.Request.TheVariants.{Invoke as invoke_request, Write as write_request, Destroy as destroy_request, Stop as stop_request, Wake as wake_request, Age as age_request}
use Rattle.sr_core.specs.Values.{cap_of, texts_of, written}
use Rattle.sr_core.specs.declared.component.Core.{Core}
use Rattle.sr_core.specs.declared.expression.Argument.{Argument}
use Rattle.sr_core.specs.declared.expression.Expr.{Expr}
use Rattle.sr_core.specs.declared.expression.PlaceExpr.{PlaceExpr}
use Rattle.sr_core.specs.declared.statement.Action.TheVariants as action
use Rattle.sr_core.specs.declared.statement.Bump.{Bump}
use Rattle.sr_code.specs.Acts.{point, goes, act, time_to_wait}
use Rattle.sr_code.specs.Operands.{call_of, put_call, put_cap, put_list, put_name, put_number, put_place, put_value}
use Rattle.sr_code.specs.Runs.{Machine, go, here_at, then_asks}
use Rattle.sr_code.specs.Stretches.{Emits, Extends, Follows, Has}
use Rattle.sr_code.specs.declared.code.Coded.{Coded}
use Rattle.sr_code.specs.declared.instruction.Instruction.{Instruction}
use Rattle.sr_code.specs.declared.instruction.Instruction.TheVariants.{Age, Constant, Destroy, DropValue, Forward, LoadAgain, LoadSecond, Number, Operate, Reply, Send, Stop, Store, StoreSecond, TakeDone, ToCall, ToWait, Wake, Write}
use Rattle.sr_code.specs.declared.operands.Operands.{Operands}
use Rattle.sr_code.proofs.Stretches.{extends_one, extends_then, follows_as, follows_give, follows_then, lower_part, runs_act, runs_first, runs_past, upper_part}
use Rattle.sr_meaning.specs.declared.ending.Ending.TheVariants.{Through}
use Rattle.sr_meaning.specs.Expressions.{argument_of, expr_meaning, in_order, place_of_expr, taken}
use Rattle.sr_meaning.specs.Here.{Here, request, settle}
use Rattle.sr_meaning.specs.Places.{load_place, store_place}
use Rattle.sr_meaning.specs.Statements.{action_meaning, arguments, bump_operator, cap_expr, forward_meaning, number_expr, reply_meaning, status_meaning, through, time_of}
use Rattle.sr_gen_expr.specs.Emitting.{Gives, join_all, join_sent, tree_here}
use Rattle.sr_gen_expr.proofs.Joining.{joined_sent}
use Rattle.sr_gen_expr.proofs.Stretching.{follows_last, gives_changed, gives_first, gives_then}
use Rattle.sr_gen.specs.Doing.{Acts, put_ready, ready_meaning, way}
use Rattle.sr_gen.specs.declared.ways.Ways.{Ways}
use Rattle.sr_gen.proofs.Endings.{acts_through, follows_through}

-- ---- pieces

-- two pieces of work in one instruction, whose last result isn't used
two_pieces : {A B P Q : Type 0} (o : Outcome A) (mid : A → Doing B) (to : B → P) (other : B → Q) (next : P → Stage → Asks) (last : Q → Stage → Asks)
    → ((b : B) (stage : Stage) → next (to b) stage ≡ last (other b) stage)
    → then_asks (and_then o (λ a. mid a >>= λ b. give (to b))) next ≡ then_asks (and_then o (λ a. mid a >>= λ b. give (other b))) last
two_pieces (Came a stage) mid to other next last is = second (mid a stage) to other next last is where
  second : {B P Q : Type 0} (o : Outcome B) (to : B → P) (other : B → Q) (next : P → Stage → Asks) (last : Q → Stage → Asks)
      → ((b : B) (stage : Stage) → next (to b) stage ≡ last (other b) stage)
      → then_asks (and_then o (λ b. give (to b))) next ≡ then_asks (and_then o (λ b. give (other b))) last
  second (Came b stage) to other next last is = is b stage
  second (Stops asks) to other next last is = refl
two_pieces (Stops asks) mid to other next last is = refl

runs_two : {A B : Type 0} (ways : Ways) (m : Machine) {line : Place} {instruction : Instruction} {c0 c1 : List Coded} → Emits line instruction c0 c1 → Has c1 (length c0) (length c1) m.code
    → (on left : Operands) (first : Doing A) (mid : A → Doing B) → act m.core instruction (here_at m line) (length c0) on ≡ (first >>= λ a. mid a >>= λ b. goes (length c0) left)
    → Follows (go m (point (length c1) on)) (first >>= λ a. through (mid a)) (λ ending. go m (point (way ways (length c0) ending) left))
runs_two ways m {c0 = c0} e h on left first mid is = record {
  same = λ stage.
      (runs_act m e h on).same stage ∙ ap (λ d. then_asks (d stage) (go m)) is
      ∙ two_pieces (first stage) mid (λ _. point (length c0) left) (λ _. Through) (go m) (λ ending. go m (point (way ways (length c0) ending) left)) (λ b after. refl);
}

-- what is asked for good is asked whatever would follow
last_heard : {A B : Type 0} (asks : Asks) (limit : ℕ) (answers : List Answer) (stage : Stage) (next : A → Stage → Asks) (last : B → Stage → Asks)
    → then_asks (heard none_takes asks limit answers stage) next ≡ then_asks (heard none_takes asks limit answers stage) last
last_heard asks limit [] stage next last = refl
last_heard asks limit (answer ∷ answers) stage next last = last_heard asks limit answers (record stage { answers = answers }) next last

-- ---- invocations

pub gives_ready : {core : Core} {line : Place} (target : Expr) (args : List Argument) {c0 c1 c2 c3 : List Coded} → Gives (join_all join_sent) core line (in_order (map argument_of args)) c0 c1
    → Emits line ToCall c1 c2 → Gives put_value core line (expr_meaning target) c2 c3 → Gives put_ready core line (ready_meaning target args) c0 c3
gives_ready {core = core} {line = line} target args {c0 = c0} {c1 = c1} {c3 = c3} given to_call target_given = record {
  grows = extends_then given.grows called.grows;
  runs = λ m same h on.
      follows_then (called.runs m same (upper_part given.grows h) on) (λ cap.
      follows_then (follows_last (λ sent stage. ap (λ o. go m (point (length c0) o) stage) (joined_sent sent cap [] [] on)) (given.runs m same (lower_part called.grows h) (put_call (call_of cap) on))) (λ sent.
      follows_give (λ ready. go m (point (length c0) (put_ready ready on))) (cap, sent)));
} where
  called : Gives (λ cap on. put_call (call_of cap) on) core line (cap_expr target) c1 c3
  called = gives_then to_call target_given (λ v here. settle (cap_of v) here) (λ m v on. refl)

abbrev pair_of : {A B : Type 0} → A → B → A × B
pair_of a b = (a, b)

-- a call that is ready, and what is done with it
regrouped : {A B C : Type 0} (o : Outcome A) (mid : A → Doing B) (last : A → B → Doing C) (next : C → Stage → Asks)
    → then_asks (and_then o (λ a. mid a >>= λ b. last a b)) next ≡ then_asks (and_then (and_then o (λ a. mid a >>= λ b. give (pair_of a b))) (λ p. last p.0 p.1)) next
regrouped (Came a stage) mid last next = second a (mid a stage) last next where
  second : {A B C : Type 0} (a : A) (o : Outcome B) (last : A → B → Doing C) (next : C → Stage → Asks)
      → then_asks (and_then o (λ b. last a b)) next ≡ then_asks (and_then (and_then o (λ b. give (pair_of a b))) (λ p. last p.0 p.1)) next
  second a (Came b stage) last next = refl
  second a (Stops asks) last next = refl
regrouped (Stops asks) mid last next = refl

pub follows_ready : {C : Type 0} {start : Stage → Asks} (target : Expr) (args : List Argument) (here : Here) (last : Cap → List Sent → Doing C) {next : C → Stage → Asks}
    → Follows start (ready_meaning target args here >>= λ ready. last ready.0 ready.1) next
    → Follows start (cap_expr target here >>= λ cap. arguments args here >>= λ sent. last cap sent) next
follows_ready target args here last {next = next} f =
    record { same = λ stage. f.same stage ∙ sym (regrouped (cap_expr target here stage) (λ cap. arguments args here) last next) }

pub acts_send : {ways : Ways} {core : Core} {line : Place} (target : Expr) (args : List Argument) {c0 c1 c2 : List Coded} → Emits line Send c0 c1
    → Gives put_ready core line (ready_meaning target args) c1 c2 → Acts ways core line (action_meaning (action.Send target args)) c0 c2
acts_send {ways = ways} {line = line} target args {c0 = c0} e ready = record {
  grows = extends_then (extends_one e) ready.grows;
  runs = λ onward m same h on.
      follows_ready target args (tree_here m line) (λ cap sent. through (request made (invoke_request cap (values_sent sent) false) (tree_here m line)))
      (follows_then (ready.runs m same (upper_part (extends_one e) h) on) (λ call.
      follows_through ways (length c0) m on
      (runs_past m e (lower_part ready.grows h) (put_ready call on) (request made (invoke_request call.0 (values_sent call.1) false) (tree_here m line)) (λ _. on) refl)));
}

pub acts_forward : {ways : Ways} {core : Core} {line : Place} (target : Expr) (args : List Argument) {c0 c1 c2 : List Coded} → Emits line Forward c0 c1
    → Gives put_ready core line (ready_meaning target args) c1 c2 → Acts ways core line (action_meaning (action.Forward target args)) c0 c2
acts_forward {ways = ways} {line = line} target args {c0 = c0} e ready = record {
  grows = extends_then (extends_one e) ready.grows;
  runs = λ onward m same h on.
      follows_ready target args (tree_here m line) (λ cap sent. through (forward_meaning cap (values_sent sent) (tree_here m line)))
      (follows_then (ready.runs m same (upper_part (extends_one e) h) on) (λ call.
      follows_through ways (length c0) m on
      (runs_past m e (lower_part ready.grows h) (put_ready call on) (forward_meaning call.0 (values_sent call.1) (tree_here m line)) (λ _. on) refl)));
}

-- ---- values and places

pub acts_evaluate : {ways : Ways} {core : Core} {line : Place} (expr : Expr) {c0 c1 c2 : List Coded} → Emits line DropValue c0 c1 → Gives put_value core line (expr_meaning expr) c1 c2
    → Acts ways core line (action_meaning (action.Evaluate expr)) c0 c2
acts_evaluate {ways = ways} expr e g = acts_through ways (gives_changed e g (λ m v on. refl))

pub acts_assign : {ways : Ways} {core : Core} {line : Place} (place : PlaceExpr) (value : Expr) {c0 c1 c2 c3 : List Coded} → Emits line Store c0 c1
    → Gives put_value core line (expr_meaning value) c1 c2 → Gives put_place core line (place_of_expr place) c2 c3 → Acts ways core line (action_meaning (action.Assign place value)) c0 c3
acts_assign {ways = ways} {line = line} place value {c0 = c0} e v p = record {
  grows = extends_then (extends_then (extends_one e) v.grows) p.grows;
  runs = λ onward m same h on.
      let below = lower_part p.grows h in
      follows_then (p.runs m same (upper_part (extends_then (extends_one e) v.grows) h) on) (λ at.
      follows_then (v.runs m same (upper_part (extends_one e) below) (put_place at on)) (λ x.
      follows_through ways (length c0) m on
      (runs_past m e (lower_part v.grows below) (put_value x (put_place at on)) (store_place at x (tree_here m line)) (λ _. on) refl)));
}

pub acts_swap : {ways : Ways} {core : Core} {line : Place} (left right : PlaceExpr) {c0 c1 c2 c3 c4 c5 c6 : List Coded} → Emits line Store c0 c1 → Emits line StoreSecond c1 c2
    → Emits line LoadAgain c2 c3 → Emits line LoadSecond c3 c4 → Gives put_place core line (place_of_expr right) c4 c5 → Gives put_place core line (place_of_expr left) c5 c6
    → Acts ways core line (action_meaning (action.Swap left right)) c0 c6
acts_swap {ways = ways} {line = line} left right {c0 = c0} {c1 = c1} {c2 = c2} {c3 = c3} {c4 = c4} {c5 = c5} store store_second load load_second r l = record {
  grows = extends_then to_right l.grows;
  runs = λ onward m same h on.
      let below = lower_part l.grows h in
      let loading = lower_part r.grows below in
      let again = lower_part (extends_one load_second) loading in
      let storing = lower_part (extends_one load) again in
      follows_then (l.runs m same (upper_part to_right h) on) (λ at.
      follows_then (r.runs m same (upper_part to_second below) (put_place at on)) (λ at'.
      follows_then (runs_past m load_second (upper_part to_load loading) (put_place at' (put_place at on)) (load_place at (tree_here m line)) (λ x. put_value x (put_place at' (put_place at on))) refl) (λ x.
      follows_then (runs_past m load (upper_part to_stores again) (put_value x (put_place at' (put_place at on))) (load_place at' (tree_here m line)) (λ y. put_value y (put_value x (put_place at' (put_place at on)))) refl) (λ y.
      follows_then (runs_past m store_second (upper_part (extends_one store) storing) (put_value y (put_value x (put_place at' (put_place at on)))) (store_place at y (tree_here m line)) (λ _. put_value x (put_place at' on)) refl) (λ _.
      follows_through ways (length c0) m on
      (runs_past m store (lower_part (extends_one store_second) storing) (put_value x (put_place at' on)) (store_place at' x (tree_here m line)) (λ _. on) refl))))));
} where
  to_stores : Extends c0 c2
  to_stores = extends_then (extends_one store) (extends_one store_second)

  to_load : Extends c0 c3
  to_load = extends_then to_stores (extends_one load)

  to_second : Extends c0 c4
  to_second = extends_then to_load (extends_one load_second)

  to_right : Extends c0 c5
  to_right = extends_then to_second r.grows

pub acts_bump : {ways : Ways} {core : Core} {line : Place} (place : PlaceExpr) (bump : Bump) {c0 c1 c2 c3 c4 c5 : List Coded} → Emits line Store c0 c1
    → Emits line (Operate (bump_operator bump)) c1 c2 → Emits line (Constant (Int (pos 1))) c2 c3 → Emits line LoadAgain c3 c4 → Gives put_place core line (place_of_expr place) c4 c5
    → Acts ways core line (action_meaning (action.Bump place bump)) c0 c5
acts_bump {ways = ways} {line = line} place bump {c0 = c0} {c1 = c1} {c2 = c2} {c3 = c3} {c4 = c4} store operate one load p = record {
  grows = extends_then to_load p.grows;
  runs = λ onward m same h on.
      let below = lower_part p.grows h in
      let rest = lower_part (extends_one load) below in
      let operating = lower_part (extends_one one) rest in
      follows_then (p.runs m same (upper_part to_load h) on) (λ at.
      follows_then (runs_past m load (upper_part to_one below) (put_place at on) (load_place at (tree_here m line)) (λ x. put_value x (put_place at on)) refl) (λ x.
      follows_then (runs_first m one (upper_part to_operate rest) (put_value x (put_place at on)) (point (length c2) (put_value (Int (pos 1)) (put_value x (put_place at on)))) refl
      (runs_past m operate (upper_part (extends_one store) operating) (put_value (Int (pos 1)) (put_value x (put_place at on))) (settle (value_of (bump_operator bump) x (Int (pos 1))) (tree_here m line)) (λ y. put_value y (put_place at on)) refl)) (λ y.
      follows_through ways (length c0) m on
      (runs_past m store (lower_part (extends_one operate) operating) (put_value y (put_place at on)) (store_place at y (tree_here m line)) (λ _. on) refl))));
} where
  to_operate : Extends c0 c2
  to_operate = extends_then (extends_one store) (extends_one operate)

  to_one : Extends c0 c3
  to_one = extends_then to_operate (extends_one one)

  to_load : Extends c0 c4
  to_load = extends_then to_one (extends_one load)

-- ---- requests

pub acts_write : {ways : Ways} {core : Core} {line : Place} (args : List Expr) (newline : Bool) {c0 c1 c2 : List Coded} → Emits line (Write newline) c0 c1
    → Gives put_list core line (in_order (map expr_meaning args)) c1 c2 → Acts ways core line (action_meaning (action.Write args newline)) c0 c2
acts_write {ways = ways} {line = line} args newline {c0 = c0} e g = record {
  grows = extends_then (extends_one e) g.grows;
  runs = λ onward m same h on.
      follows_then (g.runs m same (upper_part (extends_one e) h) on) (λ values.
      runs_two ways m e (lower_part g.grows h) (put_list values on) on (settle (texts_of m.core.names values) (tree_here m line))
      (λ texts. request done (write_request (written newline texts)) (tree_here m line)) refl);
}

pub gives_no_status : {core : Core} {line : Place} {c0 c1 : List Coded} → Emits line (Number (pos 0)) c0 c1 → Gives put_number core line (status_meaning None) c0 c1
gives_no_status e = gives_first e (status_meaning None) (λ m on. refl)

pub acts_stop : {ways : Ways} {core : Core} {line : Place} (status : Option Expr) {c0 c1 c2 : List Coded} → Emits line Stop c0 c1
    → Gives put_number core line (status_meaning status) c1 c2 → Acts ways core line (action_meaning (action.Stop status)) c0 c2
acts_stop {ways = ways} {line = line} status {c0 = c0} {c1 = c1} e g = record {
  grows = extends_then (extends_one e) g.grows;
  runs = λ onward m same h on.
      follows_then (g.runs m same (upper_part (extends_one e) h) on) (λ n. stopped m on n (lower_part g.grows h));
} where
  stopped : (m : Machine) (on : Operands) (n : ℤ) → Has c1 (length c0) (length c1) m.code
      → Follows (go m (point (length c1) (put_number n on))) (request none_takes (stop_request n) (tree_here m line)) (λ ending. go m (point (way ways (length c0) ending) on))
  stopped m on n h = record {
    same = λ stage. (runs_act m e h (put_number n on)).same stage ∙ last_heard _ m.limit stage.answers stage (go m) (λ ending. go m (point (way ways (length c0) ending) on));
  }

pub acts_destroy : {ways : Ways} {core : Core} {line : Place} (target : Expr) {c0 c1 c2 c3 : List Coded} → Emits line TakeDone c0 c1 → Emits line Destroy c1 c2
    → Gives put_cap core line (cap_expr target) c2 c3 → Acts ways core line (action_meaning (action.Destroy target)) c0 c3
acts_destroy {ways = ways} {line = line} target {c0 = c0} take destroy g = record {
  grows = extends_then (extends_then (extends_one take) (extends_one destroy)) g.grows;
  runs = λ onward m same h on.
      let below = lower_part g.grows h in
      follows_then (g.runs m same (upper_part (extends_then (extends_one take) (extends_one destroy)) h) on) (λ cap.
      follows_then (runs_past m destroy (upper_part (extends_one take) below) (put_cap cap on) (request made (destroy_request cap) (tree_here m line)) (λ name. put_name name on) refl) (λ name.
      follows_through ways (length c0) m on
      (runs_past m take (lower_part (extends_one destroy) below) (put_name name on) (taken name (tree_here m line)) (λ _. on) refl)));
}

same_time : (n : ℤ) → time_of n ≡ time_to_wait n
same_time (pos n) = refl
same_time (negsuc n) = refl

pub acts_until : {ways : Ways} {core : Core} {line : Place} (time : Expr) {c0 c1 c2 c3 c4 : List Coded} → Emits line Wake c0 c1 → Emits line Age c1 c2 → Emits line ToWait c2 c3
    → Gives put_number core line (number_expr time) c3 c4 → Acts ways core line (action_meaning (action.Until time)) c0 c4
acts_until {ways = ways} {line = line} time {c0 = c0} {c2 = c2} {c3 = c3} wake age to_wait g = record {
  grows = extends_then to_wait_end g.grows;
  runs = λ onward m same h on.
      let below = lower_part g.grows h in
      let waking = lower_part (extends_one to_wait) below in
      follows_then (g.runs m same (upper_part to_wait_end h) on) (λ n.
      follows_then (follows_as (ap (λ found. settle found (tree_here m line)) (same_time n))
      (runs_past m to_wait (upper_part to_age below) (put_number n on) (settle (time_to_wait n) (tree_here m line)) (λ wait. put_number wait on) refl)) (λ wait.
      follows_then (runs_past m age (upper_part (extends_one wake) waking) (put_number wait on) (request moment age_request (tree_here m line)) (λ now. put_number now (put_number wait on)) refl) (λ now.
      (runs_two ways m wake (lower_part (extends_one age) waking) (put_number now (put_number wait on)) on (settle (until_moment (now +ℤ wait)) (tree_here m line))
      (λ until. request done (wake_request until) (tree_here m line)) refl))));
} where
  to_age : Extends c0 c2
  to_age = extends_then (extends_one wake) (extends_one age)

  to_wait_end : Extends c0 c3
  to_wait_end = extends_then to_age (extends_one to_wait)

pub acts_reply : {ways : Ways} {core : Core} {line : Place} {c0 c1 : List Coded} → Emits line Reply c0 c1 → Acts ways core line (action_meaning action.Reply) c0 c1
acts_reply {ways = ways} e = acts_through ways (gives_first e reply_meaning (λ m on. refl))
