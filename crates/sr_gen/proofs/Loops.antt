-- Loops: their code asks what they ask, at each turn.
use Rattle.std.proofs.Common.{◌≡◌, ℕ, ℤ, zero, suc, ◌≤◌, ◌<◌, Bool, true, false, List, [], ◌∷◌, length, map, Option, Some, None, refl, sym, ◌∙◌, ap, subst, arith}
use Rattle.sr_value.specs.declared.place.Place.{Place}
use Rattle.sr_ask.specs.Behaviors.{Stage, Outcome, Came, Stops, Doing, and_then, give, ◌>>=◌, looped, room, tick, ticked, turned, turns}
use Rattle.sr_ask.specs.Places.{declare_own}
use Rattle.sr_ask.specs.declared.ask.Asks.{Asks}
use Rattle.sr_core.specs.Values.{count_of, values_of}
use Rattle.sr_core.specs.declared.component.Core.{Core}
use Rattle.sr_core.specs.declared.expression.Expr.{Expr}
use Rattle.sr_core.specs.declared.statement.Action.TheVariants.{Send as send_action}
use Rattle.sr_core.specs.declared.statement.Guarded.{Guarded}
use Rattle.sr_core.specs.declared.statement.Quantifier.{Quantifier}
use Rattle.sr_core.specs.declared.statement.Statement.{Statement}
use Rattle.sr_code.specs.Acts.{point, act, number_own}
use Rattle.sr_code.specs.Operands.{put_count, put_number, put_numbers}
use Rattle.sr_code.specs.Runs.{Machine, go, here_at, then_asks}
use Rattle.sr_code.specs.Stretches.{Emits, Extends, Follows, Has}
use Rattle.sr_code.specs.declared.code.Coded.{Coded}
use Rattle.sr_code.specs.declared.instruction.Instruction.{Instruction}
use Rattle.sr_code.specs.declared.instruction.Instruction.TheVariants.{Again, DropNumbers, Each, Jump, Quantify, Repeat, ToCount}
use Rattle.sr_code.specs.declared.operands.Operands.{Operands}
use Rattle.sr_code.proofs.Stretches.{emitted_length, extends_one, extends_self, extends_then, follows_give, follows_then, lower_part, runs_past, upper_part}
use Rattle.sr_meaning.specs.declared.ending.Ending.{Ending}
use Rattle.sr_meaning.specs.declared.ending.Ending.TheVariants.{Through, Left, Turned}
use Rattle.sr_meaning.specs.Expressions.{Meaning, choice}
use Rattle.sr_meaning.specs.Here.{settle}
use Rattle.sr_meaning.specs.Pieces.{guarded_of, optional_block}
use Rattle.sr_meaning.specs.Statements.{action_meaning, after_turn, block_meaning, condition_meaning, continue, do_meaning, do_turn, first_true, for_values, left, no_guard, number_expr, quantified, sends, sends_meaning, through, turn_end}
use Rattle.sr_meaning.proofs.Regular.{Leaves}
use Rattle.sr_meaning.proofs.RegularStatements.{regular_do_turn}
use Rattle.sr_meaning.proofs.RegularWhole.{regular_guards, regular_optional}
use Rattle.sr_gen_expr.specs.Emitting.{Gives, tree_here}
use Rattle.sr_gen_expr.proofs.Stretching.{follows_at, follows_last, passes}
use Rattle.sr_gen.specs.Blocks.{bounds_meaning}
use Rattle.sr_gen.specs.Doing.{Acts, Checks, Drops, Onward, Patches, Rests, Tries, checked, fa_ways, loop_ways, one_way, pad_ways, tried, turn_way, way}
use Rattle.sr_gen.specs.declared.ways.Ways.{Ways}
use Rattle.sr_gen.proofs.Endings.{follows_through, jumps, onward_grown}
use Rattle.sr_gen.proofs.Patched.{patched_extends, patched_length, patched_lower, patched_upper, runs_patched}

-- ---- one instruction that does several pieces

-- what an instruction leads to, and what is done there
pub follows_one : {A B P : Type 0} {start : Stage → Asks} (first : Doing A) (to : A → P) {next : P → Stage → Asks} {then : A → Doing B} {last : B → Stage → Asks}
    → Follows start (first >>= λ a. give (to a)) next → ((a : A) → Follows (next (to a)) (then a) last) → Follows start (first >>= then) last
follows_one first to {next = next} {then = then} {last = last} f n = record {
  same = λ stage. f.same stage ∙ one (first stage) to next then last (λ a after. (n a).same after);
} where
  one : {A B P : Type 0} (o : Outcome A) (to : A → P) (next : P → Stage → Asks) (then : A → Doing B) (last : B → Stage → Asks)
      → ((a : A) (after : Stage) → next (to a) after ≡ then_asks (then a after) last) → then_asks (and_then o (λ a. give (to a))) next ≡ then_asks (and_then o then) last
  one (Came a stage) to next then last is = is a stage
  one (Stops asks) to next then last is = refl

follows_two : {A B C P : Type 0} {start : Stage → Asks} (first : Doing A) (mid : A → Doing B) (to : P) {next : P → Stage → Asks} {then : Doing C} {last : C → Stage → Asks}
    → Follows start (first >>= λ a. mid a >>= λ b. give to) next → Follows (next to) then last → Follows start (first >>= λ a. mid a >>= λ b. then) last
follows_two first mid to {next = next} {then = then} {last = last} f n = record {
  same = λ stage. f.same stage ∙ two (first stage) mid to next then last n.same;
} where
  one : {B C P : Type 0} (o : Outcome B) (to : P) (next : P → Stage → Asks) (then : Doing C) (last : C → Stage → Asks)
      → ((after : Stage) → next to after ≡ then_asks (then after) last) → then_asks (and_then o (λ b. give to)) next ≡ then_asks (and_then o (λ b. then)) last
  one (Came b stage) to next then last is = is stage
  one (Stops asks) to next then last is = refl

  two : {A B C P : Type 0} (o : Outcome A) (mid : A → Doing B) (to : P) (next : P → Stage → Asks) (then : Doing C) (last : C → Stage → Asks)
      → ((after : Stage) → next to after ≡ then_asks (then after) last) → then_asks (and_then o (λ a. mid a >>= λ b. give to)) next ≡ then_asks (and_then o (λ a. mid a >>= λ b. then)) last
  two (Came a stage) mid to next then last is = one (mid a stage) to next then last is
  two (Stops asks) mid to next then last is = refl

-- ---- loops that take a tick for each turn

-- after a turn: the loop ends, or another turn follows
abbrev pub ended : Option Ending → (Stage → Asks) → (Ending → Stage → Asks) → Stage → Asks
ended None again last = again
ended (Some ending) again last = last ending

after_one : (again : Stage → Asks) (turn : Doing (Option Ending)) (last : Ending → Stage → Asks) (limit most : ℕ)
    → ((stage : Stage) → room limit stage < most → again stage ≡ then_asks (turns most turn stage) last)
    → (o : Outcome (Option Ending)) (before : ℕ) → Leaves limit o before → before < most
    → then_asks o (λ end. ended end again last) ≡ then_asks (and_then o (λ end. turned end (turns most turn))) last
after_one again turn last limit most rest (Came None stage) before h less = rest stage (omega arith)
after_one again turn last limit most rest (Came (Some ending) stage) before h less = refl
after_one again turn last limit most rest (Stops asks) before h less = refl

begun_one : (again head : Stage → Asks) (turn : Doing (Option Ending)) (last : Ending → Stage → Asks) (limit most : ℕ)
    → Follows head turn (λ end. ended end again last) → ((stage : Stage) → Leaves limit (turn stage) (room limit stage))
    → ((stage : Stage) → room limit stage < most → again stage ≡ then_asks (turns most turn stage) last)
    → (ticks : ℕ) (stage : Stage) → stage.ticks ≡ ticks → room limit stage < suc most
    → then_asks (ticked ticks stage) (λ _. head) ≡ then_asks (and_then (ticked ticks stage) (λ _ later. and_then (turn later) (λ end. turned end (turns most turn)))) last
begun_one again head turn last limit most runs keeps rest zero stage is less = refl
begun_one again head turn last limit most runs keeps rest (suc ticks) stage is less =
    let later : Stage = record stage { ticks = ticks } in
    runs.same later ∙ after_one again turn last limit most rest (turn later) (room limit later) (keeps later) (omega arith)

turns_run : (again head : Stage → Asks) (turn : Doing (Option Ending)) (last : Ending → Stage → Asks) (limit : ℕ) → ((stage : Stage) → again stage ≡ then_asks (tick stage) (λ _. head))
    → Follows head turn (λ end. ended end again last) → ((stage : Stage) → Leaves limit (turn stage) (room limit stage))
    → (most : ℕ) (stage : Stage) → room limit stage < most → again stage ≡ then_asks (turns most turn stage) last
turns_run again head turn last limit begins runs keeps zero stage less = absurd (omega arith)
turns_run again head turn last limit begins runs keeps (suc most) stage less =
    begins stage ∙ begun_one again head turn last limit most runs keeps (turns_run again head turn last limit begins runs keeps most) stage.ticks stage refl less

-- where each turn takes a tick and leaves no more room for ticks, the loop follows
pub loop_runs : {again head : Stage → Asks} (turn : Doing (Option Ending)) {last : Ending → Stage → Asks} (limit : ℕ) → ((stage : Stage) → again stage ≡ then_asks (tick stage) (λ _. head))
    → Follows head turn (λ end. ended end again last) → ((stage : Stage) → Leaves limit (turn stage) (room limit stage)) → Follows again (looped limit turn) last
loop_runs {again = again} {head = head} turn {last = last} limit begins runs keeps =
    record { same = λ stage. turns_run again head turn last limit begins runs keeps (suc (room limit stage)) stage (omega arith) }

-- ---- do

-- after the block of a turn
turn_given : (ways : Ways) (to again : ℕ) (m : Machine) (on : Operands) (ending : Ending)
    → Follows (go m (point (way (loop_ways ways to again) again ending) on)) (give (after_turn ending)) (λ end. go m (point (turn_way ways to again end) on))
turn_given ways to again m on Through = follows_give (λ end. go m (point (turn_way ways to again end) on)) None
turn_given ways to again m on Left = follows_give (λ end. go m (point (turn_way ways to again end) on)) (Some Left)
turn_given ways to again m on Turned = follows_give (λ end. go m (point (turn_way ways to again end) on)) None
turn_given ways to again m on Ending.Returned = follows_give (λ end. go m (point (turn_way ways to again end) on)) (Some Ending.Returned)

pub rests_none : (ways : Ways) {to : ℕ} (again : ℕ) {core : Core} {line : Place} {c0 c1 : List Coded} → Emits line (Jump to) c0 c1 → Rests ways to again core line (no_guard None) c0 c1
rests_none ways {to = to} again e = record {
  grows = extends_one e;
  runs = λ onward m same h on. follows_at (jumps m e h onward.left on) (follows_give (λ end. go m (point (turn_way ways to again end) on)) (Some Through));
}

pub rests_some : (ways : Ways) (to again : ℕ) {core : Core} {line : Place} (block : List (Meaning Ending)) {c0 c1 : List Coded} → again ≡ length c0
    → Acts (loop_ways ways to again) core line (block_meaning block) c0 c1 → Rests ways to again core line (no_guard (Some block)) c0 c1
rests_some ways to again {line = line} block {c0 = c0} is acts = record {
  grows = acts.grows;
  runs = λ onward m same h on.
      follows_then (acts.runs onward m same h on) (λ ending.
      follows_at (λ stage. ap (λ n. go m (point (way (loop_ways ways to again) n ending) on) stage) (sym is)) (turn_given ways to again m on ending));
}

turn_runs : (ways : Ways) (to again past : ℕ) (m : Machine) (on : Operands) (rest : Doing (Option Ending)) → (end : Option Ending)
    → Follows (go m (point past on)) rest (λ other. go m (point (turn_way ways to again other) on))
    → Follows (go m (point (tried (loop_ways ways to again) again past end) on)) (turn_end end rest) (λ other. go m (point (turn_way ways to again other) on))
turn_runs ways to again past m on rest None f = f
turn_runs ways to again past m on rest (Some ending) f = turn_given ways to again m on ending

pub acts_do : {ways : Ways} {core : Core} {line : Place} (guards : List Guarded) (otherwise : Option (List Statement)) {c0 c1 c2 c3 c4 c5 : List Coded} {first : Instruction} → Emits line first c0 c1
    → Rests ways (length c0) (length c1) core line (no_guard (optional_block otherwise)) c1 c2
    → Tries (loop_ways ways (length c0) (length c1)) (length c1) core line (first_true (map guarded_of guards)) c2 c3
    → Patches line (Again (length c3)) (length c0) c3 c4 → Emits line (Jump (length c1)) c4 c5
    → Acts ways core line (do_meaning (map guarded_of guards) (optional_block otherwise)) c0 c5
acts_do {ways = ways} {line = line} guards otherwise {c0 = c0} {c1 = c1} {c2 = c2} {c3 = c3} {c4 = c4} first rests tries patch jump = record {
  grows = extends_then to_patched (extends_one jump);
  runs = λ onward m same h on.
      let below = lower_part (extends_one jump) h in
      let inner = inner_onward onward in
      follows_then
      (follows_at (jumps m jump (upper_part to_patched h) again_low on)
      (loop_runs {again = go m (point (length c1) on)} {head = go m (point (length c3) on)} (do_turn (map guarded_of guards) (optional_block otherwise) (tree_here m line))
      {last = λ ending. go m (point (way ways (length c0) (left ending)) on)} m.limit (again_runs m on below)
      (follows_last (same_last m on)
      (follows_then (tries.runs (onward_grown inner rests.grows) rests.grows.above m same (upper_part rests.grows (above m below)) on) (λ end.
      turn_runs ways (length c0) (length c1) (length c2) m on (no_guard (optional_block otherwise) (tree_here m line)) end
      (rests.runs inner m same (lower_part tries.grows (above m below)) on))))
      (λ stage. (regular_do_turn (map guarded_of guards) (optional_block otherwise) (tree_here m line) (regular_guards guards) (regular_optional otherwise)).leaves m.limit stage)))
      (λ ending. follows_give (λ other. go m (point (way ways (length c0) other) on)) (left ending));
} where
  one_more : length c1 ≡ suc (length c0)
  one_more = emitted_length first

  to_guards : Extends c1 c3
  to_guards = extends_then rests.grows tries.grows

  to_patched : Extends c0 c4
  to_patched = patched_extends patch (extends_self c0) (extends_then (extends_one first) to_guards)

  again_low : length c1 ≤ length c4
  again_low = let l = patched_length patch in let a = to_guards.above in omega arith

  inner_onward : Onward ways (length c0) → Onward (loop_ways ways (length c0) (length c1)) (length c1)
  inner_onward onward = record { left = omega (arith, one_more); turned = omega arith; returned = let l = onward.returned in omega (arith, one_more) }

  above : (m : Machine) → Has c4 (length c0) (length c4) m.code → Has c3 (length c1) (length c3) m.code
  above m h = patched_upper patch (let n : length c0 ≤ length c0 = omega arith in n) (let n : length c0 < length c1 = omega (arith, one_more) in n) h

  again_runs : (m : Machine) (on : Operands) → Has c4 (length c0) (length c4) m.code → (stage : Stage)
      → go m (point (length c1) on) stage ≡ then_asks (tick stage) (λ _. go m (point (length c3) on))
  again_runs m on h stage =
      ap (λ n. go m (point n on) stage) one_more
      ∙ (runs_patched m patch (let n : length c0 ≤ length c0 = omega arith in n) (let a = to_guards.above in let n : length c0 < length c3 = omega (arith, one_more) in n) h on).same stage
      ∙ ticks (tick stage) where
        ticks : (o : Outcome (Unit {0})) → then_asks (and_then o (λ _. give (point (length c3) on))) (go m) ≡ then_asks o (λ _. go m (point (length c3) on))
        ticks (Came u stage) = refl
        ticks (Stops asks) = refl

  same_last : (m : Machine) (on : Operands) (end : Option Ending) (stage : Stage)
      → go m (point (turn_way ways (length c0) (length c1) end) on) stage ≡ ended end (go m (point (length c1) on)) (λ ending. go m (point (way ways (length c0) (left ending)) on)) stage
  same_last m on None stage = refl
  same_last m on (Some ending) stage = refl

-- ---- the sends of a `sem`

pub same_way : (to : ℕ) (ending : Ending) → way (one_way to) to ending ≡ to
same_way to Through = refl
same_way to Left = refl
same_way to Turned = refl
same_way to Ending.Returned = refl

pub acts_sends : {ways : Ways} {core : Core} {line : Place} (target count : Expr) {c0 c1 c2 c3 c4 c5 c6 : List Coded} {first : Instruction} → Emits line first c0 c1
    → Acts (one_way (length c1)) core line (action_meaning (send_action target [])) c1 c2 → Patches line (Repeat (length c2)) (length c0) c2 c3 → Emits line (Jump (length c1)) c3 c4
    → Emits line ToCount c4 c5 → Gives put_number core line (number_expr count) c5 c6 → Acts ways core line (sends_meaning target count) c0 c6
acts_sends {ways = ways} {core = core} {line = line} target count {c0 = c0} {c1 = c1} {c2 = c2} {c3 = c3} {c4 = c4} {c5 = c5} first send patch jump to_count number = record {
  grows = extends_then to_counted number.grows;
  runs = λ onward m same h on.
      let counting = lower_part number.grows h in
      let jumping = lower_part (extends_one to_count) counting in
      follows_then (number.runs m same (upper_part to_counted h) on) (λ n.
      follows_then (runs_past m to_count (upper_part to_jump counting) (put_number n on) (settle (count_of n) (tree_here m line)) (λ times. put_count times on) refl) (λ times.
      follows_at (jumps m jump (upper_part to_patched jumping) again_low (put_count times on))
      (follows_through ways (length c0) m on (sends_run m same on (lower_part (extends_one jump) jumping) times))));
} where
  one_more : length c1 ≡ suc (length c0)
  one_more = emitted_length first

  to_patched : Extends c0 c3
  to_patched = patched_extends patch (extends_self c0) (extends_then (extends_one first) send.grows)

  to_jump : Extends c0 c4
  to_jump = extends_then to_patched (extends_one jump)

  to_counted : Extends c0 c5
  to_counted = extends_then to_jump (extends_one to_count)

  again_low : length c1 ≤ length c3
  again_low = let l = patched_length patch in let a = send.grows.above in omega arith

  at_repeat : (m : Machine) (on : Operands) → Has c3 (length c0) (length c3) m.code
      → Follows (go m (point (length c1) on)) (act m.core (Repeat (length c2)) (here_at m line) (length c0) on) (go m)
  at_repeat m on h =
      follows_at (λ stage. ap (λ n. go m (point n on) stage) one_more)
      (runs_patched m patch (let n : length c0 ≤ length c0 = omega arith in n) (let a = send.grows.above in let n : length c0 < length c2 = omega (arith, one_more) in n) h on)

  sends_run : (m : Machine) → m.core ≡ core → (on : Operands) → Has c3 (length c0) (length c3) m.code → (times : ℕ)
      → Follows (go m (point (length c1) (put_count times on))) (sends target times (tree_here m line)) (λ _. go m (point (length c0) on))
  sends_run m same on h zero = record { same = λ stage. (at_repeat m (put_count zero on) h).same stage }
  sends_run m same on h (suc times) =
      follows_one tick (λ _. point (length c2) (put_count times on)) (at_repeat m (put_count (suc times) on) h) (λ _.
      follows_then
      (follows_last (λ ending stage. ap (λ n. go m (point n (put_count times on)) stage) (same_way (length c1) ending))
      (send.runs (record { left = omega arith; turned = omega arith; returned = omega arith }) m same
      (patched_upper patch (let n : length c0 ≤ length c0 = omega arith in n) (let n : length c0 < length c1 = omega (arith, one_more) in n) h) (put_count times on))) (λ _.
      sends_run m same on h times))

-- ---- quantifiers

flat_two : {A B C : Type 0} (o : Outcome A) (second : A → Doing B) (last : B → Doing C) (next : C → Stage → Asks)
    → then_asks (and_then (and_then o second) last) next ≡ then_asks (and_then o (λ a. second a >>= last)) next
flat_two (Came a stage) second last next = refl
flat_two (Stops asks) second last next = refl

flat_three : {A B C D : Type 0} (o : Outcome A) (second : A → Doing B) (third : A → B → Doing C) (last : C → Doing D) (next : D → Stage → Asks)
    → then_asks (and_then (and_then o (λ a. second a >>= λ b. third a b)) last) next ≡ then_asks (and_then o (λ a. second a >>= λ b. third a b >>= last)) next
flat_three (Came a stage) second third last next = flat_two (second a stage) (third a) last next
flat_three (Stops asks) second third last next = refl

flat_four : {A B C D E : Type 0} (o : Outcome A) (second : A → Doing B) (third : A → B → Doing C) (fourth : A → B → C → Doing D) (last : D → Doing E) (next : E → Stage → Asks)
    → then_asks (and_then (and_then o (λ a. second a >>= λ b. third a b >>= λ c. fourth a b c)) last) next
    ≡ then_asks (and_then o (λ a. second a >>= λ b. third a b >>= λ c. fourth a b c >>= last)) next
flat_four (Came a stage) second third fourth last next = flat_three (second a stage) (third a) (fourth a) last next
flat_four (Stops asks) second third fourth last next = refl

pub gives_bounds : {core : Core} {line : Place} (q : Quantifier) {c0 c1 c2 c3 c4 : List Coded} → Emits line (Quantify q.direction) c0 c1 → Gives put_number core line (number_expr q.by) c1 c2
    → Gives put_number core line (number_expr q.to) c2 c3 → Gives put_number core line (number_expr q.from) c3 c4 → Gives put_numbers core line (bounds_meaning q) c0 c4
gives_bounds {line = line} q {c0 = c0} {c1 = c1} {c2 = c2} {c3 = c3} quantify by to from = record {
  grows = extends_then to_to from.grows;
  runs = λ m same h on.
      let at_to = lower_part from.grows h in
      let at_by = lower_part to.grows at_to in
      follows_then (from.runs m same (upper_part to_to h) on) (λ x.
      follows_then (to.runs m same (upper_part to_by at_to) (put_number x on)) (λ y.
      follows_then (by.runs m same (upper_part (extends_one quantify) at_by) (put_number y (put_number x on))) (λ z.
      runs_past m quantify (lower_part by.grows at_by) (put_number z (put_number y (put_number x on))) (settle (values_of q.direction x y z) (tree_here m line)) (λ values. put_numbers values on) refl)));
} where
  to_by : Extends c0 c2
  to_by = extends_then (extends_one quantify) by.grows

  to_to : Extends c0 c3
  to_to = extends_then to_by to.grows

-- the values of a quantifier lie on the operands while the work inside runs; where that is left, they go
pub drops_to : {to : ℕ} {line : Place} {c0 c1 c2 : List Coded} → Emits line (Jump to) c0 c1 → Emits line DropNumbers c1 c2 → Drops to c0 c2
drops_to {to = to} {c1 = c1} jump drop = record {
  grows = extends_then (extends_one jump) (extends_one drop);
  runs = λ low m h numbers on stage.
      passes m drop (upper_part (extends_one jump) h) (put_numbers numbers on) (point (length c1) on) refl stage
      ∙ jumps m jump (lower_part (extends_one drop) h) low on stage;
}

pub acts_quantified : {ways : Ways} {core : Core} {line : Place} (q : Quantifier) (rest : List Quantifier) (inner : Meaning Ending)
    {c0 c2 c4 c5 c6 c7 c8 c9 c10 c11 : List Coded} {first : Instruction}
    → Drops ways.returned c0 c2 → Drops ways.left c2 c4 → Emits line (Jump (length c0)) c4 c5 → Emits line first c5 c6
    → Acts (pad_ways (length c4) (length c6) (length c2)) core line (quantified rest inner) c6 c7
    → Checks (length c6) core line (condition_meaning q.condition) c7 c8
    → Patches line (Each q.var (length c8)) (length c5) c8 c9 → Emits line (Jump (length c6)) c9 c10 → Gives put_numbers core line (bounds_meaning q) c10 c11
    → Acts ways core line (quantified (q ∷ rest) inner) c0 c11
acts_quantified {ways = ways} {core = core} {line = line} q rest inner {c0 = c0} {c2 = c2} {c4 = c4} {c5 = c5} {c6 = c6} {c7 = c7} {c8 = c8} {c9 = c9} {c10 = c10} {c11 = c11}
    drop_right drop_left jump first body check patch to_each bounds = record {
      grows = extends_then to_jump bounds.grows;
      runs = λ onward m same h on.
          let at_jump = lower_part bounds.grows h in
          let run : Follows (go m (point (length c11) on)) (bounds_meaning q (tree_here m line) >>= λ values. for_values q.var q.condition (quantified rest inner) values (tree_here m line)) (λ ending. go m (point (way ways (length c0) ending) on)) =
          follows_then (bounds.runs m same (upper_part to_jump h) on) (λ values.
          follows_at (jumps m to_each (upper_part to_patched at_jump) each_low (put_numbers values on))
          (values_run onward m same (lower_part (extends_one to_each) at_jump) on values)) in
          record {
            same = λ stage.
                run.same stage
                ∙ flat_four (number_expr q.from (tree_here m line) stage) (λ x. number_expr q.to (tree_here m line)) (λ x y. number_expr q.by (tree_here m line)) (λ x y z. settle (values_of q.direction x y z) (tree_here m line))
                (λ values. for_values q.var q.condition (quantified rest inner) values (tree_here m line)) (λ ending. go m (point (way ways (length c0) ending) on));
          };
    } where
      pads : Extends c0 c4
      pads = extends_then drop_right.grows drop_left.grows

      to_end : Extends c0 c5
      to_end = extends_then pads (extends_one jump)

      one_more : length c6 ≡ suc (length c5)
      one_more = emitted_length first

      to_check : Extends c6 c8
      to_check = extends_then body.grows check.grows

      to_patched : Extends c0 c9
      to_patched = patched_extends patch to_end (extends_then (extends_one first) to_check)

      to_jump : Extends c0 c10
      to_jump = extends_then to_patched (extends_one to_each)

      each_low : length c6 ≤ length c9
      each_low = let l = patched_length patch in let a = to_check.above in omega arith

      below : length c0 ≤ length c5
      below = to_end.above

      within : length c5 < length c8
      within = let a = to_check.above in omega (arith, one_more)

      above_each : length c5 < length c6
      above_each = omega (arith, one_more)

      inside : (m : Machine) → Has c9 (length c0) (length c9) m.code → Has c8 (length c6) (length c8) m.code
      inside m h = patched_upper patch below above_each h

      -- what is below the loop
      at_end : (m : Machine) → Has c9 (length c0) (length c9) m.code → Has c5 (length c0) (length c5) m.code
      at_end m h = patched_lower patch (extends_then (extends_one first) to_check) h

      at_each : (m : Machine) (on : Operands) → Has c9 (length c0) (length c9) m.code → Follows (go m (point (length c6) on)) (act m.core (Each q.var (length c8)) (here_at m line) (length c5) on) (go m)
      at_each m on h = follows_at (λ stage. ap (λ n. go m (point n on) stage) one_more) (runs_patched m patch below within h on)

      after : (m : Machine) (on : Operands) (left_is : (numbers : List ℤ) (stage : Stage) → go m (point (length c4) (put_numbers numbers on)) stage ≡ go m (point ways.left on) stage)
          (right_is : (numbers : List ℤ) (stage : Stage) → go m (point (length c2) (put_numbers numbers on)) stage ≡ go m (point ways.returned on) stage)
          (numbers : List ℤ) (others : Doing Ending) (ending : Ending)
          → Follows (go m (point (length c6) (put_numbers numbers on))) others (λ e. go m (point (way ways (length c0) e) on))
          → Follows (go m (point (way (pad_ways (length c4) (length c6) (length c2)) (length c6) ending) (put_numbers numbers on))) (continue (after_turn ending) others) (λ e. go m (point (way ways (length c0) e) on))
      after m on left_is right_is numbers others Through f = f
      after m on left_is right_is numbers others Left f = follows_at (left_is numbers) (follows_give (λ e. go m (point (way ways (length c0) e) on)) Left)
      after m on left_is right_is numbers others Turned f = f
      after m on left_is right_is numbers others Ending.Returned f = follows_at (right_is numbers) (follows_give (λ e. go m (point (way ways (length c0) e) on)) Ending.Returned)

      chosen : (m : Machine) (on : Operands) (numbers : List ℤ) (others : Doing Ending) (truth : Bool)
          → Follows (go m (point (length c7) (put_numbers numbers on))) (quantified rest inner (tree_here m line) >>= λ ending. continue (after_turn ending) others) (λ e. go m (point (way ways (length c0) e) on))
          → Follows (go m (point (length c6) (put_numbers numbers on))) others (λ e. go m (point (way ways (length c0) e) on))
          → Follows (go m (point (checked truth (length c6) (length c7)) (put_numbers numbers on)))
          (choice truth (quantified rest inner (tree_here m line)) (give Through) >>= λ ending. continue (after_turn ending) others) (λ e. go m (point (way ways (length c0) e) on))
      chosen m on numbers others true held other = held
      chosen m on numbers others false held other = record { same = λ stage. other.same stage }

      inner_onward : Onward ways (length c0) → Onward (pad_ways (length c4) (length c6) (length c2)) (length c6)
      inner_onward onward = record {
        left = let a = (extends_one jump).above in omega (arith, one_more);
        turned = omega arith;
        returned = let a = (extends_one jump).above in let b = drop_left.grows.above in omega (arith, one_more);
      }

      values_run : Onward ways (length c0) → (m : Machine) → m.core ≡ core → Has c9 (length c0) (length c9) m.code → (on : Operands) (values : List ℤ)
          → Follows (go m (point (length c6) (put_numbers values on))) (for_values q.var q.condition (quantified rest inner) values (tree_here m line)) (λ ending. go m (point (way ways (length c0) ending) on))
      values_run onward m same h on [] =
          follows_at (λ stage. (at_each m (put_numbers [] on) h).same stage ∙ jumps m jump (upper_part pads (at_end m h)) pads.above on stage)
          (follows_give (λ ending. go m (point (way ways (length c0) ending) on)) Through)
      values_run onward m same h on (n ∷ values) =
          follows_two tick (λ _. declare_own q.var (number_own n)) (point (length c8) (put_numbers values on)) (at_each m (put_numbers (n ∷ values) on) h)
          (follows_then (check.runs body.grows.above m same (upper_part body.grows (inside m h)) (put_numbers values on)) (λ truth.
          chosen m on values (for_values q.var q.condition (quantified rest inner) values (tree_here m line)) truth
          (follows_then (body.runs (inner_onward onward) m same (lower_part check.grows (inside m h)) (put_numbers values on)) (λ ending.
          after m on
          (λ numbers stage. drop_left.runs (let a = drop_right.grows.above in let l = onward.left in omega arith) m (upper_part drop_right.grows (lower_part (extends_one jump) (at_end m h))) numbers on stage)
          (λ numbers stage. drop_right.runs onward.returned m (lower_part drop_left.grows (lower_part (extends_one jump) (at_end m h))) numbers on stage)
          values (for_values q.var q.condition (quantified rest inner) values (tree_here m line)) ending
          (values_run onward m same h on values)))
          (values_run onward m same h on values)))

-- ---- fa

pub acts_fa : {ways : Ways} {core : Core} {line : Place} (meaning : Meaning Ending) {c0 c1 : List Coded} → Acts (fa_ways ways (length c0)) core line meaning c0 c1
    → Acts ways core line (λ here. meaning here >>= λ ending. give (left ending)) c0 c1
acts_fa {ways = ways} {line = line} meaning {c0 = c0} acts = record {
  grows = acts.grows;
  runs = λ onward m same h on.
      follows_then (acts.runs (record { left = omega arith; turned = onward.turned; returned = onward.returned }) m same h on) (λ ending. ends m on ending);
} where
  ends : (m : Machine) (on : Operands) (ending : Ending)
      → Follows (go m (point (way (fa_ways ways (length c0)) (length c0) ending) on)) (give (left ending)) (λ other. go m (point (way ways (length c0) other) on))
  ends m on Through = follows_give (λ other. go m (point (way ways (length c0) other) on)) Through
  ends m on Left = follows_give (λ other. go m (point (way ways (length c0) other) on)) Through
  ends m on Turned = follows_give (λ other. go m (point (way ways (length c0) other) on)) Turned
  ends m on Ending.Returned = follows_give (λ other. go m (point (way ways (length c0) other) on)) Ending.Returned

-- ---- the same with other addresses

pub acts_with : {ways other : Ways} {core : Core} {line : Place} {meaning : Meaning Ending} {c0 c1 : List Coded} → ways ≡ other → Acts ways core line meaning c0 c1 → Acts other core line meaning c0 c1
acts_with {core = core} {line = line} {meaning = meaning} {c0 = c0} {c1 = c1} is acts = let P : Ways → Type 0 = λ w. Acts w core line meaning c0 c1 in subst P is acts

pub tries_with : {ways other : Ways} {through to : ℕ} {core : Core} {line : Place} {meaning : Meaning (Option Ending)} {c0 c1 : List Coded} → ways ≡ other → through ≡ to
    → Tries ways through core line meaning c0 c1 → Tries other to core line meaning c0 c1
tries_with {other = other} {through = through} {core = core} {line = line} {meaning = meaning} {c0 = c0} {c1 = c1} is to_is tries =
    let P : Ways → Type 0 = λ w. Tries w through core line meaning c0 c1 in
    let Q : ℕ → Type 0 = λ n. Tries other n core line meaning c0 c1 in
    subst Q to_is (subst P is tries)

pub rests_with : {ways : Ways} {to to' again again' : ℕ} {core : Core} {line : Place} {meaning : Meaning (Option Ending)} {c0 c1 : List Coded} → to ≡ to' → again ≡ again'
    → Rests ways to again core line meaning c0 c1 → Rests ways to' again' core line meaning c0 c1
rests_with {ways = ways} {to' = to'} {again = again} {core = core} {line = line} {meaning = meaning} {c0 = c0} {c1 = c1} is again_is rests =
    let P : ℕ → Type 0 = λ n. Rests ways n again core line meaning c0 c1 in
    let Q : ℕ → Type 0 = λ n. Rests ways to' n core line meaning c0 c1 in
    subst Q again_is (subst P is rests)

pub checks_with : {past to : ℕ} {core : Core} {line : Place} {meaning : Meaning Bool} {c0 c1 : List Coded} → past ≡ to → Checks past core line meaning c0 c1 → Checks to core line meaning c0 c1
checks_with {core = core} {line = line} {meaning = meaning} {c0 = c0} {c1 = c1} is checks = let P : ℕ → Type 0 = λ n. Checks n core line meaning c0 c1 in subst P is checks

pub patches_with : {line : Place} {instruction other : Instruction} {at to : ℕ} {c0 c1 : List Coded} → instruction ≡ other → at ≡ to → Patches line instruction at c0 c1 → Patches line other to c0 c1
patches_with {line = line} {other = other} {at = at} {c0 = c0} {c1 = c1} is at_is patches =
    let P : Instruction → Type 0 = λ i. Patches line i at c0 c1 in
    let Q : ℕ → Type 0 = λ n. Patches line other n c0 c1 in
    subst Q at_is (subst P is patches)

pub rests_as : {ways : Ways} {to again : ℕ} {core : Core} {line : Place} {meaning other : Meaning (Option Ending)} {c0 c1 : List Coded} → meaning ≡ other
    → Rests ways to again core line other c0 c1 → Rests ways to again core line meaning c0 c1
rests_as {ways = ways} {to = to} {again = again} {core = core} {line = line} {c0 = c0} {c1 = c1} is rests =
    let P : Meaning (Option Ending) → Type 0 = λ d. Rests ways to again core line d c0 c1 in subst P (sym is) rests

pub tries_loop : (ways : Ways) {to to' again again' : ℕ} {core : Core} {line : Place} {meaning : Meaning (Option Ending)} {c0 c1 : List Coded} → to ≡ to' → again ≡ again'
    → Tries (loop_ways ways to again) again core line meaning c0 c1 → Tries (loop_ways ways to' again') again' core line meaning c0 c1
tries_loop ways {to' = to'} {again = again} to_is again_is tries = tries_with (ap (λ n. loop_ways ways n again) to_is ∙ ap (λ n. loop_ways ways to' n) again_is) again_is tries

pub acts_pads : {left left' turned turned' returned returned' : ℕ} {core : Core} {line : Place} {meaning : Meaning Ending} {c0 c1 : List Coded} → left ≡ left' → turned ≡ turned' → returned ≡ returned'
    → Acts (pad_ways left turned returned) core line meaning c0 c1 → Acts (pad_ways left' turned' returned') core line meaning c0 c1
acts_pads {left' = left'} {turned = turned} {turned' = turned'} {returned = returned} left_is turned_is returned_is acts =
    acts_with (ap (λ n. pad_ways n turned returned) left_is ∙ ap (λ n. pad_ways left' n returned) turned_is ∙ ap (λ n. pad_ways left' turned' n) returned_is) acts
