-- `co`: its code makes all invocations, takes the replies, and does what each leads to.
use Rattle.std.proofs.Common.{◌≡◌, ℕ, ℤ, zero, suc, ◌+◌, ◌≤◌, ◌<◌, ◌⊎◌, inl, inr, Bool, true, List, [], ◌∷◌, ◌++◌, length, map, Option, Some, None, drop, get_or, is_some, ◌-◌, refl, sym, ◌∙◌, ap, subst, slice_get, arith}
use Rattle.std.proofs.lemmas.Option.{slice_get_past}
use Rattle.sr_value.specs.declared.capability.Cap.{Cap}
use Rattle.sr_value.specs.declared.place.Place.{Place}
use Rattle.sr_value.specs.declared.shape.Shape.{Shape}
use Rattle.sr_value.specs.declared.value.Value.{Value}
use Rattle.sr_ask.specs.Asking.{made}
use Rattle.sr_ask.specs.Behaviors.{Stage, Outcome, Came, Stops, Doing, and_then, give, ◌>>=◌}
use Rattle.sr_ask.specs.Invocations.{default_given, places_back, values_sent}
use Rattle.sr_ask.specs.Places.{declare_own, number_held}
use Rattle.sr_ask.specs.Replies.{Completion, push_out, set_out, without_out}
use Rattle.sr_ask.specs.declared.ask.Asks.{Asks}
use Rattle.sr_ask.specs.declared.environment.Located.{Located}
use Rattle.sr_ask.specs.declared.environment.Out.{Out}
use Rattle.sr_ask.specs.declared.environment.Sent.{Sent}
use Rattle.sr_ask.specs.declared.request.Request.TheVariants.{Invoke as invoke_request}
use Rattle.sr_core.specs.declared.component.Core.{Core}
use Rattle.sr_core.specs.declared.expression.PlaceExpr.{PlaceExpr}
use Rattle.sr_core.specs.declared.statement.CoArm.{CoArm, out-CoArm}
use Rattle.sr_core.specs.declared.statement.Quantifier.{Quantifier}
use Rattle.sr_core.specs.declared.statement.Statement.{Statement}
use Rattle.sr_core.specs.declared.statement.Statement.TheFolds.{fold_out-CoArm}
use Rattle.sr_code.specs.Acts.{Point, point, act, after_completion, drop_place_if, given_back, number_own, place_if, set_vars, store_if, turn_held}
use Rattle.sr_code.specs.Operands.{completed_on, put_completed, put_count, put_list, put_outs, put_place, put_targets, put_value}
use Rattle.sr_code.specs.Runs.{Machine, go, here_at, then_asks}
use Rattle.sr_code.specs.Stretches.{Emits, Extends, Follows, Has}
use Rattle.sr_code.specs.declared.code.Coded.{Coded}
use Rattle.sr_code.specs.declared.instruction.Instruction.{Instruction}
use Rattle.sr_code.specs.declared.instruction.Instruction.TheVariants.{CloseCo, CountOuts, Default, GiveBack, Jump, OpenCo, SetTurn, StartCall, StoreResults, StoreValue, TakeReply}
use Rattle.sr_code.specs.declared.operands.Completed.{Completed}
use Rattle.sr_code.specs.declared.operands.Operands.{Operands}
use Rattle.sr_code.proofs.Stretches.{emitted_length, extends_one, extends_self, extends_then, follows_as, follows_give, follows_then, lower_part, runs_act, runs_past, upper_part}
use Rattle.sr_meaning.specs.declared.ending.Ending.{Ending}
use Rattle.sr_meaning.specs.declared.ending.Ending.TheVariants.{Through, Left, Turned}
use Rattle.sr_meaning.specs.Expressions.{Meaning, give_back, place_of_expr}
use Rattle.sr_meaning.specs.Here.{request}
use Rattle.sr_meaning.specs.Pieces.{call_part, co_part_of}
use Rattle.sr_meaning.specs.Statements.{CoPart, after_turn, co_arm_meaning, co_meaning, complete, complete_all, complete_outs, continue, guarded_meaning, left, meaning_of, optional_place, quantified, set_turn, start_call, start_calls, statement_meaning, store_value, through, turn_now}
use Rattle.sr_gen_expr.specs.Emitting.{Gives, put_nothing, tree_here}
use Rattle.sr_gen_expr.proofs.Calls.{stored_some}
use Rattle.sr_gen_expr.proofs.Stretching.{follows_at, follows_last, follows_regroup, passes}
use Rattle.sr_gen.specs.Doing.{Acts, Completes, CompletesEach, Onward, Patches, Stores, one_way, pad_ways, put_placed, put_ready, ready_meaning, way}
use Rattle.sr_gen.specs.declared.ways.Ways.{Ways}
use Rattle.sr_gen.proofs.Actions.{follows_ready}
use Rattle.sr_gen.proofs.Endings.{jumps, lower_of, onward_grown}
use Rattle.sr_gen.proofs.Loops.{acts_with, follows_one, same_way}
use Rattle.sr_gen.proofs.Services.{appended, item_at, less_or_not, mapped_at, one_more_in}
use Rattle.sr_gen.proofs.Patched.{patched_extends, patched_length, patched_lower, patched_upper, runs_patched}
use Rattle.sr_gen_expr.proofs.Rows.{drop_all, drop_from}

-- ---- one invocation

pub same_turn : (quantifiers : List Quantifier) → turn_held (map (λ q. q.var) quantifiers) ≡ turn_now quantifiers
same_turn [] = refl
same_turn (q ∷ quantifiers) =
    ap (λ doing. λ stage. with_first q stage (doing stage)) (same_turn quantifiers) where
      with_first : Quantifier → Stage → Outcome (List ℤ) → Outcome (List ℤ)
      with_first q stage (Came turn after) = Came (number_held stage.own q.var ∷ turn) after
      with_first q stage (Stops asks) = Stops asks

-- a place, where there is one
pub gives_no_place : (core : Core) (line : Place) (c0 : List Coded) → Gives put_placed core line (optional_place None) c0 c0
gives_no_place core line c0 = record {
  grows = extends_self c0;
  runs = λ m same h on. follows_give (λ place. go m (point (length c0) (put_placed place on))) None;
}

pub gives_a_place : {core : Core} {line : Place} (place : PlaceExpr) {c0 c1 : List Coded} → Gives put_place core line (place_of_expr place) c0 c1 → Gives put_placed core line (optional_place (Some place)) c0 c1
gives_a_place place {c0 = c0} g = record {
  grows = g.grows;
  runs = λ m same h on. follows_then (g.runs m same h on) (λ at. follows_give (λ placed. go m (point (length c0) (put_placed placed on))) (Some at));
}

-- three pieces of work in one instruction, whose last result isn't used
three_pieces : {A B C P Q : Type 0} (o : Outcome A) (second : A → Doing B) (third : A → B → Doing C) (to : P) (other : Q) (next : P → Stage → Asks) (last : Q → Stage → Asks)
    → ((stage : Stage) → next to stage ≡ last other stage)
    → then_asks (and_then o (λ a. second a >>= λ b. third a b >>= λ _. give to)) next ≡ then_asks (and_then o (λ a. second a >>= λ b. third a b >>= λ _. give other)) last
three_pieces (Came a stage) second third to other next last is = two (second a stage) (third a) to other next last is where
  one : {C P Q : Type 0} (o : Outcome C) (to : P) (other : Q) (next : P → Stage → Asks) (last : Q → Stage → Asks)
      → ((stage : Stage) → next to stage ≡ last other stage) → then_asks (and_then o (λ _. give to)) next ≡ then_asks (and_then o (λ _. give other)) last
  one (Came c stage) to other next last is = is stage
  one (Stops asks) to other next last is = refl

  two : {B C P Q : Type 0} (o : Outcome B) (third : B → Doing C) (to : P) (other : Q) (next : P → Stage → Asks) (last : Q → Stage → Asks)
      → ((stage : Stage) → next to stage ≡ last other stage)
      → then_asks (and_then o (λ b. third b >>= λ _. give to)) next ≡ then_asks (and_then o (λ b. third b >>= λ _. give other)) last
  two (Came b stage) third to other next last is = one (third b stage) to other next last is
  two (Stops asks) third to other next last is = refl
three_pieces (Stops asks) second third to other next last is = refl

-- the invocation, once its place, its target and its arguments are there
invoked : (ways : Ways) (m : Machine) {line : Place} {arm : ℕ} {vars : List ℕ} (quantifiers : List Quantifier) {has_place : Bool} {c0 c1 : List Coded} → Emits line (StartCall arm vars has_place) c0 c1
    → Has c1 (length c0) (length c1) m.code → vars ≡ map (λ q. q.var) quantifiers → (ready : Cap × List Sent) (placed : Option Located) (on : Operands)
    → place_if has_place (put_ready ready (put_placed placed on)) ≡ placed → drop_place_if has_place (put_placed placed on) ≡ on
    → Follows (go m (point (length c1) (put_ready ready (put_placed placed on))))
    (request made (invoke_request ready.0 (values_sent ready.1) true) (tree_here m line) >>= λ id. turn_now quantifiers >>= λ turn.
    through (push_out (record { id = id; arm = arm; place = placed; backs = places_back ready.1; turn = turn })))
    (λ ending. go m (point (way ways (length c0) ending) on))
invoked ways m {line = line} {arm = arm} {vars = vars} quantifiers {has_place = has_place} {c0 = c0} e h vars_are ready placed on placed_is on_is = record {
  same = λ stage.
      (runs_act m e h (put_ready ready (put_placed placed on))).same stage
      ∙ three_pieces (request made (invoke_request ready.0 (values_sent ready.1) true) (tree_here m line) stage) (λ id. turn_held vars)
      (λ id turn. push_out (record { id = id; arm = arm; place = place_if has_place (put_ready ready (put_placed placed on)); backs = places_back ready.1; turn = turn }))
      (point (length c0) (drop_place_if has_place (put_placed placed on))) Through (go m) (λ ending. go m (point (way ways (length c0) ending) on))
      (λ after. ap (λ o. go m (point (length c0) o) after) on_is)
      ∙ ap (λ turning. then_asks (and_then (request made (invoke_request ready.0 (values_sent ready.1) true) (tree_here m line) stage) (λ id. turning >>= λ turn.
      push_out (record { id = id; arm = arm; place = place_if has_place (put_ready ready (put_placed placed on)); backs = places_back ready.1; turn = turn }) >>= λ _. give Through)) (λ ending. go m (point (way ways (length c0) ending) on)))
      (ap turn_held vars_are ∙ same_turn quantifiers)
      ∙ ap (λ place. then_asks (and_then (request made (invoke_request ready.0 (values_sent ready.1) true) (tree_here m line) stage) (λ id. turn_now quantifiers >>= λ turn.
      push_out (record { id = id; arm = arm; place = place; backs = places_back ready.1; turn = turn }) >>= λ _. give Through)) (λ ending. go m (point (way ways (length c0) ending) on)))
      placed_is;
}

pub acts_start : {ways : Ways} {core : Core} {line : Place} (arm : ℕ) (part : CoPart) {vars : List ℕ} {has_place : Bool} {c0 c1 c2 c3 : List Coded} → vars ≡ map (λ q. q.var) part.quantifiers
    → has_place ≡ is_some part.call.place → Emits line (StartCall arm vars has_place) c0 c1 → Gives put_ready core line (ready_meaning part.call.target part.call.args) c1 c2
    → Gives put_placed core line (optional_place part.call.place) c2 c3 → Acts ways core line (start_call arm part) c0 c3
acts_start {ways = ways} {core = core} {line = line} arm part {vars = vars} {has_place = has_place} {c0 = c0} {c1 = c1} {c2 = c2} {c3 = c3} vars_are has_is e ready placed = record {
  grows = extends_then (extends_then (extends_one e) ready.grows) placed.grows;
  runs = λ onward m same h on.
      let below = lower_part placed.grows h in
      started m on part.call.place has_is (placed.runs m same (upper_part (extends_then (extends_one e) ready.grows) h) on) (λ at placed_is on_is.
      follows_ready part.call.target part.call.args (tree_here m line)
      (λ cap sent. request made (invoke_request cap (values_sent sent) true) (tree_here m line) >>= λ id. turn_now part.quantifiers >>= λ turn.
      through (push_out (record { id = id; arm = arm; place = at; backs = places_back sent; turn = turn })))
      (follows_then (ready.runs m same (upper_part (extends_one e) below) (put_placed at on)) (λ call.
      invoked ways m part.quantifiers e (lower_part ready.grows below) vars_are call at on (placed_is call) on_is)));
} where
  started : (m : Machine) (on : Operands) (place : Option PlaceExpr) → has_place ≡ is_some place → {rest : Option Located → Doing Ending} {last : Ending → Stage → Asks}
      → Follows (go m (point (length c3) on)) (optional_place place (tree_here m line)) (λ at. go m (point (length c2) (put_placed at on)))
      → ((at : Option Located) → ((ready : Cap × List Sent) → place_if has_place (put_ready ready (put_placed at on)) ≡ at) → drop_place_if has_place (put_placed at on) ≡ on → Follows (go m (point (length c2) (put_placed at on))) (rest at) last)
      → Follows (go m (point (length c3) on)) (optional_place place (tree_here m line) >>= rest) last
  started m on None is {rest = rest} f n = record {
    same = λ stage. f.same stage ∙ (n None (λ ready. ap (λ b. place_if b (put_ready ready on)) is) (ap (λ b. drop_place_if b on) is)).same stage;
  }
  started m on (Some place) is {rest = rest} f n =
      follows_regroup (place_of_expr place (tree_here m line)) (λ at. give (Some at)) rest
      (follows_one (place_of_expr place (tree_here m line)) (λ at. Some at) f (λ at.
      n (Some at) (λ ready. ap (λ b. place_if b (put_ready ready (put_place at on))) is) (ap (λ b. drop_place_if b (put_place at on)) is)))

-- ---- all invocations

pub starts_none : (core : Core) (line : Place) (arm : ℕ) (c0 : List Coded) → Gives put_nothing core line (start_calls arm []) c0 c0
starts_none core line arm c0 = record {
  grows = extends_self c0;
  runs = λ m same h on. follows_give (λ _. go m (point (length c0) on)) tt;
}

pub starts_more : {core : Core} {line : Place} (arm : ℕ) (part : CoPart) (parts : List CoPart) {c0 c1 c2 : List Coded} → Gives put_nothing core line (start_calls (suc arm) parts) c0 c1
    → Acts (one_way (length c1)) core line (quantified part.quantifiers (start_call arm part)) c1 c2 → Gives put_nothing core line (start_calls arm (part ∷ parts)) c0 c2
starts_more arm part parts {c1 = c1} rest first = record {
  grows = extends_then rest.grows first.grows;
  runs = λ m same h on.
      follows_then
      (follows_last (λ ending stage. ap (λ n. go m (point n on) stage) (same_way (length c1) ending))
      (first.runs (record { left = omega arith; turned = omega arith; returned = omega arith }) m same (upper_part rest.grows h) on)) (λ _.
      rest.runs m same (lower_part first.grows h) on);
}

-- ---- one reply

same_values : (quantifiers : List Quantifier) (turn : List ℤ) → set_turn quantifiers turn ≡ set_vars (map (λ q. q.var) quantifiers) turn
same_values [] [] = refl
same_values [] (n ∷ turn) = refl
same_values (q ∷ quantifiers) [] = refl
same_values (q ∷ quantifiers) (n ∷ turn) = ap (λ rest. declare_own q.var (number_own n) >>= λ _. rest) (same_values quantifiers turn)

same_store : (place : Option Located) (value : Value) (m : Machine) (line : Place) → store_value place value (tree_here m line) ≡ store_if place value (here_at m line)
same_store None value m line = refl
same_store (Some place) value m line = refl

pub stores_all : (core : Core) {line : Place} {returns : Option Shape} {c0 c1 c2 c3 c4 : List Coded} → Emits line StoreValue c0 c1 → Emits line (Default returns) c1 c2 → Emits line (StoreResults (length c1)) c2 c3
    → Emits line (GiveBack (length c2)) c3 c4 → Stores core line returns c0 c4
stores_all core {line = line} {returns = returns} {c0 = c0} {c1 = c1} {c2 = c2} {c3 = c3} {c4 = c4} store default results give_instruction = record {
  grows = extends_then to_results (extends_one give_instruction);
  runs = λ m h completion on.
      let done : Completed = record { out = completion.out; results = completion.results } in
      let at_results = lower_part (extends_one give_instruction) h in
      let at_default = lower_part (extends_one results) at_results in
      follows_then (given m (put_completed done on) (upper_part to_results h) (upper_part to_default at_results) (upper_part (extends_one store) at_default) completion.out.backs completion.results refl refl) (λ value.
      follows_as (same_store completion.out.place value m line)
      (runs_past m store (lower_part (extends_one default) at_default) (put_value value (put_completed done on)) (store_if completion.out.place value (here_at m line)) (λ _. on) refl));
} where
  to_default : Extends c0 c2
  to_default = extends_then (extends_one store) (extends_one default)

  to_results : Extends c0 c3
  to_results = extends_then to_default (extends_one results)

  given : (m : Machine) (on : Operands) → Has c4 (length c3) (length c4) m.code → Has c3 (length c2) (length c3) m.code → Has c2 (length c1) (length c2) m.code
      → (backs : List Located) (found : Option (List Value)) → (completed_on on).out.backs ≡ backs → (completed_on on).results ≡ found
      → Follows (go m (point (length c4) on)) (give_back backs returns found (tree_here m line)) (λ value. go m (point (length c1) (put_value value on)))
  given m on gives stores defaults backs None backs_are found_is =
      follows_at (λ stage.
      passes m give_instruction gives on (given_back (completed_on on).results (completed_on on).out.backs (length c2) (length c3) on) refl stage
      ∙ ap (λ found. go m (given_back found (completed_on on).out.backs (length c2) (length c3) on) stage) found_is
      ∙ ap (λ n. go m (point n on) stage) (lower_of (length c2) (length c3) (extends_one results).above))
      (runs_past m default defaults on (default_given returns (here_at m line)) (λ value. put_value value on) refl)
  given m on gives stores defaults backs (Some values) backs_are found_is =
      follows_at (λ stage.
      passes m give_instruction gives on (given_back (completed_on on).results (completed_on on).out.backs (length c2) (length c3) on) refl stage
      ∙ ap (λ found. go m (given_back found (completed_on on).out.backs (length c2) (length c3) on) stage) found_is
      ∙ ap (λ places. go m (point (length c3) (put_list values (put_targets places on))) stage) backs_are)
      (record {
        same = λ stage.
            (runs_act m results stores (put_list values (put_targets backs on))).same stage ∙ stored_some m c1 results stores (extends_one default).above backs values on stage;
      })

-- the stores are a piece of their own
stored_first : {A B C D : Type 0} {start : Stage → Asks} (first : Doing A) (given : Doing B) (stored : B → Doing C) (last : Doing D) {next : D → Stage → Asks}
    → Follows start (first >>= λ _. (given >>= stored) >>= λ _. last) next → Follows start (first >>= λ _. given >>= λ b. stored b >>= λ _. last) next
stored_first first given stored last {next = next} f = record { same = λ stage. f.same stage ∙ both (first stage) given stored last next } where
  one : {B C D : Type 0} (o : Outcome B) (stored : B → Doing C) (last : Doing D) (next : D → Stage → Asks)
      → then_asks (and_then (and_then o stored) (λ _. last)) next ≡ then_asks (and_then o (λ b. stored b >>= λ _. last)) next
  one (Came b stage) stored last next = refl
  one (Stops asks) stored last next = refl

  both : {A B C D : Type 0} (o : Outcome A) (given : Doing B) (stored : B → Doing C) (last : Doing D) (next : D → Stage → Asks)
      → then_asks (and_then o (λ _. (given >>= stored) >>= λ _. last)) next ≡ then_asks (and_then o (λ _. given >>= λ b. stored b >>= λ _. last)) next
  both (Came a stage) given stored last next = one (given stage) stored last next
  both (Stops asks) given stored last next = refl

pub completes_arm : {ways : Ways} {again : ℕ} {core : Core} {line : Place} (part : CoPart) {vars : List ℕ} {c0 c1 c2 c3 c4 : List Coded} → vars ≡ map (λ q. q.var) part.quantifiers
    → Emits line (Jump again) c0 c1 → Acts ways core line part.body c1 c2 → Stores core line part.call.returns c2 c3 → Emits line (SetTurn vars) c3 c4 → Completes ways again core line part c0 c4
completes_arm {ways = ways} {again = again} {core = core} {line = line} part {vars = vars} {c0 = c0} {c1 = c1} {c2 = c2} {c3 = c3} vars_are jump body stores turn = record {
  grows = extends_then to_stores (extends_one turn);
  runs = λ onward low m same h completion on.
      let done : Completed = record { out = completion.out; results = completion.results } in
      let at_stores = lower_part (extends_one turn) h in
      let at_body = lower_part stores.grows at_stores in
      stored_first (set_turn part.quantifiers completion.out.turn) (give_back completion.out.backs part.call.returns completion.results (tree_here m line))
      (λ value. store_value completion.out.place value (tree_here m line)) (part.body (tree_here m line))
      (follows_then (follows_as (same_values part.quantifiers completion.out.turn ∙ ap (λ vs. set_vars vs completion.out.turn) (sym vars_are))
      (runs_past m turn (upper_part to_stores h) (put_completed done on) (set_vars vars completion.out.turn) (λ _. put_completed done on) refl)) (λ _.
      follows_then (stores.runs m (upper_part to_body at_stores) completion on) (λ _.
      follows_last (ended_at m on (jumps m jump (lower_part body.grows at_body) low on)) (body.runs (onward_grown onward (extends_one jump)) m same (upper_part (extends_one jump) at_body) on))));
} where
  to_body : Extends c0 c2
  to_body = extends_then (extends_one jump) body.grows

  to_stores : Extends c0 c3
  to_stores = extends_then to_body stores.grows

  ended_at : (m : Machine) (on : Operands) → ((stage : Stage) → go m (point (length c1) on) stage ≡ go m (point again on) stage) → (ending : Ending) (stage : Stage)
      → go m (point (way ways (length c1) ending) on) stage ≡ go m (point (way ways again ending) on) stage
  ended_at m on is Through stage = is stage
  ended_at m on is Left stage = refl
  ended_at m on is Turned stage = refl
  ended_at m on is Ending.Returned stage = refl

-- ---- all replies

pub completes_none : (ways : Ways) (again : ℕ) (core : Core) (line : Place) (parts : List CoPart) (c0 : List Coded) → CompletesEach ways again core line parts [] c0 c0
completes_none ways again core line parts c0 = record {
  grows = extends_self c0;
  runs = λ onward low m same h completion on within. absurd (omega (arith, within));
}

pub completes_more : {ways : Ways} {again : ℕ} {core : Core} {line : Place} (parts : List CoPart) (addresses : List ℕ) (part : CoPart) {c0 c1 c2 : List Coded} → slice_get parts (length addresses) ≡ Some part
    → CompletesEach ways again core line parts addresses c0 c1 → Completes ways again core line part c1 c2 → CompletesEach ways again core line parts (addresses ++ length c2 ∷ []) c0 c2
completes_more {ways = ways} {again = again} {core = core} {line = line} parts addresses part {c0 = c0} {c1 = c1} {c2 = c2} part_is each completes = record {
  grows = extends_then each.grows completes.grows;
  runs = λ onward low m same h completion on within. one onward low m same h completion on (appended addresses (length c2) completion.out.arm within);
} where
  one : Onward ways (length c0) → again ≤ length c0 → (m : Machine) → m.core ≡ core → Has c2 (length c0) (length c2) m.code → (completion : Completion) (on : Operands)
      → ((completion.out.arm < length addresses) × (slice_get (addresses ++ length c2 ∷ []) completion.out.arm ≡ slice_get addresses completion.out.arm))
      ⊎ ((completion.out.arm ≡ length addresses) × (slice_get (addresses ++ length c2 ∷ []) completion.out.arm ≡ Some (length c2)))
      → Follows (λ stage. then_asks (after_completion (slice_get (addresses ++ length c2 ∷ []) completion.out.arm) completion again on stage) (go m))
      (complete completion (slice_get parts completion.out.arm) (tree_here m line)) (λ ending. go m (point (way ways again ending) on))
  one onward low m same h completion on (inl known) =
      follows_at (λ stage. ap (λ found. then_asks (after_completion found completion again on stage) (go m)) known.1) (each.runs onward low m same (lower_part completes.grows h) completion on known.0)
  one onward low m same h completion on (inr last) =
      follows_at (λ stage. ap (λ found. then_asks (after_completion found completion again on stage) (go m)) last.1)
      (follows_as (ap (λ k. complete completion (slice_get parts k) (tree_here m line)) last.0 ∙ ap (λ found. complete completion found (tree_here m line)) part_is)
      (record {
        same = λ stage.
            (completes.runs (onward_grown onward each.grows) (let a = each.grows.above in omega arith) m same (upper_part each.grows h) completion on).same
            (record stage { out = without_out stage.out completion.out.id });
      }))

-- ---- co

-- an instruction that asks and then goes on in a way of its own
follows_split : {A : Type 0} {start : Stage → Asks} {first : Doing A} (work : A → Doing Point) {next : Point → Stage → Asks} → Follows start (first >>= work) next
    → Follows start first (λ a stage. then_asks (work a stage) next)
follows_split {first = first} work {next = next} f = record { same = λ stage. f.same stage ∙ split (first stage) work next } where
  split : {A : Type 0} (o : Outcome A) (work : A → Doing Point) (next : Point → Stage → Asks) → then_asks (and_then o work) next ≡ then_asks o (λ a stage. then_asks (work a stage) next)
  split (Came a stage) work next = refl
  split (Stops asks) work next = refl

pub acts_co : {ways : Ways} {core : Core} {line : Place} (parts : List CoPart) (addresses : List ℕ) {c0 c1 c2 c3 c4 c5 c6 c7 c8 c9 c10 c11 : List Coded} {first : Instruction}
    → Emits line (Jump ways.returned) c0 c1 → Emits line CloseCo c1 c2 → Emits line (Jump (length c0)) c2 c3 → Emits line CloseCo c3 c4 → Emits line first c4 c5
    → CompletesEach (pad_ways (length c4) (length c5) (length c2)) (length c5) core line parts addresses c5 c6 → length addresses ≡ length parts
    → Patches line (TakeReply addresses) (length c4) c6 c7 → Emits line (Jump (length c5)) c7 c8 → Emits line CountOuts c8 c9 → Gives put_nothing core line (start_calls 0 parts) c9 c10
    → Emits line OpenCo c10 c11 → Acts ways core line (co_meaning parts) c0 c11
acts_co {ways = ways} {core = core} {line = line} parts addresses {c0 = c0} {c1 = c1} {c2 = c2} {c3 = c3} {c4 = c4} {c5 = c5} {c6 = c6} {c7 = c7} {c8 = c8} {c9 = c9} {c10 = c10}
    r_jump r_close jump close first each all patch to_replies count starts opens = record {
      grows = extends_then to_starts (extends_one opens);
      runs = λ onward m same h on.
          let at_starts = lower_part (extends_one opens) h in
          let at_count = lower_part starts.grows at_starts in
          let at_jump = lower_part (extends_one count) at_count in
          let at_replies = lower_part (extends_one to_replies) at_jump in
          record {
            same = λ stage.
                (runs_act m opens (upper_part to_starts h) on).same stage
                ∙ (follows_then (starts.runs m same (upper_part to_count at_starts) (put_outs stage.out on)) (λ _.
                follows_closing (complete_outs parts (tree_here m line)) stage.out m on
                (record {
                  same = λ after.
                      (runs_act m count (upper_part to_jump at_count) (put_outs stage.out on)).same after
                      ∙ jumps m to_replies (upper_part to_patched at_jump) again_low (put_count (length after.out) (put_outs stage.out on)) after
                      ∙ (replies_run onward m same at_replies stage.out on (length after.out)).same after;
                }))).same (record stage { out = [] });
          };
    } where
      right_pad : Extends c0 c2
      right_pad = extends_then (extends_one r_jump) (extends_one r_close)

      pad : Extends c2 c4
      pad = extends_then (extends_one jump) (extends_one close)

      pads : Extends c0 c4
      pads = extends_then right_pad pad

      one_more : length c5 ≡ suc (length c4)
      one_more = emitted_length first

      to_patched : Extends c0 c7
      to_patched = patched_extends patch pads (extends_then (extends_one first) each.grows)

      to_jump : Extends c0 c8
      to_jump = extends_then to_patched (extends_one to_replies)

      to_count : Extends c0 c9
      to_count = extends_then to_jump (extends_one count)

      to_starts : Extends c0 c10
      to_starts = extends_then to_count starts.grows

      again_low : length c5 ≤ length c7
      again_low = let l = patched_length patch in let a = each.grows.above in omega arith

      below : length c0 ≤ length c4
      below = pads.above

      within : length c4 < length c6
      within = let a = each.grows.above in omega (arith, one_more)

      above_take : length c4 < length c5
      above_take = omega (arith, one_more)

      -- the end of the statement, with what was out before it
      closing : List Out → (m : Machine) (on : Operands) → Ending → Stage → Asks
      closing outer m on ending stage = go m (point (way ways (length c0) (left ending)) on) (record stage { out = outer })

      follows_closing : {start : Stage → Asks} (doing : Doing Ending) (outer : List Out) (m : Machine) (on : Operands) → Follows start doing (closing outer m on)
          → Follows start (doing >>= λ ending. set_out outer >>= λ _. give (left ending)) (λ ending. go m (point (way ways (length c0) ending) on))
      follows_closing doing outer m on f = record { same = λ stage. f.same stage ∙ closed (doing stage) } where
        closed : (o : Outcome Ending) → then_asks o (closing outer m on) ≡ then_asks (and_then o (λ ending. set_out outer >>= λ _. give (left ending))) (λ ending. go m (point (way ways (length c0) ending) on))
        closed (Came ending stage) = refl
        closed (Stops asks) = refl

      closes : (m : Machine) → Has c7 (length c0) (length c7) m.code → (outer : List Out) (on : Operands) (n : ℕ) (stage : Stage)
          → go m (point (length c4) (put_count n (put_outs outer on))) stage ≡ go m (point (length c0) on) (record stage { out = outer })
      closes m h outer on n stage =
          let at_pad = upper_part right_pad (patched_lower patch (extends_then (extends_one first) each.grows) h) in
          (runs_act m close (upper_part (extends_one jump) at_pad) (put_count n (put_outs outer on))).same stage
          ∙ jumps m jump (lower_part (extends_one close) at_pad) right_pad.above on (record stage { out = outer })

      closes_returned : Onward ways (length c0) → (m : Machine) → Has c7 (length c0) (length c7) m.code → (outer : List Out) (on : Operands) (n : ℕ) (stage : Stage)
          → go m (point (length c2) (put_count n (put_outs outer on))) stage ≡ go m (point ways.returned on) (record stage { out = outer })
      closes_returned onward m h outer on n stage =
          let at_pad = lower_part pad (patched_lower patch (extends_then (extends_one first) each.grows) h) in
          (runs_act m r_close (upper_part (extends_one r_jump) at_pad) (put_count n (put_outs outer on))).same stage
          ∙ jumps m r_jump (lower_part (extends_one r_close) at_pad) onward.returned on (record stage { out = outer })

      at_take : (m : Machine) (on : Operands) → Has c7 (length c0) (length c7) m.code → Follows (go m (point (length c5) on)) (act m.core (TakeReply addresses) (here_at m line) (length c4) on) (go m)
      at_take m on h = follows_at (λ stage. ap (λ n. go m (point n on) stage) one_more) (runs_patched m patch below within h on)

      inner_onward : Onward ways (length c0) → Onward (pad_ways (length c4) (length c5) (length c2)) (length c5)
      inner_onward onward = record {
        left = omega (arith, one_more);
        turned = omega arith;
        returned = let a = pad.above in omega (arith, one_more);
      }

      -- a reply that was taken
      replied : Onward ways (length c0) → (m : Machine) → m.core ≡ core → Has c7 (length c0) (length c7) m.code → (on : Operands) (completion : Completion) → (completion.out.arm < length addresses) ⊎ (length addresses ≤ completion.out.arm)
          → Follows (λ stage. then_asks (after_completion (slice_get addresses completion.out.arm) completion (length c5) on stage) (go m))
          (complete completion (slice_get parts completion.out.arm) (tree_here m line)) (λ ending. go m (point (way (pad_ways (length c4) (length c5) (length c2)) (length c5) ending) on))
      replied onward m same h on completion (inl known) =
          each.runs (inner_onward onward) (omega arith) m same (patched_upper patch below above_take h) completion on known
      replied onward m same h on completion (inr past) =
          follows_at (λ stage. ap (λ found. then_asks (after_completion found completion (length c5) on stage) (go m)) (slice_get_past addresses completion.out.arm past))
          (follows_as (ap (λ found. complete completion found (tree_here m line)) (slice_get_past parts completion.out.arm (omega (arith, all))))
          (follows_give (λ ending. go m (point (way (pad_ways (length c4) (length c5) (length c2)) (length c5) ending) on)) Through))

      after : Onward ways (length c0) → (m : Machine) → Has c7 (length c0) (length c7) m.code → (outer : List Out) (on : Operands) (n : ℕ) (others : Doing Ending) (ending : Ending)
          → Follows (go m (point (length c5) (put_count n (put_outs outer on)))) others (closing outer m on)
          → Follows (go m (point (way (pad_ways (length c4) (length c5) (length c2)) (length c5) ending) (put_count n (put_outs outer on)))) (continue (after_turn ending) others) (closing outer m on)
      after onward m h outer on n others Through f = f
      after onward m h outer on n others Left f = follows_at (closes m h outer on n) (follows_give (closing outer m on) Left)
      after onward m h outer on n others Turned f = f
      after onward m h outer on n others Ending.Returned f = follows_at (closes_returned onward m h outer on n) (follows_give (closing outer m on) Ending.Returned)

      replies_run : Onward ways (length c0) → (m : Machine) → m.core ≡ core → Has c7 (length c0) (length c7) m.code → (outer : List Out) (on : Operands) (n : ℕ)
          → Follows (go m (point (length c5) (put_count n (put_outs outer on)))) (complete_all n parts (tree_here m line)) (closing outer m on)
      replies_run onward m same h outer on zero =
          follows_at (λ stage. (at_take m (put_count zero (put_outs outer on)) h).same stage ∙ closes m h outer on zero stage) (follows_give (closing outer m on) Through)
      replies_run onward m same h outer on (suc n) =
          follows_then (follows_split (λ completion. after_completion (slice_get addresses completion.out.arm) completion (suc (length c4)) (put_count n (put_outs outer on)))
          (at_take m (put_count (suc n) (put_outs outer on)) h)) (λ completion.
          follows_then
          (follows_at (λ stage. ap (λ again. then_asks (after_completion (slice_get addresses completion.out.arm) completion again (put_count n (put_outs outer on)) stage) (go m)) (sym one_more))
          (replied onward m same h (put_count n (put_outs outer on)) completion (less_or_not completion.out.arm (length addresses)))) (λ ending.
          after onward m h outer on n (complete_all n parts (tree_here m line)) ending (replies_run onward m same h outer on n)))

-- ---- by arms

-- what an arm means, part by part
pub part_is : (arm : CoArm) (quantifiers : List Quantifier) (body : List Statement) → quantifiers ≡ (out-CoArm arm).quantifiers → body ≡ (out-CoArm arm).body
    → co_part_of arm ≡ co_arm_meaning (record { quantifiers = quantifiers; call = (out-CoArm arm).call; body = map meaning_of body })
part_is arm quantifiers body quantifiers_are body_is =
    fold_out-CoArm (Meaning Ending) CoPart (Meaning (Option Ending)) statement_meaning co_arm_meaning guarded_meaning arm
    ∙ ap (λ qs. co_arm_meaning (record { quantifiers = qs; call = (out-CoArm arm).call; body = map meaning_of (out-CoArm arm).body })) (sym quantifiers_are)
    ∙ ap (λ b. co_arm_meaning (record { quantifiers = quantifiers; call = (out-CoArm arm).call; body = map meaning_of b })) (sym body_is)

pub completes_as : {ways : Ways} {again : ℕ} {core : Core} {line : Place} {part other : CoPart} {c0 c1 : List Coded} → part ≡ other → Completes ways again core line other c0 c1 → Completes ways again core line part c0 c1
completes_as {ways = ways} {again = again} {core = core} {line = line} {c0 = c0} {c1 = c1} is completes =
    let P : CoPart → Type 0 = λ p. Completes ways again core line p c0 c1 in subst P (sym is) completes

-- one arm more
pub completes_next : {ways : Ways} {again : ℕ} {core : Core} {line : Place} (arms : List CoArm) (addresses : List ℕ) (at address : ℕ) (arm : CoArm) {c0 c1 c2 : List Coded}
    → at ≡ length addresses → at < length arms → arm ≡ get_or arms at arm → address ≡ length c2
    → CompletesEach ways again core line (map co_part_of arms) addresses c0 c1 → Completes ways again core line (co_part_of arm) c1 c2
    → CompletesEach ways again core line (map co_part_of arms) (addresses ++ address ∷ []) c0 c2
completes_next {ways = ways} {again = again} {core = core} {line = line} arms addresses at address arm {c0 = c0} {c2 = c2} at_is within arm_is address_is each completes =
    let P : ℕ → Type 0 = λ n. CompletesEach ways again core line (map co_part_of arms) (addresses ++ n ∷ []) c0 c2 in
    subst P (sym address_is)
    (completes_more (map co_part_of arms) addresses (co_part_of arm) (ap (slice_get (map co_part_of arms)) (sym at_is) ∙ mapped_at co_part_of arms at arm (item_at arms at arm within arm_is)) each completes)

pub calls_begin : (core : Core) (line : Place) (arms : List CoArm) (at : ℕ) (c0 : List Coded) → at ≡ length arms
    → (at ≤ length arms) × Gives put_nothing core line (start_calls at (map co_part_of (drop at arms))) c0 c0
calls_begin core line arms at c0 is =
    let P : ℕ → Type 0 = λ n. (n ≤ length arms) × Gives put_nothing core line (start_calls n (map co_part_of (drop n arms))) c0 c0 in
    let Q : List CoArm → Type 0 = λ rest. Gives put_nothing core line (start_calls (length arms) (map co_part_of rest)) c0 c0 in
    let most : length arms ≤ length arms = omega arith in
    subst P (sym is) (most, subst Q (sym (drop_all arms)) (starts_none core line (length arms) c0))

pub calls_step : {core : Core} {line : Place} (arms : List CoArm) (at number next : ℕ) (arm : CoArm) (quantifiers : List Quantifier) (ways : Ways) {c0 c1 c2 : List Coded} → 0 < at
    → (at ≤ length arms) × Gives put_nothing core line (start_calls at (map co_part_of (drop at arms))) c0 c1
    → arm ≡ get_or arms (at - 1) arm → quantifiers ≡ (out-CoArm arm).quantifiers → number ≡ at - 1 → next ≡ length c1 → ways ≡ one_way next
    → Acts ways core line (quantified quantifiers (start_call number (call_part quantifiers (out-CoArm arm).call))) c1 c2
    → (at - 1 ≤ length arms) × Gives put_nothing core line (start_calls (at - 1) (map co_part_of (drop (at - 1) arms))) c0 c2
calls_step {core = core} {line = line} arms at number next arm quantifiers ways {c0 = c0} {c1 = c1} {c2 = c2} low so_far arm_is quantifiers_are number_is next_is ways_are acts =
    let high = so_far.0 in
    let back : suc (at - 1) ≡ at = omega arith in
    let P : List CoArm → Type 0 = λ rest. Gives put_nothing core line (start_calls (at - 1) (map co_part_of rest)) c0 c2 in
    let Q : ℕ → Type 0 = λ n. Gives put_nothing core line (start_calls n (map co_part_of (drop at arms))) c0 c1 in
    let R : CoPart → Type 0 = λ part. Acts (one_way (length c1)) core line (quantified part.quantifiers (start_call (at - 1) part)) c1 c2 in
    let S : ℕ → Type 0 = λ n. Acts (one_way (length c1)) core line (quantified quantifiers (start_call n (call_part quantifiers (out-CoArm arm).call))) c1 c2 in
    let first : R (co_part_of arm) = subst R (sym (part_is arm quantifiers (out-CoArm arm).body quantifiers_are refl)) (subst S number_is (acts_with (ways_are ∙ ap one_way next_is) acts)) in
    (omega arith, subst P (sym (drop_from arms at arm low high arm_is)) (starts_more (at - 1) (co_part_of arm) (map co_part_of (drop at arms)) (subst Q (sym back) so_far.1) first))

pub calls_end : {core : Core} {line : Place} (arms : List CoArm) (at : ℕ) {c0 c1 : List Coded} → at ≤ 0
    → Gives put_nothing core line (start_calls at (map co_part_of (drop at arms))) c0 c1 → Gives put_nothing core line (start_calls 0 (map co_part_of arms)) c0 c1
calls_end {core = core} {line = line} arms at {c0 = c0} {c1 = c1} low g =
    let P : ℕ → Type 0 = λ n. Gives put_nothing core line (start_calls n (map co_part_of (drop n arms))) c0 c1 in
    let is : at ≡ 0 = omega arith in subst P is g

pub replies_begin : (ways : Ways) (again : ℕ) (core : Core) (line : Place) (arms : List CoArm) (addresses : List ℕ) (c0 : List Coded) → addresses ≡ []
    → (0 ≡ length addresses) × (0 ≤ length arms) × CompletesEach ways again core line (map co_part_of arms) addresses c0 c0
replies_begin ways again core line arms addresses c0 is =
    let P : List ℕ → Type 0 = λ found. (0 ≡ length found) × (0 ≤ length arms) × CompletesEach ways again core line (map co_part_of arms) found c0 c0 in
    subst P (sym is) (refl, omega arith, completes_none ways again core line (map co_part_of arms) c0)

pub replies_step : {ways : Ways} {again : ℕ} {core : Core} {line : Place} (arms : List CoArm) (addresses added : List ℕ) (at address : ℕ) (arm : CoArm) {c0 c1 c2 : List Coded}
    → (at ≡ length addresses) × (at ≤ length arms) × CompletesEach ways again core line (map co_part_of arms) addresses c0 c1 → at < length arms → arm ≡ get_or arms at arm → address ≡ length c2
    → added ≡ addresses ++ address ∷ [] → Completes ways again core line (co_part_of arm) c1 c2
    → (at + 1 ≡ length added) × (at + 1 ≤ length arms) × CompletesEach ways again core line (map co_part_of arms) added c0 c2
replies_step {ways = ways} {again = again} {core = core} {line = line} arms addresses added at address arm {c0 = c0} {c2 = c2} so_far within arm_is address_is added_is completes =
    let P : List ℕ → Type 0 = λ xs. (at + 1 ≡ length xs) × (at + 1 ≤ length arms) × CompletesEach ways again core line (map co_part_of arms) xs c0 c2 in
    subst P (sym added_is)
    (one_more_in addresses address at so_far.0, omega (arith, within), completes_next arms addresses at address arm so_far.0 within arm_is address_is so_far.2 completes)

pub replies_end : {left turned returned : ℕ} {core : Core} {line : Place} (arms : List CoArm) {addresses : List ℕ} (l t r : ℕ) {c0 c1 : List Coded} → left ≡ l → turned ≡ t → returned ≡ r
    → CompletesEach (pad_ways left turned returned) turned core line (map co_part_of arms) addresses c0 c1 → CompletesEach (pad_ways l t r) t core line (map co_part_of arms) addresses c0 c1
replies_end {turned = turned} {returned = returned} {core = core} {line = line} arms {addresses = addresses} l t r {c0 = c0} {c1 = c1} l_is t_is r_is each =
    let P : ℕ → Type 0 = λ n. CompletesEach (pad_ways n turned returned) turned core line (map co_part_of arms) addresses c0 c1 in
    let Q : ℕ → Type 0 = λ n. CompletesEach (pad_ways l n returned) n core line (map co_part_of arms) addresses c0 c1 in
    let R : ℕ → Type 0 = λ n. CompletesEach (pad_ways l t n) t core line (map co_part_of arms) addresses c0 c1 in
    subst R r_is (subst Q t_is (subst P l_is each))
