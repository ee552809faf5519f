-- Pieces of work, one after the other.
use Rattle.std.proofs.Common.{◌≡◌, ◌≢◌, ℕ, zero, suc, ◌+◌, ◌-◌, ◌*◌, ◌<◌, ℤ, List, [], ◌∷◌, length, map, Option, option_map, Some, Err, refl, sym, ap, ◌∙◌, arith}
use Rattle.std.specs.List.{slice_get}
use Rattle.std.proofs.lemmas.List.{length-map}
use Rattle.std.proofs.lemmas.Option.{slice_get-map}
use Rattle.sr_ask.specs.Asking.{selected}
use Rattle.sr_ask.specs.Behaviors.{Stage, Outcome, Came, Stops, Doing, give, and_then, looped, room, tick, turned, turns}
use Rattle.sr_ask.specs.declared.forms.Selection.{Selection}
use Rattle.sr_ask.specs.declared.request.Request.TheVariants.{Select}
use Rattle.sr_core.specs.declared.expression.Expr.{Expr}
use Rattle.sr_core.specs.declared.statement.Action.TheVariants.{Send}
use Rattle.sr_core.specs.declared.statement.CoArm.{CoArm, out-CoArm}
use Rattle.sr_core.specs.declared.statement.Statement.{Statement}
use Rattle.sr_core.specs.declared.statement.Statement.TheFolds.{fold_out-CoArm}
use Rattle.sr_meaning.specs.declared.ending.Ending.{Ending}
use Rattle.sr_meaning.specs.declared.ending.Ending.TheVariants.{Through, Left, Turned, Returned as returned}
use Rattle.sr_meaning.specs.Expressions.{Meaning, choice, in_order}
use Rattle.sr_meaning.specs.Here.{Here, request}
use Rattle.sr_meaning.specs.Statements.{CoPart, action_meaning, before, block_meaning, co_arm_meaning, complete, complete_all, condition_meaning, continue, for_values, guarded_meaning, in_meaning, int_own, meaning_of, named_value, quantified, selection_meaning, sends, site_at, start_call, start_calls, statement_meaning, take_one}
use Rattle.sr_interpreter_parts.specs.Turns.{listed_from, value_from}
use Rattle.sr_interpreter_parts.specs.declared.values.Values.{Values}
use Rattle.sr_meaning.specs.Pieces.{call_part, co_part_of, each_block}
use Rattle.sr_interpreter_parts.specs.StatementParts.{choosing}
use Rattle.sr_interpreter.specs.Blocks.{next_completion, value_turn}
use Rattle.sr_ask.specs.Places.{set_own}
use Rattle.sr_interpreter_expr.specs.Interpreters.{Agrees}
use Rattle.sr_interpreter_expr.specs.declared.stop.Stop.{Stop}
use Rattle.sr_interpreter_expr.specs.declared.stop.Stop.TheVariants.{Asks as stopped, NoMemory as out_of_memory}

pub regroup : {A B C : Type 0} (o : Outcome A) (f : A → Doing B) (g : B → Doing C) → and_then (and_then o f) g ≡ and_then o (λ a stage. and_then (f a stage) g)
regroup (Came a stage) f g = refl
regroup (Stops asks) f g = refl

pub same_after : {A B : Type 0} (o : Outcome A) (f g : A → Doing B) → ((a : A) (stage : Stage) → f a stage ≡ g a stage) → and_then o f ≡ and_then o g
same_after (Came a stage) f g same = same a stage
same_after (Stops asks) f g same = refl

-- the first value of a quantifier, and then the others
pub for_values_step : (var : ℕ) (condition : Option Expr) (inner : Meaning Ending) (n : ℤ) (rest : List ℤ) (here : Here) (stage : Stage)
    → for_values var condition inner (n ∷ rest) here stage ≡ and_then (value_turn var condition inner n here stage) (λ end. continue end (for_values var condition inner rest here))
for_values_step var condition inner n rest here stage =
    let K : Option Ending → Doing Ending = λ end. continue end (for_values var condition inner rest here) in
    sym (regroup (tick stage) _ K
    ∙ same_after (tick stage) _ _ (λ _ begun. regroup (condition_meaning condition here (set_own var (int_own n) begun)) _ K
    ∙ same_after (condition_meaning condition here (set_own var (int_own n) begun)) _ _ (λ truth tested.
    regroup (choice truth (inner here) (give Through) tested) _ K)))

-- the next value of a quantifier, and then the others
pub listed_step : (values : Values) (k : ℕ) → k < values.count
    → listed_from values k (values.count - k) ≡ value_from values.direction values.from (k * values.step) ∷ listed_from values (k + 1) (values.count - (k + 1))
listed_step values k below = let e : values.count - k ≡ suc (values.count - (k + 1)) = omega arith in rw e

-- a turn of a loop that has turns left
pub turns_step : {A : Type 0} (most : ℕ) (turn : Doing (Option A)) (stage : Stage) → 0 < most
    → turns most turn stage ≡ and_then (tick stage) (λ _ begun. and_then (turn begun) (λ end. turned end (turns (most - 1) turn)))
turns_step zero turn stage above = absurd (omega arith)
turns_step (suc most) turn stage above =
    let back : most ≡ suc most - 1 = omega arith in
    ap (λ n. and_then (tick stage) (λ _ begun. and_then (turn begun) (λ end. turned end (turns n turn)))) back

-- the turn after those so far is what is left of the loop
turn_next : {A : Type 0} (limit most first : ℕ) (turn : Doing (Option A)) (whole stage begun : Stage) → 0 < most → first ≡ room limit whole + 1
    → turns most turn stage ≡ turns first turn whole → tick stage ≡ Came tt begun
    → looped limit turn whole ≡ and_then (turn begun) (λ end. turned end (turns (most - 1) turn))
turn_next limit most first turn whole stage begun above all so_far ticked =
    let same : suc (room limit whole) ≡ first = omega (arith, all) in
    ap (λ n. turns n turn whole) same ∙ sym so_far ∙ turns_step most turn stage above
    ∙ ap (λ o. and_then o (λ _ next. and_then (turn next) (λ end. turned end (turns (most - 1) turn)))) ticked

-- a turn that ends the loop
pub looped_ends : {A : Type 0} (limit most first : ℕ) (turn : Doing (Option A)) (whole stage begun last : Stage) (a : A) → 0 < most → first ≡ room limit whole + 1
    → turns most turn stage ≡ turns first turn whole → tick stage ≡ Came tt begun → turn begun ≡ Came (Some a) last
    → looped limit turn whole ≡ Came a last
looped_ends limit most first turn whole stage begun last a above all so_far ticked ended =
    turn_next limit most first turn whole stage begun above all so_far ticked
    ∙ ap (λ o. and_then o (λ end. turned end (turns (most - 1) turn))) ended

-- a turn that stops
pub looped_stops : {A : Type 0} (limit most first : ℕ) (turn : Doing (Option A)) (whole stage begun last : Stage) (stop : Stop) → 0 < most → first ≡ room limit whole + 1
    → turns most turn stage ≡ turns first turn whole → tick stage ≡ Came tt begun → Agrees (turn begun) (Err stop) last
    → Agrees (looped limit turn whole) (Err stop) last
looped_stops limit most first turn whole stage begun last (stopped asks) above all so_far ticked stops =
    turn_next limit most first turn whole stage begun above all so_far ticked
    ∙ ap (λ o. and_then o (λ end. turned end (turns (most - 1) turn))) stops
looped_stops limit most first turn whole stage begun last out_of_memory above all so_far ticked stops = tt

-- the next send, and then the others
pub sends_step : (target : Expr) (left : ℕ) (here : Here) (stage : Stage) → 0 < left
    → sends target left here stage
    ≡ and_then (tick stage) (λ _ begun. and_then (action_meaning (Send target []) here begun) (λ _. sends target (left - 1) here))
sends_step target zero here stage above = absurd (omega arith)
sends_step target (suc left) here stage above =
    let back : left ≡ suc left - 1 = omega arith in
    ap (λ n. and_then (tick stage) (λ _ begun. and_then (action_meaning (Send target []) here begun) (λ _. sends target n here))) back

-- the next reply, and then the others
pub complete_step : (count : ℕ) (parts : List CoPart) (here : Here) (stage : Stage) → 0 < count
    → complete_all count parts here stage ≡ and_then (next_completion parts here stage) (λ end. continue end (complete_all (count - 1) parts here))
complete_step zero parts here stage above = absurd (omega arith)
complete_step (suc count) parts here stage above =
    let back : count ≡ suc count - 1 = omega arith in
    let K : Option Ending → Doing Ending = λ end. continue end (complete_all count parts here) in
    sym (regroup (take_one here stage) _ K
    ∙ same_after (take_one here stage) _ _ (λ completion taken. regroup (complete completion (slice_get parts completion.out.arm) here taken) _ K))
    ∙ ap (λ n. and_then (next_completion parts here stage) (λ end. continue end (complete_all n parts here))) back

-- what an arm of a `co` means
pub co_part_is : (arm : CoArm)
    → co_part_of arm ≡ record { quantifiers = (out-CoArm arm).quantifiers; call = (out-CoArm arm).call; body = block_meaning (map meaning_of (out-CoArm arm).body) }
co_part_is arm = fold_out-CoArm (Meaning Ending) CoPart (Meaning (Option Ending)) statement_meaning co_arm_meaning guarded_meaning arm

-- the invocations of an arm, and then those of the others
pub start_calls_step : (n : ℕ) (arm : CoArm) (parts : List CoPart) (here : Here) (stage : Stage)
    → start_calls n (co_part_of arm ∷ parts) here stage
    ≡ and_then (quantified (out-CoArm arm).quantifiers (start_call n (call_part (out-CoArm arm).quantifiers (out-CoArm arm).call)) here stage) (λ _. start_calls (suc n) parts here)
start_calls_step n arm parts here stage =
    ap (λ (part : CoPart). and_then (quantified part.quantifiers (start_call n part) here stage) (λ _. start_calls (suc n) parts here)) (co_part_is arm)

-- a statement after one that doesn't end through isn't reached
pub before_other : (ending : Ending) (next : Doing Ending) (stage : Stage) → ending ≢ Through → before ending next stage ≡ Came ending stage
before_other Through next stage other = absurd (other refl)
before_other Left next stage other = refl
before_other Turned next stage other = refl
before_other returned next stage other = refl

-- an `in` chooses, and then does what was chosen
pub in_step : (site : ℕ) (blocks : List (List Statement)) (otherwise : List (Meaning Ending)) (here : Here) (stage : Stage)
    → in_meaning site (each_block blocks) otherwise here stage
    ≡ and_then (choosing site (length blocks) here stage) (λ selection. selection_meaning (site_at site here) (each_block blocks) otherwise selection here)
in_step site blocks otherwise here stage =
    let same : length (each_block blocks) ≡ length blocks = simp length-map in
    let next : Selection → Doing Ending = λ selection. selection_meaning (site_at site here) (each_block blocks) otherwise selection here in
    ap (λ n. and_then (in_order (map named_value (site_at site here).names) here stage) (λ env begun. and_then (request (selected n (site_at site here).has_else) (Select site env) here begun) next)) same
    ∙ sym (regroup (in_order (map named_value (site_at site here).names) here stage) _ next)

-- the block of an arm
pub block_at : (blocks : List (List Statement)) (at : ℕ) → slice_get (each_block blocks) at ≡ option_map (map meaning_of) (slice_get blocks at)
block_at blocks at = slice_get-map (map meaning_of) blocks at
