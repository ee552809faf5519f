-- What pieces of statements give, from what their parts gave.
use Rattle.std.proofs.Common.{◌≡◌, ℕ, zero, suc, ◌+◌, ◌-◌, ◌<◌, ◌≤◌, ℤ, List, [], ◌∷◌, length, get_or, take, drop, drop-cons, map, sum, Option, option_map, Some, None, Result, Ok, Err, inl, inr, refl, sym, ap, ◌∙◌, subst, arith}
use Rattle.std.specs.List.{slice_get}
use Rattle.std.proofs.lemmas.List.{take_all}
use Rattle.std.proofs.lemmas.Option.{slice_get-map, slice_get_cases, slice_get_past}
use Rattle.sr_value.specs.declared.fault.Fault.{Fault}
use Rattle.sr_value.specs.declared.place.Place.{Place}
use Rattle.sr_value.specs.declared.value.Value.{Value}
use Rattle.sr_ask.specs.Behaviors.{Stage, Outcome, Came, Doing, and_then, looped, tick}
use Rattle.sr_ask.specs.declared.environment.Out.{Out}
use Rattle.sr_ask.specs.declared.forms.Pick.{Pick}
use Rattle.sr_ask.specs.declared.forms.Selection.{Selection}
use Rattle.sr_ask.specs.declared.request.Request.TheVariants.{Fail}
use Rattle.sr_core.specs.declared.site.Arm.{Arm}
use Rattle.sr_core.specs.declared.statement.CoArm.{CoArm, out-CoArm}
use Rattle.sr_core.specs.declared.statement.Direction.{Direction}
use Rattle.sr_core.specs.declared.statement.Quantifier.{Quantifier}
use Rattle.sr_core.specs.declared.statement.Statement.{Statement}
use Rattle.sr_meaning.specs.declared.ending.Ending.{Ending}
use Rattle.sr_meaning.specs.declared.ending.Ending.TheVariants.{Through}
use Rattle.sr_interpreter_expr.specs.declared.stop.Stop.{Stop}
use Rattle.sr_interpreter_expr.specs.declared.stop.Stop.TheVariants.{Asks as stopped, NoMemory as out_of_memory}
use Rattle.sr_meaning.specs.Expressions.{Meaning}
use Rattle.sr_meaning.specs.Here.{Here, ask_of, at_line, fail}
use Rattle.sr_meaning.specs.Pieces.{call_part, co_part_of, each_block}
use Rattle.sr_interpreter_parts.specs.StatementParts.{choosing}
use Rattle.sr_interpreter.specs.Blocks.{completing}
use Rattle.sr_meaning.specs.Statements.{do_meaning, do_turn, for_values, in_meaning, meaning_of, number_expr, quantified, selection_meaning, service_meaning, site_at, start_call, start_calls}
use Rattle.sr_core.specs.Values.{values_of}
use Rattle.sr_interpreter_expr.specs.Interpreters.{Agrees}
use Rattle.sr_meaning.proofs.Forever.{forever}
use Rattle.sr_interpreter.proofs.Steps.{block_at, in_step, start_calls_step}
use Rattle.sr_meaning.proofs.Weights.{block_of_weights, item_within, weight_of, weight_of_block, weight_of_blocks}

-- where the first piece stops, both stop
pub stops_too : {A B : Type 0} (first : Outcome A) (next : A → Doing B) (stop : Stop) (last : Stage) → Agrees first (Err stop) last → Agrees (and_then first next) (Err stop) last
stops_too first next (stopped asks) last e = ap (λ o. and_then o next) e
stops_too first next out_of_memory last e = tt

-- what the second piece gives, both give
pub gives_then : {A B : Type 0} (first : Outcome A) (next : A → Doing B) (a : A) (after : Stage) (result : Result B Stop) (last : Stage) → first ≡ Came a after
    → Agrees (next a after) result last → Agrees (and_then first next) result last
gives_then first next a after result last e h = let P : Outcome _ → Type 0 = λ o. Agrees (and_then o next) result last in subst P (sym e) h

-- ---- items

pub there : {X : Type 0} (xs : List X) (at : ℕ) (x : X) → at < length xs → x ≡ get_or xs at x → Some x ≡ slice_get xs at
there [] at x within is = absurd (omega arith)
there (y ∷ ys) zero x within is = ap (λ z. Some z) is
there (y ∷ ys) (suc at) x within is = there ys at x (omega arith) is

pub not_there : {X : Type 0} (xs : List X) (at : ℕ) → length xs ≤ at → None ≡ slice_get xs at
not_there xs at past = sym (slice_get_past xs at past)

-- ---- weights

pub arm_within : {X : Type 0} (f : X → ℕ) (xs : List X) (at : ℕ) (x : X) → Some x ≡ slice_get xs at → f x ≤ sum (map f xs)
arm_within f xs at x e =
    elim (slice_get_cases xs at).1 [
      | inl w ↦ (
          let same : x ≡ w.0 = some_same x w.0 (e ∙ w.2) in
          let there : f x ≡ f (get_or xs at w.0) = ap f (same ∙ sym w.3) in
          omega (arith, item_within f xs at w.0 w.1))
      | inr w ↦ absurd (omega (arith, past x xs at e))
    ] where
      some_same : {X : Type 0} (x y : X) → Some x ≡ Some y → x ≡ y
      some_same x y e = cc

      past : {X : Type 0} (x : X) (xs : List X) (at : ℕ) → Some x ≡ slice_get xs at → at < length xs
      past x [] at e = cc
      past x (y ∷ xs) zero e = omega arith
      past x (y ∷ xs) (suc at) e = omega (arith, past x xs at e)

pub block_within : (blocks : List (List Statement)) (at : ℕ) (block : List Statement) → Some block ≡ slice_get blocks at → weight_of_block block ≤ weight_of_blocks blocks
block_within blocks at block e =
    arm_within block_of_weights (map (map weight_of) blocks) at (map weight_of block) (ap (option_map (map weight_of)) e ∙ sym (slice_get-map (map weight_of) blocks at))

-- ---- do

pub do_stops : (guards : List (Meaning (Option Ending))) (otherwise : Option (List (Meaning Ending))) (place : Place) (here there : Here) (stage begun : Stage) (stop : Stop) (last : Stage)
    → tick stage ≡ Came tt begun → there ≡ at_line place here → Agrees (looped there.limit (do_turn guards otherwise there) begun) (Err stop) last
    → Agrees (and_then (tick stage) (λ _. do_meaning guards otherwise (at_line place here))) (Err stop) last
do_stops guards otherwise place here there stage begun stop last ticked same h =
    let P : Here → Type 0 = λ line. Agrees (do_meaning guards otherwise line begun) (Err stop) last in
    gives_then (tick stage) (λ _. do_meaning guards otherwise (at_line place here)) tt begun (Err stop) last ticked
    (subst P same (stops_too (looped there.limit (do_turn guards otherwise there) begun) _ stop last h))

-- ---- in

pub in_given : (site : ℕ) (blocks : List (List Statement)) (otherwise : List (Meaning Ending)) (place : Place) (here there : Here) (stage begun chosen : Stage) (found selection : Selection)
    (result : Result Ending Stop) (last : Stage)
    → tick stage ≡ Came tt begun → there ≡ at_line place here → choosing site (length blocks) there begun ≡ Came found chosen → found ≡ selection
    → Agrees (selection_meaning (site_at site there) (each_block blocks) otherwise selection there chosen) result last
    → Agrees (and_then (tick stage) (λ _. in_meaning site (each_block blocks) otherwise (at_line place here))) result last
in_given site blocks otherwise place here there stage begun chosen found selection result last ticked same choice is h =
    let P : Here → Type 0 = λ line. Agrees (in_meaning site (each_block blocks) otherwise line begun) result last in
    let Q : Outcome Ending → Type 0 = λ o. Agrees o result last in
    gives_then (tick stage) (λ _. in_meaning site (each_block blocks) otherwise (at_line place here)) tt begun result last ticked
    (subst P same (subst Q (sym (in_step site blocks otherwise there begun))
    (gives_then (choosing site (length blocks) there begun) (λ s. selection_meaning (site_at site there) (each_block blocks) otherwise s there) selection chosen result last
    (choice ∙ ap (λ s. Came s chosen) is) h)))

pub in_stops : (site : ℕ) (blocks : List (List Statement)) (otherwise : List (Meaning Ending)) (place : Place) (here there : Here) (stage begun : Stage) (stop : Stop) (last : Stage)
    → tick stage ≡ Came tt begun → there ≡ at_line place here → Agrees (choosing site (length blocks) there begun) (Err stop) last
    → Agrees (and_then (tick stage) (λ _. in_meaning site (each_block blocks) otherwise (at_line place here))) (Err stop) last
in_stops site blocks otherwise place here there stage begun stop last ticked same h =
    let P : Here → Type 0 = λ line. Agrees (in_meaning site (each_block blocks) otherwise line begun) (Err stop) last in
    let Q : Outcome Ending → Type 0 = λ o. Agrees o (Err stop) last in
    gives_then (tick stage) (λ _. in_meaning site (each_block blocks) otherwise (at_line place here)) tt begun (Err stop) last ticked
    (subst P same (subst Q (sym (in_step site blocks otherwise there begun))
    (stops_too (choosing site (length blocks) there begun) (λ s. selection_meaning (site_at site there) (each_block blocks) otherwise s there) stop last h)))

-- without a block nothing is serviced
none_serves : (pick : Pick) (arm : Option Arm) (here : Here) (stage : Stage) → service_meaning pick arm None here stage ≡ Came Through stage
none_serves pick None here stage = refl
none_serves pick (Some arm) here stage = refl

pub no_block : (pick : Pick) (arm : Option Arm) (blocks : List (List Statement)) (here : Here) (stage : Stage) → None ≡ slice_get blocks pick.arm
    → service_meaning pick arm (slice_get (each_block blocks) pick.arm) here stage ≡ Came Through stage
no_block pick arm blocks here stage none =
    let e : slice_get (each_block blocks) pick.arm ≡ None = block_at blocks pick.arm ∙ ap (option_map (map meaning_of)) (sym none) in
    ap (λ block. service_meaning pick arm block here stage) e ∙ none_serves pick arm here stage

pub block_given : (pick : Pick) (arms : List Arm) (arm : Arm) (blocks : List (List Statement)) (block : List Statement) (here : Here) (stage : Stage) (result : Result Ending Stop) (last : Stage)
    → Some arm ≡ slice_get arms pick.arm → Some block ≡ slice_get blocks pick.arm
    → Agrees (service_meaning pick (Some arm) (Some (map meaning_of block)) here stage) result last
    → Agrees (service_meaning pick (slice_get arms pick.arm) (slice_get (each_block blocks) pick.arm) here stage) result last
block_given pick arms arm blocks block here stage result last found there h =
    let P : Option Arm → Type 0 = λ a. Agrees (service_meaning pick a (slice_get (each_block blocks) pick.arm) here stage) result last in
    let Q : Option (List (Meaning Ending)) → Type 0 = λ b. Agrees (service_meaning pick (Some arm) b here stage) result last in
    let e : Some (map meaning_of block) ≡ slice_get (each_block blocks) pick.arm = ap (option_map (map meaning_of)) there ∙ sym (block_at blocks pick.arm) in
    subst P found (subst Q e h)

-- ---- quantifiers

pub first_and_rest : {X : Type 0} (xs : List X) (x : X) → 0 < length xs → x ≡ get_or xs 0 x → x ∷ take (length xs - 1) (drop 1 xs) ≡ xs
first_and_rest [] x some is = absurd (omega arith)
first_and_rest (y ∷ ys) x some is =
    let whole : take (length (y ∷ ys) - 1) ys ≡ ys = take_all (length (y ∷ ys) - 1) ys (omega arith) in
    ap (λ rest. x ∷ rest) whole ∙ ap (λ z. z ∷ ys) is

same_values : (direction : Direction) (from' from to' to by' by : ℤ) → from' ≡ from → to' ≡ to → by' ≡ by → values_of direction from' to' by' ≡ values_of direction from to by
same_values direction from' from to' to by' by f t b =
    ap (λ n. values_of direction n to' by') f ∙ ap (λ n. values_of direction from n by') t ∙ ap (λ n. values_of direction from to n) b

pub quantified_given : (q : Quantifier) (rest : List Quantifier) (inner : Meaning Ending) (here : Here) (stage s1 s2 s3 : Stage) (from to by from' to' by' : ℤ) (values : List ℤ) (result : Result Ending Stop) (last : Stage)
    → from' ≡ from → to' ≡ to → by' ≡ by
    → number_expr q.from here stage ≡ Came from s1 → number_expr q.to here s1 ≡ Came to s2 → number_expr q.by here s2 ≡ Came by s3 → values_of q.direction from' to' by' ≡ Ok values
    → Agrees (for_values q.var q.condition (quantified rest inner) values here s3) result last
    → Agrees (quantified (q ∷ rest) inner here stage) result last
quantified_given q rest inner here stage s1 s2 s3 from to by from' to' by' values result last f t b e1 e2 e3 e4 h =
    let found : values_of q.direction from to by ≡ Ok values = sym (same_values q.direction from' from to' to by' by f t b) ∙ e4 in
    rw e1 (rw e2 (rw e3 (rw found h)))

pub quantified_fails : (q : Quantifier) (rest : List Quantifier) (inner : Meaning Ending) (here : Here) (stage s1 s2 s3 : Stage) (from to by from' to' by' : ℤ) (fault : Fault) (result : Result Ending Stop) (last : Stage)
    → from' ≡ from → to' ≡ to → by' ≡ by
    → number_expr q.from here stage ≡ Came from s1 → number_expr q.to here s1 ≡ Came to s2 → number_expr q.by here s2 ≡ Came by s3 → values_of q.direction from' to' by' ≡ Err fault
    → Agrees (fail fault here s3) result last
    → Agrees (quantified (q ∷ rest) inner here stage) result last
quantified_fails q rest inner here stage s1 s2 s3 from to by from' to' by' fault result last f t b e1 e2 e3 e4 h =
    let found : values_of q.direction from to by ≡ Err fault = sym (same_values q.direction from' from to' to by' by f t b) ∙ e4 in
    let next : List ℤ → Doing Ending = λ values. for_values q.var q.condition (quantified rest inner) values here in
    let stays : and_then (fail {A = List ℤ} fault here s3) next ≡ fail {A = Ending} fault here s3 =
    ap (λ o. and_then o next) (forever (ask_of (Fail fault) here) here.limit s3) ∙ sym (forever (ask_of (Fail fault) here) here.limit s3) in
    let P : Outcome Ending → Type 0 = λ o. Agrees o result last in
    rw e1 (rw e2 (rw e3 (rw found (subst P (sym stays) h))))

-- ---- co

-- the invocations of the arms from one on
calls_from : (arms : List CoArm) (at : ℕ) (arm : CoArm) (here : Here) (stage : Stage) → at < length arms → get_or arms at arm ≡ arm
    → start_calls at (map co_part_of (drop at arms)) here stage
    ≡ and_then (quantified (out-CoArm arm).quantifiers (start_call at (call_part (out-CoArm arm).quantifiers (out-CoArm arm).call)) here stage) (λ _. start_calls (suc at) (map co_part_of (drop (suc at) arms)) here)
calls_from arms at arm here stage within is =
    let e : drop at arms ≡ arm ∷ drop (suc at) arms = drop-cons arms at arm within ∙ ap (λ a. a ∷ drop (suc at) arms) is in
    ap (λ rest. start_calls at (map co_part_of rest) here stage) e ∙ start_calls_step at arm (map co_part_of (drop (suc at) arms)) here stage

calls_more : (arms : List CoArm) (at : ℕ) (arm : CoArm) (here : Here) (stage after : Stage) (ending : Ending) → at < length arms → get_or arms at arm ≡ arm
    → quantified (out-CoArm arm).quantifiers (start_call at (call_part (out-CoArm arm).quantifiers (out-CoArm arm).call)) here stage ≡ Came ending after
    → start_calls (at + 1) (map co_part_of (drop (at + 1) arms)) here after ≡ start_calls at (map co_part_of (drop at arms)) here stage
calls_more arms at arm here stage after ending within is came =
    let n : at + 1 ≡ suc at = omega arith in
    ap (λ k. start_calls k (map co_part_of (drop k arms)) here after) n
    ∙ sym (calls_from arms at arm here stage within is ∙ ap (λ o. and_then o (λ _. start_calls (suc at) (map co_part_of (drop (suc at) arms)) here)) came)

calls_stop : (arms : List CoArm) (at : ℕ) (arm : CoArm) (here : Here) (stage last : Stage) (stop : Stop) → at < length arms → get_or arms at arm ≡ arm
    → Agrees (quantified (out-CoArm arm).quantifiers (start_call at (call_part (out-CoArm arm).quantifiers (out-CoArm arm).call)) here stage) (Err stop) last
    → Agrees (start_calls at (map co_part_of (drop at arms)) here stage) (Err stop) last
calls_stop arms at arm here stage last stop within is h =
    let P : Outcome (Unit {0}) → Type 0 = λ o. Agrees o (Err stop) last in
    subst P (sym (calls_from arms at arm here stage within is)) (stops_too _ _ stop last h)

-- the same invocations by other names
same_calls : (arm : CoArm) (at number : ℕ) (outer inner : List Quantifier) (here : Here) (stage after : Stage) (result found : Result Ending Stop)
    → number ≡ at → outer ≡ (out-CoArm arm).quantifiers → inner ≡ (out-CoArm arm).quantifiers → result ≡ found
    → Agrees (quantified outer (start_call number (call_part inner (out-CoArm arm).call)) here stage) result after
    → Agrees (quantified (out-CoArm arm).quantifiers (start_call at (call_part (out-CoArm arm).quantifiers (out-CoArm arm).call)) here stage) found after
same_calls arm at number outer inner here stage after result found n o i r h =
    let call = (out-CoArm arm).call in
    let quantifiers = (out-CoArm arm).quantifiers in
    let P : List Quantifier → Type 0 = λ qs. Agrees (quantified qs (start_call number (call_part inner call)) here stage) result after in
    let Q : List Quantifier → Type 0 = λ qs. Agrees (quantified quantifiers (start_call number (call_part qs call)) here stage) result after in
    let R : ℕ → Type 0 = λ k. Agrees (quantified quantifiers (start_call k (call_part quantifiers call)) here stage) result after in
    let S : Result Ending Stop → Type 0 = λ f. Agrees (quantified quantifiers (start_call at (call_part quantifiers call)) here stage) f after in
    subst S r (subst R n (subst Q i (subst P o h)))

pub calls_go_on : (arms : List CoArm) (at number : ℕ) (arm : CoArm) (outer inner : List Quantifier) (here : Here) (stage after : Stage) (result : Result Ending Stop) (ending : Ending) (whole : Outcome (Unit {0}))
    → at < length arms → arm ≡ get_or arms at arm → number ≡ at → outer ≡ (out-CoArm arm).quantifiers → inner ≡ (out-CoArm arm).quantifiers → result ≡ Ok ending
    → Agrees (quantified outer (start_call number (call_part inner (out-CoArm arm).call)) here stage) result after
    → start_calls at (map co_part_of (drop at arms)) here stage ≡ whole → start_calls (at + 1) (map co_part_of (drop (at + 1) arms)) here after ≡ whole
calls_go_on arms at number arm outer inner here stage after result ending whole within is n o i r h so_far =
    calls_more arms at arm here stage after ending within (sym is) (same_calls arm at number outer inner here stage after result (Ok ending) n o i r h) ∙ so_far

pub calls_end : (arms : List CoArm) (at number : ℕ) (arm : CoArm) (outer inner : List Quantifier) (here : Here) (stage last : Stage) (result : Result Ending Stop) (stop : Stop) (whole : Outcome (Unit {0}))
    → at < length arms → arm ≡ get_or arms at arm → number ≡ at → outer ≡ (out-CoArm arm).quantifiers → inner ≡ (out-CoArm arm).quantifiers → result ≡ Err stop
    → Agrees (quantified outer (start_call number (call_part inner (out-CoArm arm).call)) here stage) result last
    → start_calls at (map co_part_of (drop at arms)) here stage ≡ whole → Agrees whole (Err stop) last
calls_end arms at number arm outer inner here stage last result stop whole within is n o i r h so_far =
    let P : Outcome (Unit {0}) → Type 0 = λ o. Agrees o (Err stop) last in
    subst P so_far (calls_stop arms at arm here stage last stop within (sym is) (same_calls arm at number outer inner here stage last result (Err stop) n o i r h))

-- an arm that isn't there
pub no_arm : (arms : List CoArm) (outs : List Out) (at n : ℕ) (results : Option (List Value)) (here : Here) (stage : Stage) → option_map (λ out. out.arm) (slice_get outs at) ≡ Some n → None ≡ slice_get arms n
    → (out : Out) → slice_get outs at ≡ Some out → completing out results (option_map co_part_of (slice_get arms out.arm)) here stage ≡ Came None stage
no_arm arms outs at n results here stage number none out is =
    let same : n ≡ out.arm = some_same n out.arm (sym number ∙ ap (option_map (λ out. out.arm)) is) in
    let e : slice_get arms out.arm ≡ None = ap (slice_get arms) (sym same) ∙ sym none in
    ap (λ arm. completing out results (option_map co_part_of arm) here stage) e where
      some_same : (n m : ℕ) → Some n ≡ Some m → n ≡ m
      some_same n m e = cc

-- an arm that is there
pub arm_given : (arms : List CoArm) (outs : List Out) (at n : ℕ) (arm : CoArm) (results : Option (List Value)) (here : Here) (stage : Stage) (result : Result (Option Ending) Stop) (last : Stage)
    → option_map (λ out. out.arm) (slice_get outs at) ≡ Some n → Some arm ≡ slice_get arms n
    → ((out : Out) → slice_get outs at ≡ Some out → Agrees (completing out results (Some (co_part_of arm)) here stage) result last)
    → (out : Out) → slice_get outs at ≡ Some out → Agrees (completing out results (option_map co_part_of (slice_get arms out.arm)) here stage) result last
arm_given arms outs at n arm results here stage result last number found each out is =
    let same : n ≡ out.arm = some_same n out.arm (sym number ∙ ap (option_map (λ out. out.arm)) is) in
    let e : Some arm ≡ slice_get arms out.arm = found ∙ ap (slice_get arms) same in
    let P : Option CoArm → Type 0 = λ a. Agrees (completing out results (option_map co_part_of a) here stage) result last in
    subst P e (each out is) where
      some_same : (n m : ℕ) → Some n ≡ Some m → n ≡ m
      some_same n m e = cc
