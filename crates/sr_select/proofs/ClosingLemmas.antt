-- A guard that names no formal of its arm comes to the same for all arguments, and no invocation passes a closed arm.
use Rattle.std.proofs.Common.{◌≡◌, ℕ, Bool, true, false, not, ◌||◌, List, [], ◌∷◌, refl, ap, sym, ◌∙◌, ◌⊎◌, inl, inr, true≢false, cond}
use Rattle.std.specs.Prelude.{Some, None, Result, Ok, slice_get, ◌==◌}
use Rattle.std.proofs.lemmas.Bool.{eqb-true, or_parts as neither}
use Rattle.std.proofs.lemmas.List.Folds.{list_any-append}
use Rattle.std.proofs.lemmas.Option.{same_Some}
use Rattle.sr_value.specs.declared.capability.Owner.{Owner}
use Rattle.sr_value.specs.declared.fault.Fault.{Fault}
use Rattle.sr_value.specs.declared.shape.Sel.{Sel}
use Rattle.sr_value.specs.declared.value.Value.{Value}
use Rattle.sr_value.specs.Parts.{loaded_at, with_ok}
use Rattle.sr_ask.specs.declared.entry.Seen.{Seen}
use Rattle.sr_core.specs.Formals.{sent_after, sent_to}
use Rattle.sr_core.specs.declared.expression.Leaf.{Leaf}
use Rattle.sr_core.specs.declared.expression.Leaf.TheVariants.{Constant, Operation, MyResource, MyMachine, Count as count_of_op, MakeMachine, Moment}
use Rattle.sr_core.specs.declared.formal.Formal.{Formal}
use Rattle.sr_core.specs.declared.owner.Me.{Me}
use Rattle.sr_core.specs.declared.owner.Root.{Root}
use Rattle.sr_core.specs.declared.owner.Root.TheVariants.{Own as own_root, Shared as shared_root}
use Rattle.sr_core.specs.declared.site.Arm.{Arm}
use Rattle.sr_core.specs.declared.site.Named.{Named}
use Rattle.sr_queue.specs.declared.pending.Pending.{Pending}
use Rattle.sr_queue.specs.Queues.{is_of}
use Rattle.sr_select.specs.declared.closed.Closed.{Closed}
use Rattle.sr_select.specs.declared.closed.Closed.TheVariants.{Never, Arms}
use Rattle.sr_select.specs.Choices.{Seeing, passes_with}
use Rattle.sr_select.specs.Closing.{AreClosed, closes, closing, guard_names_none, is_closed, is_formal, is_outside}
use Rattle.sr_select.specs.Guards.{formal_named, guard_leaf, guard_load, guarding, named_seen, or_else, own_seen, returned_named, value_seen}
use Rattle.sr_select.specs.Looks.{Found, result_of, settle}
use Rattle.sr_select.specs.Readings.{Reading}
use Rattle.sr_select.specs.Steps.{passes_one}
use Rattle.sr_select.proofs.AlikeLemmas.{truths-agree}

not-true : (b : Bool) → not b ≡ true → b ≡ false
not-true true h = absurd (true≢false (sym h))
not-true false h = refl

-- ---- guards that name no formal

no-formal : (formals : List Formal) (var : ℕ) (args : List Value) → is_formal formals var ≡ false → formal_named formals args var ≡ None
no-formal [] var args other = refl
no-formal (formal ∷ formals) var args other =
    let parts = neither (formal.var == var) (is_formal formals var) other in
    ap (λ b. or_else b (Some (formal, sent_to formal.mode args)) (formal_named formals (sent_after formal.mode args) var)) parts.0
    ∙ no-formal formals var (sent_after formal.mode args) parts.1

module _ (reading : Reading) (me : Me) (names : List Named) (env : List Value) (arm : Arm) (args args' : List Value) where
  own-same : (var : ℕ) → is_outside arm.formals (own_root var) ≡ true → own_seen arm args names env var ≡ own_seen arm args' names env var
  own-same var outside =
      let other = not-true (is_formal arm.formals var) outside in
      ap (λ found. value_seen found (returned_named arm.returned var) (named_seen names env var)) (no-formal arm.formals var args other ∙ sym (no-formal arm.formals var args' other))

  leaf-same : (leaf : Leaf) → true ≡ true → (seen : List Seen) → guard_leaf leaf (guarding reading me names env arm args) seen ≡ guard_leaf leaf (guarding reading me names env arm args') seen
  leaf-same (Constant value) is = λ seen. refl
  leaf-same (Operation whose op) is = λ seen. refl
  leaf-same MyResource is = λ seen. refl
  leaf-same MyMachine is = λ seen. refl
  leaf-same (count_of_op op) is = λ seen. refl
  leaf-same MakeMachine is = λ seen. refl
  leaf-same Moment is = λ seen. refl

  load-same : (root : Root) (path : List Sel) → is_outside arm.formals root ≡ true → (seen : List Seen)
      → guard_load root path (guarding reading me names env arm args) seen ≡ guard_load root path (guarding reading me names env arm args') seen
  load-same (own_root var) path outside = λ seen. ap (λ (held : Result Value Fault). settle (with_ok held (λ value. loaded_at value path)) seen) (own-same var outside)
  load-same (shared_root home var) path outside = λ seen. refl

  pub passes-same : guard_names_none arm ≡ true → passes_with (guarding reading me names env) arm args ≡ passes_with (guarding reading me names env) arm args'
  passes-same none =
      truths-agree (λ leaf. true) (is_outside arm.formals) (guarding reading me names env arm args) (guarding reading me names env arm args') leaf-same load-same refl arm.guard none []

-- ---- closed arms

pub closes-kept : (number : ℕ) (closed : Closed) → closes (closing number closed) ≡ closes closed
closes-kept number Never = refl
closes-kept number (Arms numbers) = refl

pub never-closed : (closed : Closed) (number : ℕ) → closes closed ≡ false → is_closed closed number ≡ false
never-closed Never number never = refl
never-closed (Arms numbers) number never = absurd (true≢false never)

last-one : (number other : ℕ) → ((number == other) || false) ≡ true → number ≡ other
last-one number other h = by (number == other) refl h
  where
    by : (b : Bool) → (number == other) ≡ b → (b || false) ≡ true → number ≡ other
    by true is h = eqb-true number other is
    by false is h = absurd (true≢false (sym h))

-- the arm that is closed now, or one that was closed before
closed-now : (closed : Closed) (number other : ℕ) → is_closed (closing number closed) other ≡ true → (is_closed closed other ≡ true) ⊎ (number ≡ other)
closed-now Never number other is = inl is
closed-now (Arms numbers) number other is =
    by (is_closed (Arms numbers) other) refl (sym (list_any-append (λ (n : ℕ). n == other) numbers (number ∷ [])) ∙ is)
  where
    by : (b : Bool) → is_closed (Arms numbers) other ≡ b → (b || ((number == other) || false)) ≡ true → (is_closed (Arms numbers) other ≡ true) ⊎ (number ≡ other)
    by true before h = inl before
    by false before h = inr (last-one number other h)

same-arm : (arms : List Arm) (number other : ℕ) (arm another : Arm) → number ≡ other → slice_get arms number ≡ Some arm → slice_get arms other ≡ Some another → arm ≡ another
same-arm arms number other arm another same found at = same_Some arm another (sym found ∙ ap (slice_get arms) same ∙ at)

module _ (sees : Seeing) (arms : List Arm) where
  pub none-closed : (closed : Closed) → ((number : ℕ) → is_closed closed number ≡ false) → AreClosed sees arms closed
  none-closed closed none = record { never = λ number arm args is found. absurd (true≢false (sym is ∙ none number)) }

  pub one-closed : (closed : Closed) (number : ℕ) (arm : Arm) → AreClosed sees arms closed → slice_get arms number ≡ Some arm
      → ((args : List Value) → result_of (passes_with sees arm args) ≡ Ok false) → AreClosed sees arms (closing number closed)
  one-closed closed number arm are found never = record { never = λ other another args is at. by other another args at (closed-now closed number other is) }
    where
      by : (other : ℕ) (another : Arm) (args : List Value) → slice_get arms other ≡ Some another → (is_closed closed other ≡ true) ⊎ (number ≡ other) → result_of (passes_with sees another args) ≡ Ok false
      by other another args at (inl before) = are.never other another args before at
      by other another args at (inr same) = ap (λ (a : Arm). result_of (passes_with sees a args)) (sym (same-arm arms number other arm another same found at)) ∙ never args

  -- no invocation passes a closed arm, of whatever operation
  pub closed-passes : (closed : Closed) (owner : Owner) (number : ℕ) (arm : Arm) (p : Pending) → AreClosed sees arms closed → is_closed closed number ≡ true → slice_get arms number ≡ Some arm
      → result_of (passes_one sees owner arm p) ≡ Ok false
  closed-passes closed owner number arm p are is found = by (is_of owner arm.op p)
    where
      by : (b : Bool) → result_of (cond b (passes_with sees arm p.args) (Found false [])) ≡ Ok false
      by true = are.never number arm p.args is found
      by false = refl

-- a guard that is false for one invocation of the arm's operation, and names no formal, is false for all
pub never-passes : (reading : Reading) (me : Me) (names : List Named) (env : List Value) (owner : Owner) (arm : Arm) (p : Pending)
    → result_of (passes_one (guarding reading me names env) owner arm p) ≡ Ok false → is_of owner arm.op p ≡ true → guard_names_none arm ≡ true
    → (args : List Value) → result_of (passes_with (guarding reading me names env) arm args) ≡ Ok false
never-passes reading me names env owner arm p is one none args =
    ap result_of (passes-same reading me names env arm args p.args none)
    ∙ sym (ap (λ b. result_of (cond b (passes_with (guarding reading me names env) arm p.args) (Found false []))) one) ∙ is
