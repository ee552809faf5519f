-- A guard comes to the same for two processes, arms or worlds (`Guarding`) that agree in all that it names.
use Rattle.std.proofs.Common.{◌≡◌, ℕ, Bool, true, List, refl, ap, ◌∙◌, ℤ}
use Rattle.std.specs.Prelude.{Option, Result}
use Rattle.sr_value.specs.declared.fault.Fault.{Fault}
use Rattle.sr_value.specs.declared.shape.Sel.{Sel}
use Rattle.sr_value.specs.declared.value.Value.{Value}
use Rattle.sr_ask.specs.declared.entry.Seen.{Seen}
use Rattle.sr_core.specs.declared.expression.Expr.{Expr}
use Rattle.sr_core.specs.declared.expression.Function.{Function}
use Rattle.sr_core.specs.declared.expression.Leaf.{Leaf}
use Rattle.sr_core.specs.declared.owner.Root.{Root}
use Rattle.sr_core.specs.Applied.{applied}
use Rattle.sr_select.specs.Choices.{key_in}
use Rattle.sr_select.specs.Guards.{Guard, Guarding, guard_leaf, guard_load, truth_of_guard}
use Rattle.sr_select.specs.Looks.{Looked, Found, Faulted, settle, then_look}
use Rattle.sr_select.specs.Tests.{expr_all, maybe_all}
use Rattle.sr_select.proofs.GuardLemmas.{conditions-good, keys-good}

-- There is a test of leaves, and one of the variables at which places begin. All that passes them comes to the same
-- for both; so do the guards all of whose parts pass them.
module _ (leaves : Leaf → Bool) (roots : Root → Bool) (one other : Guarding)
    (leaf-alike : (leaf : Leaf) → leaves leaf ≡ true → (seen : List Seen) → guard_leaf leaf one seen ≡ guard_leaf leaf other seen)
    (load-alike : (root : Root) (path : List Sel) → roots root ≡ true → (seen : List Seen) → guard_load root path one seen ≡ guard_load root path other seen)
    (literals : one.reading.names ≡ other.reading.names) where
  -- a part of a guard comes to the same for both, and reads the same
  abbrev pub Alike : (A : Type 0) → Guard A → Type 0
  Alike A guard = (seen : List Seen) → guard one seen ≡ guard other seen

  next-alike : (A B : Type 0) (next : A → Guard B) → ((a : A) → Alike B (next a)) → (look : Looked A) → then_look look (λ a. next a one) ≡ then_look look (λ a. next a other)
  next-alike A B next alike (Found a seen) = alike a seen
  next-alike A B next alike (Faulted found seen) = refl

  then-alike : (A B : Type 0) (guard : Guard A) (next : A → Guard B) → Alike A guard → ((a : A) → Alike B (next a)) → (seen : List Seen)
      → then_look (guard one seen) (λ a. next a one) ≡ then_look (guard other seen) (λ a. next a other)
  then-alike A B guard next first later seen =
      ap (λ (look : Looked A). then_look look (λ a. next a one)) (first seen) ∙ next-alike A B next later (guard other seen)

  settled-alike : (A : Type 0) (result : Result A Fault) → Alike A (λ at. settle result)
  settled-alike A result seen = refl

  applied-alike : (function : Function) (values : List Value) → Alike Value (λ at. settle (applied at.reading.names function values))
  applied-alike function values seen = ap (λ (names : List (List (List ℕ))). settle (applied names function values) seen) literals

  pub truths-agree : (condition : Option Expr) → maybe_all leaves roots condition ≡ true → Alike Bool (truth_of_guard condition)
  truths-agree = conditions-good leaves roots Alike then-alike settled-alike leaf-alike load-alike applied-alike

  pub keys-agree : (condition : Option Expr) (by : Expr) → maybe_all leaves roots condition ≡ true → expr_all leaves roots by ≡ true → Alike (Option ℤ) (key_in condition by)
  keys-agree = keys-good leaves roots Alike then-alike settled-alike leaf-alike load-alike applied-alike
