-- Each number in what names and places are in the core names something.
use Rattle.std.proofs.Common.{◌≡◌, ℕ, ◌<◌, ◌≤◌, Bool, true, false, ◌==◌, [], Option, Some, None, IsTrue, length, position, if◌then◌else◌, refl, arith}
use Rattle.std.proofs.lemmas.Bool.{lt-ltb}
use Rattle.sr_core.specs.declared.component.Operation.{Operation}
use Rattle.sr_core.specs.declared.expression.Expr.{Expr}
use Rattle.sr_core.specs.declared.expression.Expr.TheVariants.{Leaf}
use Rattle.sr_core.specs.declared.expression.Leaf.TheVariants.{Constant, Operation as operation_leaf}
use Rattle.sr_core.specs.declared.expression.Step.{Step}
use Rattle.sr_core.specs.declared.owner.Home.TheVariants as home
use Rattle.sr_core.specs.declared.owner.Root.{Root}
use Rattle.sr_core.specs.declared.owner.Root.TheVariants as root
use Rattle.sr_core.specs.Numbers.{Test, Where, expr_ok, place_ok, root_exists}
use Rattle.sr_names.specs.declared.spot.Spot.{Spot}
use Rattle.sr_names.specs.Spots.{same_spot}
use Rattle.sr_value.specs.declared.value.Value.TheVariants.{Bool as truth_value}
use Rattle.sr_tables.specs.declared.tables.SharedVariable.{SharedVariable}
use Rattle.sr_tables.specs.Tables.{found_at, things_in}
use Rattle.sr_lower_expr.specs.declared.scene.Lowered.{Lowered}
use Rattle.sr_lower_expr.specs.declared.scene.Lowered.TheVariants as lowered
use Rattle.sr_lower_expr.specs.declared.scene.Scene.{Scene}
use Rattle.sr_lower_expr.specs.Places.{home_of, import_place, imported_home, naming, nothing, nowhere, operation_at, operation_expr, operation_number, own_place, own_root, part_of, place_at, place_of, root_of, value_of, whose_by}
use Rattle.sr_lower_expr.proofs.ExprRules.{further_rule, leaf_rule, load_rule, of_rule, place_rule, step_ok}
use Rattle.sr_lower_expr.proofs.Within.{found_within, position_within}

-- The tables of a scene are those of the core in which its code stands.
pub record Fits (scene : Scene) (at : Where) : Type 0 where
  pub owns : length scene.own ≤ at.owns
  pub imports : length scene.imports ≤ at.imports
  pub operations : length (things_in scene.tables.operations) ≤ length at.core.operations
  pub components : length scene.tables.components ≤ length at.core.components

abbrev pub lowered_ok : Lowered → Test
lowered_ok (lowered.Place place) = place_ok place
lowered_ok (lowered.Value value) = expr_ok value

-- ---- what stands where a program is refused

module _ (at : Where) where
  pub nothing_ok : IsTrue (expr_ok nothing at)
  nothing_ok = leaf_rule at (Constant (truth_value false)) refl

  pub place_at_ok : (one : Root) → IsTrue (root_exists one at) → IsTrue (place_ok (place_at one) at)
  place_at_ok one ok = place_rule at one [] ok refl

  -- ---- expressions that are places

  pub value_of_ok : (one : Lowered) → IsTrue (lowered_ok one at) → IsTrue (expr_ok (value_of one) at)
  value_of_ok (lowered.Place place) ok = load_rule at place ok
  value_of_ok (lowered.Value value) ok = ok

  pub place_of_ok : (one : Lowered) → IsTrue (lowered_ok one at) → IsTrue (place_ok (place_of one) at)
  place_of_ok (lowered.Place place) ok = ok
  place_of_ok (lowered.Value value) ok = place_at_ok nowhere refl

  pub part_of_ok : (one : Lowered) (step : Step) → IsTrue (lowered_ok one at) → IsTrue (step_ok step at) → IsTrue (lowered_ok (part_of one step) at)
  part_of_ok (lowered.Place place) step ok ok_step = further_rule at place step ok ok_step
  part_of_ok (lowered.Value value) step ok ok_step = of_rule at value step ok ok_step

-- ---- variables and operations

abbrev root_numbered : Option ℕ → Root
root_numbered None = nowhere
root_numbered (Some var) = root.Own var

abbrev root_found : Scene → Spot → Option SharedVariable → Root
root_found scene spot (Some variable) = root.Shared (home_of scene variable.component) variable.var
root_found scene spot None = own_root scene spot

abbrev pub operation_found : Scene → Spot → (Operation → ℕ → Expr) → Option Operation → Expr
operation_found scene spot made None = nothing
operation_found scene spot made (Some operation) = made operation (operation_number scene spot)

module _ (scene : Scene) (at : Where) (fits : Fits scene at) where
  home_ok : (component var : ℕ) → IsTrue (root_exists (root.Shared (home_of scene component) var) at)
  home_ok component var = by (component == scene.component) (import_place scene component) refl
    where
      by : (b : Bool) (found : Option ℕ) → import_place scene component ≡ found → IsTrue (root_exists (root.Shared (if b then home.Mine else imported_home found) var) at)
      by true found is = refl
      by false None is = refl
      by false (Some import) is =
          let within = position_within (λ one. one == component) scene.imports 0 import is in
          lt-ltb import at.imports (omega (arith, within, fits.imports))

  pub own_root_ok : (spot : Spot) → IsTrue (root_exists (own_root scene spot) at)
  own_root_ok spot = by (position (same_spot spot) scene.own) refl
    where
      by : (found : Option ℕ) → position (same_spot spot) scene.own ≡ found → IsTrue (root_exists (root_numbered found) at)
      by None is = refl
      by (Some var) is =
          let within = position_within (same_spot spot) scene.own spot var is in
          lt-ltb var at.owns (omega (arith, within, fits.owns))

  pub own_place_ok : (spot : Spot) → IsTrue (place_ok (own_place scene spot) at)
  own_place_ok spot = place_at_ok at (own_root scene spot) (own_root_ok spot)

  pub root_of_ok : (spot : Spot) → IsTrue (root_exists (root_of scene spot) at)
  root_of_ok spot = by (found_at scene.tables.shared spot)
    where
      by : (found : Option SharedVariable) → IsTrue (root_exists (root_found scene spot found) at)
      by (Some variable) = home_ok variable.component variable.var
      by None = own_root_ok spot

  pub naming_ok : (spot : Spot) (made : Operation → ℕ → Expr)
      → ((operation : Operation) (number : ℕ) → number < length at.core.operations → IsTrue (expr_ok (made operation number) at)) → IsTrue (expr_ok (naming scene spot made) at)
  naming_ok spot made ok = by (operation_at scene spot) refl
    where
      by : (found : Option Operation) → operation_at scene spot ≡ found → IsTrue (expr_ok (operation_found scene spot made found) at)
      by None is = nothing_ok at
      by (Some operation) is =
          let within = found_within scene.tables.operations spot operation is in
          ok operation (operation_number scene spot) (omega (arith, within, fits.operations))

  pub operation_expr_ok : (spot : Spot) → IsTrue (expr_ok (operation_expr scene spot) at)
  operation_expr_ok spot =
      naming_ok spot (λ operation number. Leaf (operation_leaf (whose_by scene operation.scope operation.component) number))
      (λ operation number below. leaf_rule at (operation_leaf (whose_by scene operation.scope operation.component) number) (lt-ltb number (length at.core.operations) below))
