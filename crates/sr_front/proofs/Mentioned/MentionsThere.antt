-- What an expression mentions is there where the tables of its scene are those of the core.
use Rattle.std.proofs.Common.{◌≡◌, ℕ, Bool, true, false, ◌==◌, Option, Some, None, IsTrue, length, if◌then◌else◌, refl, arith}
use Rattle.std.proofs.lemmas.Bool.{lt-ltb}
use Rattle.std.specs.Prelude.{nat_lt}
use Rattle.std.specs.List.{list_all}
use Rattle.sr_core.specs.declared.component.Operation.{Operation}
use Rattle.sr_core.specs.declared.owner.OperationOwner.TheVariants as whose
use Rattle.sr_core.specs.declared.statement.Scope.{Scope}
use Rattle.sr_core.specs.declared.statement.Scope.TheVariants.{Own, Shared}
use Rattle.sr_core.specs.Numbers.{Test, Where, root_exists}
use Rattle.sr_core.specs.Sites.{count_exists}
use Rattle.sr_names.specs.declared.spot.Spot.{Spot}
use Rattle.sr_tables.specs.declared.sites.Mention.{Mention}
use Rattle.sr_tables.specs.declared.sites.Mention.TheVariants as mention
use Rattle.sr_tables.specs.Sites.{mentions_in}
use Rattle.sr_tree.specs.declared.expr.Expr.{Expr}
use Rattle.sr_lower_expr.specs.declared.scene.Scene.{Scene}
use Rattle.sr_lower_expr.specs.Expressions.{core_value}
use Rattle.sr_lower_expr.specs.Places.{import_place, imported_whose, operation_at, operation_number, whose_by}
use Rattle.sr_lower_expr.proofs.PlaceNumbers.{Fits, own_root_ok, root_of_ok}
use Rattle.sr_lower_expr.proofs.Within.{found_within, position_within}
use Rattle.sr_order.specs.Names.{expr_names}
use Rattle.sr_front.proofs.Mentioned.Mentions.{Means, all_names_pass, core_value_passes}

-- the variable or the operation that is mentioned is there, and so is its global
abbrev pub mention_exists : Mention → Test
mention_exists (mention.Variable root) at = root_exists root at
mention_exists (mention.Operation (whose.Imported import)) at = nat_lt import at.imports
mention_exists (mention.Count op) at = count_exists op at
mention_exists _ at = true

module _ (scene : Scene) (at : Where) (fits : Fits scene at) where
  abbrev pub there : Mention → Bool
  there one = mention_exists one at

  whose_there : (scope : Scope) (component : ℕ) → IsTrue (there (mention.Operation (whose_by scene scope component)))
  whose_there Own component = refl
  whose_there Shared component = by (component == scene.component) (import_place scene component) refl
    where
      by : (b : Bool) (found : Option ℕ) → import_place scene component ≡ found → IsTrue (there (mention.Operation (if b then whose.Mine else imported_whose found)))
      by true found is = refl
      by false None is = refl
      by false (Some import) is =
          let within = position_within (λ one. one == component) scene.imports 0 import is in
          lt-ltb import at.imports (omega (arith, within, fits.imports))

  count_there : (spot : Spot) (operation : Operation) → operation_at scene spot ≡ Some operation → IsTrue (there (mention.Count (operation_number scene spot)))
  count_there spot operation is =
      let within = found_within scene.tables.operations spot operation is in
      lt-ltb (operation_number scene spot) (length at.core.operations) (omega (arith, within, fits.operations))

  pub scene_means : Means scene there
  scene_means = record { own = own_root_ok scene at fits; nowhere = refl; operations = whose_there; machine = refl; counts = count_there }

  -- what an expression mentions is there
  pub value_there : (tree : Expr) → IsTrue (list_all there (mentions_in (core_value scene tree)))
  value_there tree = core_value_passes scene there scene_means tree (all_names_pass scene there scene_means (root_of_ok scene at fits) (expr_names tree))
