-- The scope of an `in` is that of the operation of its first arm.
use Rattle.std.proofs.Common.{◌≡◌, ◌≤◌, List, [], ◌∷◌, length, map, get_or, ap, arith}
use Rattle.sr_tree.specs.declared.statement.Arm.{Arm}
use Rattle.sr_lower_expr.specs.declared.scene.Scene.{Scene}
use Rattle.sr_desugar.specs.Statements.{core_arm, scope_of_arms}

pub first_scope : (scene : Scene) (trees : List Arm) (tree : Arm) → 1 ≤ length trees → tree ≡ get_or trees 0 tree
    → (core_arm scene tree).made.scope ≡ scope_of_arms (map (core_arm scene) trees)
first_scope scene [] tree some is = absurd (omega arith)
first_scope scene (first ∷ more) tree some is = ap (λ (arm : Arm). (core_arm scene arm).made.scope) is
