-- The values of what is told of trees are the values of the trees.
use Rattle.std.proofs.Common.{◌≡◌, refl, ap, List, [], ◌∷◌, map}
use Rattle.sr_tree.specs.declared.expr.Expr.{Expr as Tree}
use Rattle.sr_lower_expr.specs.declared.scene.Scene.{Scene}
use Rattle.sr_lower_expr.specs.Expressions.{told, core_value, with_core}
use Rattle.sr_lower_expr.specs.Places.{value_of}

pub values_of_told : (scene : Scene) (trees : List Tree) → map value_of (map (λ told. told.1) (map (told scene) trees)) ≡ map (core_value scene) trees
values_of_told scene [] = refl
values_of_told scene (tree ∷ trees) = ap (λ rest. core_value scene tree ∷ rest) (values_of_told scene trees)

pub values_of_pairs : (scene : Scene) (trees : List Tree) → map value_of (map (λ told. told.1) (map (with_core scene) trees)) ≡ map (core_value scene) trees
values_of_pairs scene [] = refl
values_of_pairs scene (tree ∷ trees) = ap (λ rest. core_value scene tree ∷ rest) (values_of_pairs scene trees)
