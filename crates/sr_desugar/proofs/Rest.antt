-- Names after the last value have none.
use Rattle.std.proofs.Common.{◌≡◌, refl, List, [], ◌∷◌}
use Rattle.sr_core.specs.declared.statement.Scope.{Scope}
use Rattle.sr_tree.specs.declared.types.Decl.{Decl}
use Rattle.sr_value.specs.declared.place.Place.{Place}
use Rattle.sr_lower_expr.specs.declared.scene.Scene.{Scene}
use Rattle.sr_desugar.specs.Declarations.{untyped_vars}

pub no_values : (scene : Scene) (scope : Scope) (place : Place) (decls : List Decl) → untyped_vars scene scope place decls [] ≡ []
no_values scene scope place [] = refl
no_values scene scope place (decl ∷ decls) = refl
