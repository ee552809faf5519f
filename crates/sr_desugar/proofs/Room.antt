-- Where code declares names there are own variables.
use Rattle.std.proofs.Common.{◌<◌, List, ◌∷◌, ◌++◌, length, arith, length-append}
use Rattle.sr_names.specs.declared.spot.Spot.{Spot}
use Rattle.sr_lower_expr.specs.declared.scene.Scene.{Scene}

-- where one of these names is declared, the scene has own variables
abbrev pub Room : Scene → List Spot → Type 0
Room scene names = 0 < length names → 0 < length scene.own

module _ (scene : Scene) where
  pub room_here : (name : Spot) (names : List Spot) → Room scene (name ∷ names) → 0 < length scene.own
  room_here name names room = room (omega arith)

  pub room_first : (xs ys : List Spot) → Room scene (xs ++ ys) → Room scene xs
  room_first xs ys room = λ some. room (omega (arith, length-append xs ys, some))

  pub room_second : (xs ys : List Spot) → Room scene (xs ++ ys) → Room scene ys
  room_second xs ys room = λ some. room (omega (arith, length-append xs ys, some))
