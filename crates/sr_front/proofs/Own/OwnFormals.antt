-- The variables that stand for formals and for what is returned are own ones, where there are own variables for them.
use Rattle.std.proofs.Common.{◌≡◌, ℕ, ◌<◌, ◌≤◌, true, List, [], ◌∷◌, ◌++◌, Option, Some, None, IsTrue, is_some, length, position, unwrap_or, refl, arith, length-append}
use Rattle.std.proofs.lemmas.Bool.{and_from, and_parts, lt-ltb}
use Rattle.std.specs.List.{list_all}
use Rattle.sr_core.specs.declared.component.Parameter.{Parameter}
use Rattle.sr_core.specs.declared.formal.Formal.{Formal}
use Rattle.sr_core.specs.Tests.{if_some}
use Rattle.sr_names.specs.declared.spot.Spot.{Spot}
use Rattle.sr_names.specs.Spots.{same_spot}
use Rattle.sr_value.specs.declared.shape.Shape.{Shape}
use Rattle.sr_lower_expr.specs.declared.scene.Scene.{Scene}
use Rattle.sr_lower_expr.specs.Places.{first_var, formals_of, own_formals, own_number, own_numbers, own_returned, parameters_at, returned_to, returns_at}
use Rattle.sr_lower_expr.proofs.Each.{made_passes}
use Rattle.sr_lower_expr.proofs.Within.{position_within}
use Rattle.sr_front.specs.Formals.{formals_own, is_own}

-- where there are such spots there are own variables
abbrev pub Room : ℕ → List Spot → Type 0
Room owns spots = 0 < length spots → 0 < owns

pub room_left : (owns : ℕ) (xs ys : List Spot) → Room owns (xs ++ ys) → Room owns xs
room_left owns xs ys room some = room (omega (arith, some, length-append xs ys))

pub room_right : (owns : ℕ) (xs ys : List Spot) → Room owns (xs ++ ys) → Room owns ys
room_right owns xs ys room some = room (omega (arith, some, length-append xs ys))

-- where the operation has parameters, or returns, there are own variables
pub record HasRoom (scene : Scene) (owns : ℕ) (operation : Spot) : Type 0 where
  pub parameters : 0 < length (parameters_at scene operation) → 0 < owns
  pub returns : is_some (returns_at scene operation) ≡ true → 0 < owns

module _ (scene : Scene) (owns : ℕ) (some : length scene.own ≤ owns) where
  module _ (more : 0 < owns) where
    number_own : (spot : Spot) → IsTrue (is_own owns (own_number scene spot))
    number_own spot = by (position (same_spot spot) scene.own) refl
      where
        by : (found : Option ℕ) → position (same_spot spot) scene.own ≡ found → IsTrue (is_own owns (unwrap_or found 0))
        by None is = lt-ltb 0 owns more
        by (Some number) is =
            let within = position_within (same_spot spot) scene.own spot number is in
            lt-ltb number owns (omega (arith, within, some))

    numbers_own : (spots : List Spot) → IsTrue (list_all (is_own owns) (own_numbers scene spots))
    numbers_own = made_passes (is_own owns) (own_number scene) number_own

    first_own : (vars : List ℕ) → IsTrue (list_all (is_own owns) vars) → IsTrue (is_own owns (first_var vars))
    first_own [] all = lt-ltb 0 owns more
    first_own (var ∷ vars) all = (and_parts (is_own owns var) _ all).0

    formals_pass : (vars : List ℕ) (parameters : List Parameter) → IsTrue (list_all (is_own owns) vars)
        → IsTrue (list_all (λ (formal : Formal). is_own owns formal.var) (formals_of vars parameters))
    formals_pass vars [] all = refl
    formals_pass [] (parameter ∷ parameters) all = and_from _ _ (first_own [] refl) (formals_pass [] parameters refl)
    formals_pass (var ∷ vars) (parameter ∷ parameters) all =
        let parts = and_parts (is_own owns var) (list_all (is_own owns) vars) all in
        and_from _ _ parts.0 (formals_pass vars parameters parts.1)

  formals_good : (formals : List Spot) (parameters : List Parameter) → (0 < length parameters → 0 < owns)
      → IsTrue (list_all (λ (formal : Formal). is_own owns formal.var) (formals_of (own_numbers scene formals) parameters))
  formals_good formals [] room = refl
  formals_good formals (parameter ∷ parameters) room =
      let more = room (omega arith) in
      formals_pass more (own_numbers scene formals) (parameter ∷ parameters) (numbers_own more formals)

  returned_good : (returned : List Spot) (shape : Option Shape) → (is_some shape ≡ true → 0 < owns)
      → IsTrue (if_some (λ name. is_own owns name.var) (returned_to (first_var (own_numbers scene returned)) shape))
  returned_good returned None room = refl
  returned_good returned (Some shape) room = first_own (room refl) (own_numbers scene returned) (numbers_own (room refl) returned)

  -- the formals of a service, and the name of what it returns
  pub own_formals_pass : (formals returned : List Spot) (operation : Spot) → HasRoom scene owns operation
      → IsTrue (formals_own owns (own_formals scene formals operation) (own_returned scene returned operation))
  own_formals_pass formals returned operation room =
      and_from _ _ (formals_good formals (parameters_at scene operation) room.parameters) (returned_good returned (returns_at scene operation) room.returns)
