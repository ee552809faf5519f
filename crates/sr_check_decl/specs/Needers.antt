-- Which declarations name a declaration: their places in a list, by the spot of the declaration that they name.
use Rattle.std.specs.Prelude.{ℕ, ◌+◌, Bool, List, [], ◌∷◌, ◌++◌, unwrap_or, ◌==◌}
use Rattle.std.specs.List.{list_any}
use Rattle.std.specs.Map.{lookup}
use Rattle.indexmap.specs.IndexMap.{insert_entry}
use Rattle.sr_names.specs.declared.spot.Spot.{Spot}
use Rattle.sr_names.specs.Spots.{same_spot}
use Rattle.sr_check_decl.specs.Waiting.{Waiting}

abbrev pub needers_of : List (Spot × List ℕ) → Spot → List ℕ
needers_of needers spot = unwrap_or (lookup (same_spot spot) needers) []

-- the declaration at a place names the one at a spot
abbrev pub with_needer : List (Spot × List ℕ) → ℕ → Spot → List (Spot × List ℕ)
with_needer needers place spot = insert_entry same_spot needers spot (needers_of needers spot ++ place ∷ [])

abbrev pub with_needs : List (Spot × List ℕ) → ℕ → List Spot → List (Spot × List ℕ)
with_needs needers place [] = needers
with_needs needers place (spot ∷ spots) = with_needs (with_needer needers place spot) place spots

-- the declarations from a place on name these
abbrev pub with_all_needs : List (Spot × List ℕ) → ℕ → List (List Spot) → List (Spot × List ℕ)
with_all_needs needers place [] = needers
with_all_needs needers place (spots ∷ rows) = with_all_needs (with_needs needers place spots) (place + 1) rows

-- those that name one of these
abbrev pub needers_after : List (Spot × List ℕ) → List Waiting → List ℕ
needers_after needers [] = []
needers_after needers (waiting ∷ more) = needers_of needers waiting.spot ++ needers_after needers more

-- whether a place is one of these
abbrev pub has_place : List ℕ → ℕ → Bool
has_place places place = list_any (λ other. place == other) places
