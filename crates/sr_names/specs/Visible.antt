-- The components whose names can be used at a place.
use Rattle.std.specs.Prelude.{List, [], ◌∷◌, ◌++◌, Option, Some, None, is_some, map, if◌then◌else◌}
use Rattle.sr_names.specs.declared.meaning.Decl.{Decl}
use Rattle.sr_names.specs.declared.meaning.Sort.{Sort}
use Rattle.sr_names.specs.declared.spot.Spot.{Spot}
use Rattle.sr_names.specs.Spots.{same_spot}

abbrev pub components_of : List (Spot × Sort) → List Decl
components_of sorts = map (λ entry. record { sort = entry.1; spot = entry.0 }) sorts

abbrev pub spots_of : List Decl → List Spot
spots_of components = map (λ component. component.spot) components

-- a component is known by the spot of its name
abbrev pub component_at : List Decl → Spot → Option Decl
component_at [] spot = None
component_at (component ∷ components) spot = if same_spot spot component.spot then Some component else component_at components spot

-- a component stands once among those that are visible
abbrev pub with_component : List Decl → Decl → List Decl
with_component components component = if is_some (component_at components component.spot) then components else components ++ component ∷ []
