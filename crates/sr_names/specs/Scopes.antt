-- What a name means at a place.
use Rattle.std.specs.Prelude.{ℕ, Bool, false, not, ◌&&◌, ◌||◌, List, [], ◌∷◌, ◌++◌, Option, Some, None, if◌then◌else◌, fold}
use Rattle.std.specs.Option.{option_and_then, option_map}
use Rattle.std.specs.List.{filter_map}
use Rattle.sr_names.specs.declared.meaning.Decl.{Decl}
use Rattle.sr_names.specs.declared.meaning.Meaning.{Meaning}
use Rattle.sr_names.specs.declared.meaning.Meaning.TheVariants.{Predefined, Declared}
use Rattle.sr_names.specs.declared.place.Blocks.{Blocks}
use Rattle.sr_names.specs.declared.place.Place.{Place}
use Rattle.sr_names.specs.declared.place.Shown.{Shown}
use Rattle.sr_names.specs.declared.place.Shown.TheVariants.{Nowhere, Once, Often}
use Rattle.sr_names.specs.declared.spot.Spot.{Spot}
use Rattle.sr_names.specs.Shown.{counted}
use Rattle.sr_names.specs.Components.{member_named}
use Rattle.sr_names.specs.Predefined.{predefined_named}
use Rattle.sr_names.specs.Sorts.{needs_order, is_hidden}
use Rattle.sr_names.specs.Specs.{Specs}
use Rattle.sr_names.specs.Spots.{same_spot, spot_before}
use Rattle.sr_names.specs.Tables.{declared_as}
use Rattle.sr_names.specs.Visible.{component_at}

abbrev pub or_else : {A : Type 0} → Option A → Option A → Option A
or_else (Some x) other = Some x
or_else None other = other

abbrev pub no_blocks : Blocks
no_blocks = record { inner = []; outer = [] }

-- a scope within the innermost
abbrev pub opened : Blocks → Blocks
opened blocks = record { inner = []; outer = blocks.outer ++ blocks.inner ∷ [] }

-- an inner declaration of a name hides an outer one
abbrev pub in_blocks : Blocks → List ℕ → Option Decl
in_blocks blocks name = or_else (declared_as blocks.inner name) (fold (λ found table. or_else (declared_as table name) found) None blocks.outer)

-- whether a declaration is the one in which a place is
abbrev pub is_within : Option Spot → Spot → Bool
is_within None declared = false
is_within (Some spot) declared = same_spot spot declared

-- a constant or type is usable after its declaration alone
abbrev pub is_usable : Option Spot → Spot → Decl → Bool
is_usable within at decl = not (needs_order decl.sort) || (spot_before decl.spot at && not (is_within within decl.spot))

abbrev pub ready : Option Spot → Spot → Decl → Option Meaning
ready within at decl = if is_usable within at decl then Some (Declared decl) else None

-- what a component shows as a name to others: the names of its spec, but no operation of a resource
abbrev pub shown : Specs → Decl → List ℕ → Option Decl
shown specs component name = option_and_then (λ decl. if is_hidden component.sort decl.sort then None else Some decl) (member_named specs component.spot name)

-- what the visible components show as a name
abbrev pub candidates : Specs → List Decl → List ℕ → List Decl
candidates specs visible name = filter_map (λ component. shown specs component name) visible

-- what the component that is known by a spot shows, if it is visible
abbrev pub shown_at : Specs → List Decl → List ℕ → Spot → Option Decl
shown_at specs visible name spot = option_and_then (λ component. shown specs component name) (component_at visible spot)

-- a name that one imported component shows means that; two make it ambiguous; where none does it may be predefined
abbrev pub from_imports : Option Spot → List ℕ → Spot → Shown → Option Meaning
from_imports within name at Nowhere = option_map Predefined (predefined_named name)
from_imports within name at (Once decl) = ready within at decl
from_imports within name at Often = None

-- the visible component of a name
abbrev pub visible_named : Place → List ℕ → Option Decl
visible_named place name = option_and_then (λ component. component_at place.visible component.spot) (declared_as place.components name)

-- the component's own names go first, then the names of visible components, then what these show
abbrev pub outside : Place → List ℕ → Spot → Option Meaning
outside place name at = by_own (declared_as place.own name)
  where
    by_visible : Option Decl → Option Meaning
    by_visible (Some component) = Some (Declared component)
    by_visible None = from_imports place.within name at (counted (candidates place.specs place.visible name))

    by_own : Option Decl → Option Meaning
    by_own (Some decl) = ready place.within at decl
    by_own None = by_visible (visible_named place name)

-- what a name means that is used at a spot
abbrev pub denotes : Place → Blocks → List ℕ → Spot → Option Meaning
denotes place blocks name at = by_blocks (in_blocks blocks name)
  where
    by_blocks : Option Decl → Option Meaning
    by_blocks (Some decl) = Some (Declared decl)
    by_blocks None = outside place name at

-- what a name means after a component's name and a point
abbrev pub member : Place → Decl → List ℕ → Spot → Option Meaning
member place component name at = option_and_then (ready place.within at) (shown place.specs component name)
