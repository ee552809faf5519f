-- The components whose specs have a name.
use Rattle.std.specs.Prelude.{◌≡◌, ℕ, true, List, [], is_some, map, unwrap_or, Vec}
use Rattle.std.specs.declared.alloc.Global.{Global}
use Rattle.std.specs.List.{list_any}
use Rattle.std.specs.Map.{lookup}
use Rattle.std.specs.Str.{bytes_eq}
use Rattle.sr_names.specs.declared.spot.Spot.{Spot}
use Rattle.sr_names.specs.Components.{member_named}
use Rattle.sr_names.specs.Specs.{Specs}
use Rattle.sr_names.specs.Spots.{same_spot}

abbrev pub Declarers : Type 0
Declarers = List (List ℕ × List Spot)

abbrev pub named_declarers : List (Vec ℕ Global × List Spot) → Declarers
named_declarers entries = map (λ entry. (entry.0.items, entry.1)) entries

abbrev pub declarers_of : Declarers → List ℕ → List Spot
declarers_of declarers name = unwrap_or (lookup (bytes_eq name) declarers) []

-- a component is one of those of a name
abbrev pub IsDeclarer : Declarers → List ℕ → Spot → Type 0
IsDeclarer declarers name component = list_any (same_spot component) (declarers_of declarers name) ≡ true

-- each component whose spec has the name is there
abbrev pub AreDeclarers : List Spot → Specs → List ℕ → Type 0
AreDeclarers components specs name = (component : Spot) → is_some (member_named specs component name) ≡ true → list_any (same_spot component) components ≡ true

abbrev pub HoldsDeclarers : Declarers → Specs → Type 0
HoldsDeclarers declarers specs = (name : List ℕ) → AreDeclarers (declarers_of declarers name) specs name
