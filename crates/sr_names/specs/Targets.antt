-- The ends of links, by the spot at which the links begin.
use Rattle.std.specs.Prelude.{◌≡◌, List, [], ◌∷◌, unwrap_or, if◌then◌else◌}
use Rattle.std.specs.Map.{lookup}
use Rattle.sr_names.specs.declared.links.Link.{Link}
use Rattle.sr_names.specs.declared.spot.Spot.{Spot}
use Rattle.sr_names.specs.Spots.{same_spot}

abbrev pub targets_of : List (Spot × List Spot) → Spot → List Spot
targets_of targets spot = unwrap_or (lookup (same_spot spot) targets) []

-- the ends of the links that begin at a spot, in order
abbrev pub targets_in : List Link → Spot → List Spot
targets_in [] spot = []
targets_in (link ∷ links) spot = if same_spot spot link.from then link.to ∷ targets_in links spot else targets_in links spot

abbrev pub AreTargets : List Link → List (Spot × List Spot) → Type 0
AreTargets links targets = (spot : Spot) → targets_of targets spot ≡ targets_in links spot
