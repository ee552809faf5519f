-- Graphs of spots.
use Rattle.std.specs.Prelude.{◌≡◌, ◌⊎◌, ◌↔◌, Bool, IsTrue, ◌&&◌, ◌||◌, List, [], ◌∷◌}
use Rattle.sr_names.specs.declared.links.Link.{Link}
use Rattle.sr_names.specs.declared.spot.Spot.{Spot}
use Rattle.sr_names.specs.Spots.{same_spot}

-- whether links lead from one spot to another: each spot is connected with itself, and one link more also connects
-- what is connected with its beginning with what its end is connected with
abbrev pub connects : List Link → Spot → Spot → Bool
connects [] from to = same_spot from to
connects (link ∷ links) from to = connects links from to || (connects links from link.from && connects links link.to to)

-- a link is one of a list
abbrev pub Among : List Link → Link → Type 0
Among [] link = ⊥
Among (first ∷ links) link = (first ≡ link) ⊎ Among links link

-- a way from a spot to another: it stays, or goes over a link and on from its end
pub data Way (links : List Link) : Spot → Spot → Type 0 where
  stay : (spot : Spot) → Way links spot spot
  go : (from end : Spot) (link : Link) → Among links link → link.from ≡ from → Way links link.to end → Way links from end

-- to be connected is to have a way
abbrev pub ConnectsAlongWays : Type 0
ConnectsAlongWays = (links : List Link) (from to : Spot) → IsTrue (connects links from to) ↔ Way links from to
