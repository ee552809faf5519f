-- Which imports lie on a cycle of imports.
use Rattle.std.specs.Prelude.{◌≡◌, Bool, false, ◌==◌, List, [], ◌∷◌, ◌++◌, map, Option, Some, if◌then◌else◌}
use Rattle.sr_names.specs.declared.cycles.Import.{Import}
use Rattle.sr_names.specs.declared.finding.Finding.{Finding}
use Rattle.sr_names.specs.declared.finding.Rule.TheVariants.{Cycle}
use Rattle.sr_names.specs.declared.links.Link.{Link}
use Rattle.sr_names.specs.declared.marks.Mark.{Mark}
use Rattle.sr_names.specs.declared.marks.Mark.TheVariants.{Settled}
use Rattle.sr_names.specs.declared.spot.Spot.{Spot}
use Rattle.sr_names.specs.Links.{connects, Among}
use Rattle.sr_names.specs.Marks.{mark_of}
use Rattle.sr_names.specs.Readings.{broken}

abbrev pub links_of : List Import → List Link
links_of imports = map (λ import. import.link) imports

-- an import is on a cycle where the links lead back from its end to its beginning
abbrev pub cycle_found : List Link → Import → List Finding
cycle_found links import = if connects links import.link.to import.link.from then broken Cycle import.span ∷ [] else []

abbrev pub all_cycles_found : List Link → List Import → List Finding
all_cycles_found links [] = []
all_cycles_found links (import ∷ imports) = cycle_found links import ++ all_cycles_found links imports

abbrev pub cycles_found : List Import → List Finding
cycles_found imports = all_cycles_found (links_of imports) imports

-- both are settled in one group
abbrev pub in_one_group : Option Mark → Option Mark → Bool
in_one_group (Some (Settled from)) (Some (Settled to)) = from == to
in_one_group _ _ = false

abbrev pub together : List (Spot × Mark) → Link → Bool
together marks link = in_one_group (mark_of marks link.from) (mark_of marks link.to)

-- the ends of each link are in one group exactly where the links lead back from its end to its beginning
abbrev pub AreGrouped : List Link → List (Spot × Mark) → Type 0
AreGrouped links marks = (link : Link) → Among links link → together marks link ≡ connects links link.to link.from

-- an import whose ends are in one group
abbrev pub together_found : List (Spot × Mark) → Import → List Finding
together_found marks import = if together marks import.link then broken Cycle import.span ∷ [] else []

abbrev pub all_together_found : List (Spot × Mark) → List Import → List Finding
all_together_found marks [] = []
all_together_found marks (import ∷ imports) = together_found marks import ++ all_together_found marks imports
