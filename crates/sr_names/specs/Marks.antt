-- The marks of spots.
use Rattle.std.specs.Prelude.{ℕ, Bool, false, nat_lt, List, [], ◌∷◌, Option}
use Rattle.std.specs.Map.{lookup}
use Rattle.indexmap.specs.IndexMap.{insert_entry}
use Rattle.sr_names.specs.declared.marks.Mark.{Mark}
use Rattle.sr_names.specs.declared.marks.Mark.TheVariants.{OnPath, Settled}
use Rattle.sr_names.specs.declared.spot.Spot.{Spot}
use Rattle.sr_names.specs.Spots.{same_spot}

abbrev pub mark_of : List (Spot × Mark) → Spot → Option Mark
mark_of marks spot = lookup (same_spot spot) marks

abbrev pub with_mark : List (Spot × Mark) → Spot → Mark → List (Spot × Mark)
with_mark marks spot mark = insert_entry same_spot marks spot mark

abbrev pub stands_before : Mark → ℕ → Bool
stands_before (OnPath at) place = nat_lt at place
stands_before (Settled number) place = false

-- all of these spots are settled in the group of a number
abbrev pub with_settled : List (Spot × Mark) → List Spot → ℕ → List (Spot × Mark)
with_settled marks [] number = marks
with_settled marks (spot ∷ spots) number = with_settled (with_mark marks spot (Settled number)) spots number
