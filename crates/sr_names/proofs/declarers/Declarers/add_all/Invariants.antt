-- The component is one of those of each name so far, and no name has lost one.
use Rattle.std.proofs.Common.{◌≡◌, ℕ, true, List, is_some, take}
use Rattle.sr_names.specs.declared.spot.Spot.{Spot}
use Rattle.sr_names.specs.Declarers.{IsDeclarer}
use Rattle.sr_names.specs.Tables.{declared_as}
use Rattle.sr_names.proofs.declarers.Declarers.add_all.Given as goal

abbrev pub invariant-loop-index : goal.invariant-loop-index
invariant-loop-index l =
    ((other : List ℕ) (spot : Spot) → IsDeclarer l.fn.self other spot → IsDeclarer l.self other spot)
    × ((name : List ℕ) → is_some (declared_as (take l.index l.spec) name) ≡ true → IsDeclarer l.self name l.component)
