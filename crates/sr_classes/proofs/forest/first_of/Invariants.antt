-- The way up stays in the class of the operation.
use Rattle.std.proofs.Common.{◌≡◌, ◌<◌, ℕ, length}
use Rattle.sr_classes.specs.Joins.{IsForest, Stands}
use Rattle.sr_classes.proofs.forest.first_of.Given as goal

abbrev pub invariant-up : goal.invariant-up
invariant-up l = (length l.parents ≡ length l.initial.parents) × IsForest l.parents × (l.at < length l.parents)
    × ((of : ℕ → ℕ) → Stands of l.initial.parents → Stands of l.parents × (of l.at ≡ of l.op))

abbrev pub decreases-up : goal.decreases-up
decreases-up l = l.at
