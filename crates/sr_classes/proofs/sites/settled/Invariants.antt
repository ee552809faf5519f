-- The operations so far have their first.
use Rattle.std.proofs.Common.{◌≡◌, ◌<◌, ◌≤◌, ℕ, length}
use Rattle.std.specs.Prelude.{slice_index_or}
use Rattle.sr_classes.specs.Joins.{IsForest, Stands}
use Rattle.sr_classes.proofs.sites.settled.Given as goal

abbrev pub invariant-loop-op : goal.invariant-loop-op
invariant-loop-op l = (length l.parents ≡ length l.initial.parents) × IsForest l.parents × (length l.classes ≡ l.op) × (l.op ≤ length l.parents)
    × ((of : ℕ → ℕ) → Stands of l.initial.parents → Stands of l.parents × ((op : ℕ) → op < l.op → slice_index_or l.classes op 0 ≡ of op))
