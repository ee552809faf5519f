-- The operations so far are their own parents.
use Rattle.std.proofs.Common.{◌≡◌, ◌<◌, ◌≤◌, ℕ, length}
use Rattle.std.specs.Prelude.{slice_index_or}
use Rattle.sr_classes.proofs.sites.alone.Given as goal

abbrev pub invariant-loop-op : goal.invariant-loop-op
invariant-loop-op l = (length l.parents ≡ l.op) × (l.op ≤ l.count) × ((op : ℕ) → op < l.op → slice_index_or l.parents op 0 ≡ op)
