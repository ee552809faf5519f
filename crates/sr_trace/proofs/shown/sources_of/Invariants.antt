-- The items from which all rows that came are linked are there.
use Rattle.std.proofs.Common.{◌≡◌, ℕ, take}
use Rattle.std.specs.Prelude.{nat_eq}
use Rattle.std.specs.HashSet.{contains}
use Rattle.std.specs.List.{list_any}
use Rattle.sr_trace.specs.Shown.{is_source}
use Rattle.sr_trace.proofs.shown.sources_of.Given as goal

abbrev pub invariant-loop-row : goal.invariant-loop-row
invariant-loop-row l = (item : ℕ) → contains nat_eq l.sources item ≡ list_any (is_source item) (take l.row-index l.rows)
