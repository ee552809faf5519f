-- The type so far goes on over the rest as the first one does over all.
use Rattle.std.proofs.Common.{◌≡◌, drop}
use Rattle.sr_types.specs.Aggregates.{common_of_all}
use Rattle.sr_types.proofs.aggregates.type_of_all.Given as goal

abbrev pub invariant-loop-part : goal.invariant-loop-part
invariant-loop-part l = common_of_all l.common (drop l.part-index l.parts) ≡ common_of_all l.first l.parts
