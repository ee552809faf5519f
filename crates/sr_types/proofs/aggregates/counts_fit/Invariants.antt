-- The counts so far fit, so all do where those of the rest do.
use Rattle.std.proofs.Common.{◌≡◌, drop}
use Rattle.sr_types.specs.Aggregates.{are_counted}
use Rattle.sr_types.proofs.aggregates.counts_fit.Given as goal

abbrev pub invariant-loop-part : goal.invariant-loop-part
invariant-loop-part l = are_counted (drop l.part-index l.parts) ≡ are_counted l.parts
