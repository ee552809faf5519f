-- The operation is among all where it is among the rest.
use Rattle.std.proofs.Common.{◌≡◌, ◌==◌, drop}
use Rattle.std.specs.List.{list_any}
use Rattle.sr_tables.proofs.sites.is_counted.Given as goal

abbrev pub invariant-loop-other : goal.invariant-loop-other
invariant-loop-other l = list_any (λ other. l.op == other) (drop l.other-index l.counts) ≡ list_any (λ other. l.op == other) l.counts
