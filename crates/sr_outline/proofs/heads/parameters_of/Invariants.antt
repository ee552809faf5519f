-- What there is so far and what the rest adds are what all add.
use Rattle.std.proofs.Common.{drop, flat_map, ◌++◌, ◌≡◌}
use Rattle.sr_outline.specs.Heads.{parameters_in}
use Rattle.sr_outline.proofs.heads.parameters_of.Given as goal

abbrev pub invariant-loop-formal : goal.invariant-loop-formal
invariant-loop-formal l = l.all ++ flat_map (parameters_in l.facts l.table) (drop l.formal-index l.formals) ≡ flat_map (parameters_in l.facts l.table) l.formals
