-- What there is so far and what the rest adds are what all add.
use Rattle.std.proofs.Common.{drop, map, ◌++◌, ◌≡◌}
use Rattle.sr_desugar.specs.Statements.{receive_assign}
use Rattle.sr_desugar.proofs.receives.assigns.Given as goal

abbrev pub invariant-loop-tree : goal.invariant-loop-tree
invariant-loop-tree l = l.code ++ map (receive_assign l.scene l.span) (drop l.tree-index l.places) ≡ map (receive_assign l.scene l.span) l.places
