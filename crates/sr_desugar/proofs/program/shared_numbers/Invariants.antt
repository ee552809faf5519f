-- What there is so far and what the rest adds are what all add.
use Rattle.std.proofs.Common.{drop, map, ◌++◌, ◌≡◌}
use Rattle.sr_core.specs.declared.statement.Scope.TheVariants.{Shared}
use Rattle.sr_desugar.specs.Declarations.{var_number}
use Rattle.sr_desugar.proofs.program.shared_numbers.Given as goal

abbrev pub invariant-loop-spot : goal.invariant-loop-spot
invariant-loop-spot l = l.numbers ++ map (var_number l.scene Shared) (drop l.spot-index l.spots) ≡ map (var_number l.scene Shared) l.spots
