-- What there is so far and what the rest adds are what all add.
use Rattle.std.proofs.Common.{drop, ◌++◌, ◌≡◌}
use Rattle.sr_desugar.specs.Statements.{semaphores_core}
use Rattle.sr_desugar.proofs.quantifiers.push_semaphores.Given as goal

abbrev pub invariant-loop-semaphore : goal.invariant-loop-semaphore
invariant-loop-semaphore l = l.code ++ semaphores_core l.scene l.span (drop l.semaphore-index l.semaphores) ≡ l.fn.code ++ semaphores_core l.scene l.span l.semaphores
