-- What was noted so far and what the rest adds are what the whole list adds.
use Rattle.std.proofs.Common.{◌≡◌, drop}
use Rattle.sr_names.specs.Diagnostics.{all_noted}
use Rattle.sr_scope.specs.Declarations.{semaphores_found}
use Rattle.sr_scope.proofs.declarations.semaphores.Given as goal

abbrev pub invariant-loop-semaphore : goal.invariant-loop-semaphore
invariant-loop-semaphore l = all_noted l.diagnostics (semaphores_found (drop l.semaphore-index l.semaphores) l.place l.blocks) ≡ all_noted l.fn.diagnostics (semaphores_found l.semaphores l.place l.blocks)
