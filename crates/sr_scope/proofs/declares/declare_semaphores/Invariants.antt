-- The scope and what was noted so far, and what the rest adds, are what the whole list adds.
use Rattle.std.proofs.Common.{◌≡◌, drop, map}
use Rattle.sr_names.specs.declared.meaning.Sort.TheVariants.{Operation}
use Rattle.sr_names.specs.Diagnostics.{all_noted}
use Rattle.sr_scope.specs.Declares.{names_declared, names_twice}
use Rattle.sr_scope.proofs.declares.declare_semaphores.Given as goal

abbrev pub invariant-loop-semaphore : goal.invariant-loop-semaphore
invariant-loop-semaphore l =
    (names_declared Operation (map (λ semaphore. semaphore.name) (drop l.semaphore-index l.semaphores)) l.table ≡ names_declared Operation (map (λ semaphore. semaphore.name) l.semaphores) l.fn.table)
    × (all_noted l.diagnostics (names_twice Operation (map (λ semaphore. semaphore.name) (drop l.semaphore-index l.semaphores)) l.table) ≡ all_noted l.fn.diagnostics (names_twice Operation (map (λ semaphore. semaphore.name) l.semaphores) l.fn.table))
