-- What there is so far and what the rest adds are what all add.
use Rattle.std.proofs.Common.{drop, ◌≡◌}
use Rattle.sr_outline.specs.Heads.{sems_opened, with_opened}
use Rattle.sr_outline.proofs.operations.open_sems.Given as goal

abbrev pub invariant-loop-semaphore : goal.invariant-loop-semaphore
invariant-loop-semaphore l =
    (l.opening ≡ record l.fn.opening { operations = l.opening.operations })
    × (with_opened l.opening (sems_opened l.scope (drop l.semaphore-index l.semaphores)) ≡ with_opened l.fn.opening (sems_opened l.scope l.semaphores))
