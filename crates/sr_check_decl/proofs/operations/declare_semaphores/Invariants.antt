-- What is declared so far and what the rest declares are what all declare.
use Rattle.std.proofs.Common.{◌≡◌, drop}
use Rattle.sr_check_decl.specs.Declaring.{sems_declared}
use Rattle.sr_check_decl.proofs.operations.declare_semaphores.Given as goal

abbrev pub invariant-loop-semaphore : goal.invariant-loop-semaphore
invariant-loop-semaphore l = sems_declared l.is_local (drop l.semaphore-index l.semaphores) l.facts ≡ sems_declared l.is_local l.semaphores l.fn.facts
