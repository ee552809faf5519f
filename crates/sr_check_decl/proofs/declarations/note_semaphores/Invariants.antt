-- What was noted so far and what the rest adds are what all add.
use Rattle.std.proofs.Common.{◌≡◌, drop}
use Rattle.sr_names.specs.Diagnostics.{all_noted}
use Rattle.sr_check_decl.specs.Declarations.{sems_found}
use Rattle.sr_check_decl.proofs.declarations.note_semaphores.Given as goal

abbrev pub invariant-loop-semaphore : goal.invariant-loop-semaphore
invariant-loop-semaphore l = all_noted l.diagnostics (sems_found l.facts (drop l.semaphore-index l.semaphores)) ≡ all_noted l.fn.diagnostics (sems_found l.facts l.semaphores)
