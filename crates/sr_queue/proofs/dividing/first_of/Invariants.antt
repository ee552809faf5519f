use Rattle.sr_queue.specs.Dividing.{IsFirst}
use Rattle.sr_queue.proofs.dividing.first_of.Given as goal

abbrev pub invariant-loop-place : goal.invariant-loop-place
invariant-loop-place l = IsFirst l.place l.queues l.first
