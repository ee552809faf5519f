use Rattle.std.proofs.Common.{◌≡◌}
use Rattle.sr_queue.specs.Classes.{next_waiting}
use Rattle.sr_queue.proofs.queue.found.Given as goal

abbrev pub invariant-loop-place : goal.invariant-loop-place
invariant-loop-place l = next_waiting l.owner l.op l.fn.from l.pending.items ≡ next_waiting l.owner l.op l.place l.pending.items
