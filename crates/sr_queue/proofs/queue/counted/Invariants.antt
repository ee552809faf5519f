use Rattle.std.proofs.Common.{◌≡◌, take}
use Rattle.sr_queue.specs.Queues.{waiting}
use Rattle.sr_queue.proofs.queue.counted.Given as goal

abbrev pub invariant-loop-place : goal.invariant-loop-place
invariant-loop-place l = l.count ≡ waiting l.owner l.op (take l.place l.pending.items)
