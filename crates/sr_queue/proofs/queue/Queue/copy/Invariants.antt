use Rattle.std.proofs.Common.{◌≡◌, take}
use Rattle.sr_queue.proofs.queue.Queue.copy.Given as goal

abbrev pub invariant-loop-place : goal.invariant-loop-place
invariant-loop-place l = l.pending.items ≡ take l.place l.self.items
