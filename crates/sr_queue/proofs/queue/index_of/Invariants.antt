use Rattle.std.proofs.Common.{take}
use Rattle.sr_queue.specs.Indexed.{IsIndexed}
use Rattle.sr_queue.proofs.queue.index_of.Given as goal

abbrev pub invariant-loop-place : goal.invariant-loop-place
invariant-loop-place l = IsIndexed (take l.place l.pending.items) l.index
