use Rattle.std.proofs.Common.{◌≡◌, take}
use Rattle.std.specs.List.{enumerate_from}
use Rattle.sr_select.specs.Named.{next_open}
use Rattle.sr_select.proofs.named.next_open.Given as goal

abbrev pub invariant-loop-number : goal.invariant-loop-number
invariant-loop-number l = l.next ≡ next_open l.owner l.closed (take l.number (enumerate_from 0 l.arms)) l.from l.queue.items
