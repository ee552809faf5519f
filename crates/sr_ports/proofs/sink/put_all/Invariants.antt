-- What was put so far is a front of the bytes, no fault was counted, and the rest gets shorter.
use Rattle.std.proofs.Common.{◌≡◌, length}
use Rattle.sr_ports.proofs.Progress.{Progress}
use Rattle.sr_ports.proofs.sink.put_all.Given as goal

abbrev pub invariant-loop-rest : goal.invariant-loop-rest
invariant-loop-rest g l =
    Progress l.bytes l.rest (g.S.Sink.held l.initial.sink) (g.S.Sink.held l.sink) × (g.S.Sink.faults l.sink ≡ g.S.Sink.faults l.initial.sink)

abbrev pub decreases-loop-rest : goal.decreases-loop-rest
decreases-loop-rest g l = length l.rest
