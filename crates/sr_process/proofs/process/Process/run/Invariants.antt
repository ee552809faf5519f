-- It asks what it asked when the loop began, and runs or has found what it asks.
use Rattle.sr_process.specs.Processes.{Ready, SameAsks, left}
use Rattle.sr_process.proofs.process.Process.run.Given as goal

abbrev pub invariant-loop-self : goal.invariant-loop-self
invariant-loop-self l = record { same : SameAsks l.program l.initial.self l.self; ready : Ready l.self }

abbrev pub decreases-loop-self : goal.decreases-loop-self
decreases-loop-self l = left l.program l.self
