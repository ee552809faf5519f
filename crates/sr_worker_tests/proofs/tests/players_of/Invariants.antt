use Rattle.std.proofs.Common.{◌≡◌, ◌+◌, length}
use Rattle.sr_worker.specs.Hands.{processes_of}
use Rattle.sr_worker_tests.specs.Numbers.{AreNumbered}
use Rattle.sr_worker_tests.proofs.tests.players_of.Given as goal

abbrev pub invariant-loop-script : goal.invariant-loop-script
invariant-loop-script l = AreNumbered l.first (processes_of l.players) × (l.process ≡ l.first + length l.players)
