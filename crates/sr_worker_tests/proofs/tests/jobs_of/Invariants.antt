use Rattle.std.proofs.Common.{All}
use Rattle.sr_worker.specs.Hands.{AreApart, processes_of}
use Rattle.sr_worker_tests.proofs.tests.jobs_of.Given as goal

abbrev pub invariant-loop-number : goal.invariant-loop-number
invariant-loop-number l = All (λ job. AreApart (processes_of job.hand.players)) l.jobs.items
