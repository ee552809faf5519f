-- The copies so far are those of the last answers, the next one last.
use Rattle.std.proofs.Common.{◌≡◌, ◌≤◌, drop, length}
use Rattle.std.specs.Prelude.{reverse}
use Rattle.sr_interpreter.proofs.process.backwards.Given as goal

abbrev pub invariant-answers : goal.invariant-answers
invariant-answers l = (l.at ≤ length l.answers) × (reverse l.copies ≡ drop l.at l.answers)

abbrev pub decreases-answers : goal.decreases-answers
decreases-answers l = l.at
