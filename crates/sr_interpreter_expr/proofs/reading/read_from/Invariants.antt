-- What is left to read, after what is read so far, is all.
use Rattle.std.proofs.Common.{◌≡◌, ◌-◌, drop, length}
use Rattle.sr_interpreter_expr.specs.Interpreters.{here_of, stage_of}
use Rattle.sr_meaning.specs.Expressions.{read_all}
use Rattle.sr_interpreter_expr.proofs.reading.read_from.Given as goal

abbrev pub invariant-targets : goal.invariant-targets
invariant-targets g l =
    read_all l.at (drop l.at l.read_targets) (here_of g.C.HasCore.core_of l.scene) (stage_of l.interpreter) ≡ read_all l.initial.at (drop l.initial.at l.read_targets) (here_of g.C.HasCore.core_of l.scene) (stage_of l.initial.interpreter)

abbrev pub decreases-targets : goal.decreases-targets
decreases-targets g l = length l.read_targets - l.at
