-- What is left to name, after what was named, is what all gives.
use Rattle.std.proofs.Common.{◌≡◌, ◌++◌, drop, map}
use Rattle.sr_ask.specs.Behaviors.{and_then, give}
use Rattle.sr_meaning.specs.Expressions.{in_order}
use Rattle.sr_meaning.specs.Statements.{named_value}
use Rattle.sr_interpreter_expr.specs.Interpreters.{here_of, stage_of}
use Rattle.sr_interpreter_parts.proofs.select.named_values.Given as goal

abbrev pub invariant-loop-name : goal.invariant-loop-name
invariant-loop-name g l =
    and_then (in_order (map named_value (drop l.name-index l.names)) (here_of g.C.HasCore.core_of l.scene) (stage_of l.interpreter)) (λ rest. give (l.values ++ rest))
    ≡ in_order (map named_value l.names) (here_of g.C.HasCore.core_of l.scene) (stage_of l.interpreter)
