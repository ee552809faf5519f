-- What is left to evaluate, after what was evaluated, is what all gives.
use Rattle.std.proofs.Common.{◌≡◌, ◌++◌, drop, map}
use Rattle.sr_ask.specs.Behaviors.{and_then, give}
use Rattle.sr_meaning.specs.Expressions.{argument_of, expr_meaning, in_order, part_of_expr, reading_of, step_of_expr}
use Rattle.sr_interpreter_expr.specs.Interpreters.{here_of, stage_of}
use Rattle.sr_interpreter_expr.proofs.expression.+evaluation.Given as goal

abbrev pub invariant-evaluate_all-loop-expr : goal.invariant-evaluate_all-loop-expr
invariant-evaluate_all-loop-expr g l =
    and_then (in_order (map expr_meaning (drop l.expr-index l.exprs)) (here_of g.C.HasCore.core_of l.scene) (stage_of l.interpreter)) (λ rest. give (l.values ++ rest))
    ≡ in_order (map expr_meaning l.exprs) (here_of g.C.HasCore.core_of l.scene) (stage_of l.initial.interpreter)

abbrev pub invariant-evaluate_steps-loop-step : goal.invariant-evaluate_steps-loop-step
invariant-evaluate_steps-loop-step g l =
    and_then (in_order (map step_of_expr (drop l.step-index l.steps)) (here_of g.C.HasCore.core_of l.scene) (stage_of l.interpreter)) (λ rest. give (l.path ++ rest))
    ≡ in_order (map step_of_expr l.steps) (here_of g.C.HasCore.core_of l.scene) (stage_of l.initial.interpreter)

abbrev pub invariant-evaluate_parts-loop-part : goal.invariant-evaluate_parts-loop-part
invariant-evaluate_parts-loop-part g l =
    and_then (in_order (map part_of_expr (drop l.part-index l.parts)) (here_of g.C.HasCore.core_of l.scene) (stage_of l.interpreter)) (λ rest. give (l.pieces ++ rest))
    ≡ in_order (map part_of_expr l.parts) (here_of g.C.HasCore.core_of l.scene) (stage_of l.initial.interpreter)

abbrev pub invariant-evaluate_arguments-loop-arg : goal.invariant-evaluate_arguments-loop-arg
invariant-evaluate_arguments-loop-arg g l =
    and_then (in_order (map argument_of (drop l.arg-index l.args)) (here_of g.C.HasCore.core_of l.scene) (stage_of l.interpreter)) (λ rest. give (l.sent ++ rest))
    ≡ in_order (map argument_of l.args) (here_of g.C.HasCore.core_of l.scene) (stage_of l.initial.interpreter)

abbrev pub invariant-evaluate_readings-loop-reading : goal.invariant-evaluate_readings-loop-reading
invariant-evaluate_readings-loop-reading g l =
    and_then (in_order (map reading_of (drop l.reading-index l.readings)) (here_of g.C.HasCore.core_of l.scene) (stage_of l.interpreter)) (λ rest. give (l.read_targets ++ rest))
    ≡ in_order (map reading_of l.readings) (here_of g.C.HasCore.core_of l.scene) (stage_of l.initial.interpreter)
