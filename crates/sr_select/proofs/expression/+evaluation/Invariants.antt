-- What is left to evaluate, after what was evaluated, is what all gives.
use Rattle.std.proofs.Common.{◌≡◌, ◌++◌, drop, map}
use Rattle.sr_select.specs.Guards.{guard_part, guard_step, guard_value, in_order}
use Rattle.sr_select.specs.Looks.{give, then_look}
use Rattle.sr_select.specs.Sights.{guarding_of}
use Rattle.sr_select.proofs.expression.+evaluation.Given as goal

abbrev pub invariant-evaluate_all-loop-expr : goal.invariant-evaluate_all-loop-expr
invariant-evaluate_all-loop-expr g l =
    then_look (in_order (map guard_value (drop l.expr-index l.exprs)) (guarding_of (g.R.Reads.reading l.reads) l.sight) l.seen) (λ rest. give (l.values ++ rest))
    ≡ in_order (map guard_value l.exprs) (guarding_of (g.R.Reads.reading l.reads) l.sight) l.initial.seen

abbrev pub invariant-evaluate_steps-loop-step : goal.invariant-evaluate_steps-loop-step
invariant-evaluate_steps-loop-step g l =
    then_look (in_order (map guard_step (drop l.step-index l.steps)) (guarding_of (g.R.Reads.reading l.reads) l.sight) l.seen) (λ rest. give (l.path ++ rest))
    ≡ in_order (map guard_step l.steps) (guarding_of (g.R.Reads.reading l.reads) l.sight) l.initial.seen

abbrev pub invariant-evaluate_parts-loop-part : goal.invariant-evaluate_parts-loop-part
invariant-evaluate_parts-loop-part g l =
    then_look (in_order (map guard_part (drop l.part-index l.parts)) (guarding_of (g.R.Reads.reading l.reads) l.sight) l.seen) (λ rest. give (l.pieces ++ rest))
    ≡ in_order (map guard_part l.parts) (guarding_of (g.R.Reads.reading l.reads) l.sight) l.initial.seen
