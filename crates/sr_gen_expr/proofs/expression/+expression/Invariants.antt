-- The code so far asks what the items from here on ask, and joins what they give.
use Rattle.std.proofs.Common.{◌≤◌, drop, length, map}
use Rattle.sr_code.specs.Operands.{join_piece, join_sel, join_target, join_value}
use Rattle.sr_meaning.specs.Expressions.{argument_of, expr_meaning, in_order, part_of_expr, reading_of, step_of_expr}
use Rattle.sr_gen_expr.specs.Emitting.{Gives, join_all, join_sent}
use Rattle.sr_gen_expr.proofs.expression.+expression.Given as goal

abbrev pub invariant-gen_list-loop-at : goal.invariant-gen_list-loop-at
invariant-gen_list-loop-at l = (l.at ≤ length l.exprs) × Gives (join_all join_value) l.core l.place (in_order (map expr_meaning (drop l.at l.exprs))) l.initial.out l.out

abbrev pub decreases-gen_list-loop-at : goal.decreases-gen_list-loop-at
decreases-gen_list-loop-at l = l.at

abbrev pub invariant-gen_array-loop-at : goal.invariant-gen_array-loop-at
invariant-gen_array-loop-at l = (l.at ≤ length l.parts) × Gives (join_all join_piece) l.core l.place (in_order (map part_of_expr (drop l.at l.parts))) l.initial.out l.out

abbrev pub decreases-gen_array-loop-at : goal.decreases-gen_array-loop-at
decreases-gen_array-loop-at l = l.at

abbrev pub invariant-gen_arguments-loop-at : goal.invariant-gen_arguments-loop-at
invariant-gen_arguments-loop-at l = (l.at ≤ length l.args) × Gives (join_all join_sent) l.core l.place (in_order (map argument_of (drop l.at l.args))) l.initial.out l.out

abbrev pub decreases-gen_arguments-loop-at : goal.decreases-gen_arguments-loop-at
decreases-gen_arguments-loop-at l = l.at

abbrev pub invariant-gen_read-loop-at : goal.invariant-gen_read-loop-at
invariant-gen_read-loop-at l = (l.at ≤ length l.readings) × Gives (join_all join_target) l.core l.place (in_order (map reading_of (drop l.at l.readings))) l.initial.out l.out

abbrev pub decreases-gen_read-loop-at : goal.decreases-gen_read-loop-at
decreases-gen_read-loop-at l = l.at

abbrev pub invariant-gen_steps-loop-at : goal.invariant-gen_steps-loop-at
invariant-gen_steps-loop-at l = (l.at ≤ length l.steps) × Gives (join_all join_sel) l.core l.place (in_order (map step_of_expr (drop l.at l.steps))) l.initial.out l.out

abbrev pub decreases-gen_steps-loop-at : goal.decreases-gen_steps-loop-at
decreases-gen_steps-loop-at l = l.at
