-- What is left to carry out is what all leads to; each piece has less to carry out.
use Rattle.std.proofs.Common.{◌≡◌, ◌+◌, ◌-◌, ◌*◌, drop, length, map}
use Rattle.sr_ask.specs.Behaviors.{turns}
use Rattle.sr_meaning.specs.Pieces.{co_part_of, guarded_of, optional_block}
use Rattle.sr_interpreter.specs.Blocks.{inner_meaning}
use Rattle.sr_meaning.specs.Statements.{block_of, complete_all, do_turn, first_true, for_values, quantified, start_calls}
use Rattle.sr_interpreter_parts.specs.Turns.{listed, listed_from}
use Rattle.sr_interpreter_expr.specs.Interpreters.{here_of, stage_of}
use Rattle.sr_meaning.proofs.Weights.{weight_of, weight_of_arm, weight_of_arms, weight_of_block, weight_of_blocks, weight_of_guarded, weight_of_guards, weight_of_optional}
use Rattle.sr_interpreter.proofs.Weights.{weight_of_inner}
use Rattle.sr_interpreter.proofs.statement.+execution.Given as goal

abbrev pub decreases-run : goal.decreases-run
decreases-run g l = weight_of l.statement.now

abbrev pub decreases-run_block : goal.decreases-run_block
decreases-run_block g l = weight_of_block l.statements.now

abbrev pub decreases-run_guards : goal.decreases-run_guards
decreases-run_guards g l = 1 + weight_of_guards l.guards.now

abbrev pub decreases-run_guarded : goal.decreases-run_guarded
decreases-run_guarded g l = weight_of_guarded l.guarded.now

abbrev pub decreases-run_if : goal.decreases-run_if
decreases-run_if g l = 3 + (weight_of_guards l.guards.now + weight_of_block l.otherwise.now)

abbrev pub decreases-run_do : goal.decreases-run_do
decreases-run_do g l = 5 + (weight_of_guards l.guards.now + weight_of_optional l.otherwise.now)

abbrev pub decreases-run_turns : goal.decreases-run_turns
decreases-run_turns g l = 4 + (weight_of_guards l.guards.now + weight_of_optional l.otherwise.now)

abbrev pub decreases-run_turn : goal.decreases-run_turn
decreases-run_turn g l = 3 + (weight_of_guards l.guards.now + weight_of_optional l.otherwise.now)

abbrev pub decreases-run_fa : goal.decreases-run_fa
decreases-run_fa g l = 3 + (3 * length l.quantifiers.now + weight_of_block l.body.now)

abbrev pub decreases-run_quantified : goal.decreases-run_quantified
decreases-run_quantified g l = 2 + (3 * length l.quantifiers.now + weight_of_inner l.inner.now)

abbrev pub decreases-run_inner : goal.decreases-run_inner
decreases-run_inner g l = 1 + weight_of_inner l.inner.now

abbrev pub decreases-run_values : goal.decreases-run_values
decreases-run_values g l = 4 + (3 * length l.rest.now + weight_of_inner l.inner.now)

abbrev pub decreases-run_value : goal.decreases-run_value
decreases-run_value g l = 3 + (3 * length l.rest.now + weight_of_inner l.inner.now)

abbrev pub decreases-run_in : goal.decreases-run_in
decreases-run_in g l = 4 + (weight_of_blocks l.arms.now + weight_of_block l.otherwise.now)

abbrev pub decreases-run_pick : goal.decreases-run_pick
decreases-run_pick g l = 3 + weight_of_blocks l.arms.now

abbrev pub decreases-run_service : goal.decreases-run_service
decreases-run_service g l = 1 + weight_of_block l.block.now

abbrev pub decreases-run_co : goal.decreases-run_co
decreases-run_co g l = 5 + weight_of_arms l.arms.now

abbrev pub decreases-start_calls : goal.decreases-start_calls
decreases-start_calls g l = 4 + weight_of_arms l.arms.now

abbrev pub decreases-complete_outs : goal.decreases-complete_outs
decreases-complete_outs g l = 4 + weight_of_arms l.arms.now

abbrev pub decreases-complete_next : goal.decreases-complete_next
decreases-complete_next g l = 3 + weight_of_arms l.arms.now

abbrev pub decreases-complete_reply : goal.decreases-complete_reply
decreases-complete_reply g l = 2 + weight_of_arms l.arms.now

abbrev pub decreases-complete_arm : goal.decreases-complete_arm
decreases-complete_arm g l = weight_of_arm l.arm.now

abbrev pub invariant-run_block-loop-statement : goal.invariant-run_block-loop-statement
invariant-run_block-loop-statement g l =
    block_of (drop l.statement-index l.statements) (here_of g.C.HasCore.core_of l.scene) (stage_of l.interpreter) ≡ block_of l.statements (here_of g.C.HasCore.core_of l.scene) (stage_of l.initial.interpreter)

abbrev pub invariant-run_guards-loop-guarded : goal.invariant-run_guards-loop-guarded
invariant-run_guards-loop-guarded g l =
    first_true (map guarded_of (drop l.guarded-index l.guards)) (here_of g.C.HasCore.core_of l.scene) (stage_of l.interpreter)
    ≡ first_true (map guarded_of l.guards) (here_of g.C.HasCore.core_of l.scene) (stage_of l.initial.interpreter)

abbrev pub decreases-run_turns-turns : goal.decreases-run_turns-turns
decreases-run_turns-turns g l = l.most

abbrev pub invariant-run_turns-turns : goal.invariant-run_turns-turns
invariant-run_turns-turns g l =
    turns l.most (do_turn (map guarded_of l.guards) (optional_block l.otherwise) (here_of g.C.HasCore.core_of l.scene)) (stage_of l.interpreter)
    ≡ turns l.initial.most (do_turn (map guarded_of l.guards) (optional_block l.otherwise) (here_of g.C.HasCore.core_of l.scene)) (stage_of l.initial.interpreter)

abbrev pub invariant-run_values-loop-k : goal.invariant-run_values-loop-k
invariant-run_values-loop-k g l =
    for_values l.first.var l.first.condition (quantified l.rest (inner_meaning l.inner)) (listed_from l.values l.k (l.values.count - l.k)) (here_of g.C.HasCore.core_of l.scene) (stage_of l.interpreter)
    ≡ for_values l.first.var l.first.condition (quantified l.rest (inner_meaning l.inner)) (listed l.values) (here_of g.C.HasCore.core_of l.scene) (stage_of l.initial.interpreter)

abbrev pub invariant-start_calls-loop-at : goal.invariant-start_calls-loop-at
invariant-start_calls-loop-at g l =
    start_calls l.at (map co_part_of (drop l.at l.arms)) (here_of g.C.HasCore.core_of l.scene) (stage_of l.interpreter)
    ≡ start_calls 0 (map co_part_of l.arms) (here_of g.C.HasCore.core_of l.scene) (stage_of l.initial.interpreter)

abbrev pub decreases-complete_outs-replies : goal.decreases-complete_outs-replies
decreases-complete_outs-replies g l = l.count

abbrev pub invariant-complete_outs-replies : goal.invariant-complete_outs-replies
invariant-complete_outs-replies g l =
    complete_all l.count (map co_part_of l.arms) (here_of g.C.HasCore.core_of l.scene) (stage_of l.interpreter)
    ≡ complete_all l.initial.count (map co_part_of l.arms) (here_of g.C.HasCore.core_of l.scene) (stage_of l.initial.interpreter)
