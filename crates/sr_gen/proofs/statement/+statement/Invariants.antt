-- What is left to emit is what all leads to; each piece has less to emit. The code so far is that of the items from here on.
use Rattle.std.proofs.Common.{◌≡◌, ◌+◌, ◌-◌, ◌≤◌, drop, length, map, min}
use Rattle.sr_value.specs.declared.place.Place.{Place}
use Rattle.sr_meaning.specs.Pieces.{co_part_of, each_block, guarded_of}
use Rattle.sr_meaning.specs.Statements.{block_meaning, first_true, meaning_of, start_calls}
use Rattle.sr_gen_expr.specs.Emitting.{Gives, put_nothing}
use Rattle.sr_gen.specs.Doing.{Acts, CompletesEach, ServesEach, Tries}
use Rattle.sr_meaning.proofs.Weights.{weight_of, weight_of_arm, weight_of_arms, weight_of_block, weight_of_blocks, weight_of_guarded, weight_of_guards, weight_of_optional}
use Rattle.sr_gen.proofs.Weights.{weight_of_inner}
use Rattle.sr_gen.proofs.statement.+statement.Given as goal

abbrev pub decreases-gen_statement : goal.decreases-gen_statement
decreases-gen_statement l = weight_of l.statement.now

abbrev pub decreases-gen_block : goal.decreases-gen_block
decreases-gen_block l = weight_of_block l.statements.now

abbrev pub decreases-gen_if : goal.decreases-gen_if
decreases-gen_if l = 3 + (weight_of_guards l.guards.now + weight_of_block l.otherwise.now)

abbrev pub decreases-gen_guards : goal.decreases-gen_guards
decreases-gen_guards l = 1 + weight_of_guards l.guards.now

abbrev pub decreases-gen_guarded : goal.decreases-gen_guarded
decreases-gen_guarded l = weight_of_guarded l.guarded.now

abbrev pub decreases-gen_do : goal.decreases-gen_do
decreases-gen_do l = 5 + (weight_of_guards l.guards.now + weight_of_optional l.otherwise.now)

abbrev pub decreases-gen_otherwise : goal.decreases-gen_otherwise
decreases-gen_otherwise l = 1 + weight_of_optional l.otherwise.now

abbrev pub decreases-gen_fa : goal.decreases-gen_fa
decreases-gen_fa l = 3 + weight_of_block l.body.now

abbrev pub decreases-gen_quantified : goal.decreases-gen_quantified
decreases-gen_quantified l = 2 + weight_of_inner l.inner.now

abbrev pub decreases-gen_inner : goal.decreases-gen_inner
decreases-gen_inner l = 1 + weight_of_inner l.inner.now

abbrev pub invariant-gen_block-loop-at : goal.invariant-gen_block-loop-at
invariant-gen_block-loop-at l =
    (l.at ≤ length l.statements) × ((line : Place) → Acts l.ways l.core line (block_meaning (map meaning_of (drop l.at l.statements))) l.initial.out l.out)

abbrev pub decreases-gen_block-loop-at : goal.decreases-gen_block-loop-at
decreases-gen_block-loop-at l = l.at

abbrev pub invariant-gen_guards-loop-at : goal.invariant-gen_guards-loop-at
invariant-gen_guards-loop-at l =
    (l.at ≤ length l.guards) × Tries l.ways l.through l.core l.place (first_true (map guarded_of (drop l.at l.guards))) l.initial.out l.out

abbrev pub decreases-gen_guards-loop-at : goal.decreases-gen_guards-loop-at
decreases-gen_guards-loop-at l = l.at

abbrev pub decreases-gen_in : goal.decreases-gen_in
decreases-gen_in l = 4 + (weight_of_blocks l.blocks.now + weight_of_block l.otherwise.now)

abbrev pub decreases-gen_services : goal.decreases-gen_services
decreases-gen_services l = 3 + weight_of_blocks l.blocks.now

abbrev pub decreases-gen_service : goal.decreases-gen_service
decreases-gen_service l = 1 + weight_of_block l.block.now

abbrev pub decreases-gen_co : goal.decreases-gen_co
decreases-gen_co l = 5 + weight_of_arms l.arms.now

abbrev pub decreases-gen_replies : goal.decreases-gen_replies
decreases-gen_replies l = 4 + weight_of_arms l.arms.now

abbrev pub decreases-gen_reply : goal.decreases-gen_reply
decreases-gen_reply l = weight_of_arm l.arm.now

abbrev pub decreases-gen_calls : goal.decreases-gen_calls
decreases-gen_calls l = 4 + weight_of_arms l.arms.now

abbrev pub invariant-gen_services-loop-at : goal.invariant-gen_services-loop-at
invariant-gen_services-loop-at l =
    (l.at ≡ length l.addresses) × (l.at ≤ min (length l.arms) (length l.blocks)) × ServesEach l.ways l.to l.core l.place l.arms (each_block l.blocks) l.addresses l.initial.out l.out

abbrev pub decreases-gen_services-loop-at : goal.decreases-gen_services-loop-at
decreases-gen_services-loop-at l = l.count - l.at

abbrev pub invariant-gen_replies-loop-at : goal.invariant-gen_replies-loop-at
invariant-gen_replies-loop-at l =
    (l.at ≡ length l.addresses) × (l.at ≤ length l.arms) × CompletesEach l.ways l.again l.core l.place (map co_part_of l.arms) l.addresses l.initial.out l.out

abbrev pub decreases-gen_replies-loop-at : goal.decreases-gen_replies-loop-at
decreases-gen_replies-loop-at l = l.count - l.at

abbrev pub invariant-gen_calls-loop-at : goal.invariant-gen_calls-loop-at
invariant-gen_calls-loop-at l = (l.at ≤ length l.arms) × Gives put_nothing l.core l.place (start_calls l.at (map co_part_of (drop l.at l.arms))) l.initial.out l.out

abbrev pub decreases-gen_calls-loop-at : goal.decreases-gen_calls-loop-at
decreases-gen_calls-loop-at l = l.at
