-- Each function reads from fewer tokens than its caller, or stands below it.
use Rattle.std.proofs.Common.{◌+◌, ◌*◌, ◌≤◌, length}
use Rattle.sr_parse_expr.proofs.Loops.{LeadsOn}
use Rattle.sr_program_reader.specs.DeclarationReaders.{may_go_on, next_item_at}
use Rattle.sr_program_reader.specs.StatementReaders.{arm_at, begins_block_item, block_item_at, branch_at, is_alternative, is_parallel, next_alternative_at, next_co_arm_at, statement_readers}
use Rattle.sr_parser.proofs.statement.+statements.Given as goal

abbrev pub decreases-block_after : goal.decreases-block_after
decreases-block_after l = 128 * length l.tokens.now + 100

abbrev pub decreases-block : goal.decreases-block
decreases-block l = 128 * length l.tokens.now + 90

abbrev pub decreases-items : goal.decreases-items
decreases-items l = 128 * length l.tokens.now + 80

abbrev pub decreases-next_item : goal.decreases-next_item
decreases-next_item l = 128 * length l.tokens.now + 70

abbrev pub decreases-block_item : goal.decreases-block_item
decreases-block_item l = 128 * length l.tokens.now + 60

abbrev pub decreases-statement : goal.decreases-statement
decreases-statement l = 128 * length l.tokens.now + 50

abbrev pub decreases-worded_statement : goal.decreases-worded_statement
decreases-worded_statement l = 128 * length l.tokens.now + 45

abbrev pub decreases-operating_statement : goal.decreases-operating_statement
decreases-operating_statement l = 128 * length l.tokens.now + 40

abbrev pub decreases-closed_statement : goal.decreases-closed_statement
decreases-closed_statement l = 128 * length l.tokens.now + 35

abbrev pub decreases-if_statement : goal.decreases-if_statement
decreases-if_statement l = 128 * length l.tokens.now + 0

abbrev pub decreases-do_statement : goal.decreases-do_statement
decreases-do_statement l = 128 * length l.tokens.now + 0

abbrev pub decreases-for_all_statement : goal.decreases-for_all_statement
decreases-for_all_statement l = 128 * length l.tokens.now + 0

abbrev pub decreases-in_statement : goal.decreases-in_statement
decreases-in_statement l = 128 * length l.tokens.now + 0

abbrev pub decreases-co_statement : goal.decreases-co_statement
decreases-co_statement l = 128 * length l.tokens.now + 0

abbrev pub decreases-branches : goal.decreases-branches
decreases-branches l = 128 * length l.tokens.now + 20

abbrev pub decreases-branch : goal.decreases-branch
decreases-branch l = 128 * length l.tokens.now + 10

abbrev pub decreases-more_branches : goal.decreases-more_branches
decreases-more_branches l = 128 * length l.tokens.now + 5

abbrev pub decreases-next_branch : goal.decreases-next_branch
decreases-next_branch l = 128 * length l.tokens.now + 0

abbrev pub decreases-otherwise : goal.decreases-otherwise
decreases-otherwise l = 128 * length l.tokens.now + 0

abbrev pub decreases-arms : goal.decreases-arms
decreases-arms l = 128 * length l.tokens.now + 20

abbrev pub decreases-arm : goal.decreases-arm
decreases-arm l = 128 * length l.tokens.now + 12

abbrev pub decreases-split_arm : goal.decreases-split_arm
decreases-split_arm l = 128 * length l.tokens.now + 10

abbrev pub decreases-more_arms : goal.decreases-more_arms
decreases-more_arms l = 128 * length l.tokens.now + 5

abbrev pub decreases-next_arm : goal.decreases-next_arm
decreases-next_arm l = 128 * length l.tokens.now + 0

abbrev pub decreases-arrow_block : goal.decreases-arrow_block
decreases-arrow_block l = 128 * length l.tokens.now + 2

abbrev pub decreases-co_arm : goal.decreases-co_arm
decreases-co_arm l = 128 * length l.tokens.now + 30

abbrev pub decreases-split_co_arm : goal.decreases-split_co_arm
decreases-split_co_arm l = 128 * length l.tokens.now + 20

abbrev pub decreases-co_block : goal.decreases-co_block
decreases-co_block l = 128 * length l.tokens.now + 4

abbrev pub decreases-more_co_arms : goal.decreases-more_co_arms
decreases-more_co_arms l = 128 * length l.tokens.now + 5

abbrev pub decreases-next_co_arm : goal.decreases-next_co_arm
decreases-next_co_arm l = 128 * length l.tokens.now + 0

-- what the loop gives from here is what it gives from the start
abbrev pub invariant-more_branches-more : goal.invariant-more_branches-more
invariant-more_branches-more l = record {
  shorter : length l.rest ≤ length l.fn.tokens;
  leads : LeadsOn statement_readers is_alternative (λ r. next_alternative_at r (branch_at r)) l.fn.first l.fn.tokens l.state l.rest;
}

abbrev pub decreases-more_branches-more : goal.decreases-more_branches-more
decreases-more_branches-more l = length l.rest

-- what the loop gives from here is what it gives from the start
abbrev pub invariant-more_arms-more : goal.invariant-more_arms-more
invariant-more_arms-more l = record {
  shorter : length l.rest ≤ length l.fn.tokens;
  leads : LeadsOn statement_readers is_alternative (λ r. next_alternative_at r (arm_at r)) l.fn.first l.fn.tokens l.state l.rest;
}

abbrev pub decreases-more_arms-more : goal.decreases-more_arms-more
decreases-more_arms-more l = length l.rest

-- what the loop gives from here is what it gives from the start
abbrev pub invariant-more_co_arms-more : goal.invariant-more_co_arms-more
invariant-more_co_arms-more l = record {
  shorter : length l.rest ≤ length l.fn.tokens;
  leads : LeadsOn statement_readers is_parallel next_co_arm_at l.fn.first l.fn.tokens l.arms l.rest;
}

abbrev pub decreases-more_co_arms-more : goal.decreases-more_co_arms-more
decreases-more_co_arms-more l = length l.rest

-- what the loop gives from here is what it gives from the start
abbrev pub invariant-items-more : goal.invariant-items-more
invariant-items-more l = record {
  shorter : length l.rest ≤ length l.fn.tokens;
  leads : LeadsOn statement_readers (may_go_on (λ t. begins_block_item t.kind)) (λ r. next_item_at (block_item_at r)) l.fn.first l.fn.tokens l.state l.rest;
}

abbrev pub decreases-items-more : goal.decreases-items-more
decreases-items-more l = length l.rest
