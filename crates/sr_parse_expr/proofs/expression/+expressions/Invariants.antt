-- Each function reads from fewer tokens than its caller, or stands below it.
use Rattle.std.proofs.Common.{◌+◌, ◌*◌, ◌≤◌, length}
use Rattle.sr_expr_reader.specs.Readers.{is_comma, is_operator, is_suffix, next_argument_at, next_part_at, operation_at, readers, suffix_at}
use Rattle.sr_parse_expr.proofs.Loops.{LeadsOn}
use Rattle.sr_parse_expr.proofs.expression.+expressions.Given as goal

abbrev pub decreases-expression : goal.decreases-expression
decreases-expression l = 64 * length l.tokens.now + 40

abbrev pub decreases-right_operand : goal.decreases-right_operand
decreases-right_operand l = 64 * length l.tokens.now + 40

abbrev pub decreases-signed_factor : goal.decreases-signed_factor
decreases-signed_factor l = 64 * length l.tokens.now + 40

abbrev pub decreases-host : goal.decreases-host
decreases-host l = 64 * length l.tokens.now + 40

abbrev pub decreases-operand : goal.decreases-operand
decreases-operand l = 64 * length l.tokens.now + 30

abbrev pub decreases-operators : goal.decreases-operators
decreases-operators l = 64 * length l.tokens.now + 1

abbrev pub decreases-operation : goal.decreases-operation
decreases-operation l = 64 * length l.tokens.now + 0

abbrev pub decreases-factor : goal.decreases-factor
decreases-factor l = 64 * length l.tokens.now + 20

abbrev pub decreases-signed : goal.decreases-signed
decreases-signed l = 64 * length l.tokens.now + 10

abbrev pub decreases-create : goal.decreases-create
decreases-create l = 64 * length l.tokens.now + 10

abbrev pub decreases-on_machine : goal.decreases-on_machine
decreases-on_machine l = 64 * length l.tokens.now + 0

abbrev pub decreases-primary : goal.decreases-primary
decreases-primary l = 64 * length l.tokens.now + 15

abbrev pub decreases-start : goal.decreases-start
decreases-start l = 64 * length l.tokens.now + 12

abbrev pub decreases-converted : goal.decreases-converted
decreases-converted l = 64 * length l.tokens.now + 8

abbrev pub decreases-enclosed : goal.decreases-enclosed
decreases-enclosed l = 64 * length l.tokens.now + 5

abbrev pub decreases-bracketed : goal.decreases-bracketed
decreases-bracketed l = 64 * length l.tokens.now + 8

abbrev pub decreases-array : goal.decreases-array
decreases-array l = 64 * length l.tokens.now + 2

abbrev pub decreases-part : goal.decreases-part
decreases-part l = 64 * length l.tokens.now + 45

abbrev pub decreases-repeated_part : goal.decreases-repeated_part
decreases-repeated_part l = 64 * length l.tokens.now + 3

abbrev pub decreases-more_parts : goal.decreases-more_parts
decreases-more_parts l = 64 * length l.tokens.now + 1

abbrev pub decreases-next_part : goal.decreases-next_part
decreases-next_part l = 64 * length l.tokens.now + 0

abbrev pub decreases-suffixes : goal.decreases-suffixes
decreases-suffixes l = 64 * length l.tokens.now + 5

abbrev pub decreases-suffix : goal.decreases-suffix
decreases-suffix l = 64 * length l.tokens.now + 4

abbrev pub decreases-index : goal.decreases-index
decreases-index l = 64 * length l.tokens.now + 3

abbrev pub decreases-second_index : goal.decreases-second_index
decreases-second_index l = 64 * length l.tokens.now + 0

abbrev pub decreases-call : goal.decreases-call
decreases-call l = 64 * length l.tokens.now + 3

abbrev pub decreases-arguments : goal.decreases-arguments
decreases-arguments l = 64 * length l.tokens.now + 2

abbrev pub decreases-more_arguments : goal.decreases-more_arguments
decreases-more_arguments l = 64 * length l.tokens.now + 1

abbrev pub decreases-next_argument : goal.decreases-next_argument
decreases-next_argument l = 64 * length l.tokens.now + 0

-- what the loop gives from here is what it gives from the start
abbrev pub invariant-operators-more : goal.invariant-operators-more
invariant-operators-more l = record {
  shorter : length l.rest ≤ length l.fn.tokens;
  leads : LeadsOn readers (is_operator l.limit) operation_at l.fn.first l.fn.tokens l.left l.rest;
}

abbrev pub decreases-operators-more : goal.decreases-operators-more
decreases-operators-more l = length l.rest

-- what the loop gives from here is what it gives from the start
abbrev pub invariant-more_parts-more : goal.invariant-more_parts-more
invariant-more_parts-more l = record {
  shorter : length l.rest ≤ length l.fn.tokens;
  leads : LeadsOn readers is_comma next_part_at l.fn.first l.fn.tokens l.parts l.rest;
}

abbrev pub decreases-more_parts-more : goal.decreases-more_parts-more
decreases-more_parts-more l = length l.rest

-- what the loop gives from here is what it gives from the start
abbrev pub invariant-suffixes-more : goal.invariant-suffixes-more
invariant-suffixes-more l = record {
  shorter : length l.rest ≤ length l.fn.tokens;
  leads : LeadsOn readers is_suffix suffix_at l.fn.start l.fn.tokens l.primary l.rest;
}

abbrev pub decreases-suffixes-more : goal.decreases-suffixes-more
decreases-suffixes-more l = length l.rest

-- what the loop gives from here is what it gives from the start
abbrev pub invariant-more_arguments-more : goal.invariant-more_arguments-more
invariant-more_arguments-more l = record {
  shorter : length l.rest ≤ length l.fn.tokens;
  leads : LeadsOn readers is_comma next_argument_at l.fn.first l.fn.tokens l.arguments l.rest;
}

abbrev pub decreases-more_arguments-more : goal.decreases-more_arguments-more
decreases-more_arguments-more l = length l.rest
