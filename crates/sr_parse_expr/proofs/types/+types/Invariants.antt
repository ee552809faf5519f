-- Each function reads from fewer tokens than its caller, or stands below it.
use Rattle.std.proofs.Common.{◌+◌, ◌*◌, ◌≤◌, length}
use Rattle.sr_tree.specs.declared.types.TypePlace.TheVariants.{Declaration}
use Rattle.sr_expr_reader.specs.TypeReaders.{is_separated, next_field_at, next_formal_at}
use Rattle.sr_expr_reader.proofs.TypePieces.{readers_in}
use Rattle.sr_parse_expr.proofs.Loops.{LeadsOn}
use Rattle.sr_parse_expr.proofs.types.+types.Given as goal

abbrev pub decreases-nested_type : goal.decreases-nested_type
decreases-nested_type l = 64 * length l.tokens.now + 50

abbrev pub decreases-type_tree : goal.decreases-type_tree
decreases-type_tree l = 64 * length l.tokens.now + 45

abbrev pub decreases-record_type : goal.decreases-record_type
decreases-record_type l = 64 * length l.tokens.now + 0

abbrev pub decreases-more_fields : goal.decreases-more_fields
decreases-more_fields l = 64 * length l.tokens.now + 1

abbrev pub decreases-next_field : goal.decreases-next_field
decreases-next_field l = 64 * length l.tokens.now + 0

abbrev pub decreases-plain_type_in : goal.decreases-plain_type_in
decreases-plain_type_in l = 64 * length l.tokens.now + 40

abbrev pub decreases-cap_type : goal.decreases-cap_type
decreases-cap_type l = 64 * length l.tokens.now + 0

abbrev pub decreases-array_type : goal.decreases-array_type
decreases-array_type l = 64 * length l.tokens.now + 30

abbrev pub decreases-signature_in : goal.decreases-signature_in
decreases-signature_in l = 64 * length l.tokens.now + 0

abbrev pub decreases-formals_after : goal.decreases-formals_after
decreases-formals_after l = 64 * length l.tokens.now + 40

abbrev pub decreases-more_formals : goal.decreases-more_formals
decreases-more_formals l = 64 * length l.tokens.now + 1

abbrev pub decreases-next_formal : goal.decreases-next_formal
decreases-next_formal l = 64 * length l.tokens.now + 0

abbrev pub decreases-formal_in : goal.decreases-formal_in
decreases-formal_in l = 64 * length l.tokens.now + 30

abbrev pub decreases-formal_after : goal.decreases-formal_after
decreases-formal_after l = 64 * length l.tokens.now + 20

abbrev pub decreases-returned : goal.decreases-returned
decreases-returned l = 64 * length l.tokens.now + 0

-- what the loop gives from here is what it gives from the start
abbrev pub invariant-more_formals-more : goal.invariant-more_formals-more
invariant-more_formals-more l = record {
  shorter : length l.rest ≤ length l.fn.tokens;
  leads : LeadsOn (readers_in l.fn.place) is_separated next_formal_at l.fn.first l.fn.tokens l.formals l.rest;
}

abbrev pub decreases-more_formals-more : goal.decreases-more_formals-more
decreases-more_formals-more l = length l.rest

abbrev pub invariant-more_fields-more : goal.invariant-more_fields-more
invariant-more_fields-more l = record {
  shorter : length l.rest ≤ length l.fn.tokens;
  leads : LeadsOn (readers_in Declaration) is_separated next_field_at l.fn.first l.fn.tokens l.fields l.rest;
}

abbrev pub decreases-more_fields-more : goal.decreases-more_fields-more
decreases-more_fields-more l = length l.rest
