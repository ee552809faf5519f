-- What the loop gives is what its reader gives.
use Rattle.std.proofs.Common.{◌≤◌, length}
use Rattle.sr_expr_reader.specs.TypeReaders.{is_separated, type_readers}
use Rattle.sr_parse_expr.proofs.Loops.{LeadsOn}
use Rattle.sr_program_reader.specs.ComponentReaders.{next_value_formal_at}
use Rattle.sr_parser.proofs.by_value.more_value_formals.Given as goal

-- what the loop gives from here is what it gives from the start
abbrev pub invariant-more : goal.invariant-more
invariant-more l = record {
  shorter : length l.rest ≤ length l.fn.tokens;
  leads : LeadsOn type_readers is_separated next_value_formal_at l.fn.first l.fn.tokens l.formals l.rest;
}

abbrev pub decreases-more : goal.decreases-more
decreases-more l = length l.rest
