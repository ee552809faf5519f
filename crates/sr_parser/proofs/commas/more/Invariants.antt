-- What the loop gives is what its reader gives.
use Rattle.std.proofs.Common.{◌≤◌, length}
use Rattle.sr_expr_reader.specs.Readers.{is_comma}
use Rattle.sr_parse_expr.proofs.Loops.{LeadsOn}
use Rattle.sr_parser.specs.Commas.{next_at}
use Rattle.sr_parser.proofs.commas.more.Given as goal

-- what the loop gives from here is what it gives from the start
abbrev pub invariant-more : goal.invariant-more
invariant-more g l = record {
  shorter : length l.rest ≤ length l.fn.tokens;
  leads : LeadsOn (λ k. k) is_comma (λ k. next_at (g.L.Joined.reader k)) l.fn.first l.fn.tokens l.items l.rest;
}

abbrev pub decreases-more : goal.decreases-more
decreases-more g l = length l.rest
