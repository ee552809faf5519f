-- What the loop gives is what its reader gives.
use Rattle.std.proofs.Common.{◌≤◌, length}
use Rattle.sr_parse_expr.proofs.Loops.{LeadsOn}
use Rattle.sr_program_reader.specs.DeclarationReaders.{may_go_on, next_item_at}
use Rattle.sr_parser.proofs.lists.items_after.Given as goal

-- what the loop gives from here is what it gives from the start
abbrev pub invariant-more : goal.invariant-more
invariant-more g l = record {
  shorter : length l.rest ≤ length l.fn.tokens;
  leads : LeadsOn (λ k. k) (may_go_on g.L.Listed.begins) (λ k. next_item_at (g.L.Listed.reader k)) l.fn.first l.fn.tokens l.state l.rest;
}

abbrev pub decreases-more : goal.decreases-more
decreases-more g l = length l.rest
