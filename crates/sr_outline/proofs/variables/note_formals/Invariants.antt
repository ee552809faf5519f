-- What there is so far and what the rest adds are what all add.
use Rattle.std.proofs.Common.{drop, ◌≡◌}
use Rattle.sr_outline.specs.Numbers.{formal_names}
use Rattle.sr_tables.specs.Tables.{with_spots}
use Rattle.sr_outline.proofs.variables.note_formals.Given as goal

abbrev pub invariant-loop-formal : goal.invariant-loop-formal
invariant-loop-formal l = with_spots l.names (formal_names (drop l.formal-index l.formals)) ≡ with_spots l.fn.names (formal_names l.formals)
