-- What there is so far and what the rest adds are what all add.
use Rattle.std.proofs.Common.{drop, map, ◌≡◌}
use Rattle.sr_tables.specs.Parts.{spot_named}
use Rattle.sr_tables.specs.Tables.{with_spots}
use Rattle.sr_outline.proofs.variables.note_names.Given as goal

abbrev pub invariant-loop-name : goal.invariant-loop-name
invariant-loop-name l = with_spots l.names (map spot_named (drop l.name-index l.written)) ≡ with_spots l.fn.names (map spot_named l.written)
