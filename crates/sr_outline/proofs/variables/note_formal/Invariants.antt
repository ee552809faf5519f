-- What there is so far and what the rest adds are what all add.
use Rattle.std.proofs.Common.{drop, map, ◌≡◌}
use Rattle.sr_tables.specs.Parts.{spot_named}
use Rattle.sr_tables.specs.Tables.{with_spots}
use Rattle.sr_outline.proofs.variables.note_formal.Given as goal

abbrev pub invariant-loop-decl : goal.invariant-loop-decl
invariant-loop-decl l = with_spots l.names (map (λ decl. spot_named decl.name) (drop l.decl-index l.decl-items)) ≡ with_spots l.fn.names (map (λ decl. spot_named decl.name) l.decl-items)
