-- What there is so far and what the rest adds are what all add.
use Rattle.std.proofs.Common.{drop, map, ◌++◌, ◌≡◌}
use Rattle.sr_outline.specs.Shapes.{fields_in}
use Rattle.sr_tables.specs.Lists.{lists}
use Rattle.sr_outline.proofs.shapes.+type_shapes.Given as goal

abbrev pub invariant-field_shapes-loop-formal : goal.invariant-field_shapes-loop-formal
invariant-field_shapes-loop-formal l = l.all ++ lists (map (fields_in l.facts l.table) (drop l.formal-index l.fields)) ≡ lists (map (fields_in l.facts l.table) l.fields)
