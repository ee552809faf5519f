-- What there is so far and what the rest adds are what all add.
use Rattle.std.proofs.Common.{drop, flat_map, fold, ◌≡◌}
use Rattle.sr_outline.specs.Outline.{globals_named, with_number}
use Rattle.sr_outline.proofs.imports.note_names.Given as goal

abbrev pub invariant-loop-name : goal.invariant-loop-name
invariant-loop-name l = fold with_number l.imports (flat_map (globals_named l.facts l.components) (drop l.name-index l.names)) ≡ fold with_number l.fn.imports (flat_map (globals_named l.facts l.components) l.names)
