-- What was noted so far and what the rest adds are what all add.
use Rattle.std.proofs.Common.{◌≡◌, drop}
use Rattle.sr_names.specs.Diagnostics.{all_noted}
use Rattle.sr_check_decl.specs.Declarations.{spec_items_found}
use Rattle.sr_check_decl.proofs.declarations.note_spec_items.Given as goal

abbrev pub invariant-loop-item : goal.invariant-loop-item
invariant-loop-item l = all_noted l.diagnostics (spec_items_found l.facts (drop l.item-index l.items)) ≡ all_noted l.fn.diagnostics (spec_items_found l.facts l.items)
