-- The scopes and what was noted so far, and what the rest adds, are what the whole list adds.
use Rattle.std.proofs.Common.{◌≡◌, drop}
use Rattle.sr_names.specs.Diagnostics.{all_noted}
use Rattle.sr_scope.specs.Declarations.{quantifiers_found, with_quantifiers}
use Rattle.sr_scope.proofs.declarations.quantifiers.Given as goal

abbrev pub invariant-loop-each : goal.invariant-loop-each
invariant-loop-each l =
    (with_quantifiers (drop l.each-index l.quantifiers) l.blocks ≡ with_quantifiers l.quantifiers l.fn.blocks)
    × (all_noted l.diagnostics (quantifiers_found (drop l.each-index l.quantifiers) l.place l.blocks) ≡ all_noted l.fn.diagnostics (quantifiers_found l.quantifiers l.place l.fn.blocks))
