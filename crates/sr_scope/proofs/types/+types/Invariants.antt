-- What was noted so far and what the rest adds are what the whole list adds.
use Rattle.std.proofs.Common.{◌≡◌, drop, map}
use Rattle.sr_names.specs.Diagnostics.{all_noted}
use Rattle.sr_scope.specs.Types.{formals_found, formal_read}
use Rattle.sr_scope.proofs.types.+types.Given as goal

abbrev pub invariant-formals-loop-formal : goal.invariant-formals-loop-formal
invariant-formals-loop-formal l = all_noted l.diagnostics (formals_found (map formal_read (drop l.formal-index l.formals)) l.place l.blocks) ≡ all_noted l.fn.diagnostics (formals_found (map formal_read l.formals) l.place l.blocks)
