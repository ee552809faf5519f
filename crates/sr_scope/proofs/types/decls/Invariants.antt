-- What was noted so far and what the rest adds are what the whole list adds.
use Rattle.std.proofs.Common.{◌≡◌, drop}
use Rattle.sr_names.specs.Diagnostics.{all_noted}
use Rattle.sr_scope.specs.Types.{decls_found}
use Rattle.sr_scope.proofs.types.decls.Given as goal

abbrev pub invariant-loop-decl : goal.invariant-loop-decl
invariant-loop-decl l = all_noted l.diagnostics (decls_found (drop l.decl-index l.decls) l.place l.blocks) ≡ all_noted l.fn.diagnostics (decls_found l.decls l.place l.blocks)
