-- What was noted so far and what the rest adds are what all names add.
use Rattle.std.proofs.Common.{◌≡◌, drop}
use Rattle.sr_names.specs.Diagnostics.{all_noted}
use Rattle.sr_check_decl.specs.TypeTrees.{decls_found}
use Rattle.sr_check_decl.proofs.types.note_decls.Given as goal

abbrev pub invariant-loop-decl : goal.invariant-loop-decl
invariant-loop-decl l = all_noted l.diagnostics (decls_found l.bound_policy l.facts l.item (drop l.decl-index l.decls)) ≡ all_noted l.fn.diagnostics (decls_found l.bound_policy l.facts l.item l.decls)
