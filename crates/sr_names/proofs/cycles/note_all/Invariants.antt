-- What was noted so far and what the rest adds are what the whole list adds.
use Rattle.std.proofs.Common.{◌≡◌, drop}
use Rattle.sr_names.specs.Cycles.{all_together_found}
use Rattle.sr_names.specs.Diagnostics.{all_noted}
use Rattle.sr_names.proofs.cycles.note_all.Given as goal

abbrev pub invariant-loop-import : goal.invariant-loop-import
invariant-loop-import l = all_noted l.diagnostics (all_together_found l.groups (drop l.import-index l.imports)) ≡ all_noted l.fn.diagnostics (all_together_found l.groups l.imports)
