-- What was noted so far and what the rest adds are what the whole list adds.
use Rattle.std.proofs.Common.{◌≡◌, map, drop}
use Rattle.sr_names.specs.Diagnostics.{all_noted}
use Rattle.sr_scope.specs.Exprs.{expr_reads, part_found, reads_found, all_found}
use Rattle.sr_scope.proofs.exprs.+exprs.Given as goal

abbrev pub invariant-exprs-loop-each : goal.invariant-exprs-loop-each
invariant-exprs-loop-each l = all_noted l.diagnostics (reads_found (map expr_reads (drop l.each-index l.exprs)) l.place l.blocks) ≡ all_noted l.fn.diagnostics (reads_found (map expr_reads l.exprs) l.place l.blocks)

abbrev pub invariant-all_parts-loop-part : goal.invariant-all_parts-loop-part
invariant-all_parts-loop-part l = all_noted l.diagnostics (all_found (map part_found (drop l.part-index l.parts)) l.place l.blocks) ≡ all_noted l.fn.diagnostics (all_found (map part_found l.parts) l.place l.blocks)
