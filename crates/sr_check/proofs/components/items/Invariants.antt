-- What is declared and what was noted so far, and what the rest adds, are what all add.
use Rattle.std.proofs.Common.{◌≡◌, drop}
use Rattle.sr_names.specs.Diagnostics.{all_noted}
use Rattle.sr_check.specs.Components.{items_read}
use Rattle.sr_check.proofs.components.items.Given as goal

abbrev pub invariant-loop-each : goal.invariant-loop-each
invariant-loop-each l = record {
  known : (items_read l.procs (drop l.each-index l.items) l.facts).facts ≡ (items_read l.procs l.items l.fn.facts).facts;
  noted : all_noted l.diagnostics (items_read l.procs (drop l.each-index l.items) l.facts).found ≡ all_noted l.fn.diagnostics (items_read l.procs l.items l.fn.facts).found;
}
