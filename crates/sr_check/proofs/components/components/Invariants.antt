-- What is declared and what was noted so far, and what the rest adds, are what all add.
use Rattle.std.proofs.Common.{◌≡◌, drop}
use Rattle.sr_names.specs.Diagnostics.{all_noted}
use Rattle.sr_check.specs.Components.{components_read}
use Rattle.sr_check.proofs.components.components.Given as goal

abbrev pub invariant-loop-each : goal.invariant-loop-each
invariant-loop-each l = record {
  known : (components_read (drop l.each-index l.components) l.facts).facts ≡ (components_read l.components l.fn.facts).facts;
  noted : all_noted l.diagnostics (components_read (drop l.each-index l.components) l.facts).found ≡ all_noted l.fn.diagnostics (components_read l.components l.fn.facts).found;
}
