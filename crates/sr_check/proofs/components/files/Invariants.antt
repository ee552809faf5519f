-- What is declared and what was noted so far, and what the rest adds, are what all add.
use Rattle.std.proofs.Common.{◌≡◌, drop}
use Rattle.sr_names.specs.Diagnostics.{all_noted}
use Rattle.sr_check.specs.Components.{files_read}
use Rattle.sr_check.proofs.components.files.Given as goal

abbrev pub invariant-loop-file : goal.invariant-loop-file
invariant-loop-file l = record {
  known : (files_read (drop l.file-index l.files) l.facts).facts ≡ (files_read l.files l.fn.facts).facts;
  noted : all_noted l.diagnostics (files_read (drop l.file-index l.files) l.facts).found ≡ all_noted l.fn.diagnostics (files_read l.files l.fn.facts).found;
}
