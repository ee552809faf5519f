use Rattle.std.proofs.Common.{◌≡◌, ◌++◌, take}
use Rattle.std.specs.List.{flat_map}
use Rattle.sr_journal.specs.Journal.{file_line}
use Rattle.sr_journal.proofs.writing.push_file_lines.Given as goal

abbrev pub invariant-loop-file : goal.invariant-loop-file
invariant-loop-file l = l.text ≡ l.fn.text ++ flat_map file_line (take l.file-index l.files)
