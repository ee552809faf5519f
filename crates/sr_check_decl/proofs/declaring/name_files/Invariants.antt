-- What is declared so far and what the rest declares are what all declare.
use Rattle.std.proofs.Common.{◌≡◌, drop}
use Rattle.sr_check_decl.specs.Declaring.{files_named}
use Rattle.sr_check_decl.proofs.declaring.name_files.Given as goal

abbrev pub invariant-loop-file : goal.invariant-loop-file
invariant-loop-file l = files_named (drop l.file-index l.files) l.facts ≡ files_named l.files l.fn.facts
