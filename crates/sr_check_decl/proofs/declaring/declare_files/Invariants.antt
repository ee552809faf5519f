-- What is declared so far and what the rest declares are what all declare.
use Rattle.std.proofs.Common.{◌≡◌, drop}
use Rattle.sr_check_decl.specs.Declaring.{files_declared}
use Rattle.sr_check_decl.proofs.declaring.declare_files.Given as goal

abbrev pub invariant-loop-file : goal.invariant-loop-file
invariant-loop-file l = files_declared (drop l.file-index l.files) l.tally ≡ files_declared l.files l.fn.tally
