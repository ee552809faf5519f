-- The declarations so far and those of the rest are those of all.
use Rattle.std.proofs.Common.{◌≡◌, ◌++◌, map, drop}
use Rattle.sr_check_decl.specs.Waits.{seen}
use Rattle.sr_check_decl.specs.Waiting.{files_waiting}
use Rattle.sr_check_decl.proofs.waiting.files_waiting.Given as goal

abbrev pub invariant-loop-file : goal.invariant-loop-file
invariant-loop-file l = map seen l.all ++ files_waiting (drop l.file-index l.files) ≡ files_waiting l.files
