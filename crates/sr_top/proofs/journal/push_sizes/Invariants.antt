-- So far there is the length and the name of each file that came.
use Rattle.std.proofs.Common.{◌≡◌, ◌++◌, take}
use Rattle.sr_top.specs.Reading.{sizes_of}
use Rattle.sr_top.proofs.journal.push_sizes.Given as goal

abbrev pub invariant-loop-file : goal.invariant-loop-file
invariant-loop-file l = l.sizes ≡ l.fn.sizes ++ sizes_of (take l.file-index l.files)
