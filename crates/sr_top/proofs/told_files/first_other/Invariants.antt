-- So far the files are those that the journal tells.
use Rattle.std.proofs.Common.{◌≡◌, ◌≤◌, length, take}
use Rattle.sr_top.specs.Reading.{sizes_of}
use Rattle.sr_top.proofs.told_files.first_other.Given as goal

abbrev pub invariant-loop-place : goal.invariant-loop-place
invariant-loop-place l = (take l.place (sizes_of l.texts) ≡ take l.place l.told) × (l.place ≤ length l.told)
