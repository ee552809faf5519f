-- So far each file was read, none failed, and no other was read.
use Rattle.std.proofs.Common.{◌≡◌, take}
use Rattle.sr_top.specs.Reading.{AreRead, reads_after}
use Rattle.sr_top.proofs.reading.read_files.Given as goal

abbrev pub invariant-loop-name : goal.invariant-loop-name
invariant-loop-name g l =
    AreRead (g.F.Files.content l.initial.files) (take l.name-index l.names) l.texts
    × (l.number ≡ l.name-index)
    × (g.F.Files.content l.files ≡ g.F.Files.content l.initial.files)
    × (g.F.Files.faults l.files ≡ g.F.Files.faults l.initial.files)
    × ((g.F.Files.readings l.files).reads ≡ reads_after (g.F.Files.readings l.initial.files).reads l.name-index)
