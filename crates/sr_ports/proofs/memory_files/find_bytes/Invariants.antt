-- None of the files so far has the name.
use Rattle.std.proofs.Common.{◌≡◌, drop}
use Rattle.sr_ports.specs.Files.{bytes_of}
use Rattle.sr_ports.proofs.memory_files.find_bytes.Given as goal

abbrev pub invariant-loop-file : goal.invariant-loop-file
invariant-loop-file l = bytes_of l.files l.name ≡ bytes_of (drop l.file-index l.files) l.name
