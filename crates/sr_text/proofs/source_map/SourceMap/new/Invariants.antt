-- The contents so far are those of the files so far.
use Rattle.std.proofs.Common.{◌≡◌, map, take}
use Rattle.sr_text.proofs.source_map.SourceMap.new.Given as goal

abbrev pub invariant-loop-file : goal.invariant-loop-file
invariant-loop-file l = l.contents ≡ map (λ file. file.1) (take l.file-index l.files)
