-- What is put so far, and what is left to put, is all.
use Rattle.std.proofs.Common.{◌≡◌, ◌++◌, drop}
use Rattle.sr_core.specs.Values.{flat}
use Rattle.sr_frame.proofs.writing.put_flat.Given as goal

abbrev pub invariant-loop-text : goal.invariant-loop-text
invariant-loop-text l = l.bytes ++ flat (drop l.text-index l.texts) ≡ l.initial.bytes ++ flat l.texts
