-- What is put so far, and what is left to put, is all.
use Rattle.std.proofs.Common.{◌≡◌, ◌++◌, drop}
use Rattle.sr_frame.proofs.Spacing.{led}
use Rattle.sr_frame.proofs.writing.put_spaced.Given as goal

abbrev pub invariant-loop-text : goal.invariant-loop-text
invariant-loop-text l = l.bytes ++ led (drop l.text-index l.others) ≡ l.initial.bytes ++ led l.others
