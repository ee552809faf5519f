-- The text so far and the text of what is left are that of the whole source.
use Rattle.std.proofs.Common.{◌-◌, length}
use Rattle.sr_fmt.specs.Marks.{marked}
use Rattle.sr_fmt.proofs.WalkLemmas.{Walk}
use Rattle.sr_fmt.proofs.printing.print_pieces.Given as goal

abbrev pub decreases-loop-at : goal.decreases-loop-at
decreases-loop-at l = length l.source - l.at

abbrev pub invariant-loop-at : goal.invariant-loop-at
invariant-loop-at l = Walk l.source l.told (marked l.marks) l.at l.next l.printer
