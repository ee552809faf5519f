use Rattle.std.proofs.Common.{◌-◌, length}
use Rattle.sr_select.specs.Closing.{closes}
use Rattle.sr_select.specs.Sights.{seeing}
use Rattle.sr_select.proofs.NamedLemmas.{OpenSoFar}
use Rattle.sr_select.proofs.choosing.first_choice.Given as goal

abbrev pub invariant-loop-from : goal.invariant-loop-from
invariant-loop-from g l =
    OpenSoFar (seeing (g.R.Reads.reading l.reads) l.selection.scene) l.selection.owner l.selection.arms.now l.selection.queue.now.items (closes l.initial.closed) l.closed l.from l.initial.seen l.seen

abbrev pub decreases-loop-from : goal.decreases-loop-from
decreases-loop-from g l = length l.selection.queue.now.items - l.from
