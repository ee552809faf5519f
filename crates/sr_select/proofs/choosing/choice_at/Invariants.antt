use Rattle.sr_select.proofs.ChoiceLemmas.{ArmsSoFar}
use Rattle.sr_select.specs.Closing.{AreClosed, closes}
use Rattle.sr_select.specs.Sights.{seeing}
use Rattle.std.proofs.Common.{◌≡◌}
use Rattle.sr_select.proofs.choosing.choice_at.Given as goal

abbrev pub invariant-loop-arm : goal.invariant-loop-arm
invariant-loop-arm g l =
    (l.number ≡ l.arm-index)
    × ArmsSoFar (seeing (g.R.Reads.reading l.reads) l.selection.scene) l.selection.owner l.selection.queue.now.items l.place l.pending l.selection.arms.now (closes l.initial.closed) l.arm-index l.initial.seen l.seen
    × AreClosed (seeing (g.R.Reads.reading l.reads) l.selection.scene) l.selection.arms.now l.closed
    × (closes l.closed ≡ closes l.initial.closed)
