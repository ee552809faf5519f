-- Each that came is shown.
use Rattle.std.proofs.Common.{◌≡◌, take}
use Rattle.sr_replay.proofs.shown.shown_pending.Given as goal

abbrev pub invariant-loop-place : goal.invariant-loop-place
invariant-loop-place l = l.shown ≡ take l.place l.queue.items
