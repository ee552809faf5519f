-- The lines of all that came are there.
use Rattle.std.proofs.Common.{◌≡◌, ◌++◌, take}
use Rattle.std.specs.Prelude.{flat_map}
use Rattle.sr_replay.specs.Texts.{pending_line}
use Rattle.sr_replay.proofs.texts.push_pending.Given as goal

abbrev pub invariant-loop-one : goal.invariant-loop-one
invariant-loop-one l = l.text ≡ l.fn.text ++ flat_map (pending_line l.core) (take l.one-index l.pending)
