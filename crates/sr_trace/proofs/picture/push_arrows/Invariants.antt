-- All arrows that came are there.
use Rattle.std.proofs.Common.{◌≡◌, ◌++◌, take}
use Rattle.std.specs.Prelude.{flat_map}
use Rattle.sr_trace.specs.Drawing.{arrow_text}
use Rattle.sr_trace.proofs.picture.push_arrows.Given as goal

abbrev pub invariant-loop-arrow : goal.invariant-loop-arrow
invariant-loop-arrow l = l.text ≡ l.fn.text ++ flat_map (arrow_text l.columns l.rows) (take l.arrow-index l.arrows)
