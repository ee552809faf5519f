-- The items so far stand before those of the parts that are left.
use Rattle.std.proofs.Common.{◌≡◌, ◌++◌, drop}
use Rattle.sr_core.specs.Values.{items_of}
use Rattle.sr_core.proofs.brackets.line_items.Given as goal

abbrev pub invariant-loop-piece : goal.invariant-loop-piece
invariant-loop-piece l = l.items ++ items_of (drop l.piece-index l.pieces) ≡ items_of l.pieces
