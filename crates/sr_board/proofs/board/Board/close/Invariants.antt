use Rattle.std.proofs.Common.{◌≡◌}
use Rattle.std.specs.Mem.Slots.{slots_items, slots_filled, slots_len}
use Rattle.std.specs.Vec.{vec_capacity}
use Rattle.sr_board.proofs.CloseLemmas.{AreOut}
use Rattle.sr_board.proofs.board.Board.close.Given as goal

abbrev pub invariant-loop-i : goal.invariant-loop-i
invariant-loop-i g l = record {
  out : AreOut (slots_items l.initial.closed.slots) (slots_items l.closed.slots) (slots_filled l.closed.slots) l.count l.parts.items l.i;
  room : vec_capacity l.parts ≡ vec_capacity l.initial.parts;
  wide : slots_len l.closed.slots ≡ l.count;
}
