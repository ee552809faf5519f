use Rattle.std.proofs.Common.{refl, ap, ◌∙◌}
use Rattle.atomic_table.specs.Table.{rest}
use Rattle.sr_board_tests.specs.Hands.{held_of}
use Rattle.sr_board_tests.specs.declared.slots.Slot.TheVariants.{Here}
use Rattle.sr_board_tests.proofs.hands.give_part.Goals as goal

pub give_turn-requires-clause-ready : goal.give_turn-requires-clause-ready
give_turn-requires-clause-ready c = let first = c.requires.first in let moved = c.exchange.ensures.new in record {
  value = Here c.args.part;
  values = rest c.args.seat.now.token.me.1;
  first = held_of c.args.part;
  others = first.others;
  held = ap (λ m. m.0.held) moved ∙ first.held;
  carried = ap (λ m. m.1) moved;
  same_part = refl;
  at_place = refl;
  same_journal = refl;
}
