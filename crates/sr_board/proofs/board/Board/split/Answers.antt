use Rattle.std.proofs.Common.{rules, arith}
use Rattle.sr_board.proofs.SplitLemmas.{splits}
use Rattle.sr_board.proofs.board.Board.split.Goals as goal

pub split_seat-token-requires : goal.split_seat-token-requires
split_seat-token-requires g c = let board = c.args.self.now in let turns = board.turns in let some = board.parts.0 in let seat = c.args.seat.now in let next = seat.next_is in let above = c.requires.next.0 in let few = c.requires.next.1 in (
  search rules,
  omega arith,
  splits g.P.Journals.journal g.P.Journals.belongs g.P.Journals.seat g.P.Journals.stamp g.P.Journals.touches _ _ seat.live (omega arith) (omega arith),
)
