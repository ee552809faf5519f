use Rattle.std.proofs.Common.{rules, arith}
use Rattle.sr_board.proofs.JoinLemmas.{joins}
use Rattle.sr_board.proofs.board.Board.join.Goals as goal

pub join_seat-requires : goal.join_seat-requires
join_seat-requires g c = let board = c.args.self.now in let turns = board.turns in let some = board.parts.0 in (
  search rules,
  search rules,
  search rules,
  omega arith,
  joins g.P.Journals.journal g.P.Journals.belongs g.P.Journals.seat g.P.Journals.stamp g.P.Journals.touches _ _ _ _ c.args.seat.now.live c.args.other.live c.requires.idle.0 c.requires.next,
)
