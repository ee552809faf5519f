use Rattle.std.proofs.Common.{rules, arith}
use Rattle.sr_board.proofs.GiveLemmas.{gives_at}
use Rattle.sr_board.proofs.board.Board.give_turn.Goals as goal

pub store-requires : goal.store-requires
store-requires g c = let turns = c.args.self.now.turns in (
  search rules,
  omega arith,
  gives_at g.P.Journals.journal g.P.Journals.belongs g.P.Journals.seat g.P.Journals.stamp g.P.Journals.touches _ _ _ _ _ c.word_of-word.ensures c.args.seat.now.live c.requires.ready,
)
