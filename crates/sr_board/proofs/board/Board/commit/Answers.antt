use Rattle.std.proofs.Common.{rules, arith, sym, subst, ◌∙◌}
use Rattle.sr_board.specs.Views.{IsAfter}
use Rattle.sr_board.proofs.CommitLemmas.{commits}
use Rattle.sr_board.proofs.board.Board.commit.Goals as goal

pub compare_exchange_with-requires : goal.compare_exchange_with-requires
compare_exchange_with-requires g c = let turns = c.args.self.now.turns in let seat = c.args.seat.now in (
  search rules,
  omega arith,
  commits g.P.Journals.journal g.P.Journals.belongs g.P.Journals.said g.P.Journals.seat g.P.Journals.stamp g.P.Journals.touches _ _ _ _ _ _ _ seat.live c.requires.said (c.requires.own.0 ∙ seat.number_is) (subst (IsAfter g.P.Journals.stamp seat.token.me.0) (sym c.requires.own.1) c.requires.later) c.requires.touched,
)
