use Rattle.std.proofs.Common.{rules}
use Rattle.sr_board.proofs.NewLemmas.{begins}
use Rattle.sr_board.proofs.board.Board.new.Goals as goal

pub new-requires : goal.new-requires
new-requires g c = begins g.P.Journals.journal g.P.Journals.belongs g.P.Journals.seat g.P.Journals.stamp g.P.Journals.touches _ _ (search rules) c.requires.new
