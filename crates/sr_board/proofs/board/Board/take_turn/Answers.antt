use Rattle.std.proofs.Common.{rules, arith, sym, ◌∙◌}
use Rattle.sr_board.proofs.TakeLemmas.{same_seat, takes}
use Rattle.sr_board.proofs.board.Board.take_turn.Goals as goal

pub compare_exchange-found-requires : goal.compare_exchange-found-requires
compare_exchange-found-requires g c = let turns = c.args.self.now.turns in (
  search rules,
  omega arith,
  takes g.P.Journals.journal g.P.Journals.belongs g.P.Journals.seat g.P.Journals.stamp g.P.Journals.touches _ _ _ _ _ _ c.word_of-word.ensures c.requires.part (search rules) (search rules) c.requires.free,
)

pub invariant_of-seat : goal.invariant_of-seat
invariant_of-seat g c =
    let same = same_seat g.P.Journals.journal g.P.Journals.belongs c.args.part c.compare_exchange-found.result c.args.seat.now.token.me c.compare_exchange-found.new.seat.me (c.compare_exchange-found.ensures.2 _ c.word_of-word.ensures) in let seat = c.args.seat.now in record {
      live = same.live ∙ seat.live;
      number_is = seat.number_is ∙ sym same.number;
      next_is = seat.next_is ∙ sym same.next;
      clock_is = seat.clock_is ∙ sym same.clock;
    }

pub returns-then-found-eq0-clause-answer : goal.returns-then-found-eq0-clause-answer
returns-then-found-eq0-clause-answer g c = (c.compare_exchange-found.ensures.2 _ c.word_of-word.ensures).0 c.if-found-eq0.true

pub returns-else-found-eq0-clause-answer : goal.returns-else-found-eq0-clause-answer
returns-else-found-eq0-clause-answer g c = let busy = (c.compare_exchange-found.ensures.2 _ c.word_of-word.ensures).1 c.if-found-eq0.false in (omega arith, busy.0, busy.1, busy.2)

pub overflow_cast-result : goal.overflow_cast-result
overflow_cast-result g c = let most = ((c.compare_exchange-found.ensures.2 _ c.word_of-word.ensures).1 c.if-found-eq0.false).0 in omega arith
