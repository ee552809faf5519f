use Rattle.sr_board.specs.Views.{IsIdle}
use Rattle.sr_board_tests.specs.Hands.{IsSame}
use Rattle.sr_board_tests.proofs.work.act.Given as goal

abbrev pub invariant-loop : goal.invariant-loop
invariant-loop l = IsSame l.fn.seat l.seat × IsIdle l.seat.token.me
