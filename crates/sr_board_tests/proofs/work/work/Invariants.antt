use Rattle.sr_board.specs.Views.{IsIdle}
use Rattle.sr_board_tests.specs.Hands.{IsSame}
use Rattle.sr_board_tests.proofs.work.work.Given as goal

abbrev pub invariant-loop-index : goal.invariant-loop-index
invariant-loop-index l = IsSame l.fn.seat l.seat × IsIdle l.seat.token.me
