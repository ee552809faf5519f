use Rattle.std.proofs.Common.{◌≡◌, vec_len}
use Rattle.std.specs.Vec.{vec_capacity}
use Rattle.sr_board.specs.Rule.{AreNew}
use Rattle.sr_board_tests.proofs.TeamLemmas.{ArePartsBelow}
use Rattle.sr_board_tests.proofs.teams.new_parts.Given as goal

abbrev pub invariant-loop-number : goal.invariant-loop-number
invariant-loop-number l = ArePartsBelow l.parts.items l.number × (vec_capacity l.parts ≡ vec_capacity l.initial.parts)
