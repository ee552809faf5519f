use Rattle.std.proofs.Common.{◌∙◌}
use Rattle.sr_board_tests.proofs.TeamLemmas.{one_part_more}
use Rattle.sr_board_tests.proofs.teams.new_parts.Goals as goal

pub loop-number-preserved : goal.loop-number-preserved
loop-number-preserved c = let before = c.loop-number.invariant in let part = c.in_ok-new.ensures in
    (one_part_more _ _ _ c.in_ok-new.field-0 before.0 part.0 part.1 c.push_reserved.ensures.items, c.push_reserved.ensures.capacity ∙ before.1)
