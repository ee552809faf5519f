use Rattle.std.proofs.Common.{length}
use Rattle.sr_interpreter_parts.proofs.co.+set_turn.Given as goal

abbrev pub decreases-set_turn : goal.decreases-set_turn
decreases-set_turn l = length l.quantifiers.now
