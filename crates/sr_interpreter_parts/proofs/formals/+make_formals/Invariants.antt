use Rattle.std.proofs.Common.{length}
use Rattle.sr_interpreter_parts.proofs.formals.+make_formals.Given as goal

abbrev pub decreases-make_formals : goal.decreases-make_formals
decreases-make_formals g l = length l.formals.now
