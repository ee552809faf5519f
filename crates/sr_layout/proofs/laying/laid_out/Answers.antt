-- The source is too large, or has no tokens.
use Rattle.std.proofs.Common.{arith}
use Rattle.sr_layout.proofs.Phases.{unlexed}
use Rattle.sr_layout.specs.LaidOut.{too_large}
use Rattle.sr_layout.proofs.laying.laid_out.Goals as goal

pub returns-then-source-gt-MOST_BYTES-clause-refused : goal.returns-then-source-gt-MOST_BYTES-clause-refused
returns-then-source-gt-MOST_BYTES-clause-refused c = too_large (omega arith) c.too_large.ensures

pub returns-in-Err-clause-refused : goal.returns-in-Err-clause-refused
returns-in-Err-clause-refused c = unlexed _ _ (omega arith) c.in-Err.ensures.refused
