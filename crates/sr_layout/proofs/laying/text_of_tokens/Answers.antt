-- The tokens are past a limit.
use Rattle.sr_layout.specs.LaidOut.{past_limits}
use Rattle.sr_layout.proofs.laying.text_of_tokens.Goals as goal

pub returns-in-Err-clause-refused : goal.returns-in-Err-clause-refused
returns-in-Err-clause-refused c = past_limits (record { small = c.requires.small; lexed = c.requires.lexed }) c.in-Err.ensures.refused
