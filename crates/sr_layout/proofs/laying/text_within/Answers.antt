-- The tokens have a tree, or none.
use Rattle.sr_layout.proofs.Phases.{failed_as, laid_out_as, unparsed}
use Rattle.sr_layout.proofs.laying.text_within.Goals as goal

pub returns-in-Ok-clause-text : goal.returns-in-Ok-clause-text
returns-in-Ok-clause-text c =
    laid_out_as _ _ (record { small = c.requires.small; lexed = c.requires.lexed }) c.requires.within c.in-Ok.tree c.text_of.result c.in-Ok.ensures.tree c.text_of.ensures.text

pub returns-in-Ok-clause-refused : goal.returns-in-Ok-clause-refused
returns-in-Ok-clause-refused c = failed_as _ c.text_of.result c.text_of.ensures.failed

pub returns-in-Err-clause-refused : goal.returns-in-Err-clause-refused
returns-in-Err-clause-refused c = unparsed _ _ (record { small = c.requires.small; lexed = c.requires.lexed }) c.requires.within _ c.in-Err.ensures.none c.in-Err.ensures.dead
