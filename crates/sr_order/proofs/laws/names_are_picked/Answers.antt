-- The spans of the names of a file are picked from its tokens.
use Rattle.sr_order.proofs.FileNames.{names-picked}
use Rattle.sr_order.proofs.laws.names_are_picked.Goals as goal

pub returns : goal.returns
returns c = names-picked
