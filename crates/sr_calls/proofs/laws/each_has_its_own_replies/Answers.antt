use Rattle.sr_calls.proofs.ProcessCallsLemmas.{items-with_items, items-with_items_other}
use Rattle.sr_calls.proofs.laws.each_has_its_own_replies.Goals as goal

pub returns-clause-itself : goal.returns-clause-itself
returns-clause-itself c = items-with_items

pub returns-clause-others : goal.returns-clause-others
returns-clause-others c = items-with_items_other
