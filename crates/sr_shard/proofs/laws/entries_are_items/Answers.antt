use Rattle.sr_shard.proofs.ItemLemmas as item
use Rattle.sr_shard.proofs.laws.entries_are_items.Goals as goal

pub returns-clause-items : goal.returns-clause-items
returns-clause-items c = item.entries_are_items

pub returns-clause-numbers : goal.returns-clause-numbers
returns-clause-numbers c = item.acts_leave_numbers
