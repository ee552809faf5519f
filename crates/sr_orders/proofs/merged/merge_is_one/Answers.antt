use Rattle.sr_orders.proofs.ListLemmas as list
use Rattle.sr_orders.proofs.merged.merge_is_one.Goals as goal

pub returns : goal.returns
returns g c = list.merge_is_one g.E.Entered.by g.E.Entered.stamp
