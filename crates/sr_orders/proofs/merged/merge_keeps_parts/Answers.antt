use Rattle.sr_orders.proofs.ListLemmas.{parts_are_same}
use Rattle.sr_orders.proofs.merged.merge_keeps_parts.Goals as goal

pub returns : goal.returns
returns g c = parts_are_same g.E.Entered.by g.E.Entered.stamp g.E.Entered.touches
