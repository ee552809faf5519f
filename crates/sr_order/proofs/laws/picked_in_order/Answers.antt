-- Spans that are picked from tokens in order are in order, and those in order are at different places.
use Rattle.sr_order.proofs.Ordered.{picked-ascend, ascend-distinct}
use Rattle.sr_order.proofs.laws.picked_in_order.Goals as goal

pub returns : goal.returns
returns c = record { ordered = picked-ascend; distinct = ascend-distinct }
