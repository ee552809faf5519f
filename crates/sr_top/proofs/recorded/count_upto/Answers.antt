-- The less of the two numbers.
use Rattle.std.proofs.Common.{◌∙◌, ap, min}
use Rattle.sr_top.proofs.Replayed.{min_is}
use Rattle.sr_top.proofs.recorded.count_upto.Goals as goal

pub returns-clause-count : goal.returns-clause-count
returns-clause-count c = min_is c.fewer.result c.args.upto c.len.result c.fewer.ensures.one c.fewer.ensures.other ∙ ap (min c.args.upto) c.len.ensures
