use Rattle.std.proofs.Common.{◌∙◌, [], ap, length}
use Rattle.std.proofs.lemmas.List.{length-replicate}
use Rattle.sr_races.proofs.MarkLemmas.{none-noted}
use Rattle.sr_races.proofs.search.push_all.Goals as goal

pub push_over-requires-clause-size : goal.push_over-requires-clause-size
push_over-requires-clause-size c = ap length c.in_ok-spots.ensures ∙ length-replicate (length c.args.entries.now) []

pub returns : goal.returns
returns c = λ r read. c.push_over.ensures r read (none-noted r c.args.clocks.now (length c.args.entries.now) c.in_ok-spots.spots c.in_ok-spots.ensures)
