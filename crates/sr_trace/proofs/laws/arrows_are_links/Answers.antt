-- Row by row.
use Rattle.sr_trace.proofs.ArrowLemmas.{arrows-links}
use Rattle.sr_trace.proofs.laws.arrows_are_links.Goals as goal

pub returns : goal.returns
returns c = arrows-links c.args.from c.args.to c.args.rows.now
