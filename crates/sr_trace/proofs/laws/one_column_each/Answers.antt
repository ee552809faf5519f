-- Row by row.
use Rattle.sr_trace.proofs.ColumnLemmas.{one-column}
use Rattle.sr_trace.proofs.laws.one_column_each.Goals as goal

pub returns : goal.returns
returns c = one-column c.args.process c.args.rows.now
