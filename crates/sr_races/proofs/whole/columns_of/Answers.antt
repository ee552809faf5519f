use Rattle.std.proofs.Common.{arith}
use Rattle.sr_races.proofs.WholeLemmas.{few, many-actors, many-items}
use Rattle.sr_races.proofs.whole.columns_of.Goals as goal

pub returns-then-items-gt-MOST_ITEMS : goal.returns-then-items-gt-MOST_ITEMS
returns-then-items-gt-MOST_ITEMS c = many-items c.args.items.now (omega arith)

pub returns-then-columns-gt-MOST_ACTORS : goal.returns-then-columns-gt-MOST_ACTORS
returns-then-columns-gt-MOST_ACTORS c = many-actors c.args.items.now c.add_all.new.columns (c.in_ok-add_all.ensures c.new-columns.ensures.columns) (omega arith)

pub returns : goal.returns
returns c =
    let are = c.in_ok-add_all.ensures c.new-columns.ensures.columns in
    (few c.args.items.now c.add_all.new.columns are (omega arith) (omega arith), are)
