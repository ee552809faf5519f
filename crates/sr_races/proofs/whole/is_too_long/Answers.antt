use Rattle.std.proofs.Common.{List, subst}
use Rattle.sr_ask.specs.declared.item.Item.{Item}
use Rattle.sr_races.proofs.WholeLemmas.{long-where}
use Rattle.sr_races.specs.Races.{HasColumns}
use Rattle.sr_races.proofs.whole.is_too_long.Goals as goal

pub returns : goal.returns
returns c = long-where c.args.items.now c.in_ok-columns.columns c.is_none.result (subst (λ (xs : List Item). HasColumns xs c.in_ok-columns.columns) c.as_slice.ensures c.in_ok-columns.ensures) c.is_none.ensures
