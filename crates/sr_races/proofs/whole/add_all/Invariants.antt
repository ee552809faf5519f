-- The owners so far have columns, and there are no more than items.
use Rattle.std.proofs.Common.{◌≤◌, [], map, take}
use Rattle.sr_ask.specs.Items.{actor_of}
use Rattle.sr_clock_rows.specs.Columns.{AreColumns}
use Rattle.sr_races.proofs.whole.add_all.Given as goal

abbrev pub invariant-loop-item : goal.invariant-loop-item
invariant-loop-item l = record { columns : AreColumns [] l.fn.columns → AreColumns (map actor_of (take l.item-index l.items)) l.columns; narrow : l.columns.width ≤ l.item-index }
