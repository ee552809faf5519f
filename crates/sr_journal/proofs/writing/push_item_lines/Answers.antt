use Rattle.sr_journal.specs.Journal.{item_line}
use Rattle.sr_journal.proofs.Lines.{all-lines}
use Rattle.sr_journal.proofs.writing.push_item_lines.Goals as goal

pub returns : goal.returns
returns c = all-lines item_line c.args.items.now c.loop-item.item-index c.args.text.now c.loop-item.text c.loop-item-test.false c.loop-item.invariant
