use Rattle.sr_queue.specs.Classes.{same_class}
use Rattle.sr_plain.proofs.WaitLemmas.{none-under}
use Rattle.sr_plain.proofs.waiters.Waiters.open_all.Goals as goal

pub returns : goal.returns
returns c = none-under same_class c.new.result c.new.ensures.len
