use Rattle.std.proofs.Common.{[], None, refl}
use Rattle.sr_queue.proofs.LineLemmas.{changes-from}
use Rattle.sr_queue.proofs.index.drop_empty.Goals as goal

pub returns-then-len-gt-LINES_KEPT : goal.returns-then-len-gt-LINES_KEPT
returns-then-len-gt-LINES_KEPT c = changes-from c.args.lines.now.entries c.swap_remove.new.self.entries c.args.class None [] refl c.swap_remove.ensures.updates.0
