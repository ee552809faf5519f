use Rattle.std.proofs.Common.{sym, subst}
use Rattle.sr_queue.specs.Indexed.{IsIndexed}
use Rattle.sr_queue.proofs.queue.end_empty.Goals as goal

pub returns-then-is_some : goal.returns-then-is_some
returns-then-is_some c = λ items indexed. subst (IsIndexed items) (sym c.take.ensures.after) tt
