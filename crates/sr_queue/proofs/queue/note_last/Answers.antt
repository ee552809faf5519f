use Rattle.std.proofs.Common.{sym, subst, ◌∙◌}
use Rattle.sr_queue.specs.Indexed.{IsIndexed}
use Rattle.sr_queue.proofs.QueueLemmas.{unindexed}
use Rattle.sr_queue.proofs.queue.note_last.Goals as goal

pub returns-then-is_some : goal.returns-then-is_some
returns-then-is_some c = λ items p is same indexed. subst (λ ps. IsIndexed ps c.note.new.index) (sym is) (c.note.ensures items p same indexed)

pub returns-then-begins_index : goal.returns-then-begins_index
returns-then-begins_index c = λ items p is same indexed. c.index_of.ensures

pub returns-else-begins_index : goal.returns-else-begins_index
returns-else-begins_index c = λ items p is same indexed. unindexed c.args.pending.now.items c.args.index.now (sym c.is_some.ensures ∙ c.if-is_some.false)
