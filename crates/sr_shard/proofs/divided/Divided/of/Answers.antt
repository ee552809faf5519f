use Rattle.std.proofs.Common.{◌∙◌, ap, length}
use Rattle.sr_classes.specs.Classes.{class_of}
use Rattle.sr_shard.specs.Dividing.{moved_by}
use Rattle.sr_shard.proofs.SplitLemmas.{divided_parts, length-lines}
use Rattle.sr_shard.proofs.divided.Divided.of.Goals as goal

pub divide-requires : goal.divide-requires
divide-requires c = ap length c.in_ok-numbers.ensures ∙ length-lines (class_of c.args.classes.now.of) c.args.loan.queue.items

pub returns : goal.returns
returns c =
    divided_parts (class_of c.args.classes.now.of) (moved_by c.args.loan) (record { blocks = c.divide-2.result; calls = c.divide-3.result; queues = c.in_ok-queues.queues })
    c.in_ok-numbers.numbers c.divide-2.ensures.variables c.divide-3.ensures.held c.divide-3.ensures.replies c.in_ok-numbers.ensures c.in_ok-queues.ensures
