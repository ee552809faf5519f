use Rattle.sr_plain.proofs.BeginLemmas.{on_ok}
use Rattle.sr_plain.proofs.WaitLemmas.{nobody-under, taken-under}
use Rattle.sr_plain.proofs.waiters.wake_under.Goals as goal

pub returns-then-is_empty : goal.returns-then-is_empty
returns-then-is_empty g c = nobody-under g.K.PartialEq.eq c.args.table.now c.args.key c.args.ready.now (c.is_empty.ensures.0 c.if-is_empty.true)

pub returns : goal.returns
returns g c =
    on_ok c.join_waiting.result (taken-under g.K.PartialEq.eq c.args.table.now c.args.key c.take_under-waiting.new.table c.take_under-waiting.result c.args.ready.now c.join_waiting.new.self c.take_under-waiting.ensures) c.join_waiting.ensures
