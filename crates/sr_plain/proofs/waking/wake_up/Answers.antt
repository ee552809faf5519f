use Rattle.sr_plain.proofs.BeginLemmas.{on_ok}
use Rattle.sr_plain.proofs.WaitLemmas.{woken-up}
use Rattle.sr_plain.proofs.waking.wake_up.Goals as goal

pub returns : goal.returns
returns c =
    on_ok c.wake_if_lives-2.result
    (λ third. woken-up c.args.world.now c.args.woken c.args.waiters.now c.wake_by.new.waiters c.wake_if_lives.new.waiters c.wake_if_lives-2.new.waiters c.in_ok-wake_by.ensures c.in_ok-wake_if_lives.ensures third)
    c.wake_if_lives-2.ensures
