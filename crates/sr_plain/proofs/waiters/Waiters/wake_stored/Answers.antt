use Rattle.std.proofs.Common.{refl}
use Rattle.sr_plain.specs.declared.waiters.Waiters.{Waiters}
use Rattle.sr_plain.proofs.BeginLemmas.{on_ok}
use Rattle.sr_plain.proofs.WaitLemmas.{woken-variable}
use Rattle.sr_plain.proofs.waiters.Waiters.wake_stored.Goals as goal

pub returns : goal.returns
returns c =
    let old : Waiters = c.args.self.now in
    let new : Waiters = record old { ready = c.wake_under.new.ready; variables = c.wake_under.new.table } in
    on_ok c.wake_under.result (λ under. woken-variable c.args.variable old new under refl refl refl refl) c.wake_under.ensures
