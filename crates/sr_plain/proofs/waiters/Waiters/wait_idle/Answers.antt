use Rattle.std.proofs.Common.{refl}
use Rattle.sr_plain.specs.declared.waiters.Waiters.{Waiters}
use Rattle.sr_plain.proofs.BeginLemmas.{on_ok}
use Rattle.sr_plain.proofs.CrowdLemmas.{idle-there}
use Rattle.sr_plain.proofs.WaitLemmas.{idle-written}
use Rattle.sr_plain.proofs.waiters.Waiters.wait_idle.Goals as goal

pub returns : goal.returns
returns c =
    let shut : Waiters = c.shut.new.self in
    let new : Waiters = record shut { idle = c.wait_under.new.table } in
    on_ok c.wait_under.result
    (λ under. idle-there c.args.class c.args.process c.args.self.now shut new c.in_ok-shut.ensures (idle-written c.args.class c.args.process shut new refl refl refl refl refl under)) c.wait_under.ensures
