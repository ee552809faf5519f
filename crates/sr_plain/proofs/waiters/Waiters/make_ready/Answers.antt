use Rattle.std.proofs.Common.{refl}
use Rattle.sr_plain.specs.declared.waiters.Waiters.{Waiters}
use Rattle.sr_plain.proofs.BeginLemmas.{on_ok}
use Rattle.sr_plain.proofs.WaitLemmas.{made-ready}
use Rattle.sr_plain.proofs.waiters.Waiters.make_ready.Goals as goal

pub returns : goal.returns
returns c =
    let old : Waiters = c.args.self.now in
    let new : Waiters = record old { ready = c.insert.new.self } in
    on_ok c.insert.result (λ put. made-ready c.args.process old new put refl refl refl refl refl) c.insert.ensures
