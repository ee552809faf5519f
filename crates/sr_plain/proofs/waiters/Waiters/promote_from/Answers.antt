use Rattle.std.proofs.Common.{refl}
use Rattle.sr_plain.specs.declared.waiters.Waiters.{Waiters}
use Rattle.sr_plain.proofs.BeginLemmas.{on_ok}
use Rattle.sr_plain.proofs.CrowdLemmas.{promoted}
use Rattle.sr_plain.proofs.waiters.Waiters.promote_from.Goals as goal

pub returns : goal.returns
returns c =
    let old : Waiters = c.args.self.now in
    let new : Waiters = record old { opened = c.take_from.new.crowds; ready = c.insert.new.self } in
    on_ok c.insert.result (λ put. promoted c.args.process old new c.take_from.ensures refl refl refl refl put) c.insert.ensures
