use Rattle.std.proofs.Common.{refl}
use Rattle.sr_plain.specs.declared.waiters.Waiters.{Waiters}
use Rattle.sr_plain.specs.declared.waiters.Waiting.TheVariants.{Many}
use Rattle.sr_plain.proofs.BeginLemmas.{on_ok}
use Rattle.sr_plain.proofs.CrowdLemmas.{all-ready, pushed-many}
use Rattle.sr_plain.proofs.waiters.Waiters.open_many.Goals as goal

pub returns-then-len : goal.returns-then-len
returns-then-len c =
    let old : Waiters = c.args.self.now in
    let new : Waiters = record old { ready = c.join.new.self } in
    on_ok c.join.result (λ joined. all-ready c.args.class (Many c.args.processes) old new refl refl refl refl refl (λ q off. (joined.ready q off, joined.joined q off))) c.join.ensures

pub returns : goal.returns
returns c =
    let old : Waiters = c.args.self.now in
    let new : Waiters = record old { opened = c.push.new.self } in
    on_ok c.push.result (λ pushed. pushed-many c.args.class c.args.processes old new refl refl refl refl refl pushed) c.push.ensures.ok
