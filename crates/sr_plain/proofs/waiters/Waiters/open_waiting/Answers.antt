use Rattle.std.proofs.Common.{refl, subst, sym}
use Rattle.std.specs.Prelude.{OnOk}
use Rattle.sr_plain.specs.Waiting.{HaveOpened}
use Rattle.sr_plain.specs.declared.waiters.Waiters.{Waiters}
use Rattle.sr_plain.specs.declared.waiters.Waiting.{Waiting}
use Rattle.sr_plain.specs.declared.waiters.Waiting.TheVariants.{Nobody, One}
use Rattle.sr_plain.proofs.BeginLemmas.{on_ok}
use Rattle.sr_plain.proofs.CrowdLemmas.{all-ready, one-in}
use Rattle.sr_plain.proofs.waiters.Waiters.open_waiting.Goals as goal

pub returns-in-Nobody : goal.returns-in-Nobody
returns-in-Nobody c =
    let old : Waiters = c.args.self.now in
    subst (λ (w : Waiting). HaveOpened c.args.class w old old) (sym c.in-Nobody.is) (all-ready c.args.class Nobody old old refl refl refl refl refl (λ q off. (off, refl)))

pub returns-in-One : goal.returns-in-One
returns-in-One c =
    let old : Waiters = c.args.self.now in
    let new : Waiters = record old { ready = c.insert.new.self } in
    subst (λ (w : Waiting). OnOk c.insert.result (HaveOpened c.args.class w old new)) (sym c.in-One.is)
    (on_ok c.insert.result (λ put. all-ready c.args.class (One c.in-One.process) old new refl refl refl refl refl (one-in c.in-One.process old.ready new.ready put)) c.insert.ensures)

pub returns-in-Many : goal.returns-in-Many
returns-in-Many c = subst (λ (w : Waiting). OnOk c.open_many.result (HaveOpened c.args.class w c.args.self.now c.open_many.new.self)) (sym c.in-Many.is) c.open_many.ensures
