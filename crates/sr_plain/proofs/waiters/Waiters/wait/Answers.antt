use Rattle.std.proofs.Common.{refl, subst, sym}
use Rattle.std.specs.Prelude.{OnOk}
use Rattle.sr_plain.specs.Waiting.{WaitsThere}
use Rattle.sr_plain.specs.declared.waiters.Place.{Place}
use Rattle.sr_plain.specs.declared.waiters.Waiters.{Waiters}
use Rattle.sr_plain.proofs.BeginLemmas.{on_ok}
use Rattle.sr_plain.proofs.WaitLemmas.{variable-written, waits-inserted, waits-written}
use Rattle.sr_plain.proofs.waiters.Waiters.wait.Goals as goal

pub returns-in_ok-insert-in-Watched : goal.returns-in_ok-insert-in-Watched
returns-in_ok-insert-in-Watched c =
    let old : Waiters = c.args.self.now in
    let new : Waiters = record old { watched = c.insert.new.self } in
    subst (λ (place : Place). WaitsThere place c.args.process old new) (sym c.in-Watched.is) (waits-inserted c.args.process old new refl refl refl refl refl c.in_ok-insert-in-Watched.ensures.updates)

pub returns-in-Served : goal.returns-in-Served
returns-in-Served c =
    let old : Waiters = c.args.self.now in
    let new : Waiters = record old { classes = c.wait_under.new.table } in
    subst (λ (place : Place). OnOk c.wait_under.result (WaitsThere place c.args.process old new)) (sym c.in-Served.is)
    (on_ok c.wait_under.result (waits-written c.in-Served.class c.args.process old new refl refl refl refl refl) c.wait_under.ensures)

pub returns-in-Stored : goal.returns-in-Stored
returns-in-Stored c =
    let old : Waiters = c.args.self.now in
    let new : Waiters = record old { variables = c.wait_under-in-Stored.new.table } in
    subst (λ (place : Place). OnOk c.wait_under-in-Stored.result (WaitsThere place c.args.process old new)) (sym c.in-Stored.is)
    (on_ok c.wait_under-in-Stored.result (variable-written c.in-Stored.variable c.args.process old new refl refl refl refl refl) c.wait_under-in-Stored.ensures)
