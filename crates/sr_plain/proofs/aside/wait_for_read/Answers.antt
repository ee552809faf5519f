use Rattle.std.proofs.Common.{refl, subst, sym}
use Rattle.std.specs.Prelude.{OnOk}
use Rattle.sr_plain.specs.Noting.{WaitsForRead}
use Rattle.sr_plain.proofs.BeginLemmas.{on_ok}
use Rattle.sr_plain.proofs.ListedLemmas.{reads-there, still-same}
use Rattle.sr_plain.proofs.aside.wait_for_read.Goals as goal

pub returns-in-Ok : goal.returns-in-Ok
returns-in-Ok c =
    subst (λ block. OnOk c.wait.result (WaitsForRead c.args.me c.args.var block c.args.waiters.now c.wait.new.self)) (sym c.in-Ok.is)
    (on_ok c.wait.result (λ there. reads-there c.args.me c.args.var c.in-Ok.block c.args.waiters.now c.wait.new.self there) c.wait.ensures)

pub returns-in-Err : goal.returns-in-Err
returns-in-Err c = subst (λ block. WaitsForRead c.args.me c.args.var block c.args.waiters.now c.args.waiters.now) (sym c.in-Err.is) (record { still = still-same c.args.waiters.now; itself = refl })
