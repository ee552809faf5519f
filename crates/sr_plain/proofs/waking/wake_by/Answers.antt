use Rattle.std.proofs.Common.{subst, sym}
use Rattle.std.specs.Prelude.{OnOk}
use Rattle.sr_plain.specs.Waking.{WakesByChange}
use Rattle.sr_plain.specs.declared.change.Change.{Change}
use Rattle.sr_plain.proofs.BeginLemmas.{on_ok}
use Rattle.sr_plain.proofs.WaitLemmas.{woken-by-all, woken-by-class, woken-by-gone, woken-by-variable, woken-by-watched, woken-nothing}
use Rattle.sr_plain.proofs.waking.wake_by.Goals as goal

pub returns-in-Nothing : goal.returns-in-Nothing
returns-in-Nothing c = subst (λ (change : Change). WakesByChange c.args.world.now change c.args.waiters.now c.args.waiters.now) (sym c.in-Nothing.is) (woken-nothing c.args.world.now c.args.waiters.now)

pub returns-in-Watched : goal.returns-in-Watched
returns-in-Watched c =
    subst (λ (change : Change). OnOk c.wake_watched.result (WakesByChange c.args.world.now change c.args.waiters.now c.wake_watched.new.self)) (sym c.in-Watched.is)
    (on_ok c.wake_watched.result (woken-by-watched c.args.world.now c.args.waiters.now c.wake_watched.new.self) c.wake_watched.ensures)

pub returns-in_ok-wake_served-in-Class : goal.returns-in_ok-wake_served-in-Class
returns-in_ok-wake_served-in-Class c =
    subst (λ (change : Change). OnOk c.open.result (WakesByChange c.args.world.now change c.args.waiters.now c.open.new.self)) (sym c.in-Class.is)
    (on_ok c.open.result
    (λ third. woken-by-class c.args.world.now c.in-Class.owner c.in-Class.op c.class_of-class.result c.args.waiters.now c.wake_watched-in-Class.new.self c.wake_served.new.self c.open.new.self c.class_of-class.ensures c.in_ok-wake_watched-in-Class.ensures c.in_ok-wake_served-in-Class.ensures third)
    c.open.ensures)

pub returns-in_ok-wake_watched-in-Gone : goal.returns-in_ok-wake_watched-in-Gone
returns-in_ok-wake_watched-in-Gone c =
    subst (λ (change : Change). OnOk c.wake_served-in-Gone.result (WakesByChange c.args.world.now change c.args.waiters.now c.wake_served-in-Gone.new.self)) (sym c.in-Gone.is)
    (on_ok c.wake_served-in-Gone.result
    (λ second. woken-by-gone c.args.world.now c.in-Gone.owner c.in-Gone.op c.class_of.result c.args.waiters.now c.wake_watched-in-Gone.new.self c.wake_served-in-Gone.new.self c.class_of.ensures c.in_ok-wake_watched-in-Gone.ensures second)
    c.wake_served-in-Gone.ensures)

pub returns-in_ok-wake_watched-in-Variable : goal.returns-in_ok-wake_watched-in-Variable
returns-in_ok-wake_watched-in-Variable c =
    subst (λ (change : Change). OnOk c.wake_stored.result (WakesByChange c.args.world.now change c.args.waiters.now c.wake_stored.new.self)) (sym c.in-Variable.is)
    (on_ok c.wake_stored.result
    (λ second. woken-by-variable c.args.world.now c.in-Variable.block c.in-Variable.var c.args.waiters.now c.wake_watched-in-Variable.new.self c.wake_stored.new.self c.in_ok-wake_watched-in-Variable.ensures second)
    c.wake_stored.ensures)

pub returns-in-Everything : goal.returns-in-Everything
returns-in-Everything c =
    subst (λ (change : Change). OnOk c.wake_all.result (WakesByChange c.args.world.now change c.args.waiters.now c.wake_all.new.waiters)) (sym c.in-Everything.is)
    (on_ok c.wake_all.result (woken-by-all c.args.world.now c.args.waiters.now c.wake_all.new.waiters) c.wake_all.ensures)
