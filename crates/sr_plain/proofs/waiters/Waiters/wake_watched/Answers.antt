use Rattle.std.proofs.Common.{refl}
use Rattle.sr_plain.specs.declared.waiters.Waiters.{Waiters}
use Rattle.sr_plain.proofs.BeginLemmas.{on_ok}
use Rattle.sr_plain.proofs.WaitLemmas.{watched-nobody, woken-watched}
use Rattle.sr_plain.proofs.waiters.Waiters.wake_watched.Goals as goal

pub returns-then-is_empty : goal.returns-then-is_empty
returns-then-is_empty c = watched-nobody c.args.self.now (c.is_empty.ensures.0 c.if-is_empty.true)

pub returns : goal.returns
returns c =
    let old : Waiters = c.args.self.now in
    let new : Waiters = record old { ready = c.join.new.self; watched = c.join.new.processes } in
    on_ok c.join.result (λ joined. woken-watched old new joined refl refl refl refl) c.join.ensures
