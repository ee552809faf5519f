use Rattle.std.proofs.Common.{refl}
use Rattle.sr_plain.specs.declared.waiters.Waiters.{Waiters}
use Rattle.sr_plain.proofs.BeginLemmas.{on_ok}
use Rattle.sr_plain.proofs.CrowdLemmas.{opened-by}
use Rattle.sr_plain.proofs.WaitLemmas.{opened-nobody}
use Rattle.sr_plain.proofs.waiters.Waiters.open.Goals as goal

pub returns-then-is_empty : goal.returns-then-is_empty
returns-then-is_empty c = opened-nobody c.args.class c.args.self.now (c.is_empty.ensures.0 c.if-is_empty.true)

pub returns : goal.returns
returns c =
    let old : Waiters = c.args.self.now in
    let mid : Waiters = record old { idle = c.take_under-waiting.new.table } in
    on_ok c.open_waiting.result (λ have. opened-by c.args.class c.take_under-waiting.result old mid c.open_waiting.new.self c.take_under-waiting.ensures refl refl refl refl refl have) c.open_waiting.ensures
