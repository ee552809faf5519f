use Rattle.std.proofs.Common.{ap, sym, ◌∙◌}
use Rattle.sr_plain.specs.Waiting.{at_operation, waits}
use Rattle.sr_queue.specs.Classes.{class_of}
use Rattle.sr_plain.proofs.BeginLemmas.{on_ok}
use Rattle.sr_plain.proofs.ListedLemmas.{counts-there, still-same}
use Rattle.sr_plain.proofs.aside.wait_for_count.Goals as goal

pub returns-in-Some : goal.returns-in-Some
returns-in-Some c =
    on_ok c.wait.result
    (λ there. counts-there c.args.core.now c.args.me c.args.op c.in-Some.operation.now c.class_of.result c.args.waiters.now c.wait.new.self (sym c.in-Some.ensures.value) (c.class_of.ensures ∙ ap (λ o. class_of o c.args.op) c.owner_of-owner.ensures) there)
    c.wait.ensures

pub returns-in-None : goal.returns-in-None
returns-in-None c = record { still = still-same c.args.waiters.now; itself = ap (at_operation (λ k. waits c.args.waiters.now k c.args.me.process) c.args.me c.args.op) (sym c.in-None.ensures.value) }
